pub mod Histories
pub mod Crossing
mod Refusing
mod Running
mod Totals
mod Moves
mod Holding
mod Seeing
mod Openings
mod Dealing
mod Making
mod Gathering
mod Endings
mod Lawful
mod Scanning
mod Meeting
