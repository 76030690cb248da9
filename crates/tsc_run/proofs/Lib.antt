pub mod Running
pub mod Crossing
pub mod Truth
pub mod Seating
pub mod Unstarted
