pub mod Claims
pub mod Replays
