pub mod Plans
pub mod Ranges
pub mod ReadSeatLaws
pub mod ReadSeats
pub mod Reads
pub mod Texts
pub mod Turns
pub mod Versions
