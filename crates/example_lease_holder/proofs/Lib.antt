pub mod Seats
pub mod Since
pub mod Carried
pub mod Crossing
pub mod Plans
pub mod Turns
pub mod TextExamples
