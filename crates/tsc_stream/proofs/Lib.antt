pub mod ReadSoFar
pub mod WrittenSoFar
pub mod Reliable
