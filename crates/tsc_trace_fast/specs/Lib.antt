pub mod TokenReads
pub mod Kept
