pub mod Replaying
pub mod Rivals
pub mod Serving
