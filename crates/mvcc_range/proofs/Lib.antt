pub mod Placing
pub mod Storing
pub mod Keeping
pub mod Collecting
pub mod Times
pub mod Checks
pub mod HandingOn
mod Examples
pub mod Crossing
