pub mod Leases
pub mod Looking
mod AsOne
pub mod Parts
