pub mod Faults
pub mod Serial
pub mod Steps
pub mod Calls
pub mod Laws
