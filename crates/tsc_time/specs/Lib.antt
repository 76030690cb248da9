pub mod Limits
pub mod Time
pub mod ValueView
pub mod Joint
pub mod Laws
