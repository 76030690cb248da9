pub mod Stripes
pub mod Rule
pub mod Steps
pub mod Participating
pub mod Opening
pub mod Closing
