pub mod Limits
pub mod Stream
pub mod LimitedParts
pub mod StreamLaws
