pub mod Answered
pub mod Handing
pub mod Times
