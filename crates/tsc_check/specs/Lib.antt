pub mod Bytes
pub mod Verdict
pub mod TrueLog
pub mod CheckParts
pub mod Checking
pub mod TextLimit
