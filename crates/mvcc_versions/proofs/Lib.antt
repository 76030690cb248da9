pub mod Lists
pub mod Times
pub mod RowsAsOf
pub mod OwnRows
pub mod Linking
pub mod Dropping
pub mod Crossing
