pub mod Versions
pub mod Maps
pub mod RowsIn
pub mod OwnRows
