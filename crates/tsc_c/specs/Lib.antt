pub mod Owning
pub mod Lending
pub mod Texts
