pub mod Refusals
pub mod KeysAbove
pub mod PageAdds
