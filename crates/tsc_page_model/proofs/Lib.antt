pub mod DistinctKeys
pub mod Ends
pub mod Weights
pub mod Lookups
pub mod Tops
pub mod Standing
pub mod PageAdds
pub mod PlainMarks
