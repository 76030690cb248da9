pub mod FullChunks
