pub mod Commands
pub mod FileSystem
pub mod Program
pub mod Replay
pub mod Words
pub mod Run
pub mod Check
