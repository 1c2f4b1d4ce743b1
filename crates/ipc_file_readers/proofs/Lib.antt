pub mod AskedFaults
pub mod Blocks
pub mod Chunks
pub mod Nexts
pub mod Rows
pub mod Runs
