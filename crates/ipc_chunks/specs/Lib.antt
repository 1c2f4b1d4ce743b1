pub mod Chunks
pub mod Laws
pub mod Lengths
pub mod Messages
