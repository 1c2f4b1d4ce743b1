pub mod Encodes
pub mod Holds
pub mod Pads
pub mod Parts
pub mod Readers
pub mod Sizes
pub mod Strict
pub mod Tree
