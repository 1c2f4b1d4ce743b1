pub mod Chunks
pub mod Fitting
pub mod IdTrees
