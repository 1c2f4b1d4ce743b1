pub mod Runs
pub mod Selections
pub mod Kinds
pub mod Errors
pub mod Copies
pub mod Compute
pub mod Keyed
pub mod Variants
