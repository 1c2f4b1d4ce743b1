pub mod Costs
pub mod Sizes
