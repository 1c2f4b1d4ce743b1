pub mod Steps
pub mod PairWeights
pub mod TypeSizes
pub mod Bounds
pub mod FooterBounds
