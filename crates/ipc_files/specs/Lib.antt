pub mod Batches
pub mod Blocks
pub mod Dictionaries
pub mod Files
pub mod Footers
pub mod Api
