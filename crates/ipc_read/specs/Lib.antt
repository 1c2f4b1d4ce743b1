pub mod Sizes
pub mod Columns
pub mod Chunks
pub mod DictionaryBatches
pub mod Refusals
pub mod HeldChunks
pub mod Headers
pub mod Api
