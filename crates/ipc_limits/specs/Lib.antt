pub mod Metadata
pub mod Files
