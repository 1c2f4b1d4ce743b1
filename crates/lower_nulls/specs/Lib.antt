pub mod Nulls
pub mod Storage
