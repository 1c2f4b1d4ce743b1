pub mod Pushes
pub mod Validity
pub mod Growing
pub mod Bytes
pub mod FixedBytes
