pub mod Api
pub mod Appending
pub mod EncodedLaws
pub mod Encoding
pub mod Records
pub mod ShortMetadata
