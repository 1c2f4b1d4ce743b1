pub mod MetadataRuns
pub mod FileMetadataRuns
