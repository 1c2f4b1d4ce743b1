pub mod Creation
pub mod EndedFiles
pub mod Ends
pub mod Going
pub mod Taken
pub mod Writes
