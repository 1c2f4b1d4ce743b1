pub mod Appending
pub mod AppendRows
pub mod Ends
pub mod FileSteps
pub mod NormalFiles
pub mod NormalWritable
pub mod StreamSteps
