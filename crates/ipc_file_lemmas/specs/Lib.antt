pub mod Appending
pub mod AppendRows
pub mod FileBytes
