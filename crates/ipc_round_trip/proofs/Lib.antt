pub mod Streams
pub mod Pushes
pub mod Chosen
pub mod WrittenArrays
