pub mod Reading
pub mod Views
pub mod Pairs
pub mod Api
