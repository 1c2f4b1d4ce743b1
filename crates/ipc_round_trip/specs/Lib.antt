pub mod Api
pub mod Reading
pub mod RoundTrip
pub mod Choosing
pub mod WrittenArrays
