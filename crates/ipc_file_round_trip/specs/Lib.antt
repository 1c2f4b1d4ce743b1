pub mod Api
pub mod Laws
pub mod Reading
pub mod RoundTrip
pub mod Steps
