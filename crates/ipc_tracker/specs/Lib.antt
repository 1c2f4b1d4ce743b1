pub mod Trackers
pub mod Places
pub mod Listings
pub mod Laws
