pub mod Agreeing
pub mod Blocks
pub mod Files
pub mod Pushes
pub mod ReadBack
pub mod Readings
pub mod Reasons
pub mod Trips
