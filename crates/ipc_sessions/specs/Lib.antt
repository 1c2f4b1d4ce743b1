pub mod Api
pub mod Sessions
pub mod Steps
