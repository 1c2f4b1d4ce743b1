pub mod Footers
