pub mod Steps
pub mod Firsts
