pub mod Compared
pub mod Firsts
