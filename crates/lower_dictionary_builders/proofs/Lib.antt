pub mod Keys
pub mod Keyed
pub mod Sets
pub mod Texts
pub mod Rules
