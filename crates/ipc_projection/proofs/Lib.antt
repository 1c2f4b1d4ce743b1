pub mod AskedOrder
pub mod Items
pub mod Moves
pub mod Prepared
pub mod Preparing
pub mod Reorderings
pub mod Reordered
pub mod Steps
