pub mod AskedOrder
pub mod ChosenColumns
pub mod Marks
pub mod Placing
pub mod Preparing
pub mod Projected
pub mod Projections
pub mod Steps
