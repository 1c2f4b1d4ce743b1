pub mod Counted
pub mod FieldLists
pub mod FieldSteps
pub mod Found
pub mod ReadFits
pub mod Steps
pub mod TypeShapes
