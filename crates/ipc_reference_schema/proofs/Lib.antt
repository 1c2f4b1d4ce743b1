pub mod FieldLists
pub mod FieldSteps
pub mod Leaves
