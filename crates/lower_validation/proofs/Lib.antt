pub mod Parts
pub mod ChildSteps
pub mod TypeIds
pub mod ChildNumbers
pub mod OneField
