pub mod Clones
pub mod FitTests
pub mod IdLists
pub mod CutRows
