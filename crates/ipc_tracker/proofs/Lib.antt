pub mod PlaceLists
pub mod KeyedLists
pub mod Remembering
pub mod Wholes
pub mod Columns
pub mod OwnKeyed
pub mod Refusals
