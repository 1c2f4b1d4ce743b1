pub mod StreamLists
pub mod FileLists
pub mod WholeLists
pub mod CallRows
