pub mod Views
pub mod PartLists
pub mod SlotViews
pub mod Places
pub mod Windows
pub mod Records
