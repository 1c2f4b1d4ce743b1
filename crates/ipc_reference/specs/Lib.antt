pub mod PlainKinds
pub mod PlainEntries
pub mod Rooms
pub mod PlainSlots
pub mod PlainColumns
pub mod PlainBatches
pub mod PlainRecords
