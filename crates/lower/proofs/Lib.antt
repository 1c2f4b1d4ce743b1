pub mod BitLists
mod BitPlaces
mod Cuts
pub mod Laws
pub mod OffsetPlaces
pub mod Same
pub mod Decided
pub mod Maps
pub mod Others
pub mod SameNormal
mod FieldBits
mod KeptTypes
mod ColumnSteps
mod JoinedTexts
mod MapTexts
mod Halves
