pub mod Numbers
pub mod NumberLaws
pub mod NumberTypes
pub mod PartNumbers
pub mod PartLaws
