pub mod ListHeads
pub mod StructLevels
pub mod UnionLevels
pub mod FixedLevels
pub mod ReadColumns
pub mod HeldListedRows
