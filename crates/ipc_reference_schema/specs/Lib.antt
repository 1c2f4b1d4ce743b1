pub mod PlainTypes
pub mod OtherTypes
pub mod Sights
pub mod Shapes
pub mod Heads
pub mod PlainSchemas
