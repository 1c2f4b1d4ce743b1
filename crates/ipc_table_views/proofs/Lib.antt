pub mod StructsOf
