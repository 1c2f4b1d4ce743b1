pub mod NumberPieces
mod PartWrites
