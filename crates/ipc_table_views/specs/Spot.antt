-- Tables and vectors at offsets of a message. (Flatbuffers, "Internals".)
use Rattle.std.specs.Prelude.{ℕ, List}

-- A table at an offset of a message.
pub record Spot : Type 0 where
  pub message : List ℕ
  pub place : ℕ

-- The elements of a vector: the offset of the first, and how many there are.
pub record Vector : Type 0 where
  pub message : List ℕ
  pub place : ℕ
  pub count : ℕ
