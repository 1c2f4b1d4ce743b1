-- A projection as readers use it, in ascending order, and how what is read
-- comes into the requested order.
use Rattle.std.specs.Prelude.{◌≡◌, ℕ, List, Some, slice_get, length}
use Rattle.std.specs.List.{filter_map}
use Rattle.std.specs.List.Sorted.{IsPermutation}
use Rattle.std.specs.HashMap.{HashMap}
use Rattle.ipc_model.specs.Kinds.{count}
use Rattle.ipc_model.specs.Entries.{Entries, Limit}
use Rattle.ipc_model.specs.Batches.{Schema, kinds, Chunk, batch}
use Rattle.ipc_projection.specs.Projections.{IsPrepared, IsReordering, AreReordered}

-- The elements with these indices, in the order of the indices.
abbrev pub selected : {X : Type 0} → List X → List ℕ → List X
selected xs js = filter_map (λ j. slice_get xs j) js

-- A projection to some of n columns, prepared: the same columns in ascending order, and a map from
-- the index of each there to its index in the requested order.
pub record Prepares {S : Type 0} (asked : List ℕ) (n : ℕ) (sorted : List ℕ) (places : HashMap ℕ ℕ S) : Type 0 where
  pub same : IsPermutation asked sorted
  pub rising : IsPrepared sorted n
  pub reordering : IsReordering places (length asked)
  pub moved : AreReordered places sorted asked

-- Theorem: if a batch has a meaning by the columns in ascending order, reordering it gives what the
-- batch means by the requested projection.
abbrev pub ReorderLaw : {S : Type 0} → HashMap ℕ ℕ S → Type 0
ReorderLaw places =
    (asked sorted : List ℕ) (s : Entries) (most : ℕ) (schema : Schema) (limit : Limit) (read given : Chunk)
    → Prepares asked (count (kinds schema)) sorted places → batch s most schema (Some sorted) limit ≡ Some read → AreReordered places read given
    → batch s most schema (Some asked) limit ≡ Some given
