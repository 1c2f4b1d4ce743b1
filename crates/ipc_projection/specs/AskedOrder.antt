-- Columns that are read in ascending order and returned in the requested order.
use Rattle.std.specs.Prelude.{◌≡◌, ℕ, List, Option, None, Some, slice_get, length}
use Rattle.std.specs.List.Sorted.{IsPermutation}
use Rattle.std.specs.HashMap.{HashMap}
use Rattle.ipc_table_views.specs.Spot.{Spot}
use Rattle.ipc_model.specs.Entries.{Entries, Dictionaries, Limit}
use Rattle.ipc_model.specs.Batches.{Schema, Body, batch, record_meaning}
use Rattle.ipc_projection.specs.Projections.{IsIncreasing, IsReordering, AreReordered}

-- The indices of some columns: as they were requested, and in ascending order.
pub record Asked : Type 0 where
  pub columns : List ℕ
  pub rising : List ℕ

-- Both are the same columns, and a map leads from the index of each in ascending order to
-- its index in the requested order.
pub record KeepsPlaces {S : Type 0} (a : Asked) (places : HashMap ℕ ℕ S) : Type 0 where
  pub same : IsPermutation a.columns a.rising
  pub increasing : IsIncreasing a.rising
  pub reordering : IsReordering places (length a.columns)
  pub moved : AreReordered places a.rising a.columns

-- What was read of each column in ascending order is returned at the
-- column's index in the requested order.
pub record IsInAskedOrder {X : Type 0} (a : Asked) (read given : List X) : Type 0 where
  pub count : length given ≡ length read
  pub moved : (i p j : ℕ) → slice_get a.rising i ≡ Some j → slice_get a.columns p ≡ Some j → slice_get given p ≡ slice_get read i

-- What was read of each column is returned at its index in the
-- requested order, if anything was read.
abbrev pub AreInAskedOrder : {X : Type 0} → Asked → Option (List X) → Option (List X) → Type 0
AreInAskedOrder a None None = Unit {0}
AreInAskedOrder a (Some read) (Some given) = IsInAskedOrder a read given
AreInAskedOrder a _ _ = ⊥

-- Theorem: the columns of a batch in ascending order and those in the requested order differ in
-- their order alone; the batch has a meaning by both or by neither.
abbrev pub AskedBatchLaw : Type 0
AskedBatchLaw =
    (a : Asked) (s : Entries) (most : ℕ) (schema : Schema) (limit : Limit) → IsPermutation a.columns a.rising
    → AreInAskedOrder a (batch s most schema (Some a.rising) limit) (batch s most schema (Some a.columns) limit)

-- Theorem: the same of a record batch.
abbrev pub AskedRecordLaw : Type 0
AskedRecordLaw =
    (a : Asked) (schema : Schema) (extra : ℕ) (known : Dictionaries) (body : Body) (t : Spot) (limit : Limit) → IsPermutation a.columns a.rising
    → AreInAskedOrder a (record_meaning schema extra known body t (Some a.rising) limit) (record_meaning schema extra known body t (Some a.columns) limit)
