-- The offsets and the validity of a column of lists.
-- (Arrow columnar format, "Variable-size List Layout".)
use Rattle.std.specs.Prelude.{◌≡◌, ℕ, ◌+◌, List}
use Rattle.lower.specs.Offsets.{IsOffsets}
use Rattle.lower_flat_arrays.specs.Validities.{Validity, ValidityFits}
use Rattle.lower_flat_arrays.specs.Spans.{span_count}
use Rattle.lower_validation.specs.ListTypes.{last_offset as last_place}
use Rattle.ipc_model.specs.Kinds.{OffsetWidth, offset_width}
use Rattle.ipc_model.specs.Entries.{Entries}
use Rattle.ipc_model.specs.Columns.{last_offset}
use Rattle.ipc_model.specs.ReadArrays.{validity_of, offsets_of}

-- Offsets, the last of them, and a validity of as many slots.
pub record AreLists (os : List ℕ) (v : Validity) (last : ℕ) : Type 0 where
  pub offsets : IsOffsets os
  pub ends : last ≡ last_place os
  pub fits : ValidityFits v (span_count os)

-- The offsets and the validity are those of the k slots of the column at node a and buffer b.
pub record AreListsAt (s : Entries) (form : OffsetWidth) (a b k : ℕ) (os : List ℕ) (v : Validity) (last : ℕ) : Type 0 where
  pub places : os ≡ offsets_of s (b + 1) (offset_width form) k
  pub mask : v ≡ validity_of s a b k
  pub ends : last ≡ last_offset s (b + 1) (offset_width form) k
  pub count : span_count os ≡ k
