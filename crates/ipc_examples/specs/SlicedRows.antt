-- A dense union that is written as a slice, and what it means: the type ids and offsets of the
-- slice alone, and the children whole.
-- (Arrow columnar format, "Dense Union".)
use Rattle.std.specs.Prelude.{◌≡◌, ℕ, true, [], ◌∷◌, ◌++◌, Some, None}
use Rattle.lower_arrays.specs.Slots.{truth_slot}
use Rattle.lower_types.specs.declared.Endianness.TheVariants.{Little}
use Rattle.ipc_model.specs.Samples.{node_is, buffer_is, entries}
use Rattle.ipc_examples.specs.ColumnRows.{read, padded, word, number, variant, dense}
use Rattle.ipc_model.specs.Entries.{Entries}

-- The type ids 1, 0 and the offsets 0 and one more, with the numbers 10, 20 and a bit.
abbrev pub sliced_entries : ℕ → ℕ → Entries
sliced_entries numbers offset =
    entries Little 0 (node_is 2 0 ∷ node_is numbers 0 ∷ node_is 1 0 ∷ [])
    (buffer_is 0 2 ∷ buffer_is 64 8 ∷ buffer_is 128 0 ∷ buffer_is 128 8 ∷ buffer_is 192 0 ∷ buffer_is 192 1 ∷ [])
    (padded (1 ∷ 0 ∷ []) ++ padded (word 0 ++ word offset) ++ padded (word 10 ++ word 20) ++ padded (1 ∷ []))

-- The offsets of the slice stay as they were and index the whole children: with fewer numbers, or
-- with an offset past them, it has no meaning. A limit cuts the slice and not the children.
pub record SlicedRows : Type 0 where
  pub two_variants : read dense None (sliced_entries 2 1) ≡ Some (variant 1 (truth_slot true) ∷ variant 0 (number 20) ∷ [])
  pub first_alone : read dense (Some 1) (sliced_entries 2 1) ≡ Some (variant 1 (truth_slot true) ∷ [])
  pub few_numbers : read dense None (sliced_entries 1 1) ≡ None
  pub past_the_numbers : read dense None (sliced_entries 2 2) ≡ None
