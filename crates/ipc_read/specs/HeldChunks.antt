-- How many bytes the arrays of a batch retain at most, by the encoded lengths of its buffers,
-- without the values of dictionaries.
-- (Arrow columnar format, "Buffer Listing for Each Layout".)
use Rattle.std.specs.Prelude.{◌≡◌, ℕ, ℤ, pos, ◌+◌, ◌≤◌, false, List, [], ◌∷◌, slice_index_or, Option, None, Some}
use Rattle.std.specs.List.{sum_by}
use Rattle.std.specs.Ordering.{int_eq}
use Rattle.lower_types.specs.declared.Endianness.{Endianness}
use Rattle.lower_arrays.specs.AnyLayouts.{layout_of}
use Rattle.lower_arrays.specs.Held.{held}
use Rattle.lower_arrays.specs.Layouts.{Layout}
use Rattle.lower_arrays.specs.declared.array.AnyArray.{AnyArray}
use Rattle.ipc_table_views.specs.Spot.{Spot}
use Rattle.ipc_table_views.specs.declared.schema.Buffer.{Buffer}
use Rattle.ipc_model.specs.Batches.{Schema, kinds, Lists, lists_of, kind_at, buffers_before, Place, places, place_of, values_schema}
use Rattle.ipc_model.specs.Entries.{Entries, size, listed}
use Rattle.ipc_model.specs.Kinds.{Kinds}
use Rattle.ipc_read_flat.specs.HeldListed.{empty_offsets}
use Rattle.ipc_read.specs.Columns.{columns_listed}
use Rattle.ipc_read.specs.DictionaryBatches.{dictionary_head, values_listed}
use Rattle.ipc_read.specs.Sizes.{chosen_listed}

-- ---- the columns of a batch

-- The bytes of the single offsets that stand for empty buffers of offsets, in these columns; buffer
-- c has the encoded length `lists c`.
abbrev pub columns_empty : (ℕ → ℕ) → ℕ → Kinds → List ℕ → ℕ
columns_empty lists extra ts [] = 0
columns_empty lists extra ts (j ∷ js) = empty_offsets lists extra (kind_at ts j) (buffers_before extra ts j) + columns_empty lists extra ts js

-- How many bytes the arrays of these columns retain at most: the encoded length of their
-- buffers, and the single offsets.
abbrev pub columns_most : Entries → ℕ → Kinds → List ℕ → ℕ
columns_most s extra ts js = columns_listed s extra ts js + columns_empty (λ c. listed s c) extra ts js

-- The encoded length of a buffer; 0 if there is none.
abbrev pub length_listed : List Buffer → ℕ → ℕ
length_listed bs c = size (slice_index_or bs c (record { offset = pos 0; length = pos 0 })).length

-- The single offsets of a batch's columns, if it has a list of buffers.
abbrev pub chosen_empty : Option Lists → ℕ → Kinds → List ℕ → ℕ
chosen_empty None extra ts js = 0
chosen_empty (Some lists) extra ts js = columns_empty (λ c. length_listed lists.buffers c) extra ts js

-- How many bytes some arrays retain together.
abbrev pub arrays_held : List AnyArray → ℕ
arrays_held xs = sum_by (λ x. held (layout_of x)) xs

-- The arrays of some columns retain at most the encoded length of their own buffers, and at most
-- `most`, plus one offset for each empty buffer of offsets.
pub record HoldChosen (most : ℕ) (lists : Option Lists) (extra : ℕ) (ts : Kinds) (js : List ℕ) (xs : List AnyArray) : Type 0 where
  pub own_buffers : arrays_held xs ≤ chosen_listed lists extra ts js + chosen_empty lists extra ts js
  pub all_buffers : arrays_held xs ≤ most + chosen_empty lists extra ts js

-- ---- the values of a dictionary

-- The single offsets of a dictionary field's values.

abbrev pub place_empty : ℕ → Endianness → Spot → Option Place → ℕ
place_empty extra order values None = 0
place_empty extra order values (Some p) = chosen_empty (lists_of values) extra (kinds (values_schema p order)) (0 ∷ [])

-- The single offsets of the values of a dictionary batch with this head.
abbrev pub head_empty : Schema → ℕ → Option (ℤ × Spot) → ℕ
head_empty schema extra None = 0
head_empty schema extra (Some h) = place_empty extra schema.order h.1 (place_of (places schema.fields schema.ids) h.0)

-- The single offsets of a dictionary batch's values.
abbrev pub values_empty : Schema → ℕ → Spot → ℕ
values_empty schema extra t = head_empty schema extra (dictionary_head t)

-- A dictionary batch has set the array under its id. It retains at most the encoded length of
-- the values' buffers, and of all buffers, plus one offset for each empty buffer of offsets.
-- The arrays under other ids stay.
pub record HoldsValues (most : ℕ) (schema : Schema) (extra : ℕ) (t : Spot) (before after : Option ℤ → Layout) : Type 0 where
  pub id : ℤ
  pub values : Spot
  pub head : dictionary_head t ≡ Some (id, values)
  pub own_buffers : held (after (Some id)) ≤ values_listed schema extra t + values_empty schema extra t
  pub all_buffers : held (after (Some id)) ≤ most + values_empty schema extra t
  pub others : (other : ℤ) → int_eq id other ≡ false → after (Some other) ≡ before (Some other)
