-- What a chunk of arrays brings to a writer: its columns, the values at its dictionary fields, and
-- the lengths of the nodes and buffers of each message.
-- (Arrow columnar format, "Buffer Listing for Each Layout", "RecordBatch
-- message" and "Dictionary messages".)
use Rattle.std.specs.Prelude.{◌≡◌, ℕ, ◌+◌, ◌-◌, ◌*◌, ℤ, Bool, true, false, List, [], ◌∷◌, ◌++◌, length, map, slice_index, if◌then◌else◌, Option, Some, None}
use Rattle.std.specs.List.{flat_map}
use Rattle.lower.specs.Counts.{nodes, buffers}
use Rattle.lower.specs.TypeTrees.{FieldTrees}
use Rattle.lower_types.specs.NumberTypes.{width_of}
use Rattle.lower_types.specs.declared.PrimitiveType.{PrimitiveType}
use Rattle.lower_types.specs.declared.PrimitiveType.TheVariants.{Int32}
use Rattle.lower_arrays.specs.Cuts.{cut_level}
use Rattle.lower_arrays.specs.Layouts.{Validity, Parts, nothing, truths, numbers, fixed_bytes, bytes, texts, lists, fixed_lists, maps, records, choices, keys, Level, Layout, layout, Layouts, no_layouts, more_layouts, layouts, len_of, type_of}
use Rattle.lower_arrays.specs.Slots.{slots, IsArray}
use Rattle.ipc_base.specs.IdTrees.{IdTree, ids, IdTrees}
use Rattle.ipc_model.specs.Accepted.{Offer, IsAccepted}
use Rattle.ipc_model.specs.Entries.{bytes_for}
use Rattle.ipc_model.specs.TypeKinds.{key_form, first_ids, other_ids}

-- ---- which levels of an array are written

-- The slots of a child that n lists from index o on have: the index of the first, and how many.
abbrev pub between : List ℕ → ℕ → ℕ → ℕ × ℕ
between os o n = (slice_index os o, slice_index os (o + n) - slice_index os o)

-- The slots of a child of k slots that are written with n slots of the parent from index o on. Of
-- a list's and a map's child they are the slots that the offsets cut out, and offsets then count
-- from the first of them. Of the children of a fixed-size list, a struct and a sparse union they
-- are the corresponding slots. A dense union's children are written whole. A dictionary's values
-- are in a message of their own.
abbrev pub slots_along : Parts → ℕ → ℕ → ℕ → Option (ℕ × ℕ)
slots_along (lists _ p os) o n k = Some (between os o n)
slots_along (maps os) o n k = Some (between os o n)
slots_along (fixed_lists size) o n k = Some (o * size, n * size)
slots_along records o n k = Some (o, n)
slots_along (choices type_ids ts None) o n k = Some (o, n)
slots_along (choices type_ids ts (Some os)) o n k = Some (0, k)
slots_along _ o n k = None

-- The levels of a child for a range of its slots; none without a range.
abbrev pub levels_along : Option (ℕ × ℕ) → (ℕ → ℕ → List Level) → List Level
levels_along None child = []
levels_along (Some range) child = child range.0 range.1

abbrev mutual
  -- The levels that are written of n slots of an array from index o on: its
  -- own, and those of its children.
  pub written_levels : Layout → ℕ → ℕ → List Level
  written_levels (layout h cs) o n = cut_level o n h ∷ levels_below cs h.parts o n

  -- The levels that are written of the children of n slots from index o on.
  pub levels_below : Layouts → Parts → ℕ → ℕ → List Level
  levels_below no_layouts p o n = []
  levels_below (more_layouts c cs) p o n =
      levels_along (slots_along p o n (len_of c)) (λ from k. written_levels c from k) ++ levels_below cs p o n

-- The levels that are written of a whole array.
abbrev pub whole_levels : Layout → List Level
whole_levels l = written_levels l 0 (len_of l)

-- ---- how long their buffers are

-- The bytes of a validity of n slots: a bit for each slot, or none without a validity.
abbrev pub validity_length : Validity → ℕ → ℕ
validity_length None n = 0
validity_length (Some bits) n = bytes_for n

-- The bytes of the n + 1 offsets of n slots.
abbrev pub offsets_length : PrimitiveType → ℕ → ℕ
offsets_length p n = width_of p * (n + 1)

-- The bytes from the first offset up to the last.
abbrev pub cut_length : List ℕ → ℕ → ℕ
cut_length os n = slice_index os n - slice_index os 0

-- The lengths of the buffers of n slots, in the order in which a batch has them. A
-- validity has a bit for each slot, or no byte if there is none; a union has no validity.
-- There is one offset more than slots.
abbrev pub buffer_lengths : Parts → Validity → ℕ → List ℕ
buffer_lengths nothing v n = []
buffer_lengths (truths xs) v n = validity_length v n ∷ bytes_for n ∷ []
buffer_lengths (numbers p xs) v n = validity_length v n ∷ (width_of p * n) ∷ []
buffer_lengths (fixed_bytes size xs) v n = validity_length v n ∷ (size * n) ∷ []
buffer_lengths (bytes p os xs) v n = validity_length v n ∷ offsets_length p n ∷ cut_length os n ∷ []
buffer_lengths (texts p os xs) v n = validity_length v n ∷ offsets_length p n ∷ cut_length os n ∷ []
buffer_lengths (lists _ p os) v n = validity_length v n ∷ offsets_length p n ∷ []
buffer_lengths (fixed_lists size) v n = validity_length v n ∷ []
buffer_lengths (maps os) v n = validity_length v n ∷ offsets_length Int32 n ∷ []
buffer_lengths records v n = validity_length v n ∷ []
buffer_lengths (choices type_ids ts None) v n = n ∷ []
buffer_lengths (choices type_ids ts (Some os)) v n = n ∷ (4 * n) ∷ []
buffer_lengths (keys k ks) v n = validity_length v n ∷ (width_of (key_form k) * n) ∷ []

-- The lengths of all buffers of some levels.
abbrev pub body_lengths : List Level → List ℕ
body_lengths hs = flat_map (λ h. buffer_lengths h.parts h.validity h.len) hs

-- ---- the values at the dictionary fields

-- A dictionary field's id, and the array of values that a chunk has there.
pub record FilledPlace : Type 0 where
  pub id : ℤ
  pub values : Layout

-- The parts of an array are keys of a dictionary.
abbrev pub is_keyed : Parts → Bool
is_keyed (keys k ks) = true
is_keyed _ = false

-- The values of an array's own keys, if its field has an id.
abbrev pub own_values : Layout → Option ℤ → List FilledPlace
own_values (layout h (more_layouts c cs)) (Some id) = if is_keyed h.parts then record { id = id; values = c } ∷ [] else []
own_values _ _ = []

-- The dictionary id of a field itself.
abbrev pub own_id : IdTree → Option ℤ
own_id (ids id is) = id

-- The dictionary ids of a field's children.
abbrev pub inner_ids : IdTree → IdTrees
inner_ids (ids id is) = is

abbrev mutual
  -- The values at the dictionary fields below an array; values that are
  -- inside others come before them.
  pub values_below : Layout → IdTrees → List FilledPlace
  values_below (layout h cs) is = if is_keyed h.parts then values_inside cs is else values_of cs is

  -- The values at the dictionary fields inside a dictionary's values.
  pub values_inside : Layouts → IdTrees → List FilledPlace
  values_inside no_layouts is = []
  values_inside (more_layouts c cs) is = values_below c is

  -- The values at the dictionary fields of some arrays, in the order in
  -- which their messages are written.
  pub values_of : Layouts → IdTrees → List FilledPlace
  values_of no_layouts is = []
  values_of (more_layouts c cs) is =
      values_below c (inner_ids (first_ids is)) ++ own_values c (own_id (first_ids is)) ++ values_of cs (other_ids is)

-- ---- the offer

-- The levels of each message: one message for each dictionary, and a last one for all columns.
abbrev pub messages : List Layout → List FilledPlace → List (List Level)
messages columns ps = map (λ p. whole_levels p.values) ps ++ flat_map whole_levels columns ∷ []

-- What some columns with their ids bring to a writer.
abbrev pub offer_of : List Layout → IdTrees → Offer
offer_of columns is = record {
  columns = map (λ l. record { type = type_of l; slots = slots l }) columns;
  dictionaries = map (λ p. record { id = p.id; values = record { type = type_of p.values; slots = slots p.values } }) (values_of (layouts columns) is);
  nodes = flat_map (λ hs. map (λ h. h.len) hs) (messages columns (values_of (layouts columns) is));
  bodies = map body_lengths (messages columns (values_of (layouts columns) is));
}

-- A writer of a schema with these fields and ids accepts the columns.
abbrev pub IsAcceptedChunk : FieldTrees → IdTrees → List Layout → Type 0
IsAcceptedChunk fs is columns = IsAccepted fs (offer_of columns is)

-- ---- the theorem

-- Some levels have so many nodes and so many buffers.
pub record HaveEntries (hs : List Level) (nodes buffers : ℕ) : Type 0 where
  pub node_count : length hs ≡ nodes
  pub buffer_count : length (body_lengths hs) ≡ buffers

-- What is written of an array has as many nodes and buffers as a column of its type
-- takes in version 5 of the metadata.
abbrev pub EntryCountLaw : Type 0
EntryCountLaw = (l : Layout) (o n : ℕ) → IsArray l → HaveEntries (written_levels l o n) (nodes (type_of l)) (buffers 0 (type_of l))
