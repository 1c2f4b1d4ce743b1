-- The slots of an array, and the rules of its levels.
-- (Arrow columnar format, "Physical Memory Layout".)
use Rattle.std.specs.Prelude.{◌≡◌, ℕ, ℤ, pos, ◌+◌, ◌*◌, ◌<◌, List, [], ◌∷◌, Bool, true, false, None, get_or, length, map, ◌-◌, slice_index}
use Rattle.std.proofs.Common.{zero, suc}
use Rattle.lower_types.specs.NumberTypes.{Number, whole}
use Rattle.lower.specs.Physical.{physical}
use Rattle.lower.specs.Normal.{norm}
use Rattle.lower.specs.Offsets.{IsOffsets}
use Rattle.lower.specs.declared.datatypes.IntegerType.{IntegerType}
use Rattle.lower.specs.declared.datatypes.physical_type.PhysicalType.TheVariants as Physicals
use Rattle.lower_flat_arrays.specs.FixedBinaries.{byte_size}
use Rattle.lower_flat_arrays.specs.Spans.{span, span_count, EndsWithin, AreTexts}
use Rattle.lower_flat_arrays.specs.Binaries.{bytes_with}
use Rattle.lower_flat_arrays.specs.Texts.{texts_with}
use Rattle.lower_arrays.specs.Layouts.{Parts, nothing, truths, numbers, fixed_bytes, bytes, texts, keys, choices, Level, Layout, layout, Layouts, no_layouts, more_layouts, len_of, type_of, lists, fixed_lists, maps, records}
use Rattle.lower_validation.specs.Keys.{place_of, values_type, KeysFit}
use Rattle.lower_validation.specs.Ids.{child_number}
use Rattle.lower_arrays.specs.Choices.{place_in, ChoicesFit}
use Rattle.lower_arrays.specs.Children.{child_fields, ChildTypes, HasChild, AllHave, AllReach, ArePairs}
use Rattle.lower_validation.specs.ListTypes.{list_with, list_size, last_offset}
pub use Rattle.lower_flat_arrays.specs.Validities.{Validity, is_valid, ValidityFits, part}
pub use Rattle.lower_flat_arrays.specs.Columns.{Slot, null_slot, truth_slot, number_slot, bytes_slot, text_slot, list_slot, record_slot, variant_slot, Slots, no_slots, more_slots, slots_of, slot_where, slots_from, Column, column_by}

-- The slots of the first child.
abbrev pub first_child : List (ℕ → Slot) → ℕ → Slot
first_child [] i = null_slot
first_child (f ∷ fs) i = f i

-- A list of n slots of the first child, from index a on.
abbrev pub list_at : List (ℕ → Slot) → ℕ → ℕ → Slot
list_at fs a n = list_slot (slots_of (slots_from (first_child fs) a n))

-- Slot i of each child.
abbrev pub each_at : List (ℕ → Slot) → ℕ → List Slot
each_at fs i = map (λ f. f i) fs

-- A union's slot with the type id z: slot i of the child with this index.
abbrev pub variant_at : List (ℕ → Slot) → ℤ → ℕ → ℕ → Slot
variant_at fs z number i = variant_slot z (get_or (each_at fs i) number null_slot)

-- Slot i of a level whose children have the slots fs, without its validity.
abbrev pub value_at : Parts → List (ℕ → Slot) → ℕ → Slot
value_at nothing fs i = null_slot
value_at (truths xs) fs i = truth_slot (get_or xs i false)
value_at (numbers _ xs) fs i = number_slot (get_or xs i (whole (pos 0)))
value_at (fixed_bytes size xs) fs i = bytes_slot (part (i * size) size xs)
value_at (bytes _ os xs) fs i = bytes_slot (span os xs i)
value_at (texts _ os xs) fs i = text_slot (span os xs i)
value_at (keys _ ks) fs i = first_child fs (place_of (get_or ks i (pos 0)))
value_at (choices ids ts os) fs i = variant_at fs (get_or ts i (pos 0)) (child_number ids (get_or ts i (pos 0))) (place_in os i)
value_at (lists _ _ os) fs i = list_at fs (slice_index os i) (slice_index os (i + 1) - slice_index os i)
value_at (fixed_lists size) fs i = list_at fs (i * size) size
value_at (maps os) fs i = list_at fs (slice_index os i) (slice_index os (i + 1) - slice_index os i)
value_at records fs i = record_slot (slots_of (each_at fs i))

abbrev mutual
  -- Slot i of an array.
  pub slot_at : Layout → ℕ → Slot
  slot_at (layout h cs) i = slot_where (is_valid h.validity i) (value_at h.parts (children_at cs) i)

  -- The slots of some arrays, by their indices.
  pub children_at : Layouts → List (ℕ → Slot)
  children_at no_layouts = []
  children_at (more_layouts c cs) = slot_at c ∷ children_at cs

-- All slots of an array.
abbrev pub slots : Layout → List Slot
slots l = slots_from (slot_at l) 0 (len_of l)

-- What an array means, however it is laid out: its type and its slots.
abbrev pub column_of : Layout → Column
column_of l = column_by (type_of l) (len_of l) (slot_at l)

-- Offsets of n slots, none past the bytes.
pub record SpansFit (os xs : List ℕ) (n : ℕ) : Type 0 where
  pub offsets : IsOffsets os
  pub within : EndsWithin os xs
  pub count : span_count os ≡ n

-- Keys of a type, one for each slot, whose one child has the values. The values have the type that
-- the dictionary names, both in the normal form.
abbrev pub DictionaryFits : Level → IntegerType → List ℤ → Layouts → Type 0
DictionaryFits h k ks (more_layouts c no_layouts) =
    (physical h.type ≡ Physicals.Dictionary k) × (norm (type_of c) ≡ norm (values_type h.type)) × (length ks ≡ h.len)
    × KeysFit h.validity ks (len_of c)
DictionaryFits h k ks _ = ⊥

-- Offsets of n slots, none past the children.
pub record ItemsFit (os : List ℕ) (n : ℕ) (cs : Layouts) : Type 0 where
  pub offsets : IsOffsets os
  pub within : AllReach (last_offset os) cs
  pub count : span_count os ≡ n

-- The rules of a level's parts, with its children.
abbrev pub PartsFit : Level → Parts → Layouts → Type 0
PartsFit h nothing no_layouts = (physical h.type ≡ Physicals.Null) × (h.validity ≡ None)
PartsFit h (truths xs) no_layouts = (physical h.type ≡ Physicals.Boolean) × (length xs ≡ h.len)
PartsFit h (numbers p xs) no_layouts = (physical h.type ≡ Physicals.Primitive p) × (length xs ≡ h.len)
PartsFit h (fixed_bytes size xs) no_layouts =
    (physical h.type ≡ Physicals.FixedSizeBinary) × (byte_size h.type ≡ size) × (0 < size) × (length xs ≡ h.len * size)
PartsFit h (bytes p os xs) no_layouts = (physical h.type ≡ bytes_with p) × SpansFit os xs h.len
PartsFit h (texts p os xs) no_layouts = (physical h.type ≡ texts_with p) × SpansFit os xs h.len × AreTexts os xs
PartsFit h (keys k ks) cs = DictionaryFits h k ks cs
PartsFit h (choices ids ts os) cs = (h.validity ≡ None) × (length ts ≡ h.len) × ChoicesFit h.type ids ts os cs
PartsFit h (lists _ p os) cs = (physical h.type ≡ list_with p) × ChildTypes (child_fields h.type) cs × ItemsFit os h.len cs
PartsFit h (fixed_lists size) cs =
    (physical h.type ≡ Physicals.FixedSizeList) × (list_size h.type ≡ size) × (0 < size) × ChildTypes (child_fields h.type) cs
    × AllHave (h.len * size) cs
PartsFit h (maps os) cs =
    (physical h.type ≡ Physicals.Map) × ArePairs cs × ChildTypes (child_fields h.type) cs × ItemsFit os h.len cs
PartsFit h records cs = (physical h.type ≡ Physicals.Struct) × HasChild cs × ChildTypes (child_fields h.type) cs × AllHave h.len cs
PartsFit h _ (more_layouts _ _) = ⊥

abbrev mutual
  -- A layout is a valid array: each level keeps the rules of its kind.
  pub IsArray : Layout → Type 0
  IsArray (layout h cs) = ValidityFits h.validity h.len × PartsFit h h.parts cs × AreArrays cs

  -- The layouts are valid arrays.
  pub AreArrays : Layouts → Type 0
  AreArrays no_layouts = Unit {0}
  AreArrays (more_layouts c cs) = IsArray c × AreArrays cs
