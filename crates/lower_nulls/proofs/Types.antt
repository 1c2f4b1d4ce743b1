-- Types and their storage.
use Rattle.std.proofs.Common.{arith, refl, ◌≡◌, ℕ, ◌*◌, sym, ap, subst, ◌∙◌}
use Rattle.lower.specs.TypeTrees.{Plain, null, boolean, int8, int16, int32, int64, uint8, uint16, uint32, uint64, float16, float32, float64, timestamp, date32, date64, time32, time64, duration, interval, binary, fixed_binary, large_binary, utf8, large_utf8, decimal, decimal256, list, large_list, fixed_list, entries, structure, choice, TypeTree, plain, single, group, dictionary, extension, FieldTree, field, FieldTrees, no_fields, more_fields}
use Rattle.lower.specs.Physical.{physical, logical}
use Rattle.lower.specs.declared.datatypes.IntervalUnit.TheVariants.{YearMonth, DayTime, MonthDayNano}
use Rattle.lower.specs.declared.datatypes.physical_type.PhysicalType.{PhysicalType}
use Rattle.lower.specs.declared.datatypes.physical_type.PhysicalType.TheVariants as Physicals
use Rattle.lower_validation.specs.Fields.{child_fields}
use Rattle.lower_arrays.specs.Slots.{null_slot}
use Rattle.lower_nulls.specs.Nulls.{null_of, HasArrays, plain_room, most_room, field_room, fields_room}
use Rattle.lower_nulls.specs.Storage.{IsSimple, IsSimpleLayout}

physical_logical : (t : TypeTree) → physical t ≡ physical (logical t)
physical_logical (plain p) = refl
physical_logical (single s f) = refl
physical_logical (group g fs) = refl
physical_logical (dictionary k u o) = refl
physical_logical (extension name u text) = physical_logical u

fields_logical : (t : TypeTree) → child_fields t ≡ child_fields (logical t)
fields_logical (plain p) = refl
fields_logical (single s f) = refl
fields_logical (group g fs) = refl
fields_logical (dictionary k u o) = refl
fields_logical (extension name u text) = fields_logical u

null_logical : (t : TypeTree) → null_of t ≡ null_of (logical t)
null_logical (plain p) = refl
null_logical (single s f) = refl
null_logical (group g fs) = refl
null_logical (dictionary k u o) = refl
null_logical (extension name u text) = null_logical u

room_logical : (n : ℕ) (t : TypeTree) → most_room n t ≡ most_room n (logical t)
room_logical n (plain p) = refl
room_logical n (single s f) = refl
room_logical n (group g fs) = refl
room_logical n (dictionary k u o) = refl
room_logical n (extension name u text) = room_logical n u

has_logical : (t : TypeTree) → HasArrays t → HasArrays (logical t)
has_logical (plain p) h = h
has_logical (single s f) h = h
has_logical (group g fs) h = h
has_logical (dictionary k u o) h = h
has_logical (extension name u text) h = has_logical u h

-- what a type has that is stored as u
module _ (t u : TypeTree) (e : logical t ≡ u) where
  pub physical_is : physical t ≡ physical u
  physical_is = physical_logical t ∙ ap physical e

  pub fields_are : child_fields t ≡ child_fields u
  fields_are = fields_logical t ∙ ap child_fields e

  pub null_is : null_of t ≡ null_of u
  null_is = null_logical t ∙ ap null_of e

  pub room_is : (n : ℕ) → most_room n t ≡ most_room n u
  room_is n = room_logical n t ∙ ap (most_room n) e

  pub has_is : HasArrays t → HasArrays u
  has_is h = subst HasArrays e (has_logical t h)

-- types of one storage have one layout
pub stored_physical : (t u : TypeTree) → logical t ≡ logical u → physical t ≡ physical u
stored_physical t u e = physical_logical t ∙ ap physical e ∙ sym (physical_logical u)

-- a layout with a validity of its own
abbrev pub HasValidity : PhysicalType → Type 0
HasValidity Physicals.Union = ⊥
HasValidity _ = Unit {0}

pub null_by : (t : TypeTree) (p : PhysicalType) → physical t ≡ p → HasValidity p → null_of t ≡ null_slot
null_by (plain q) p e h = refl
null_by (single s f) p e h = refl
null_by (group structure fs) p e h = refl
null_by (group (choice ids mode) fs) p e h = absurd (subst HasValidity (sym e) h)
null_by (dictionary k u o) p e h = refl
null_by (extension name u text) p e h = null_by u p e h

-- the layout of a type without children
pub plain_flat : (t : TypeTree) → IsSimple t → IsSimpleLayout (physical t)
plain_flat (plain null) h = tt
plain_flat (plain boolean) h = tt
plain_flat (plain int8) h = tt
plain_flat (plain int16) h = tt
plain_flat (plain int32) h = tt
plain_flat (plain int64) h = tt
plain_flat (plain uint8) h = tt
plain_flat (plain uint16) h = tt
plain_flat (plain uint32) h = tt
plain_flat (plain uint64) h = tt
plain_flat (plain float16) h = absurd h
plain_flat (plain float32) h = absurd h
plain_flat (plain float64) h = absurd h
plain_flat (plain (timestamp unit _)) h = tt
plain_flat (plain date32) h = tt
plain_flat (plain date64) h = tt
plain_flat (plain (time32 unit)) h = tt
plain_flat (plain (time64 unit)) h = tt
plain_flat (plain (duration unit)) h = tt
plain_flat (plain (interval YearMonth)) h = tt
plain_flat (plain (interval DayTime)) h = tt
plain_flat (plain (interval MonthDayNano)) h = tt
plain_flat (plain binary) h = tt
plain_flat (plain (fixed_binary size)) h = absurd h
plain_flat (plain large_binary) h = tt
plain_flat (plain utf8) h = tt
plain_flat (plain large_utf8) h = tt
plain_flat (plain (decimal p s)) h = tt
plain_flat (plain (decimal256 p s)) h = tt
plain_flat (single s f) h = absurd h
plain_flat (group g fs) h = absurd h
plain_flat (dictionary k u o) h = absurd h
plain_flat (extension name u text) h = absurd h

-- ---- no slot takes no room
no_plain_room : (p : Plain) → plain_room 0 p ≡ 0
no_plain_room (fixed_binary size) = omega arith
no_plain_room null = refl
no_plain_room boolean = refl
no_plain_room int8 = refl
no_plain_room int16 = refl
no_plain_room int32 = refl
no_plain_room int64 = refl
no_plain_room uint8 = refl
no_plain_room uint16 = refl
no_plain_room uint32 = refl
no_plain_room uint64 = refl
no_plain_room float16 = refl
no_plain_room float32 = refl
no_plain_room float64 = refl
no_plain_room (timestamp unit _) = refl
no_plain_room date32 = refl
no_plain_room date64 = refl
no_plain_room (time32 unit) = refl
no_plain_room (time64 unit) = refl
no_plain_room (duration unit) = refl
no_plain_room (interval unit) = refl
no_plain_room binary = refl
no_plain_room large_binary = refl
no_plain_room utf8 = refl
no_plain_room large_utf8 = refl
no_plain_room (decimal p s) = refl
no_plain_room (decimal256 p s) = refl

mutual
  pub no_room : (t : TypeTree) → most_room 0 t ≡ 0
  no_room (plain p) = no_plain_room p
  no_room (single list f) = no_field_room f
  no_room (single large_list f) = no_field_room f
  no_room (single (fixed_list size) f) =
      let none : 0 * size ≡ 0 = omega arith in
      let rest : field_room (0 * size) f ≡ 0 = ap (λ n. field_room n f) none ∙ no_field_room f in
      omega (arith, none, rest)
  no_room (single (entries sorted) f) = no_field_room f
  no_room (group g fs) = no_fields_room fs
  no_room (dictionary k u o) = no_room u
  no_room (extension name u text) = no_room u

  no_field_room : (f : FieldTree) → field_room 0 f ≡ 0
  no_field_room (field name t nullable metadata) = no_room t

  no_fields_room : (fs : FieldTrees) → fields_room 0 fs ≡ 0
  no_fields_room no_fields = refl
  no_fields_room (more_fields f fs) = let here = no_field_room f in let rest = no_fields_room fs in omega (arith, here, rest)
