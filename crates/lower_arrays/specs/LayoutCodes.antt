-- Layouts as ghost values, which a model that shows one needs: how each is stored, and read back.
use Rattle.std.specs.Prelude.{◌≡◌, refl, ℕ, ℤ, pos, Bool, List, [], ◌∷◌, get_or}
use Rattle.std.specs.Coded.{Coded, code_by, coded_ℕ, coded_list, coded_bool, coded_option, coded×}
use Rattle.std.proofs.Common.{ap, sym, subst}
use base.Stored.{Gv, gnil, gnum, gcons}
use denote.Struct.Codes.{itself}
use Rattle.lower_types.specs.NumberTypes.{Number, whole, wide, day_time, month_day_nano}
use Rattle.lower_types.specs.declared.PrimitiveType.{PrimitiveType}
use Rattle.lower_types.specs.declared.PrimitiveType.TheVariants.{Int8, Int16, Int32, Int64, Int128, Int256, UInt8, UInt16, UInt32, UInt64, Float16, Float32, Float64, DaysMs, MonthDayNano}
use Rattle.lower.specs.TypeTrees.{TypeTree}
use Rattle.lower.specs.declared.datatypes.IntegerType.{IntegerType}
use Rattle.lower_flat_arrays.specs.TypeCodes.{Stored, first, second, number, tagged, tag, int_to, int_from, int_back, stored_int, stored_nat, bool_to, bool_from, bool_back, stored_list, stored_ids, integer_to, integer_from, integer_back, coded_type}
use Rattle.lower_flat_arrays.specs.Validities.{Validity}
use Rattle.lower_arrays.specs.Layouts.{Parts, nothing, truths, numbers, fixed_bytes, bytes, texts, lists, fixed_lists, maps, records, choices, keys, Level, Layout, layout, Layouts, no_layouts, more_layouts}

-- ---- numbers and their types
abbrev pub primitive_to : PrimitiveType → Gv
primitive_to Int8 = gnum 0
primitive_to Int16 = gnum 1
primitive_to Int32 = gnum 2
primitive_to Int64 = gnum 3
primitive_to Int128 = gnum 4
primitive_to Int256 = gnum 5
primitive_to UInt8 = gnum 6
primitive_to UInt16 = gnum 7
primitive_to UInt32 = gnum 8
primitive_to UInt64 = gnum 9
primitive_to Float16 = gnum 10
primitive_to Float32 = gnum 11
primitive_to Float64 = gnum 12
primitive_to DaysMs = gnum 13
primitive_to MonthDayNano = gnum 14

abbrev pub primitives : List PrimitiveType
primitives =
    Int8 ∷ Int16 ∷ Int32 ∷ Int64 ∷ Int128 ∷ Int256 ∷ UInt8 ∷ UInt16 ∷ UInt32 ∷ UInt64 ∷ Float16 ∷ Float32 ∷ Float64
    ∷ DaysMs ∷ MonthDayNano ∷ []

abbrev pub primitive_from : Gv → PrimitiveType
primitive_from g = get_or primitives (number g) Int8

pub primitive_back : (p : PrimitiveType) → primitive_from (primitive_to p) ≡ p
primitive_back Int8 = refl
primitive_back Int16 = refl
primitive_back Int32 = refl
primitive_back Int64 = refl
primitive_back Int128 = refl
primitive_back Int256 = refl
primitive_back UInt8 = refl
primitive_back UInt16 = refl
primitive_back UInt32 = refl
primitive_back UInt64 = refl
primitive_back Float16 = refl
primitive_back Float32 = refl
primitive_back Float64 = refl
primitive_back DaysMs = refl
primitive_back MonthDayNano = refl

abbrev pub coded_primitive : Coded PrimitiveType
coded_primitive = code_by Gv itself primitive_to primitive_from primitive_back

abbrev pub number_to : Number → Gv
number_to (whole z) = tagged 0 (int_to z)
number_to (wide high low) = tagged 1 (gcons (int_to high) (gnum low))
number_to (day_time days time) = tagged 2 (gcons (int_to days) (int_to time))
number_to (month_day_nano months days time) = tagged 3 (gcons (int_to months) (gcons (int_to days) (int_to time)))

-- A number of each form, with what g has for it.
abbrev pub numbers_in : Gv → List Number
numbers_in g =
    whole (int_from g) ∷ wide (int_from (first g)) (number (second g)) ∷ day_time (int_from (first g)) (int_from (second g))
    ∷ month_day_nano (int_from (first g)) (int_from (first (second g))) (int_from (second (second g))) ∷ []

abbrev pub number_from : Gv → Number
number_from g = get_or (numbers_in (second g)) (tag g) (whole (pos 0))

pub number_back : (x : Number) → number_from (number_to x) ≡ x
number_back (whole z) = λ i. whole (int_back z i)
number_back (wide high low) = λ i. wide (int_back high i) low
number_back (day_time days time) = λ i. day_time (int_back days i) (int_back time i)
number_back (month_day_nano months days time) = λ i. month_day_nano (int_back months i) (int_back days i) (int_back time i)

abbrev pub stored_number : Stored Number
stored_number = record { to = number_to; from = number_from; back = number_back }

abbrev pub stored_bool : Stored Bool
stored_bool = record { to = bool_to; from = bool_from; back = bool_back }

abbrev pub nats : Stored (List ℕ)
nats = stored_list stored_nat

abbrev pub bools : Stored (List Bool)
bools = stored_list stored_bool

abbrev pub ints : Stored (List ℤ)
ints = stored_list stored_int

abbrev pub numbers_of : Stored (List Number)
numbers_of = stored_list stored_number

-- ---- the parts of a level
abbrev pub parts_to : Parts → Gv
parts_to nothing = tagged 0 gnil
parts_to (truths xs) = tagged 1 (bools.to xs)
parts_to (numbers p xs) = tagged 2 (gcons (primitive_to p) (numbers_of.to xs))
parts_to (fixed_bytes size xs) = tagged 3 (gcons (gnum size) (nats.to xs))
parts_to (bytes p os xs) = tagged 4 (gcons (primitive_to p) (gcons (nats.to os) (nats.to xs)))
parts_to (texts p os xs) = tagged 5 (gcons (primitive_to p) (gcons (nats.to os) (nats.to xs)))
parts_to (keys k ks) = tagged 6 (gcons (integer_to k) (ints.to ks))
parts_to (choices ids ts os) = tagged 7 (gcons (stored_ids.to ids) (gcons (ints.to ts) (stored_ids.to os)))
parts_to (lists named p os) = tagged 8 (gcons (primitive_to named) (gcons (primitive_to p) (nats.to os)))
parts_to (fixed_lists size) = tagged 9 (gnum size)
parts_to (maps os) = tagged 10 (nats.to os)
parts_to records = tagged 11 gnil

-- Parts of each kind, with what g has for them.
abbrev pub parts_in : Gv → List Parts
parts_in g =
    nothing ∷ truths (bools.from g) ∷ numbers (primitive_from (first g)) (numbers_of.from (second g))
    ∷ fixed_bytes (number (first g)) (nats.from (second g))
    ∷ bytes (primitive_from (first g)) (nats.from (first (second g))) (nats.from (second (second g)))
    ∷ texts (primitive_from (first g)) (nats.from (first (second g))) (nats.from (second (second g)))
    ∷ keys (integer_from (first g)) (ints.from (second g))
    ∷ choices (stored_ids.from (first g)) (ints.from (first (second g))) (stored_ids.from (second (second g)))
    ∷ lists (primitive_from (first g)) (primitive_from (first (second g))) (nats.from (second (second g))) ∷ fixed_lists (number g) ∷ maps (nats.from g) ∷ records ∷ []

abbrev pub parts_from : Gv → Parts
parts_from g = get_or (parts_in (second g)) (tag g) nothing

pub parts_back : (p : Parts) → parts_from (parts_to p) ≡ p
parts_back nothing = refl
parts_back (truths xs) = λ i. truths (bools.back xs i)
parts_back (numbers p xs) = λ i. numbers (primitive_back p i) (numbers_of.back xs i)
parts_back (fixed_bytes size xs) = λ i. fixed_bytes size (nats.back xs i)
parts_back (bytes p os xs) = λ i. bytes (primitive_back p i) (nats.back os i) (nats.back xs i)
parts_back (texts p os xs) = λ i. texts (primitive_back p i) (nats.back os i) (nats.back xs i)
parts_back (keys k ks) = λ i. keys (integer_back k i) (ints.back ks i)
parts_back (choices ids ts os) = λ i. choices (stored_ids.back ids i) (ints.back ts i) (stored_ids.back os i)
parts_back (lists named p os) = λ i. lists (primitive_back named i) (primitive_back p i) (nats.back os i)
parts_back (fixed_lists size) = refl
parts_back (maps os) = λ i. maps (nats.back os i)
parts_back records = refl

abbrev pub coded_integer : Coded IntegerType
coded_integer = code_by Gv itself integer_to integer_from integer_back

abbrev pub coded_parts : Coded Parts
coded_parts = code_by Gv itself parts_to parts_from parts_back

-- ---- levels and layouts
abbrev pub coded_validity : Coded Validity
coded_validity = coded_option (coded_list coded_bool)

abbrev pub coded_level : Coded Level
coded_level =
    code_by (TypeTree × (ℕ × (Validity × Parts))) (coded× coded_type (coded× coded_ℕ (coded× coded_validity coded_parts)))
    (λ h. (h.type, (h.len, (h.validity, h.parts))))
    (λ p. record { type = p.0; len = p.1.0; validity = p.1.1.0; parts = p.1.1.1 }) (λ _. refl)

abbrev pub IsMore : Gv → Type 0
IsMore (gcons a b) = Unit {0}
IsMore _ = ⊥

abbrev mutual
  pub layout_code : Layout → Gv
  layout_code (layout h cs) = gcons (coded_level.code h) (layouts_code cs)

  pub layouts_code : Layouts → Gv
  layouts_code no_layouts = gnil
  layouts_code (more_layouts c cs) = gcons (layout_code c) (layouts_code cs)

mutual
  -- Each layout has a code of its own.
  pub layout_inj : (x y : Layout) → layout_code x ≡ layout_code y → x ≡ y
  layout_inj (layout h cs) (layout k ds) p =
      λ i. layout (coded_level.inj h k (ap first p) i) (layouts_inj cs ds (ap second p) i)

  pub layouts_inj : (x y : Layouts) → layouts_code x ≡ layouts_code y → x ≡ y
  layouts_inj no_layouts no_layouts p = refl
  layouts_inj (more_layouts c cs) (more_layouts d ds) p =
      λ i. more_layouts (layout_inj c d (ap first p) i) (layouts_inj cs ds (ap second p) i)
  layouts_inj no_layouts (more_layouts d ds) p = absurd (subst IsMore (sym p) tt)
  layouts_inj (more_layouts c cs) no_layouts p = absurd (subst IsMore p tt)

abbrev pub coded_layout : Coded Layout
coded_layout = record { code = layout_code; inj = layout_inj }
