-- Types as ghost values, which a model that shows one needs: how each is stored, and read back.
use Rattle.std.specs.Prelude.{◌≡◌, ℕ, ℤ, pos, negsuc, refl, Bool, true, false, List, [], ◌∷◌, Option, Some, None, get_or}
use Rattle.std.specs.Coded.{Coded, code_by}
use Rattle.std.proofs.Common.{zero, suc}
use base.Stored.{Gv, gnil, gnum, gcons}
use denote.Struct.Codes.{itself}
use Rattle.lower.specs.declared.datatypes.IntegerType.{IntegerType}
use Rattle.lower.specs.declared.datatypes.IntegerType.TheVariants.{Int8, Int16, Int32, Int64, UInt8, UInt16, UInt32, UInt64}
use Rattle.lower.specs.declared.datatypes.TimeUnit.{TimeUnit}
use Rattle.lower.specs.declared.datatypes.TimeUnit.TheVariants.{Second, Millisecond, Microsecond, Nanosecond}
use Rattle.lower.specs.declared.datatypes.IntervalUnit.{IntervalUnit}
use Rattle.lower.specs.declared.datatypes.IntervalUnit.TheVariants.{YearMonth, DayTime, MonthDayNano}
use Rattle.lower.specs.declared.datatypes.UnionMode.{UnionMode}
use Rattle.lower.specs.declared.datatypes.UnionMode.TheVariants.{Dense, Sparse}
use Rattle.lower.specs.TypeTrees.{Pairs, Plain, null, boolean, int8, int16, int32, int64, uint8, uint16, uint32, uint64, float16, float32, float64, timestamp, date32, date64, time32, time64, duration, interval, binary, fixed_binary, large_binary, utf8, large_utf8, decimal, decimal256, Single, list, large_list, fixed_list, entries, Group, structure, choice, TypeTree, plain, single, group, dictionary, extension, FieldTree, field, FieldTrees, no_fields, more_fields}

-- How a value is stored as a ghost value, and read back from that.
pub record Stored (A : Type 0) : Type 0 where
  pub to : A → Gv
  pub from : Gv → A
  pub back : (x : A) → from (to x) ≡ x

abbrev pub first : Gv → Gv
first (gcons a b) = a
first _ = gnil

abbrev pub second : Gv → Gv
second (gcons a b) = b
second _ = gnil

abbrev pub number : Gv → ℕ
number (gnum n) = n
number _ = 0

-- A value with the tag n.
abbrev pub tagged : ℕ → Gv → Gv
tagged n g = gcons (gnum n) g

abbrev pub tag : Gv → ℕ
tag g = number (first g)

abbrev pub stored_nat : Stored ℕ
stored_nat = record { to = gnum; from = number; back = λ _. refl }

-- ---- whole numbers and truth values
abbrev pub int_to : ℤ → Gv
int_to (pos n) = tagged 0 (gnum n)
int_to (negsuc n) = tagged 1 (gnum n)

abbrev pub int_from : Gv → ℤ
int_from g = get_or (pos (number (second g)) ∷ negsuc (number (second g)) ∷ []) (tag g) (pos 0)

pub int_back : (z : ℤ) → int_from (int_to z) ≡ z
int_back (pos n) = refl
int_back (negsuc n) = refl

abbrev pub stored_int : Stored ℤ
stored_int = record { to = int_to; from = int_from; back = int_back }

abbrev pub bool_to : Bool → Gv
bool_to false = gnum 0
bool_to true = gnum 1

abbrev pub bool_from : Gv → Bool
bool_from g = get_or (false ∷ true ∷ []) (number g) false

pub bool_back : (b : Bool) → bool_from (bool_to b) ≡ b
bool_back false = refl
bool_back true = refl

-- ---- lists and options
module _ {A : Type 0} (s : Stored A) where
  abbrev pub list_to : List A → Gv
  list_to [] = gnil
  list_to (x ∷ xs) = gcons (s.to x) (list_to xs)

  abbrev pub list_from : Gv → List A
  list_from (gcons a b) = s.from a ∷ list_from b
  list_from _ = []

  pub list_back : (xs : List A) → list_from (list_to xs) ≡ xs
  list_back [] = refl
  list_back (x ∷ xs) = λ i. s.back x i ∷ list_back xs i

  abbrev pub stored_list : Stored (List A)
  stored_list = record { to = list_to; from = list_from; back = list_back }

  abbrev pub option_to : Option A → Gv
  option_to None = gnil
  option_to (Some x) = gcons gnil (s.to x)

  abbrev pub option_from : Gv → Option A
  option_from (gcons _ b) = Some (s.from b)
  option_from _ = None

  pub option_back : (o : Option A) → option_from (option_to o) ≡ o
  option_back None = refl
  option_back (Some x) = λ i. Some (s.back x i)

  abbrev pub stored_option : Stored (Option A)
  stored_option = record { to = option_to; from = option_from; back = option_back }

abbrev pub stored_text : Stored (List ℕ)
stored_text = stored_list stored_nat

abbrev pub stored_pair : Stored (List ℕ × List ℕ)
stored_pair = record {
  to = λ p. gcons (stored_text.to p.0) (stored_text.to p.1);
  from = λ g. (stored_text.from (first g), stored_text.from (second g));
  back = λ p. λ i. (stored_text.back p.0 i, stored_text.back p.1 i);
}

abbrev pub stored_pairs : Stored Pairs
stored_pairs = stored_list stored_pair

abbrev pub stored_note : Stored (Option (List ℕ))
stored_note = stored_option stored_text

abbrev pub stored_ids : Stored (Option (List ℤ))
stored_ids = stored_option (stored_list stored_int)

-- ---- the small enumerations, by their indices in a list of all
abbrev pub integer_to : IntegerType → Gv
integer_to Int8 = gnum 0
integer_to Int16 = gnum 1
integer_to Int32 = gnum 2
integer_to Int64 = gnum 3
integer_to UInt8 = gnum 4
integer_to UInt16 = gnum 5
integer_to UInt32 = gnum 6
integer_to UInt64 = gnum 7

abbrev pub integer_from : Gv → IntegerType
integer_from g = get_or (Int8 ∷ Int16 ∷ Int32 ∷ Int64 ∷ UInt8 ∷ UInt16 ∷ UInt32 ∷ UInt64 ∷ []) (number g) Int8

pub integer_back : (k : IntegerType) → integer_from (integer_to k) ≡ k
integer_back Int8 = refl
integer_back Int16 = refl
integer_back Int32 = refl
integer_back Int64 = refl
integer_back UInt8 = refl
integer_back UInt16 = refl
integer_back UInt32 = refl
integer_back UInt64 = refl

abbrev pub unit_to : TimeUnit → Gv
unit_to Second = gnum 0
unit_to Millisecond = gnum 1
unit_to Microsecond = gnum 2
unit_to Nanosecond = gnum 3

abbrev pub unit_from : Gv → TimeUnit
unit_from g = get_or (Second ∷ Millisecond ∷ Microsecond ∷ Nanosecond ∷ []) (number g) Second

pub unit_back : (u : TimeUnit) → unit_from (unit_to u) ≡ u
unit_back Second = refl
unit_back Millisecond = refl
unit_back Microsecond = refl
unit_back Nanosecond = refl

abbrev pub interval_to : IntervalUnit → Gv
interval_to YearMonth = gnum 0
interval_to DayTime = gnum 1
interval_to MonthDayNano = gnum 2

abbrev pub interval_from : Gv → IntervalUnit
interval_from g = get_or (YearMonth ∷ DayTime ∷ MonthDayNano ∷ []) (number g) YearMonth

pub interval_back : (u : IntervalUnit) → interval_from (interval_to u) ≡ u
interval_back YearMonth = refl
interval_back DayTime = refl
interval_back MonthDayNano = refl

abbrev pub mode_to : UnionMode → Gv
mode_to Dense = gnum 0
mode_to Sparse = gnum 1

abbrev pub mode_from : Gv → UnionMode
mode_from g = get_or (Dense ∷ Sparse ∷ []) (number g) Dense

pub mode_back : (m : UnionMode) → mode_from (mode_to m) ≡ m
mode_back Dense = refl
mode_back Sparse = refl

-- ---- types without children, with one child, with several
abbrev pub plain_to : Plain → Gv
plain_to null = tagged 0 gnil
plain_to boolean = tagged 1 gnil
plain_to int8 = tagged 2 gnil
plain_to int16 = tagged 3 gnil
plain_to int32 = tagged 4 gnil
plain_to int64 = tagged 5 gnil
plain_to uint8 = tagged 6 gnil
plain_to uint16 = tagged 7 gnil
plain_to uint32 = tagged 8 gnil
plain_to uint64 = tagged 9 gnil
plain_to float16 = tagged 10 gnil
plain_to float32 = tagged 11 gnil
plain_to float64 = tagged 12 gnil
plain_to (timestamp u z) = tagged 13 (gcons (unit_to u) (stored_note.to z))
plain_to date32 = tagged 14 gnil
plain_to date64 = tagged 15 gnil
plain_to (time32 u) = tagged 16 (unit_to u)
plain_to (time64 u) = tagged 17 (unit_to u)
plain_to (duration u) = tagged 18 (unit_to u)
plain_to (interval u) = tagged 19 (interval_to u)
plain_to binary = tagged 20 gnil
plain_to (fixed_binary n) = tagged 21 (gnum n)
plain_to large_binary = tagged 22 gnil
plain_to utf8 = tagged 23 gnil
plain_to large_utf8 = tagged 24 gnil
plain_to (decimal p s) = tagged 25 (gcons (gnum p) (gnum s))
plain_to (decimal256 p s) = tagged 26 (gcons (gnum p) (gnum s))

-- The types without children, each with the parameters that g has for it.
abbrev pub plains : Gv → List Plain
plains g =
    null ∷ boolean ∷ int8 ∷ int16 ∷ int32 ∷ int64 ∷ uint8 ∷ uint16 ∷ uint32 ∷ uint64 ∷ float16 ∷ float32 ∷ float64
    ∷ timestamp (unit_from (first g)) (stored_note.from (second g)) ∷ date32 ∷ date64 ∷ time32 (unit_from g)
    ∷ time64 (unit_from g) ∷ duration (unit_from g) ∷ interval (interval_from g) ∷ binary ∷ fixed_binary (number g)
    ∷ large_binary ∷ utf8 ∷ large_utf8 ∷ decimal (number (first g)) (number (second g))
    ∷ decimal256 (number (first g)) (number (second g)) ∷ []

abbrev pub plain_from : Gv → Plain
plain_from g = get_or (plains (second g)) (tag g) null

pub plain_back : (p : Plain) → plain_from (plain_to p) ≡ p
plain_back null = refl
plain_back boolean = refl
plain_back int8 = refl
plain_back int16 = refl
plain_back int32 = refl
plain_back int64 = refl
plain_back uint8 = refl
plain_back uint16 = refl
plain_back uint32 = refl
plain_back uint64 = refl
plain_back float16 = refl
plain_back float32 = refl
plain_back float64 = refl
plain_back (timestamp u z) = λ i. timestamp (unit_back u i) (stored_note.back z i)
plain_back date32 = refl
plain_back date64 = refl
plain_back (time32 u) = λ i. time32 (unit_back u i)
plain_back (time64 u) = λ i. time64 (unit_back u i)
plain_back (duration u) = λ i. duration (unit_back u i)
plain_back (interval u) = λ i. interval (interval_back u i)
plain_back binary = refl
plain_back (fixed_binary n) = refl
plain_back large_binary = refl
plain_back utf8 = refl
plain_back large_utf8 = refl
plain_back (decimal p s) = refl
plain_back (decimal256 p s) = refl

abbrev pub single_to : Single → Gv
single_to list = tagged 0 gnil
single_to large_list = tagged 1 gnil
single_to (fixed_list n) = tagged 2 (gnum n)
single_to (entries sorted) = tagged 3 (bool_to sorted)

abbrev pub single_from : Gv → Single
single_from g =
    get_or (list ∷ large_list ∷ fixed_list (number (second g)) ∷ entries (bool_from (second g)) ∷ []) (tag g) list

pub single_back : (s : Single) → single_from (single_to s) ≡ s
single_back list = refl
single_back large_list = refl
single_back (fixed_list n) = refl
single_back (entries sorted) = λ i. entries (bool_back sorted i)

abbrev pub group_to : Group → Gv
group_to structure = tagged 0 gnil
group_to (choice ids m) = tagged 1 (gcons (stored_ids.to ids) (mode_to m))

abbrev pub group_from : Gv → Group
group_from g =
    get_or (structure ∷ choice (stored_ids.from (first (second g))) (mode_from (second (second g))) ∷ []) (tag g) structure

pub group_back : (g : Group) → group_from (group_to g) ≡ g
group_back structure = refl
group_back (choice ids m) = λ i. choice (stored_ids.back ids i) (mode_back m i)

-- ---- types, fields and lists of fields
abbrev mutual
  pub type_to : TypeTree → Gv
  type_to (plain p) = tagged 0 (plain_to p)
  type_to (single s f) = tagged 1 (gcons (single_to s) (field_to f))
  type_to (group g fs) = tagged 2 (gcons (group_to g) (fields_to fs))
  type_to (dictionary k t ordered) = tagged 3 (gcons (gcons (integer_to k) (bool_to ordered)) (type_to t))
  type_to (extension name t note) = tagged 4 (gcons (gcons (stored_text.to name) (stored_note.to note)) (type_to t))

  pub field_to : FieldTree → Gv
  field_to (field name t nullable pairs) =
      gcons (gcons (stored_text.to name) (gcons (bool_to nullable) (stored_pairs.to pairs))) (type_to t)

  pub fields_to : FieldTrees → Gv
  fields_to no_fields = gnil
  fields_to (more_fields f fs) = gcons (field_to f) (fields_to fs)

abbrev mutual
  pub type_from : Gv → TypeTree
  type_from (gcons (gnum zero) g) = plain (plain_from g)
  type_from (gcons (gnum (suc zero)) (gcons s f)) = single (single_from s) (field_from f)
  type_from (gcons (gnum (suc (suc zero))) (gcons g fs)) = group (group_from g) (fields_from fs)
  type_from (gcons (gnum (suc (suc (suc zero)))) (gcons k t)) =
      dictionary (integer_from (first k)) (type_from t) (bool_from (second k))
  type_from (gcons (gnum (suc (suc (suc (suc _))))) (gcons n t)) =
      extension (stored_text.from (first n)) (type_from t) (stored_note.from (second n))
  type_from _ = plain null

  pub field_from : Gv → FieldTree
  field_from (gcons h t) =
      field (stored_text.from (first h)) (type_from t) (bool_from (first (second h))) (stored_pairs.from (second (second h)))
  field_from _ = field [] (plain null) false []

  pub fields_from : Gv → FieldTrees
  fields_from (gcons f fs) = more_fields (field_from f) (fields_from fs)
  fields_from _ = no_fields

mutual
  pub type_back : (t : TypeTree) → type_from (type_to t) ≡ t
  type_back (plain p) = λ i. plain (plain_back p i)
  type_back (single s f) = λ i. single (single_back s i) (field_back f i)
  type_back (group g fs) = λ i. group (group_back g i) (fields_back fs i)
  type_back (dictionary k t ordered) = λ i. dictionary (integer_back k i) (type_back t i) (bool_back ordered i)
  type_back (extension name t note) = λ i. extension (stored_text.back name i) (type_back t i) (stored_note.back note i)

  pub field_back : (f : FieldTree) → field_from (field_to f) ≡ f
  field_back (field name t nullable pairs) =
      λ i. field (stored_text.back name i) (type_back t i) (bool_back nullable i) (stored_pairs.back pairs i)

  pub fields_back : (fs : FieldTrees) → fields_from (fields_to fs) ≡ fs
  fields_back no_fields = refl
  fields_back (more_fields f fs) = λ i. more_fields (field_back f i) (fields_back fs i)

abbrev pub coded_type : Coded TypeTree
coded_type = code_by Gv itself type_to type_from type_back
