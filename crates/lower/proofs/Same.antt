-- The test `same_type` decides equality.
use Rattle.std.proofs.Common.{◌≡◌, ℕ, ℤ, List, [], ◌∷◌, Bool, true, false, ◌&&◌, nat_eq, Option, Some, None, refl, sym, ap, rules}
use Rattle.std.proofs.lemmas.Bool.{and_parts, false≢true}
use Rattle.std.specs.Ordering.{int_eq}
use Rattle.std.specs.Cmp.Lexicographic.{pointwise}
use Rattle.lower.specs.declared.datatypes.IntegerType.{IntegerType}
use Rattle.lower.specs.declared.datatypes.IntegerType.TheVariants.{Int8, Int16, Int32, Int64, UInt8, UInt16, UInt32, UInt64}
use Rattle.lower.specs.declared.datatypes.TimeUnit.{TimeUnit}
use Rattle.lower.specs.declared.datatypes.TimeUnit.TheVariants.{Second, Millisecond, Microsecond, Nanosecond}
use Rattle.lower.specs.declared.datatypes.IntervalUnit.{IntervalUnit}
use Rattle.lower.specs.declared.datatypes.IntervalUnit.TheVariants.{YearMonth, DayTime, MonthDayNano}
use Rattle.lower.specs.declared.datatypes.UnionMode.{UnionMode}
use Rattle.lower.specs.declared.datatypes.UnionMode.TheVariants.{Dense, Sparse}
use Rattle.lower.specs.TypeTrees.{Pairs, Plain, null, boolean, int8, int16, int32, int64, uint8, uint16, uint32, uint64, float16, float32, float64, timestamp, date32, date64, time32, time64, duration, interval, binary, fixed_binary, large_binary, utf8, large_utf8, decimal, decimal256, Single, list, large_list, fixed_list, entries, Group, structure, choice, TypeTree, plain, single, group, dictionary, extension, FieldTree, field, FieldTrees, no_fields, more_fields}
use Rattle.lower.specs.Same.{same_unit, same_interval, same_mode, same_integer, same_text, same_bool, same_option, same_pairs, same_plain, same_single, same_group, same_type, same_field, same_fields}

same_unit-sound : (x y : TimeUnit) → same_unit x y ≡ true → x ≡ y
same_unit-sound Second Second h = refl
same_unit-sound Millisecond Millisecond h = refl
same_unit-sound Microsecond Microsecond h = refl
same_unit-sound Nanosecond Nanosecond h = refl
same_unit-sound _ _ h = absurd (false≢true h)

same_unit-refl : (x : TimeUnit) → same_unit x x ≡ true
same_unit-refl Second = refl
same_unit-refl Millisecond = refl
same_unit-refl Microsecond = refl
same_unit-refl Nanosecond = refl

same_interval-sound : (x y : IntervalUnit) → same_interval x y ≡ true → x ≡ y
same_interval-sound YearMonth YearMonth h = refl
same_interval-sound DayTime DayTime h = refl
same_interval-sound MonthDayNano MonthDayNano h = refl
same_interval-sound _ _ h = absurd (false≢true h)

same_interval-refl : (x : IntervalUnit) → same_interval x x ≡ true
same_interval-refl YearMonth = refl
same_interval-refl DayTime = refl
same_interval-refl MonthDayNano = refl

same_mode-sound : (x y : UnionMode) → same_mode x y ≡ true → x ≡ y
same_mode-sound Dense Dense h = refl
same_mode-sound Sparse Sparse h = refl
same_mode-sound _ _ h = absurd (false≢true h)

same_mode-refl : (x : UnionMode) → same_mode x x ≡ true
same_mode-refl Dense = refl
same_mode-refl Sparse = refl

same_integer-sound : (x y : IntegerType) → same_integer x y ≡ true → x ≡ y
same_integer-sound Int8 Int8 h = refl
same_integer-sound Int16 Int16 h = refl
same_integer-sound Int32 Int32 h = refl
same_integer-sound Int64 Int64 h = refl
same_integer-sound UInt8 UInt8 h = refl
same_integer-sound UInt16 UInt16 h = refl
same_integer-sound UInt32 UInt32 h = refl
same_integer-sound UInt64 UInt64 h = refl
same_integer-sound _ _ h = absurd (false≢true h)

same_integer-refl : (x : IntegerType) → same_integer x x ≡ true
same_integer-refl Int8 = refl
same_integer-refl Int16 = refl
same_integer-refl Int32 = refl
same_integer-refl Int64 = refl
same_integer-refl UInt8 = refl
same_integer-refl UInt16 = refl
same_integer-refl UInt32 = refl
same_integer-refl UInt64 = refl

same_nat-sound : (x y : ℕ) → nat_eq x y ≡ true → x ≡ y
same_nat-sound x y h = search (rules, h)

same_nat-refl : (x : ℕ) → nat_eq x x ≡ true
same_nat-refl x = search rules

same_int-sound : (x y : ℤ) → int_eq x y ≡ true → x ≡ y
same_int-sound x y h = search (rules, h)

same_int-refl : (x : ℤ) → int_eq x x ≡ true
same_int-refl x = search rules

same_bool-sound : (x y : Bool) → same_bool x y ≡ true → x ≡ y
same_bool-sound true y h = sym h
same_bool-sound false true h = absurd (false≢true h)
same_bool-sound false false h = refl

same_bool-refl : (x : Bool) → same_bool x x ≡ true
same_bool-refl true = refl
same_bool-refl false = refl

-- A test of parts that is sound and passes for equal ones carries over.
module _ {A : Type 0} (E : A → A → Bool) (sound : (x y : A) → E x y ≡ true → x ≡ y) (own : (x : A) → E x x ≡ true) where
  option-sound : (x y : Option A) → same_option E x y ≡ true → x ≡ y
  option-sound None None h = refl
  option-sound None (Some y) h = absurd (false≢true h)
  option-sound (Some x) None h = absurd (false≢true h)
  option-sound (Some x) (Some y) h = ap Some (sound x y h)

  option-own : (x : Option A) → same_option E x x ≡ true
  option-own None = refl
  option-own (Some x) = own x

  list-sound : (x y : List A) → pointwise E x y ≡ true → x ≡ y
  list-sound [] [] h = refl
  list-sound [] (y ∷ ys) h = absurd (false≢true h)
  list-sound (x ∷ xs) [] h = absurd (false≢true h)
  list-sound (x ∷ xs) (y ∷ ys) h =
      let (here, rest) = and_parts (E x y) (pointwise E xs ys) h in rw (sound x y here, list-sound xs ys rest)

  list-own : (x : List A) → pointwise E x x ≡ true
  list-own [] = refl
  list-own (x ∷ xs) = rw (own x, list-own xs)

same_text-sound : (x y : List ℕ) → same_text x y ≡ true → x ≡ y
same_text-sound = list-sound nat_eq same_nat-sound same_nat-refl

same_text-refl : (x : List ℕ) → same_text x x ≡ true
same_text-refl = list-own nat_eq same_nat-sound same_nat-refl

texts-sound : (x y : Option (List ℕ)) → same_option same_text x y ≡ true → x ≡ y
texts-sound = option-sound same_text same_text-sound same_text-refl

texts-refl : (x : Option (List ℕ)) → same_option same_text x x ≡ true
texts-refl = option-own same_text same_text-sound same_text-refl

ids-sound : (x y : Option (List ℤ)) → same_option (pointwise int_eq) x y ≡ true → x ≡ y
ids-sound = option-sound (pointwise int_eq) (list-sound int_eq same_int-sound same_int-refl) (list-own int_eq same_int-sound same_int-refl)

ids-refl : (x : Option (List ℤ)) → same_option (pointwise int_eq) x x ≡ true
ids-refl = option-own (pointwise int_eq) (list-sound int_eq same_int-sound same_int-refl) (list-own int_eq same_int-sound same_int-refl)

abbrev Pair : Type 0
Pair = List ℕ × List ℕ

pair-sound : (p q : Pair) → (same_text p.0 q.0 && same_text p.1 q.1) ≡ true → p ≡ q
pair-sound (a, b) (c, d) h =
    let (x, y) = and_parts (same_text a c) (same_text b d) h in rw (same_text-sound a c x, same_text-sound b d y)

pair-refl : (p : Pair) → (same_text p.0 p.0 && same_text p.1 p.1) ≡ true
pair-refl (a, b) = rw (same_text-refl a, same_text-refl b)

pub pairs-sound : (x y : Pairs) → same_pairs x y ≡ true → x ≡ y
pairs-sound = list-sound _ pair-sound pair-refl

pub pairs-refl : (x : Pairs) → same_pairs x x ≡ true
pairs-refl = list-own _ pair-sound pair-refl

plain-sound : (x y : Plain) → same_plain x y ≡ true → x ≡ y
plain-sound null null h = refl
plain-sound boolean boolean h = refl
plain-sound int8 int8 h = refl
plain-sound int16 int16 h = refl
plain-sound int32 int32 h = refl
plain-sound int64 int64 h = refl
plain-sound uint8 uint8 h = refl
plain-sound uint16 uint16 h = refl
plain-sound uint32 uint32 h = refl
plain-sound uint64 uint64 h = refl
plain-sound float16 float16 h = refl
plain-sound float32 float32 h = refl
plain-sound float64 float64 h = refl
plain-sound (timestamp u z) (timestamp v y) h =
    let (a, b) = and_parts (same_unit u v) (same_option same_text z y) h in rw (same_unit-sound u v a, texts-sound z y b)
plain-sound date32 date32 h = refl
plain-sound date64 date64 h = refl
plain-sound (time32 u) (time32 v) h = ap time32 (same_unit-sound u v h)
plain-sound (time64 u) (time64 v) h = ap time64 (same_unit-sound u v h)
plain-sound (duration u) (duration v) h = ap duration (same_unit-sound u v h)
plain-sound (interval u) (interval v) h = ap interval (same_interval-sound u v h)
plain-sound binary binary h = refl
plain-sound (fixed_binary n) (fixed_binary m) h = ap fixed_binary (same_nat-sound n m h)
plain-sound large_binary large_binary h = refl
plain-sound utf8 utf8 h = refl
plain-sound large_utf8 large_utf8 h = refl
plain-sound (decimal p s) (decimal q t) h =
    let (a, b) = and_parts (nat_eq p q) (nat_eq s t) h in rw (same_nat-sound p q a, same_nat-sound s t b)
plain-sound (decimal256 p s) (decimal256 q t) h =
    let (a, b) = and_parts (nat_eq p q) (nat_eq s t) h in rw (same_nat-sound p q a, same_nat-sound s t b)
plain-sound _ _ h = absurd (false≢true h)

plain-refl : (x : Plain) → same_plain x x ≡ true
plain-refl null = refl
plain-refl boolean = refl
plain-refl int8 = refl
plain-refl int16 = refl
plain-refl int32 = refl
plain-refl int64 = refl
plain-refl uint8 = refl
plain-refl uint16 = refl
plain-refl uint32 = refl
plain-refl uint64 = refl
plain-refl float16 = refl
plain-refl float32 = refl
plain-refl float64 = refl
plain-refl (timestamp u z) = rw (same_unit-refl u, texts-refl z)
plain-refl date32 = refl
plain-refl date64 = refl
plain-refl (time32 u) = same_unit-refl u
plain-refl (time64 u) = same_unit-refl u
plain-refl (duration u) = same_unit-refl u
plain-refl (interval u) = same_interval-refl u
plain-refl binary = refl
plain-refl (fixed_binary n) = same_nat-refl n
plain-refl large_binary = refl
plain-refl utf8 = refl
plain-refl large_utf8 = refl
plain-refl (decimal p s) = rw (same_nat-refl p, same_nat-refl s)
plain-refl (decimal256 p s) = rw (same_nat-refl p, same_nat-refl s)

single-sound : (x y : Single) → same_single x y ≡ true → x ≡ y
single-sound list list h = refl
single-sound large_list large_list h = refl
single-sound (fixed_list n) (fixed_list m) h = ap fixed_list (same_nat-sound n m h)
single-sound (entries s) (entries t) h = ap entries (same_bool-sound s t h)
single-sound _ _ h = absurd (false≢true h)

single-refl : (x : Single) → same_single x x ≡ true
single-refl list = refl
single-refl large_list = refl
single-refl (fixed_list n) = same_nat-refl n
single-refl (entries s) = same_bool-refl s

group-sound : (x y : Group) → same_group x y ≡ true → x ≡ y
group-sound structure structure h = refl
group-sound (choice i m) (choice j n) h =
    let (a, b) = and_parts (same_option (pointwise int_eq) i j) (same_mode m n) h in rw (ids-sound i j a, same_mode-sound m n b)
group-sound _ _ h = absurd (false≢true h)

group-refl : (x : Group) → same_group x x ≡ true
group-refl structure = refl
group-refl (choice i m) = rw (ids-refl i, same_mode-refl m)

mutual
  pub type-sound : (x y : TypeTree) → same_type x y ≡ true → x ≡ y
  type-sound (plain p) (plain q) h = ap plain (plain-sound p q h)
  type-sound (single s f) (single t g) h =
      let (a, b) = and_parts (same_single s t) (same_field f g) h in rw (single-sound s t a, field-sound f g b)
  type-sound (group s fs) (group t gs) h =
      let (a, b) = and_parts (same_group s t) (same_fields fs gs) h in rw (group-sound s t a, fields-sound fs gs b)
  type-sound (dictionary k t o) (dictionary l u p) h =
      let (a, bc) = and_parts (same_integer k l) (same_type t u && same_bool o p) h in
      let (b, c) = and_parts (same_type t u) (same_bool o p) bc in
      rw (same_integer-sound k l a, type-sound t u b, same_bool-sound o p c)
  type-sound (extension n t d) (extension m u e) h =
      let (a, bc) = and_parts (same_text n m) (same_type t u && same_option same_text d e) h in
      let (b, c) = and_parts (same_type t u) (same_option same_text d e) bc in
      rw (same_text-sound n m a, type-sound t u b, texts-sound d e c)
  type-sound _ _ h = absurd (false≢true h)

  pub field-sound : (x y : FieldTree) → same_field x y ≡ true → x ≡ y
  field-sound (field n t o m) (field k u p l) h =
      let (a, r) = and_parts (same_text n k) (same_type t u && (same_bool o p && same_pairs m l)) h in
      let (b, s) = and_parts (same_type t u) (same_bool o p && same_pairs m l) r in
      let (c, d) = and_parts (same_bool o p) (same_pairs m l) s in
      rw (same_text-sound n k a, type-sound t u b, same_bool-sound o p c, pairs-sound m l d)

  pub fields-sound : (x y : FieldTrees) → same_fields x y ≡ true → x ≡ y
  fields-sound no_fields no_fields h = refl
  fields-sound (more_fields f fs) (more_fields g gs) h =
      let (a, b) = and_parts (same_field f g) (same_fields fs gs) h in rw (field-sound f g a, fields-sound fs gs b)
  fields-sound _ _ h = absurd (false≢true h)

mutual
  pub type-refl : (x : TypeTree) → same_type x x ≡ true
  type-refl (plain p) = plain-refl p
  type-refl (single s f) = rw (single-refl s, field-refl f)
  type-refl (group s fs) = rw (group-refl s, fields-refl fs)
  type-refl (dictionary k t o) = rw (same_integer-refl k, type-refl t, same_bool-refl o)
  type-refl (extension n t d) = rw (same_text-refl n, type-refl t, texts-refl d)

  pub field-refl : (x : FieldTree) → same_field x x ≡ true
  field-refl (field n t o m) = rw (same_text-refl n, type-refl t, same_bool-refl o, pairs-refl m)

  pub fields-refl : (x : FieldTrees) → same_fields x x ≡ true
  fields-refl no_fields = refl
  fields-refl (more_fields f fs) = rw (field-refl f, fields-refl fs)
