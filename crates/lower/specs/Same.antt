-- Equality of types, as a test.
-- (Arrow columnar format, "Data Types".)
use Rattle.std.specs.Prelude.{ℕ, List, Bool, true, false, ◌&&◌, nat_eq, Option, Some, None}
use Rattle.std.specs.Ordering.{int_eq}
use Rattle.std.specs.Cmp.Lexicographic.{pointwise}
use Rattle.lower.specs.declared.datatypes.IntegerType.{IntegerType}
use Rattle.lower.specs.declared.datatypes.IntegerType.TheVariants.{Int8, Int16, Int32, Int64, UInt8, UInt16, UInt32, UInt64}
use Rattle.lower.specs.declared.datatypes.TimeUnit.{TimeUnit}
use Rattle.lower.specs.declared.datatypes.TimeUnit.TheVariants.{Second, Millisecond, Microsecond, Nanosecond}
use Rattle.lower.specs.declared.datatypes.IntervalUnit.{IntervalUnit}
use Rattle.lower.specs.declared.datatypes.IntervalUnit.TheVariants.{YearMonth, DayTime, MonthDayNano}
use Rattle.lower.specs.declared.datatypes.UnionMode.{UnionMode}
use Rattle.lower.specs.declared.datatypes.UnionMode.TheVariants.{Dense, Sparse}
use Rattle.lower.specs.TypeTrees.{Pairs, Plain, null, boolean, int8, int16, int32, int64, uint8, uint16, uint32, uint64, float16, float32, float64, timestamp, date32, date64, time32, time64, duration, interval, binary, fixed_binary, large_binary, utf8, large_utf8, decimal, decimal256, Single, list, large_list, fixed_list, entries, Group, structure, choice, TypeTree, plain, single, group, dictionary, extension, FieldTree, field, FieldTrees, no_fields, more_fields}

-- Equality of time units.
abbrev pub same_unit : TimeUnit → TimeUnit → Bool
same_unit Second Second = true
same_unit Millisecond Millisecond = true
same_unit Microsecond Microsecond = true
same_unit Nanosecond Nanosecond = true
same_unit _ _ = false

-- Equality of interval units.
abbrev pub same_interval : IntervalUnit → IntervalUnit → Bool
same_interval YearMonth YearMonth = true
same_interval DayTime DayTime = true
same_interval MonthDayNano MonthDayNano = true
same_interval _ _ = false

-- Equality of union modes.
abbrev pub same_mode : UnionMode → UnionMode → Bool
same_mode Dense Dense = true
same_mode Sparse Sparse = true
same_mode _ _ = false

-- Equality of integer types.
abbrev pub same_integer : IntegerType → IntegerType → Bool
same_integer Int8 Int8 = true
same_integer Int16 Int16 = true
same_integer Int32 Int32 = true
same_integer Int64 Int64 = true
same_integer UInt8 UInt8 = true
same_integer UInt16 UInt16 = true
same_integer UInt32 UInt32 = true
same_integer UInt64 UInt64 = true
same_integer _ _ = false

-- Equality of texts.
abbrev pub same_text : List ℕ → List ℕ → Bool
same_text = pointwise nat_eq

-- Equality of booleans.
abbrev pub same_bool : Bool → Bool → Bool
same_bool true b = b
same_bool false true = false
same_bool false false = true

-- Equality of values that may be absent.
abbrev pub same_option : {A : Type 0} → (A → A → Bool) → Option A → Option A → Bool
same_option E None None = true
same_option E None (Some y) = false
same_option E (Some x) None = false
same_option E (Some x) (Some y) = E x y

-- Equality of pairs of metadata.
abbrev pub same_pairs : Pairs → Pairs → Bool
same_pairs = pointwise (λ p q. same_text p.0 q.0 && same_text p.1 q.1)

-- Equality of types without children.
abbrev pub same_plain : Plain → Plain → Bool
same_plain null null = true
same_plain boolean boolean = true
same_plain int8 int8 = true
same_plain int16 int16 = true
same_plain int32 int32 = true
same_plain int64 int64 = true
same_plain uint8 uint8 = true
same_plain uint16 uint16 = true
same_plain uint32 uint32 = true
same_plain uint64 uint64 = true
same_plain float16 float16 = true
same_plain float32 float32 = true
same_plain float64 float64 = true
same_plain (timestamp u z) (timestamp v y) = same_unit u v && same_option same_text z y
same_plain date32 date32 = true
same_plain date64 date64 = true
same_plain (time32 u) (time32 v) = same_unit u v
same_plain (time64 u) (time64 v) = same_unit u v
same_plain (duration u) (duration v) = same_unit u v
same_plain (interval u) (interval v) = same_interval u v
same_plain binary binary = true
same_plain (fixed_binary n) (fixed_binary m) = nat_eq n m
same_plain large_binary large_binary = true
same_plain utf8 utf8 = true
same_plain large_utf8 large_utf8 = true
same_plain (decimal p s) (decimal q t) = nat_eq p q && nat_eq s t
same_plain (decimal256 p s) (decimal256 q t) = nat_eq p q && nat_eq s t
same_plain _ _ = false

-- Equality of types with one child, without the child.
abbrev pub same_single : Single → Single → Bool
same_single list list = true
same_single large_list large_list = true
same_single (fixed_list n) (fixed_list m) = nat_eq n m
same_single (entries s) (entries t) = same_bool s t
same_single _ _ = false

-- Equality of types with several children, without the children.
abbrev pub same_group : Group → Group → Bool
same_group structure structure = true
same_group (choice ids mode) (choice jds node) = same_option (pointwise int_eq) ids jds && same_mode mode node
same_group _ _ = false

abbrev mutual
  -- Equality of types.
  pub same_type : TypeTree → TypeTree → Bool
  same_type (plain p) (plain q) = same_plain p q
  same_type (single s f) (single t g) = same_single s t && same_field f g
  same_type (group s fs) (group t gs) = same_group s t && same_fields fs gs
  same_type (dictionary k t o) (dictionary l u p) = same_integer k l && (same_type t u && same_bool o p)
  same_type (extension n t d) (extension m u e) = same_text n m && (same_type t u && same_option same_text d e)
  same_type _ _ = false

  -- Equality of fields.
  pub same_field : FieldTree → FieldTree → Bool
  same_field (field n t o m) (field k u p l) = same_text n k && (same_type t u && (same_bool o p && same_pairs m l))

  -- Equality of lists of fields.
  pub same_fields : FieldTrees → FieldTrees → Bool
  same_fields no_fields no_fields = true
  same_fields (more_fields f fs) (more_fields g gs) = same_field f g && same_fields fs gs
  same_fields _ _ = false
