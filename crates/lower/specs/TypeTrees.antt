-- The type of a column as a tree without pointers: two types are the same
-- exactly if their trees are equal.
-- (Arrow columnar format, "Data Types".)
use Rattle.std.specs.Prelude.{ℕ, ℤ, Bool, List, Option}
use Rattle.lower.specs.declared.datatypes.IntegerType.{IntegerType}
use Rattle.lower.specs.declared.datatypes.TimeUnit.{TimeUnit}
use Rattle.lower.specs.declared.datatypes.IntervalUnit.{IntervalUnit}
use Rattle.lower.specs.declared.datatypes.UnionMode.{UnionMode}

-- Metadata: pairs of texts, in the order of their keys.
abbrev pub Pairs : Type 0
Pairs = List (List ℕ × List ℕ)

-- A type without fields and other types in it.
pub data Plain : Type 0 where
  null : Plain
  boolean : Plain
  int8 : Plain
  int16 : Plain
  int32 : Plain
  int64 : Plain
  uint8 : Plain
  uint16 : Plain
  uint32 : Plain
  uint64 : Plain
  float16 : Plain
  float32 : Plain
  float64 : Plain
  timestamp : TimeUnit → Option (List ℕ) → Plain
  date32 : Plain
  date64 : Plain
  time32 : TimeUnit → Plain
  time64 : TimeUnit → Plain
  duration : TimeUnit → Plain
  interval : IntervalUnit → Plain
  binary : Plain
  fixed_binary : ℕ → Plain
  large_binary : Plain
  utf8 : Plain
  large_utf8 : Plain
  decimal : ℕ → ℕ → Plain
  decimal256 : ℕ → ℕ → Plain

-- A type of one child: a list, a large list, a list of so many slots, or a
-- map whose keys are sorted or not.
pub data Single : Type 0 where
  list : Single
  large_list : Single
  fixed_list : ℕ → Single
  entries : Bool → Single

-- A type of several children: a struct, or a union with its type ids and mode.
pub data Group : Type 0 where
  structure : Group
  choice : Option (List ℤ) → UnionMode → Group

mutual
  -- The type of a column.
  pub data TypeTree : Type 0 where
    plain : Plain → TypeTree
    single : Single → FieldTree → TypeTree
    group : Group → FieldTrees → TypeTree
    dictionary : IntegerType → TypeTree → Bool → TypeTree
    extension : List ℕ → TypeTree → Option (List ℕ) → TypeTree

  -- A field: its name, its type, whether it is nullable, and its metadata.
  pub data FieldTree : Type 0 where
    field : List ℕ → TypeTree → Bool → Pairs → FieldTree

  -- The fields of a schema or of a type, in order.
  pub data FieldTrees : Type 0 where
    no_fields : FieldTrees
    more_fields : FieldTree → FieldTrees → FieldTrees
