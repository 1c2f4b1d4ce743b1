-- What parts of null slots must be.
-- (Arrow columnar format, "Physical Memory Layout".)
use Rattle.std.specs.Prelude.{◌≡◌, ℕ, ℤ, pos, ◌^◌, ◌≤◌, List, [], ◌∷◌, Bool, true, false, Option, Some, None, length, replicate}
use Rattle.lower.specs.TypeTrees.{float16, float32, float64, fixed_binary, Single, list, large_list, TypeTree, plain, FieldTree, FieldTrees}
use Rattle.lower.specs.Physical.{integer}
use Rattle.lower.specs.declared.datatypes.IntegerType.{IntegerType}
use Rattle.lower.specs.declared.datatypes.UnionMode.{UnionMode}
use Rattle.lower.specs.declared.datatypes.UnionMode.TheVariants.{Dense, Sparse}
use Rattle.lower.specs.declared.datatypes.physical_type.PhysicalType.{PhysicalType}
use Rattle.lower.specs.declared.datatypes.physical_type.PhysicalType.TheVariants.{Null, Boolean, Primitive, Binary, LargeBinary, Utf8, LargeUtf8}
use Rattle.lower_types.specs.declared.PrimitiveType.{PrimitiveType}
use Rattle.lower_types.specs.declared.PrimitiveType.TheVariants.{Float16, Float32, Float64}
use Rattle.lower_flat_arrays.specs.Primitives.{PrimitiveSeen}
use Rattle.lower_flat_arrays.specs.Spans.{SpansSeen, span_count}
use Rattle.lower_arrays.specs.Layouts.{Layout}
use Rattle.lower_validation.specs.Fields.{field_type}
use Rattle.lower_validation.specs.Keys.{KeysSeen}
use Rattle.lower_nulls.specs.Nulls.{AreNulls, AllHaveArrays, fields_room}
use Rattle.lower_nulls.specs.declared.error.NullError.{NullError}
use Rattle.lower_nulls.specs.declared.error.NullError.TheVariants.{Memory, DataType, Length}

-- The type of lists, which are large or not.
abbrev pub list_form : Bool → Single
list_form true = large_list
list_form false = list

-- A type without children and without a fixed number of bytes, and no float.
abbrev pub IsSimple : TypeTree → Type 0
IsSimple (plain float16) = ⊥
IsSimple (plain float32) = ⊥
IsSimple (plain float64) = ⊥
IsSimple (plain (fixed_binary size)) = ⊥
IsSimple (plain p) = Unit {0}
IsSimple _ = ⊥

-- Numbers that are no floats.
abbrev pub IsExact : PrimitiveType → Type 0
IsExact Float16 = ⊥
IsExact Float32 = ⊥
IsExact Float64 = ⊥
IsExact _ = Unit {0}

-- The layout of such a type.
abbrev pub IsSimpleLayout : PhysicalType → Type 0
IsSimpleLayout Null = Unit {0}
IsSimpleLayout Boolean = Unit {0}
IsSimpleLayout (Primitive p) = IsExact p
IsSimpleLayout Binary = Unit {0}
IsSimpleLayout LargeBinary = Unit {0}
IsSimpleLayout Utf8 = Unit {0}
IsSimpleLayout LargeUtf8 = Unit {0}
IsSimpleLayout _ = ⊥

-- n numbers of a type, all null.
pub record AreNullNumbers {T : Type 0} (t : TypeTree) (n : ℕ) (a : PrimitiveSeen T) : Type 0 where
  pub type : a.type ≡ t
  pub count : length a.values ≡ n
  pub bits : a.validity ≡ Some (replicate n false)

-- n byte strings or texts of a type, all null.
pub record AreNullSpans (t : TypeTree) (n : ℕ) (a : SpansSeen) : Type 0 where
  pub type : a.type ≡ t
  pub count : span_count a.offsets ≡ n
  pub bits : a.validity ≡ Some (replicate n false)

-- n keys of a type, all null.
pub record AreNullKeys (key : IntegerType) (n : ℕ) (a : KeysSeen) : Type 0 where
  pub key_is : a.key ≡ key
  pub type : a.type ≡ plain (integer key)
  pub count : length a.integers ≡ n
  pub bits : a.validity ≡ Some (replicate n false)

-- Offsets that are all 0; a sparse union has none.
abbrev pub zero_places : UnionMode → ℕ → Option (List ℤ)
zero_places Dense n = Some (replicate n (pos 0))
zero_places Sparse n = None

-- n null slots of each field.
abbrev pub AllNulls : List FieldTree → ℕ → List Layout → Type 0
AllNulls [] n [] = Unit {0}
AllNulls (f ∷ fs) n (c ∷ cs) = AreNulls (field_type f) n c × AllNulls fs n cs
AllNulls _ n _ = ⊥

-- Why some field has no n null slots.
abbrev pub NoneOfAll : FieldTrees → ℕ → NullError → Type 0
NoneOfAll fs n Memory = Unit {0}
NoneOfAll fs n DataType = ¬ (AllHaveArrays fs)
NoneOfAll fs n Length = 2 ^ 64 ≤ fields_room n fs
