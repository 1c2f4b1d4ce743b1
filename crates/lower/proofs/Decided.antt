-- `==` of two types says whether they mean the same.
use Rattle.std.proofs.Common.{◌≡◌, ℕ, ℤ, List as Items, [], ◌∷◌, Bool, true, false, ◌&&◌, nat_eq, Option, Some, None, option_map, String, Vec, Global, string_bytes, refl, sym, ap, ◌∙◌, Decides}
use Rattle.std.proofs.lemmas.Bool.{and_parts}
use Rattle.std.specs.Cmp.Lexicographic.{pointwise}
use Rattle.std.specs.Ordering.{int_eq}
use Rattle.lower.specs.TypeTrees.{null, boolean, int8, int16, int32, int64, uint8, uint16, uint32, uint64, float16, float32, float64, timestamp, date32, date64, time32, time64, duration, interval, binary, fixed_binary, large_binary, utf8, large_utf8, decimal, decimal256, list, large_list, fixed_list, entries, structure, choice, TypeTree, plain, single, group, dictionary, extension, FieldTree, field, FieldTrees, no_fields, more_fields}
use Rattle.lower.specs.TypeViews.{type_step, field_step, type_view, field_view, fields_view, schema_view, pairs_of, ids_of}
use Rattle.lower.specs.Same.{same_unit, same_interval, same_mode, same_integer, same_text, same_bool, same_option, same_pairs, same_type, same_field, same_fields}
use Rattle.lower.specs.declared.datatypes.DataType.{DataType, Row_of-Field, end_of-Field, more_of-Field, Null, Boolean, Int8, Int16, Int32, Int64, UInt8, UInt16, UInt32, UInt64, Float16, Float32, Float64, Timestamp, Date32, Date64, Time32, Time64, Duration, Interval, Binary, FixedSizeBinary, LargeBinary, Utf8, LargeUtf8, List', FixedSizeList', LargeList', Struct', Union', Map', Dictionary', Extension', Decimal, Decimal256, items-the_row-Field, items_shown-the_row-Field-0}
use Rattle.lower.specs.declared.datatypes.Field.{Field}
use Rattle.lower.specs.declared.datatypes.DataType.TheViews.{out-DataType}
use Rattle.lower.specs.declared.datatypes.DataType.TheFolds.{fold_out-DataType, fold_out-Field}
use Rattle.lower.proofs.Same.{type-sound, type-refl, field-sound, field-refl, fields-sound, fields-refl, pairs-sound, pairs-refl}
use Rattle.lower.specs.declared.datatypes.IntegerType.{IntegerType}
use Rattle.lower.specs.declared.datatypes.IntegerType.TheVariants as Ints
use Rattle.lower.specs.declared.datatypes.TimeUnit.{TimeUnit}
use Rattle.lower.specs.declared.datatypes.TimeUnit.TheVariants.{Second, Millisecond, Microsecond, Nanosecond}
use Rattle.lower.specs.declared.datatypes.IntervalUnit.{IntervalUnit}
use Rattle.lower.specs.declared.datatypes.IntervalUnit.TheVariants.{YearMonth, DayTime, MonthDayNano}
use Rattle.lower.specs.declared.datatypes.UnionMode.{UnionMode}
use Rattle.lower.specs.declared.datatypes.UnionMode.TheVariants.{Dense, Sparse}
use Rattle.lower.specs.contracts.datatypes.DataTypePartialEq.TheImpl as TypeEq
use Rattle.lower.specs.contracts.datatypes.DataTypePartialEq.TheImpl.Laws.{is}
use Rattle.lower.specs.contracts.datatypes.DataTypePartialEq.TheImpl.Laws.{local, family}
use Rattle.lower.specs.contracts.datatypes.FieldPartialEq.TheImpl as FieldEq
use Rattle.lower.specs.contracts.datatypes.schema.SchemaPartialEq.TheImpl as SchemaEq
use Rattle.lower.specs.declared.datatypes.schema.Schema.{Schema}
use Rattle.lower.specs.contracts.datatypes.TimeUnitPartialEq.TheImpl as UnitEq
use Rattle.lower.specs.contracts.datatypes.IntervalUnitPartialEq.TheImpl as IntervalEq
use Rattle.lower.specs.contracts.datatypes.UnionModePartialEq.TheImpl as ModeEq
use Rattle.lower.specs.contracts.datatypes.IntegerTypePartialEq.TheImpl as IntegerEq
use Rattle.lower.specs.declared.datatypes.DataType.TheBlock.{the_members, member-Field, the_sigs, the_carrier, the_depth}
use Rattle.std.specs.Option.{option_eq}
use mathlib.Core.Bool.{beq as bool_eq}
use Rattle.std.specs.String.{string_eq}
use denote.Hole.Compared.{compared_is}
use denote.Hole.Carrier.{Values}
use denote.Hole.Carrier.{out}

abbrev text_of : Option (String Global) → Option (Items ℕ)
text_of s = option_map (λ x. string_bytes x) s

abbrev mutual
  -- What a type means, by recursion.
  direct : DataType → TypeTree
  direct Null = plain null
  direct Boolean = plain boolean
  direct Int8 = plain int8
  direct Int16 = plain int16
  direct Int32 = plain int32
  direct Int64 = plain int64
  direct UInt8 = plain uint8
  direct UInt16 = plain uint16
  direct UInt32 = plain uint32
  direct UInt64 = plain uint64
  direct Float16 = plain float16
  direct Float32 = plain float32
  direct Float64 = plain float64
  direct (Timestamp u zone) = plain (timestamp u (text_of zone))
  direct Date32 = plain date32
  direct Date64 = plain date64
  direct (Time32 u) = plain (time32 u)
  direct (Time64 u) = plain (time64 u)
  direct (Duration u) = plain (duration u)
  direct (Interval u) = plain (interval u)
  direct Binary = plain binary
  direct (FixedSizeBinary n) = plain (fixed_binary n)
  direct LargeBinary = plain large_binary
  direct Utf8 = plain utf8
  direct LargeUtf8 = plain large_utf8
  direct (List' _ name t nullable metadata) = single list (field (string_bytes name) (direct t) nullable (pairs_of metadata.entries))
  direct (FixedSizeList' _ name t nullable metadata n) = single (fixed_list n) (field (string_bytes name) (direct t) nullable (pairs_of metadata.entries))
  direct (LargeList' _ name t nullable metadata) = single large_list (field (string_bytes name) (direct t) nullable (pairs_of metadata.entries))
  direct (Struct' _ fs) = group structure (row_direct fs)
  direct (Union' _ fs ids mode) = group (choice (ids_of ids) mode) (row_direct fs)
  direct (Map' _ name t nullable metadata sorted) = single (entries sorted) (field (string_bytes name) (direct t) nullable (pairs_of metadata.entries))
  direct (Dictionary' keys _ t ordered) = dictionary keys (direct t) ordered
  direct (Extension' name _ t text) = extension (string_bytes name) (direct t) (text_of text)
  direct (Decimal p s) = plain (decimal p s)
  direct (Decimal256 p s) = plain (decimal256 p s)

  row_direct : {n : _} → Row_of-Field n → FieldTrees
  row_direct end_of-Field = no_fields
  row_direct (more_of-Field name t nullable metadata rest) = more_fields (field (string_bytes name) (direct t) nullable (pairs_of metadata.entries)) (row_direct rest)

unit_is : (u v : TimeUnit) → UnitEq.ghosts.eq u v ≡ same_unit u v
unit_is Second Second = refl
unit_is Second Millisecond = refl
unit_is Second Microsecond = refl
unit_is Second Nanosecond = refl
unit_is Millisecond Second = refl
unit_is Millisecond Millisecond = refl
unit_is Millisecond Microsecond = refl
unit_is Millisecond Nanosecond = refl
unit_is Microsecond Second = refl
unit_is Microsecond Millisecond = refl
unit_is Microsecond Microsecond = refl
unit_is Microsecond Nanosecond = refl
unit_is Nanosecond Second = refl
unit_is Nanosecond Millisecond = refl
unit_is Nanosecond Microsecond = refl
unit_is Nanosecond Nanosecond = refl

interval_is : (u v : IntervalUnit) → IntervalEq.ghosts.eq u v ≡ same_interval u v
interval_is YearMonth YearMonth = refl
interval_is YearMonth DayTime = refl
interval_is YearMonth MonthDayNano = refl
interval_is DayTime YearMonth = refl
interval_is DayTime DayTime = refl
interval_is DayTime MonthDayNano = refl
interval_is MonthDayNano YearMonth = refl
interval_is MonthDayNano DayTime = refl
interval_is MonthDayNano MonthDayNano = refl

mode_is : (u v : UnionMode) → ModeEq.ghosts.eq u v ≡ same_mode u v
mode_is Dense Dense = refl
mode_is Dense Sparse = refl
mode_is Sparse Dense = refl
mode_is Sparse Sparse = refl

integer_is : (u v : IntegerType) → IntegerEq.ghosts.eq u v ≡ same_integer u v
integer_is Ints.Int8 Ints.Int8 = refl
integer_is Ints.Int8 Ints.Int16 = refl
integer_is Ints.Int8 Ints.Int32 = refl
integer_is Ints.Int8 Ints.Int64 = refl
integer_is Ints.Int8 Ints.UInt8 = refl
integer_is Ints.Int8 Ints.UInt16 = refl
integer_is Ints.Int8 Ints.UInt32 = refl
integer_is Ints.Int8 Ints.UInt64 = refl
integer_is Ints.Int16 Ints.Int8 = refl
integer_is Ints.Int16 Ints.Int16 = refl
integer_is Ints.Int16 Ints.Int32 = refl
integer_is Ints.Int16 Ints.Int64 = refl
integer_is Ints.Int16 Ints.UInt8 = refl
integer_is Ints.Int16 Ints.UInt16 = refl
integer_is Ints.Int16 Ints.UInt32 = refl
integer_is Ints.Int16 Ints.UInt64 = refl
integer_is Ints.Int32 Ints.Int8 = refl
integer_is Ints.Int32 Ints.Int16 = refl
integer_is Ints.Int32 Ints.Int32 = refl
integer_is Ints.Int32 Ints.Int64 = refl
integer_is Ints.Int32 Ints.UInt8 = refl
integer_is Ints.Int32 Ints.UInt16 = refl
integer_is Ints.Int32 Ints.UInt32 = refl
integer_is Ints.Int32 Ints.UInt64 = refl
integer_is Ints.Int64 Ints.Int8 = refl
integer_is Ints.Int64 Ints.Int16 = refl
integer_is Ints.Int64 Ints.Int32 = refl
integer_is Ints.Int64 Ints.Int64 = refl
integer_is Ints.Int64 Ints.UInt8 = refl
integer_is Ints.Int64 Ints.UInt16 = refl
integer_is Ints.Int64 Ints.UInt32 = refl
integer_is Ints.Int64 Ints.UInt64 = refl
integer_is Ints.UInt8 Ints.Int8 = refl
integer_is Ints.UInt8 Ints.Int16 = refl
integer_is Ints.UInt8 Ints.Int32 = refl
integer_is Ints.UInt8 Ints.Int64 = refl
integer_is Ints.UInt8 Ints.UInt8 = refl
integer_is Ints.UInt8 Ints.UInt16 = refl
integer_is Ints.UInt8 Ints.UInt32 = refl
integer_is Ints.UInt8 Ints.UInt64 = refl
integer_is Ints.UInt16 Ints.Int8 = refl
integer_is Ints.UInt16 Ints.Int16 = refl
integer_is Ints.UInt16 Ints.Int32 = refl
integer_is Ints.UInt16 Ints.Int64 = refl
integer_is Ints.UInt16 Ints.UInt8 = refl
integer_is Ints.UInt16 Ints.UInt16 = refl
integer_is Ints.UInt16 Ints.UInt32 = refl
integer_is Ints.UInt16 Ints.UInt64 = refl
integer_is Ints.UInt32 Ints.Int8 = refl
integer_is Ints.UInt32 Ints.Int16 = refl
integer_is Ints.UInt32 Ints.Int32 = refl
integer_is Ints.UInt32 Ints.Int64 = refl
integer_is Ints.UInt32 Ints.UInt8 = refl
integer_is Ints.UInt32 Ints.UInt16 = refl
integer_is Ints.UInt32 Ints.UInt32 = refl
integer_is Ints.UInt32 Ints.UInt64 = refl
integer_is Ints.UInt64 Ints.Int8 = refl
integer_is Ints.UInt64 Ints.Int16 = refl
integer_is Ints.UInt64 Ints.Int32 = refl
integer_is Ints.UInt64 Ints.Int64 = refl
integer_is Ints.UInt64 Ints.UInt8 = refl
integer_is Ints.UInt64 Ints.UInt16 = refl
integer_is Ints.UInt64 Ints.UInt32 = refl
integer_is Ints.UInt64 Ints.UInt64 = refl

texts_is : (x y : Option (String Global)) → option_eq string_eq x y ≡ same_option same_text (text_of x) (text_of y)
texts_is None None = refl
texts_is None (Some y) = refl
texts_is (Some x) None = refl
texts_is (Some x) (Some y) = refl

ids_is : (x y : Option (Vec ℤ Global)) → option_eq (λ v w. pointwise int_eq v.items w.items) x y ≡ same_option (pointwise int_eq) (ids_of x) (ids_of y)
ids_is None None = refl
ids_is None (Some y) = refl
ids_is (Some x) None = refl
ids_is (Some x) (Some y) = refl

bool_is : (x y : Bool) → bool_eq x y ≡ same_bool x y
bool_is true true = refl
bool_is true false = refl
bool_is false true = refl
bool_is false false = refl

abbrev Entry : Type 0
Entry = String Global × String Global

pairs_is : (xs ys : Items Entry) → pointwise (λ p q. string_eq p.0 q.0 && string_eq p.1 q.1) xs ys ≡ same_pairs (pairs_of xs) (pairs_of ys)
pairs_is [] [] = refl
pairs_is [] (y ∷ ys) = refl
pairs_is (x ∷ xs) [] = refl
pairs_is (x ∷ xs) (y ∷ ys) = ap (λ b. (string_eq x.0 y.0 && string_eq x.1 y.1) && b) (pairs_is xs ys)

abbrev field_direct : Field → FieldTree
field_direct f = field (string_bytes f.name) (direct f.data_type) f.is_nullable (pairs_of f.metadata.entries)

abbrev eq_type : DataType → DataType → Bool
eq_type = TypeEq.ghosts.eq

abbrev eq_field : Field → Field → Bool
eq_field = family member-Field

field_step_is : (f g : Field) → eq_field f g ≡ TypeEq.the_step family member-Field f g
field_step_is = compared_is the_members (Values the_members the_sigs the_carrier) the_depth Bool true TypeEq.the_step local member-Field

field_is : (f g : Field) → eq_type f.data_type g.data_type ≡ same_type (direct f.data_type) (direct g.data_type) → eq_field f g ≡ same_field (field_direct f) (field_direct g)
field_is f g ih = field_step_is f g ∙ rw (ih, bool_is f.is_nullable g.is_nullable, pairs_is f.metadata.entries g.metadata.entries)

ap2 : {a b c d : Bool} → a ≡ b → c ≡ d → (a && c) ≡ (b && d)
ap2 e f = λ i. e i && f i

and_comm : (a b : Bool) → (a && b) ≡ (b && a)
and_comm true true = refl
and_comm true false = refl
and_comm false true = refl
and_comm false false = refl

mutual
  unfolding out-DataType out

  eq_is : (a b : DataType) → eq_type a b ≡ same_type (direct a) (direct b)
  eq_is Null Null = is Null Null
  eq_is Boolean Boolean = is Boolean Boolean
  eq_is Int8 Int8 = is Int8 Int8
  eq_is Int16 Int16 = is Int16 Int16
  eq_is Int32 Int32 = is Int32 Int32
  eq_is Int64 Int64 = is Int64 Int64
  eq_is UInt8 UInt8 = is UInt8 UInt8
  eq_is UInt16 UInt16 = is UInt16 UInt16
  eq_is UInt32 UInt32 = is UInt32 UInt32
  eq_is UInt64 UInt64 = is UInt64 UInt64
  eq_is Float16 Float16 = is Float16 Float16
  eq_is Float32 Float32 = is Float32 Float32
  eq_is Float64 Float64 = is Float64 Float64
  eq_is Date32 Date32 = is Date32 Date32
  eq_is Date64 Date64 = is Date64 Date64
  eq_is Binary Binary = is Binary Binary
  eq_is LargeBinary LargeBinary = is LargeBinary LargeBinary
  eq_is Utf8 Utf8 = is Utf8 Utf8
  eq_is LargeUtf8 LargeUtf8 = is LargeUtf8 LargeUtf8
  eq_is (FixedSizeBinary n) (FixedSizeBinary m) = is (FixedSizeBinary n) (FixedSizeBinary m)
  eq_is (Decimal p s) (Decimal q t) = is (Decimal p s) (Decimal q t)
  eq_is (Decimal256 p s) (Decimal256 q t) = is (Decimal256 p s) (Decimal256 q t)
  eq_is (Timestamp u x) (Timestamp v y) = is (Timestamp u x) (Timestamp v y) ∙ rw (unit_is u v, texts_is x y)
  eq_is (Time32 u) (Time32 v) = is (Time32 u) (Time32 v) ∙ unit_is u v
  eq_is (Time64 u) (Time64 v) = is (Time64 u) (Time64 v) ∙ unit_is u v
  eq_is (Duration u) (Duration v) = is (Duration u) (Duration v) ∙ unit_is u v
  eq_is (Interval u) (Interval v) = is (Interval u) (Interval v) ∙ interval_is u v
  eq_is (List' p n t o m) (List' q k u r l) = is (List' p n t o m) (List' q k u r l) ∙ field_is _ _ (eq_is t u)
  eq_is (LargeList' p n t o m) (LargeList' q k u r l) = is (LargeList' p n t o m) (LargeList' q k u r l) ∙ field_is _ _ (eq_is t u)
  eq_is (FixedSizeList' p n t o m i) (FixedSizeList' q k u r l j) =
      is (FixedSizeList' p n t o m i) (FixedSizeList' q k u r l j) ∙ and_comm _ (nat_eq i j) ∙ ap (λ b. nat_eq i j && b) (field_is _ _ (eq_is t u))
  eq_is (Map' p n t o m i) (Map' q k u r l j) = is (Map' p n t o m i) (Map' q k u r l j) ∙ and_comm _ (bool_eq i j) ∙ ap (λ b. bool_eq i j && b) (field_is _ _ (eq_is t u)) ∙ rw (bool_is i j)
  eq_is (Struct' s fs) (Struct' t gs) =
      is (Struct' s fs) (Struct' t gs) ∙ rw (items_shown-the_row-Field-0 s fs, items_shown-the_row-Field-0 t gs) (rows_is _ _ fs gs)
  eq_is (Union' s fs i m) (Union' t gs j n) =
      is (Union' s fs i m) (Union' t gs j n) ∙ rw (items_shown-the_row-Field-0 s fs, items_shown-the_row-Field-0 t gs, rows_is _ _ fs gs, ids_is i j, mode_is m n) (and_comm (same_fields (row_direct fs) (row_direct gs)) (same_option (pointwise int_eq) (ids_of i) (ids_of j) && same_mode m n))
  eq_is (Dictionary' k p t o) (Dictionary' l q u r) = is (Dictionary' k p t o) (Dictionary' l q u r) ∙ rw (integer_is k l, eq_is t u, bool_is o r)
  eq_is (Extension' n p t d) (Extension' m q u e) = is (Extension' n p t d) (Extension' m q u e) ∙ rw (eq_is t u, texts_is d e)
  eq_is a b = is a b

  rows_is : (n m : _) (fs : Row_of-Field n) (gs : Row_of-Field m) → pointwise eq_field (items-the_row-Field n fs) (items-the_row-Field m gs) ≡ same_fields (row_direct fs) (row_direct gs)
  rows_is n m end_of-Field end_of-Field = refl
  rows_is n m end_of-Field (more_of-Field k u r l gs) = refl
  rows_is n m (more_of-Field k u r l fs) end_of-Field = refl
  rows_is n m (more_of-Field i t o e fs) (more_of-Field k u r l gs) = ap2 (field_is _ _ (eq_is t u)) (rows_is _ _ fs gs)

field_bridge : (f : Field) → type_view f.data_type ≡ direct f.data_type → field_view f ≡ field_direct f
field_bridge f ih = fold_out-Field TypeTree FieldTree type_step field_step f ∙ ap (λ t. field (string_bytes f.name) t f.is_nullable (pairs_of f.metadata.entries)) ih

mutual
  unfolding out-DataType out

  bridge : (a : DataType) → type_view a ≡ direct a
  bridge (List' p n t o m) = fold_out-DataType TypeTree FieldTree type_step field_step (List' p n t o m) ∙ ap (single list) (field_bridge _ (bridge t))
  bridge (LargeList' p n t o m) = fold_out-DataType TypeTree FieldTree type_step field_step (LargeList' p n t o m) ∙ ap (single large_list) (field_bridge _ (bridge t))
  bridge (FixedSizeList' p n t o m i) = fold_out-DataType TypeTree FieldTree type_step field_step (FixedSizeList' p n t o m i) ∙ ap (single (fixed_list i)) (field_bridge _ (bridge t))
  bridge (Map' p n t o m i) = fold_out-DataType TypeTree FieldTree type_step field_step (Map' p n t o m i) ∙ ap (single (entries i)) (field_bridge _ (bridge t))
  bridge (Struct' s fs) = fold_out-DataType TypeTree FieldTree type_step field_step (Struct' s fs) ∙ ap (group structure) (ap fields_view (items_shown-the_row-Field-0 s fs) ∙ bridge_row _ fs)
  bridge (Union' s fs i m) = fold_out-DataType TypeTree FieldTree type_step field_step (Union' s fs i m) ∙ ap (group (choice (ids_of i) m)) (ap fields_view (items_shown-the_row-Field-0 s fs) ∙ bridge_row _ fs)
  bridge (Dictionary' k p t o) = fold_out-DataType TypeTree FieldTree type_step field_step (Dictionary' k p t o) ∙ ap (λ u. dictionary k u o) (bridge t)
  bridge (Extension' n p t d) = fold_out-DataType TypeTree FieldTree type_step field_step (Extension' n p t d) ∙ ap (λ u. extension (string_bytes n) u (text_of d)) (bridge t)
  bridge a = fold_out-DataType TypeTree FieldTree type_step field_step a

  bridge_row : (n : _) (fs : Row_of-Field n) → fields_view (items-the_row-Field n fs) ≡ row_direct fs
  bridge_row n end_of-Field = refl
  bridge_row n (more_of-Field i t o e fs) = λ x. more_fields (field_bridge (record { name = i; data_type = t; is_nullable = o; metadata = e }) (bridge t) x) (bridge_row _ fs x)

-- The result of `==`.
pub eq_same : (a b : DataType) → eq_type a b ≡ same_type (type_view a) (type_view b)
eq_same a b = eq_is a b ∙ rw (bridge a, bridge b)

pub eq_decides : (a b : DataType) → Decides (eq_type a b) (type_view a ≡ type_view b)
eq_decides a b = (λ h. type-sound _ _ (sym (eq_same a b) ∙ h), λ e. eq_same a b ∙ ap (λ t. same_type t (type_view b)) e ∙ type-refl (type_view b))

pub field_eq_same : (f g : Field) → FieldEq.ghosts.eq f g ≡ same_field (field_view f) (field_view g)
field_eq_same f g =
    let h : FieldEq.ghosts.eq f g ≡ same_field (field_direct f) (field_direct g) = field_is f g (eq_is f.data_type g.data_type) in
    h ∙ rw (field_bridge f (bridge f.data_type), field_bridge g (bridge g.data_type))

pub field_eq_decides : (f g : Field) → Decides (FieldEq.ghosts.eq f g) (field_view f ≡ field_view g)
field_eq_decides f g = (λ h. field-sound _ _ (sym (field_eq_same f g) ∙ h), λ e. field_eq_same f g ∙ ap (λ t. same_field t (field_view g)) e ∙ field-refl (field_view g))

fields_eq_same : (fs gs : Items Field) → pointwise FieldEq.ghosts.eq fs gs ≡ same_fields (fields_view fs) (fields_view gs)
fields_eq_same [] [] = refl
fields_eq_same [] (g ∷ gs) = refl
fields_eq_same (f ∷ fs) [] = refl
fields_eq_same (f ∷ fs) (g ∷ gs) = ap2 (field_eq_same f g) (fields_eq_same fs gs)

schema_eq_same : (a b : Schema) → SchemaEq.ghosts.eq a b ≡ (same_fields (fields_view a.fields.items) (fields_view b.fields.items) && same_pairs (pairs_of a.metadata.entries) (pairs_of b.metadata.entries))
schema_eq_same a b = ap2 (fields_eq_same a.fields.items b.fields.items) (pairs_is a.metadata.entries b.metadata.entries)

pub schema_eq_decides : (a b : Schema) → Decides (SchemaEq.ghosts.eq a b) (schema_view a ≡ schema_view b)
schema_eq_decides a b =
    let fields = same_fields (fields_view a.fields.items) (fields_view b.fields.items) in
    let pairs = same_pairs (pairs_of a.metadata.entries) (pairs_of b.metadata.entries) in (
      (λ h.
          let parts = and_parts fields pairs (sym (schema_eq_same a b) ∙ h) in
          let f = fields-sound (fields_view a.fields.items) (fields_view b.fields.items) parts.0 in
          let p = pairs-sound (pairs_of a.metadata.entries) (pairs_of b.metadata.entries) parts.1 in
          λ i. (f i, p i)),
      (λ e.
          schema_eq_same a b
          ∙ ap2
          (ap (λ v. same_fields v.0 (fields_view b.fields.items)) e ∙ fields-refl (fields_view b.fields.items))
          (ap (λ v. same_pairs v.1 (pairs_of b.metadata.entries)) e ∙ pairs-refl (pairs_of b.metadata.entries))),
    )
