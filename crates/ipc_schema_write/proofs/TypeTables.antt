-- The tables of types mean the types.
use Rattle.std.proofs.Common.{◌≡◌, ℕ, ℤ, pos, negsuc, Bool, List, get_or, map, Option, Some, None, String, Vec, Global, refl, ap, sym, subst, ◌∙◌, arith, SFits}
use Rattle.std.specs.Int.{w32}
use Rattle.std.specs.Option.{option_map}
use Rattle.ipc_model.specs.Columns.{IsUnionKind}
use Rattle.ipc_model.specs.Entries.{IsIndex}
use Rattle.std.proofs.lemmas.Int.{fits_signed_from_abs}
use Rattle.lower.specs.TypeTrees.{Plain, null, boolean, timestamp, time32, time64, duration, interval, binary, fixed_binary, large_binary, utf8, large_utf8, decimal, decimal256, list, large_list, fixed_list, entries, structure, choice}
use Rattle.lower.specs.TypeViews.{ids_of, text_of}
use Rattle.lower.specs.declared.datatypes.IntegerType.{IntegerType}
use Rattle.lower.specs.declared.datatypes.IntegerType.TheVariants.{Int8, Int16, Int32, Int64, UInt8, UInt16, UInt32, UInt64}
use Rattle.lower.specs.declared.datatypes.IntervalUnit.{IntervalUnit}
use Rattle.lower.specs.declared.datatypes.TimeUnit.{TimeUnit}
use Rattle.lower.specs.declared.datatypes.UnionMode.{UnionMode}
use Rattle.ipc_tables.specs.Slots.{kept32, kept_bytes32}
use Rattle.ipc_tables.specs.declared.types.FieldType.TheVariants.{Null, Int, Binary, Utf8, Bool as a_bool, Decimal, Date, Time, Timestamp, Interval, List as a_list, Struct, Union, FixedSizeBinary, FixedSizeList, Map, Duration, LargeBinary, LargeUtf8, LargeList}
use Rattle.ipc_tables.specs.declared.types.Int.{Int as int_table}
use Rattle.ipc_tables.specs.Weights.{ids_weight, zone_weight}
use Rattle.ipc_tables.proofs.Kept.{kept32-is, kept-ids}
use Rattle.ipc_table_views.specs.declared.types.DateUnit.{DateUnit}
use Rattle.ipc_table_views.specs.declared.types.DateUnit.TheVariants.{Day, Millisecond as day_millisecond}
use Rattle.ipc_table_views.specs.declared.types.TimeUnit.{TimeUnit as UnitTag}
use Rattle.ipc_table_views.specs.declared.types.TimeUnit.TheVariants.{Second, Millisecond, Microsecond, Nanosecond}
use Rattle.ipc_table_views.specs.declared.types.IntervalUnit.{IntervalUnit as IntervalTag}
use Rattle.ipc_table_views.specs.declared.types.UnionMode.{UnionMode as ModeTag}
use Rattle.ipc_model.specs.Schemas.{date_of, decimal_at, decimal_of, group_at, integer_at, integers, interval_of, mode_of, plain_at, single_at, time_of, unit_of}
use Rattle.ipc_model.specs.Writable.{IsShort, IsWritablePlain, group_weight, plain_weight, text_weight}
use Rattle.ipc_schema_write.specs.Meanings.{AreShortIds, IsGroupTable, IsKeysTable, IsPlainTable, IsSingleTable}

pub null-table : IsPlainTable Null null
unfolding plain_at
null-table = record { not_single = refl; not_group = refl; reads = λ s h. refl; weighs = refl }

pub bool-table : IsPlainTable a_bool boolean
unfolding plain_at
bool-table = record { not_single = refl; not_group = refl; reads = λ s h. refl; weighs = refl }

pub binary-table : IsPlainTable Binary binary
unfolding plain_at
binary-table = record { not_single = refl; not_group = refl; reads = λ s h. refl; weighs = refl }

pub large_binary-table : IsPlainTable LargeBinary large_binary
unfolding plain_at
large_binary-table = record { not_single = refl; not_group = refl; reads = λ s h. refl; weighs = refl }

pub utf8-table : IsPlainTable Utf8 utf8
unfolding plain_at
utf8-table = record { not_single = refl; not_group = refl; reads = λ s h. refl; weighs = refl }

pub large_utf8-table : IsPlainTable LargeUtf8 large_utf8
unfolding plain_at
large_utf8-table = record { not_single = refl; not_group = refl; reads = λ s h. refl; weighs = refl }

pub int-table : (i : int_table) (keys : IntegerType) → IsKeysTable i keys → IsPlainTable (Int i) (integers keys)
unfolding plain_at integer_at
int-table i keys h = record { not_single = refl; not_group = refl; reads = λ s held. rw (held.0, held.1, h) refl; weighs = weightless keys }
  where
    weightless : (keys : IntegerType) → 0 ≡ plain_weight (integers keys)
    weightless Int8 = refl
    weightless Int16 = refl
    weightless Int32 = refl
    weightless Int64 = refl
    weightless UInt8 = refl
    weightless UInt16 = refl
    weightless UInt32 = refl
    weightless UInt64 = refl

-- ---- sizes

pub short-kept : (n : ℕ) → IsShort n → kept32 (pos n) ≡ pos n
short-kept n h = kept32-is (pos n) (fits_signed_from_abs w32 (pos n) h)

-- ---- units

pub date-table : (u : DateUnit) → IsPlainTable (Date (record { unit = u })) (date_of u)
unfolding plain_at
date-table u = record { not_single = refl; not_group = refl; reads = λ s held. rw held refl; weighs = weightless u }
  where
    weightless : (u : DateUnit) → 0 ≡ plain_weight (date_of u)
    weightless Day = refl
    weightless day_millisecond = refl

-- A time whose unit its width allows.
time-table : (u : UnitTag) (width : ℤ) (p : Plain) → time_of u (kept32 width) ≡ Some p → plain_weight p ≡ 0 → IsPlainTable (Time (record { unit = u; bit_width = width })) p
unfolding plain_at
time-table u width p h light = record { not_single = refl; not_group = refl; reads = λ s held. rw (held.0, held.1) h; weighs = sym light }

time32-of : (u : UnitTag) → IsWritablePlain (time32 (unit_of u)) → time_of u (kept32 (pos 32)) ≡ Some (time32 (unit_of u))
time32-of Second w = refl
time32-of Millisecond w = refl
time32-of Microsecond w = absurd w
time32-of Nanosecond w = absurd w

pub time32-table : (u : UnitTag) (unit : TimeUnit) → unit_of u ≡ unit → IsWritablePlain (time32 unit) → IsPlainTable (Time (record { unit = u; bit_width = pos 32 })) (time32 unit)
time32-table u unit e w =
    let tagged = time32-of u (subst (λ x. IsWritablePlain (time32 x)) (sym e) w) in
    time-table u (pos 32) (time32 unit) (tagged ∙ ap (λ x. Some (time32 x)) e) refl

time64-of : (u : UnitTag) → IsWritablePlain (time64 (unit_of u)) → time_of u (kept32 (pos 64)) ≡ Some (time64 (unit_of u))
time64-of Second w = absurd w
time64-of Millisecond w = absurd w
time64-of Microsecond w = refl
time64-of Nanosecond w = refl

pub time64-table : (u : UnitTag) (unit : TimeUnit) → unit_of u ≡ unit → IsWritablePlain (time64 unit) → IsPlainTable (Time (record { unit = u; bit_width = pos 64 })) (time64 unit)
time64-table u unit e w =
    let tagged = time64-of u (subst (λ x. IsWritablePlain (time64 x)) (sym e) w) in
    time-table u (pos 64) (time64 unit) (tagged ∙ ap (λ x. Some (time64 x)) e) refl

zone-weighs : (zone : Option (String Global)) → zone_weight zone ≡ text_weight (text_of zone)
zone-weighs None = refl
zone-weighs (Some zone) = refl

pub timestamp-table : (u : UnitTag) (unit : TimeUnit) (zone : Option (String Global)) (text : Option (List ℕ)) → unit_of u ≡ unit → text_of zone ≡ text
    → IsPlainTable (Timestamp (record { unit = u; timezone = zone })) (timestamp unit text)
unfolding plain_at
timestamp-table u unit zone text e same = record { not_single = refl; not_group = refl; reads = λ s held. rw (held.0, held.1, e, same) refl; weighs = zone-weighs zone ∙ ap text_weight same }

pub interval-table : (u : IntervalTag) (unit : IntervalUnit) → interval_of u ≡ unit → IsPlainTable (Interval (record { unit = u })) (interval unit)
unfolding plain_at
interval-table u unit e = record { not_single = refl; not_group = refl; reads = λ s held. rw (held, e) refl; weighs = refl }

pub duration-table : (u : UnitTag) (unit : TimeUnit) → unit_of u ≡ unit → IsPlainTable (Duration (record { unit = u })) (duration unit)
unfolding plain_at
duration-table u unit e = record { not_single = refl; not_group = refl; reads = λ s held. rw (held, e) refl; weighs = refl }

pub fixed_binary-table : (z : ℤ) (n : ℕ) → z ≡ pos n → IsShort n → IsPlainTable (FixedSizeBinary (record { byte_width = z })) (fixed_binary n)
unfolding plain_at
fixed_binary-table z n e h = record { not_single = refl; not_group = refl; reads = λ s held. rw (held, e, short-kept n h) refl; weighs = refl }

decimal-table : (p s width : ℤ) (precision scale : ℕ) (x : Plain) → p ≡ pos precision → s ≡ pos scale → IsShort precision → IsShort scale → decimal_of precision scale (kept32 width) ≡ Some x → plain_weight x ≡ 0
    → IsPlainTable (Decimal (record { precision = p; scale = s; bit_width = width })) x
unfolding plain_at decimal_at
decimal-table p s width precision scale x e f g h is light = record {
  not_single = refl;
  not_group = refl;
  reads = λ t held.
      let p_is = ap kept32 e ∙ short-kept precision g in
      let s_is = ap kept32 f ∙ short-kept scale h in
      rw (held.0, p_is, held.1, s_is, held.2) is;
  weighs = sym light;
}

pub decimal128-table : (p s : ℤ) (precision scale : ℕ) → p ≡ pos precision → s ≡ pos scale → IsShort precision → IsShort scale → IsPlainTable (Decimal (record { precision = p; scale = s; bit_width = pos 128 })) (decimal precision scale)
decimal128-table p s precision scale e f g h = decimal-table p s (pos 128) precision scale (decimal precision scale) e f g h refl refl

pub decimal256-table : (p s : ℤ) (precision scale : ℕ) → p ≡ pos precision → s ≡ pos scale → IsShort precision → IsShort scale → IsPlainTable (Decimal (record { precision = p; scale = s; bit_width = pos 256 })) (decimal256 precision scale)
decimal256-table p s precision scale e f g h = decimal-table p s (pos 256) precision scale (decimal256 precision scale) e f g h refl refl

-- ---- types with children

pub list-table : IsSingleTable a_list list
unfolding single_at
list-table = record { is_single = refl; reads = λ s h. refl; weighs = refl }

pub large_list-table : IsSingleTable LargeList large_list
unfolding single_at
large_list-table = record { is_single = refl; reads = λ s h. refl; weighs = refl }

pub fixed_list-table : (z : ℤ) (n : ℕ) → z ≡ pos n → IsShort n → IsSingleTable (FixedSizeList (record { list_size = z })) (fixed_list n)
unfolding single_at
fixed_list-table z n e h = record { is_single = refl; reads = λ s held. rw (held, e, short-kept n h) refl; weighs = refl }

pub map-table : (sorted : Bool) → IsSingleTable (Map (record { keys_sorted = sorted })) (entries sorted)
unfolding single_at
map-table sorted = record { is_single = refl; reads = λ s held. rw held refl; weighs = refl }

pub struct-table : IsGroupTable Struct structure
unfolding group_at
struct-table = record { not_single = refl; is_group = refl; reads = λ s h. refl; weighs = refl }

index-fits : (z : ℤ) → IsIndex z 127 → SFits w32 z
index-fits (pos n) h = fits_signed_from_abs w32 (pos n) (omega (arith, h))
index-fits (negsuc n) h = absurd h

pub union-short : (type_ids : Option (List ℤ)) (n : ℕ) → IsUnionKind type_ids n → AreShortIds type_ids
union-short None n h = tt
union-short (Some ids) n h = h.distinct.2

ids-kept : (type_ids : Option (Vec ℤ Global)) → AreShortIds (ids_of type_ids) → option_map (λ v. map kept_bytes32 v.items) type_ids ≡ ids_of type_ids
ids-kept None h = refl
ids-kept (Some v) h = ap Some (kept-ids v.items (λ k d inside. index-fits (get_or v.items k d) (h k d inside)))

ids-weigh : (type_ids : Option (Vec ℤ Global)) (mode : UnionMode) → ids_weight type_ids ≡ group_weight (choice (ids_of type_ids) mode)
ids-weigh None mode = refl
ids-weigh (Some v) mode = refl

pub union-table : (m : ModeTag) (mode : UnionMode) (type_ids : Option (Vec ℤ Global)) (given : Option (List ℤ)) → mode_of m ≡ mode → ids_of type_ids ≡ given → AreShortIds given
    → IsGroupTable (Union (record { mode = m; type_ids = type_ids })) (choice given mode)
unfolding group_at
union-table m mode type_ids given e same fits = record {
  not_single = refl;
  is_group = refl;
  reads = λ s held. rw (held.0, held.1, ids-kept type_ids (subst AreShortIds (sym same) fits), e, same) refl;
  weighs = ids-weigh type_ids mode ∙ ap (λ g. group_weight (choice g mode)) same;
}
