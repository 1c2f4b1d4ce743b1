-- The slots of a child that a list has are within it.
use Rattle.std.proofs.Common.{arith, ◌≡◌, ℕ, ◌+◌, ◌-◌, ◌*◌, ◌<◌, ◌≤◌, List, length}
use Rattle.std.specs.Prelude.{slice_index}
use Rattle.lower.specs.Offsets.{IsOffsets}
use Rattle.lower_flat_arrays.specs.Spans.{span_count}
use Rattle.lower_flat_arrays.proofs.SpanPlaces.{offset_next, offset_last}
use Rattle.lower_arrays.specs.Layouts.{Layouts, layouts, no_layouts, more_layouts, Layout, len_of}
use Rattle.lower_arrays.specs.Children.{AllHave, AllReach}
use Rattle.lower_validation.specs.ListTypes.{last_offset}
use Rattle.lower_arrays.specs.Slots.{ItemsFit, IsArray}
use Rattle.lower_arrays.specs.Lists.{ListSeen, list_layout}
use Rattle.lower_arrays.specs.Maps.{MapSeen, map_layout}
use Rattle.lower_arrays.specs.FixedLists.{FixedListSeen, fixed_list_layout}
use Rattle.lower_arrays.specs.Structs.{StructSeen, struct_layout}
use Rattle.lower_arrays.proofs.CutRules.{sizes_within, have-reach}

pub list_next : (a : ListSeen) (i : ℕ) → IsArray (list_layout a) → i < span_count a.offsets → slice_index a.offsets i ≤ slice_index a.offsets (i + 1)
list_next a i is h = offset_next a.offsets i is.1.2.offsets h

pub list_within : (a : ListSeen) (i : ℕ) → IsArray (list_layout a) → i < span_count a.offsets → slice_index a.offsets (i + 1) ≤ len_of a.child
list_within a i is h =
    let last = offset_last a.offsets (i + 1) is.1.2.offsets (omega (arith, h)) in
    let room = is.1.2.within.0 in
    omega (arith, last, room)

pub map_next : (a : MapSeen) (i : ℕ) → IsArray (map_layout a) → i < span_count a.offsets → slice_index a.offsets i ≤ slice_index a.offsets (i + 1)
map_next a i is h = offset_next a.offsets i is.1.3.offsets h

pub map_within : (a : MapSeen) (i : ℕ) → IsArray (map_layout a) → i < span_count a.offsets → slice_index a.offsets (i + 1) ≤ len_of a.child
map_within a i is h =
    let last = offset_last a.offsets (i + 1) is.1.3.offsets (omega (arith, h)) in
    let room = is.1.3.within.0 in
    omega (arith, last, room)

pub fixed_list_within : (a : FixedListSeen) (i : ℕ) → IsArray (fixed_list_layout a) → i < a.len → i * a.size + a.size ≤ len_of a.child
fixed_list_within a i is h =
    let all : i * a.size + 1 * a.size ≤ a.len * a.size = sizes_within i 1 a.len a.size (omega (arith, h)) in
    let whole = is.1.4.0 in
    omega (arith, all, whole)

pub record_within : (a : StructSeen) (i : ℕ) → IsArray (struct_layout a) → i < a.len → AllReach (i + 1) (layouts a.children)
record_within a i is h = have-reach (layouts a.children) (i + 1) a.len (omega (arith, h)) is.1.3

pub ruleset item_places = (list_next, list_within, map_next, map_within, fixed_list_within, record_within)
