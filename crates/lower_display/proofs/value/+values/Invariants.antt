use Rattle.std.proofs.Common.{◌≡◌, ◌*◌, ◌+◌, ◌-◌, ℕ, List, ◌++◌, drop, map}
use Rattle.std.specs.Fmt.{HasWritten, IsPlainFormatter}
use Rattle.lower.specs.TypeViews.{type_view, fields_view}
use Rattle.lower_arrays.specs.AnyLayouts.{layout_of}
use Rattle.lower_arrays.specs.Layouts.{layouts, height, heights}
use Rattle.lower_arrays.specs.Slots.{slots_of, slots_from, slot_at}
use Rattle.lower_arrays.specs.Values.{value_height, record_slots}
use Rattle.lower_display.specs.Texts.{items_text, members_text}
use Rattle.lower_display.proofs.value.+values.Given as goal

abbrev pub decreases-write_value : goal.decreases-write_value
decreases-write_value g l = 6 * value_height l.value + 4

abbrev pub decreases-write_nested : goal.decreases-write_nested
decreases-write_nested g l = 6 * heights (layouts (map layout_of l.children.now)) + 3

abbrev pub decreases-write_list : goal.decreases-write_list
decreases-write_list g l = 6 * heights (layouts (map layout_of l.children.now)) + 2

abbrev pub decreases-write_record : goal.decreases-write_record
decreases-write_record g l = 6 * heights (layouts (map layout_of l.children.now)) + 2

abbrev pub decreases-write_variant : goal.decreases-write_variant
decreases-write_variant g l = 6 * heights (layouts (map layout_of l.children.now)) + 2

abbrev pub decreases-write_members : goal.decreases-write_members
decreases-write_members g l = 6 * heights (layouts (map layout_of l.children.now)) + 1

abbrev pub decreases-write_items : goal.decreases-write_items
decreases-write_items g l = 6 * height (layout_of l.array.now) + 5

abbrev pub decreases-write_slot : goal.decreases-write_slot
decreases-write_slot g l = 6 * height (layout_of l.array.now) + 5

-- what is written so far, and the text of the other items, are the whole text
abbrev pub invariant-write_items-loop-index : goal.invariant-write_items-loop-index
invariant-write_items-loop-index g l =
    IsPlainFormatter l.initial.f → (done : List ℕ) × HasWritten g.W.Write.write_str_gives l.initial.f done l.f
    × (done ++ items_text (type_view l.kind.data_type.now) l.null l.index (slots_of (slots_from (slot_at (layout_of l.array)) (l.start + l.index) (l.len - l.index)))
    ≡ items_text (type_view l.kind.data_type.now) l.null 0 (slots_of (slots_from (slot_at (layout_of l.array)) l.start l.len)))

abbrev pub invariant-write_members-loop-index : goal.invariant-write_members-loop-index
invariant-write_members-loop-index g l =
    IsPlainFormatter l.initial.f → (done : List ℕ) × HasWritten g.W.Write.write_str_gives l.initial.f done l.f
    × (done ++ members_text (fields_view (drop l.index l.fields)) l.null l.index (slots_of (record_slots (drop l.index l.children) l.place))
    ≡ members_text (fields_view l.fields) l.null 0 (slots_of (record_slots l.children l.place)))
