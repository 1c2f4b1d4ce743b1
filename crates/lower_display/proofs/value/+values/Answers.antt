use Rattle.std.proofs.Common.{rules, arith, ap, refl, [], ◌≡◌, ◌∙◌, to_z, of_z}
use Rattle.std.proofs.Output.{has_written_append, has_written_of_eq}
use Rattle.std.specs.Int.{w8}
use Rattle.lower.specs.TypeViews.{type_view}
use Rattle.lower_arrays.specs.Slots.{slots_of, slot_at}
use Rattle.lower_arrays.specs.AnyLayouts.{layout_of}
use Rattle.lower_arrays.specs.Values.{scalar_number, record_slots}
use Rattle.lower_display.specs.Numbers.{form_text, form_scale, integer_shown, type_scale}
use Rattle.lower_display.specs.Texts.{slot_text, variant_type, shown_type}
use Rattle.lower_display.proofs.Forms.{number_same}
use Rattle.lower_display.proofs.Items.{items_begin, items_more, items_end, members_more, members_end, past_one, list_text, record_text, variant_text}
use Rattle.lower_display.proofs.value.+values.Goals as goal

-- the form of a kind gives what its type gives
pub write_value-returns-in-Number : goal.write_value-returns-in-Number
write_value-returns-in-Number g t c =
    let kind = c.args.kind in
    let tree = type_view kind.data_type.now in
    let same = number_same (form_text kind.form) (integer_shown tree) (form_scale kind.form) (type_scale tree) (scalar_number c.in-Number.number) kind.is_form kind.is_scale in
    rw c.in-Number.is (λ plain ok. has_written_of_eq _ _ _ _ _ same (c.write_number.ensures plain ok))

pub write_items-loop-index-init : goal.write_items-loop-index-init
write_items-loop-index-init g t c = λ plain.
    ([], search rules, items_begin (slot_at (layout_of c.args.array.now)) (type_view c.args.kind.data_type.now) c.args.null.now c.args.start c.args.len)

pub write_items-loop-index-preserved : goal.write_items-loop-index-preserved
write_items-loop-index-preserved g t c = λ plain.
    let (done, wrote, left) = c.loop-index.invariant plain in
    let one = c.write_str.ensures.writes wrote.plain (search rules) in
    let two = c.write_value.ensures one.plain (search rules) in
    let item = has_written_of_eq _ _ _ _ _ (ap (slot_text (type_view c.args.kind.data_type.now) c.args.null.now) c.value_at.ensures.slot) two in (
      _,
      has_written_append _ _ _ _ _ _ (has_written_append _ _ _ _ _ _ wrote one) item,
      items_more (slot_at (layout_of c.args.array.now)) (type_view c.args.kind.data_type.now) c.args.null.now c.args.start c.args.len c.loop-index.index done _ c.comma.result.now (omega arith) c.comma.ensures left,
    )

pub write_items-returns : goal.write_items-returns
write_items-returns g t c plain ok =
    let (done, wrote, left) = c.loop-index.invariant plain in
    has_written_of_eq _ _ _ _ _
    (items_end (slot_at (layout_of c.args.array.now)) (type_view c.args.kind.data_type.now) c.args.null.now c.args.start c.args.len c.loop-index.index done _ (omega arith) left)
    wrote

pub write_members-loop-index-init : goal.write_members-loop-index-init
write_members-loop-index-init g t c = λ plain. ([], search rules, refl)

pub write_members-loop-index-preserved : goal.write_members-loop-index-preserved
write_members-loop-index-preserved g t c = λ plain.
    let (done, wrote, left) = c.loop-index.invariant plain in
    let one = c.write_str.ensures.writes wrote.plain (search rules) in
    let two = has_written_of_eq _ _ _ _ _ c.as_str.ensures.value (c.write_str-in-loop-index.ensures.writes one.plain (search rules)) in
    let three = c.write_str-in-loop-index-2.ensures.writes two.plain (search rules) in
    let four = c.write_slot.ensures three.plain (search rules) in (
      _,
      has_written_append _ _ _ _ _ _ (has_written_append _ _ _ _ _ _ (has_written_append _ _ _ _ _ _ (has_written_append _ _ _ _ _ _ wrote one) two) three) four,
      members_more c.args.fields.now c.args.children.now c.args.null.now c.args.place c.loop-index.index _ _ done _ c.comma.result.now (omega arith) (omega arith) c.index-fields-index.is c.child_with.ensures.item c.comma.ensures left,
    )

pub write_members-returns : goal.write_members-returns
write_members-returns g t c plain ok =
    let (done, wrote, left) = c.loop-index.invariant plain in
    has_written_of_eq _ _ _ _ _
    (members_end c.args.fields.now c.args.children.now c.args.null.now c.args.place c.loop-index.index done _ (past_one _ _ _ (omega arith)) left)
    wrote

pub write_list-returns : goal.write_list-returns
write_list-returns g t c plain ok =
    let one = c.write_str.ensures.writes plain (search rules) in
    let two = c.write_items.ensures one.plain (search rules) in
    let three = c.write_str-2.ensures.writes two.plain ok in
    has_written_of_eq _ _ _ _ _
    (list_text (type_view c.args.data_type.now) _ c.args.null.now c.args.children.now c.child_with-child.result.now c.args.index c.args.len c.requires.1.1.1.0 c.child_with-child.ensures.item (c.kind_of.ensures ∙ c.item_type.ensures))
    (has_written_append _ _ _ _ _ _ one (has_written_append _ _ _ _ _ _ two three))

pub write_record-returns : goal.write_record-returns
write_record-returns g t c plain ok =
    let one = c.write_str.ensures.writes plain (search rules) in
    let two = c.write_members.ensures one.plain (search rules) in
    let three = c.write_str-2.ensures.writes two.plain ok in
    has_written_of_eq _ _ _ _ _
    (record_text (type_view c.args.data_type.now) _ c.args.null.now (slots_of (record_slots c.args.children.now c.args.index)) c.record_fields.ensures)
    (has_written_append _ _ _ _ _ _ one (has_written_append _ _ _ _ _ _ two three))

pub write_variant-returns : goal.write_variant-returns
write_variant-returns g t c plain ok =
    let id : to_z w8 (of_z w8 c.args.id) ≡ c.args.id = search rules in
    has_written_of_eq _ _ _ _ _
    (variant_text (type_view c.args.data_type.now) _ c.args.null.now c.args.children.now c.child_with-child.result.now c.args.index c.args.id c.requires.1.1.1.0 c.child_with-child.ensures.item (c.variant_type.ensures ∙ ap (variant_type (shown_type (type_view c.args.data_type.now))) id))
    (c.write_slot.ensures plain ok)

pub write_slot-returns : goal.write_slot-returns
write_slot-returns g t c plain ok =
    has_written_of_eq _ _ _ _ _ (λ i. slot_text (c.kind_of.ensures i) c.args.null.now (c.value_at.ensures.slot i)) (c.write_value.ensures plain ok)
