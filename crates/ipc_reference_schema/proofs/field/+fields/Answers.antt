use Rattle.std.proofs.Common.{◌≡◌, ◌∙◌, ◌+◌, ◌-◌, ◌<◌, suc, ap, sym, subst, arith, Some, None, inl, inr}
use Rattle.std.specs.Prelude.{IsSomeAnd, string_bytes}
use Rattle.std.specs.Option.{option_map}
use Rattle.lower.specs.TypeViews.{pairs_of}
use Rattle.ipc_table_views.specs.SchemaSlots.{field_children, field_type}
use Rattle.ipc_table_views.specs.Tables.{table_in}
use Rattle.ipc_table_views.specs.Spot.{Spot}
use Rattle.ipc_table_views.specs.Unions.{type_parts}
use Rattle.ipc_model.specs.Schemas.{Read, field_at, field_with, fields_from, first_field, given, present, some_fields, type_of_field}
use Rattle.ipc_reference_schema.specs.Heads.{head_at}
use Rattle.ipc_reference_schema.specs.PlainTypes.{field_view, fields_view, type_view}
use Rattle.ipc_reference_schema.specs.Sights.{IsSeen, Sees, read_count, read_other, reads_count, reads_other, type_count, type_other}
use Rattle.ipc_model.proofs.FieldLists.{fields-more}
use Rattle.ipc_model.proofs.Given.{if-some}
use Rattle.ipc_reference_schema.proofs.FieldLists.{if-none, if-ok, no-table, some-and, too-many}
use Rattle.ipc_reference_schema.proofs.FieldSteps.{field-is, group-form, no-head, no-level, no-type, present-map, single-form, some-field}
use Rattle.ipc_reference_schema.proofs.field.+fields.Goals as goal

pub field_at-returns-then-levels-eq0 : goal.field_at-returns-then-levels-eq0
field_at-returns-then-levels-eq0 t c =
    elim c.then-levels-eq0.either [
      | inl none ↦ if-none _ _ (no-level c.args.levels c.args.field.now none)
      | inr p ↦ if-some (field_at c.args.levels c.args.field.now) (λ (y : Read). c.args.left < read_count y) (λ y _. omega (arith, p.1, some-field y.0))
    ]

pub field_at-returns-in_default : goal.field_at-returns-in_default
field_at-returns-in_default t c =
    let none : head_at c.args.field.now ≡ None = rw c.in_default.is at c.in_ok-head.ensures in
    if-none _ _ (no-head c.args.levels c.args.field.now (omega (arith, c.if-levels-eq0.false)) none)

pub field_at-returns-in_default-present : goal.field_at-returns-in_default-present
field_at-returns-in_default-present t c =
    let slot = present-map type_parts c.type_.result _ c.present.result c.type_.ensures c.present.ensures in
    let none : present (field_type c.args.field.now) ≡ None = slot ∙ ap (option_map type_parts) c.in_default-present.is in
    if-none _ _ (no-type c.args.levels c.args.field.now (omega (arith, c.if-levels-eq0.false)) none)

pub field_at-returns : goal.field_at-returns
field_at-returns t c =
    let n = c.args.levels in
    let s = c.args.field.now in
    let p = c.in-Some.head in
    let read = λ (s : Spot). field_at (n - 1) s in
    let told = type_parts c.in-Some-present.type_ in
    let (h, headed, is) = some-and _ _ (rw c.in-Some.is at c.in_ok-head.ensures) in
    let slot = present-map type_parts c.type_.result _ c.present.result c.type_.ensures c.present.ensures in
    let typed : present (field_type s) ≡ Some told = slot ∙ ap (option_map type_parts) c.in-Some-present.is in
    let same = field-is n s p h told (omega (arith, c.if-levels-eq0.false)) headed is typed in
    let one : c.args.left - 1 + 1 ≡ c.args.left = omega (arith, c.if-left-eq0.false) in
    let meaning = option_map (field_with (string_bytes p.name) p.is_nullable (pairs_of p.metadata.entries) h.encoding) (type_of_field read s told) in
    let seen = c.field_with.ensures h.encoding (type_of_field read s told) (c.args.left - 1) is.encoding c.in_ok-type_.ensures in
    subst (λ m. Sees field_view read_other read_count c.args.left c.field_with.result m) (sym same)
    (subst (λ k. Sees field_view read_other read_count k c.field_with.result meaning) one seen)

pub fields_from-returns-in_default : goal.fields_from-returns-in_default
fields_from-returns-in_default t c =
    let v = c.args.tables.now in
    let (before, first, seen) = some-and _ _ c.loop-i.invariant in
    no-table (λ (s : Spot). field_at c.args.levels s) v c.loop-i.i v.count before c.in_default.field-0 _ first (sym c.get.ensures ∙ c.in_default.is)
    (omega (arith, c.loop-i-test.true, c.len-i-end.ensures))

pub fields_from-returns-in_default-2 : goal.fields_from-returns-in_default-2
fields_from-returns-in_default-2 t c =
    let v = c.args.tables.now in
    let (before, first, seen) = some-and _ _ c.loop-i.invariant in
    too-many (λ (s : Spot). field_at c.args.levels s) v c.loop-i.i v.count before c.in-Ok.table c.args.left c.loop-i.fields.left first (sym c.get.ensures ∙ c.in-Ok.is)
    (omega (arith, c.loop-i-test.true, c.len-i-end.ensures)) seen.1 (rw c.in_default-2.is at c.in_ok-field.ensures)

pub fields_from-loop-i-preserved : goal.fields_from-loop-i-preserved
fields_from-loop-i-preserved t c =
    let v = c.args.tables.now in
    let read = λ (s : Spot). field_at c.args.levels s in
    let (before, first, seen) = some-and _ _ c.loop-i.invariant in
    let (x, is, one) = some-and _ _ (rw c.in-Some.is at c.in_ok-field.ensures) in
    let start : 0 + c.loop-i.i ≡ c.loop-i.i = omega arith in
    let more = fields-more read v 0 c.loop-i.i before c.in-Ok.table x first (ap (table_in v) start ∙ sym c.get.ensures ∙ c.in-Ok.is) is in
    let next : suc c.loop-i.i ≡ c.loop-i.i + 1 = omega arith in
    subst (λ o. IsSomeAnd o (IsSeen (λ v. fields_view v.items) reads_other reads_count c.args.left c.in_ok-fields.fields)) (sym more ∙ ap (fields_from read v 0) next)
    (c.in_ok-fields.ensures before x c.args.left seen one)

pub type_of_field-returns-in_ok-child-in-Some-Single : goal.type_of_field-returns-in_ok-child-in-Some-Single
type_of_field-returns-in_ok-child-in-Some-Single t c =
    let read = λ (s : Spot). field_at c.args.levels s in
    let told = sym (c.in-Some-Single.is ∙ ap (λ x. Some x) c.in-Some-Single.field-0-is) ∙ c.shape_at.ensures in
    let (s, is, same) = single-form read c.args.field.now (type_parts c.args.type_.now) c.in-Some-Single.single told in
    if-ok c.with_child.result _ _
    (λ r h. subst (λ m. Sees type_view type_other type_count c.args.left r m) (sym same)
    (h s (given (present (field_children c.args.field.now)) (first_field read)) c.args.left is c.in_ok-child-in-Some-Single.ensures))
    c.with_child.ensures

pub type_of_field-returns-in_ok-children-in-Some-Group : goal.type_of_field-returns-in_ok-children-in-Some-Group
type_of_field-returns-in_ok-children-in-Some-Group t c =
    let read = λ (s : Spot). field_at c.args.levels s in
    let told = sym (c.in-Some-Group.is ∙ ap (λ x. Some x) c.in-Some-Group.field-0-is) ∙ c.shape_at.ensures in
    let (g, is, same) = group-form read c.args.field.now (type_parts c.args.type_.now) c.in-Some-Group.group told in
    subst (λ m. Sees type_view type_other type_count c.args.left c.with_children.result m) (sym same)
    (c.with_children.ensures g (given (present (field_children c.args.field.now)) (some_fields read)) c.args.left is c.in_ok-children-in-Some-Group.ensures)
