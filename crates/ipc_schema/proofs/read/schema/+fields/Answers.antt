use Rattle.std.proofs.Common.{◌≡◌, ◌∙◌, ◌+◌, ◌-◌, suc, ap, sym, rules, arith, Some}
use Rattle.std.proofs.lemmas.Result.{err_from_is_err_and}
use Rattle.std.specs.Prelude.{string_bytes}
use Rattle.std.specs.Option.{option_map}
use Rattle.lower.specs.TypeTrees.{list, large_list, fixed_list, entries, structure, choice}
use Rattle.lower.specs.TypeViews.{pairs_of, field_view, fields_view, ids_of}
use Rattle.ipc_base.specs.IdTrees.{all_ids_view, ids_view}
use Rattle.ipc_table_views.specs.SchemaSlots.{field_children}
use Rattle.ipc_table_views.specs.Tables.{table_in}
use Rattle.ipc_table_views.specs.Unions.{type_parts}
use Rattle.ipc_model.specs.Schemas.{Read, field_at, field_with, fields_from, first_field, present, some_fields, single_at, group_at, size_of}
use Rattle.ipc_schema.specs.Views.{below_number, encoding_seen, type_seen}
use Rattle.ipc_model.proofs.FieldLists.{count-and, fields-more}
use Rattle.ipc_model.proofs.Given.{made-some}
use Rattle.ipc_schema.proofs.FieldLists.{view-push, ids-push}
use Rattle.ipc_schema.proofs.FieldSteps.{refuses-weaker, slot-made, slot-present, field-is, no-dictionary, level-down, below-with, one-and-below, mapped-within, one-child, several, no-first, no-table, present-read, too-many}
use Rattle.ipc_schema.proofs.TypeShapes.{view-List, view-LargeList, view-FixedSizeList, view-Map, view-Struct, view-Union}
use Rattle.ipc_schema.proofs.read.schema.+fields.Goals as goal

pub deserialize_field-returns-in_err-encoding-clause-meaning : goal.deserialize_field-returns-in_err-encoding-clause-meaning
deserialize_field-returns-in_err-encoding-clause-meaning t c =
    let p = err_from_is_err_and c.from_residual-in_err-encoding.result c.from_residual-in_err-encoding.ensures.1 in
    let n = c.args.levels in
    let nulls = slot-made _ _ _ c.nullable.ensures c.in_ok-is_nullable.ensures in
    rw (p.1, p.2) (refuses-weaker c.in_err-encoding.field-0.0 _ _
    (λ none. rw (level-down n c.args.field.now (omega (arith, c.if-levels-eq0.false))
    ∙ no-dictionary (λ s. field_at (n - 1) s) c.args.field.now _ _ _ c.in_ok-name.ensures nulls c.in_ok-metadata.ensures none) tt) c.in_err-encoding.ensures)

pub deserialize_field-returns-in_err-seen-clause-meaning : goal.deserialize_field-returns-in_err-seen-clause-meaning
deserialize_field-returns-in_err-seen-clause-meaning t c =
    let p = err_from_is_err_and c.from_residual-in_err-seen.result c.from_residual-in_err-seen.ensures.1 in
    let n = c.args.levels in
    let nulls = slot-made _ _ _ c.nullable.ensures c.in_ok-is_nullable.ensures in
    let typed = slot-present type_parts c.type_.result _ c.in_ok-type_.field-0 c.in-Some.type_ c.type_.ensures c.in_ok-type_.ensures c.in-Some.is in
    let is = level-down n c.args.field.now (omega (arith, c.if-levels-eq0.false))
    ∙ field-is (λ s. field_at (n - 1) s) c.args.field.now _ _ _ _ _ c.in_ok-name.ensures nulls c.in_ok-metadata.ensures c.in_ok-encoding.ensures typed in
    rw (p.1, p.2) (refuses-weaker c.in_err-seen.field-0.0 _ _
    (λ few. rw is (mapped-within (string_bytes c.in_ok-name.name) c.in_ok-is_nullable.is_nullable (pairs_of c.in_ok-metadata.metadata.entries) (option_map encoding_seen c.in_ok-encoding.encoding) _ c.args.most c.args.visits.now few)) c.in_err-seen.ensures.meaning)

pub deserialize_field-returns-clause-meaning : goal.deserialize_field-returns-clause-meaning
deserialize_field-returns-clause-meaning t c =
    let n = c.args.levels in
    let nulls = slot-made _ _ _ c.nullable.ensures c.in_ok-is_nullable.ensures in
    let typed = slot-present type_parts c.type_.result _ c.in_ok-type_.field-0 c.in-Some.type_ c.type_.ensures c.in_ok-type_.ensures c.in-Some.is in
    let is = level-down n c.args.field.now (omega (arith, c.if-levels-eq0.false))
    ∙ field-is (λ s. field_at (n - 1) s) c.args.field.now _ _ _ _ _ c.in_ok-name.ensures nulls c.in_ok-metadata.ensures c.in_ok-encoding.ensures typed in
    let count = below-with (string_bytes c.in_ok-name.name) c.in_ok-is_nullable.is_nullable (pairs_of c.in_ok-metadata.metadata.entries) (option_map encoding_seen c.in_ok-encoding.encoding) (type_seen c.in_ok-seen.seen) in
    let same = ap (λ (x : Read). below_number x) c.in_ok-read.ensures in
    let taken = c.in_ok-seen.ensures.meaning.1 in (
      is ∙ ap (λ o. option_map (field_with (string_bytes c.in_ok-name.name) c.in_ok-is_nullable.is_nullable (pairs_of c.in_ok-metadata.metadata.entries) (option_map encoding_seen c.in_ok-encoding.encoding)) o) c.in_ok-seen.ensures.meaning.0
          ∙ ap (λ x. Some x) (sym c.in_ok-read.ensures),
      omega (arith, taken, count, same),
    )

pub deserialize_child-returns-in_err-table-clause-meaning : goal.deserialize_child-returns-in_err-table-clause-meaning
deserialize_child-returns-in_err-table-clause-meaning t c =
    let p = err_from_is_err_and c.from_residual-in_err-table.result c.from_residual-in_err-table.ensures.1 in
    let there = present-read c.children.result (field_children c.args.field.now) c.in_ok-tables.field-0 c.in-Some.tables c.children.ensures c.in_ok-tables.ensures c.in-Some.is in
    rw (p.1, p.2) (refuses-weaker c.in_err-table.field-0.0 _ _
    (no-first (present (field_children c.args.field.now)) (λ s. field_at c.args.levels s) c.in-Some.tables c.args.most c.args.visits.now there) c.in_err-table.ensures.meaning)

pub deserialize_fields-returns-in_err-table-clause-meaning : goal.deserialize_fields-returns-in_err-table-clause-meaning
deserialize_fields-returns-in_err-table-clause-meaning t c =
    let p = err_from_is_err_and c.from_residual.result c.from_residual.ensures.1 in
    rw (p.1, p.2) (refuses-weaker c.in_err-table.field-0.0 _ _
    (no-table (λ s. field_at c.args.levels s) c.args.tables.now c.loop-i.i c.args.tables.now.count _ c.args.most c.args.visits.now c.loop-i.visits c.loop-i.invariant.0
    (omega (arith, c.loop-i-test.true, c.len-i-end.ensures)) c.loop-i.invariant.1) c.in_err-table.ensures.meaning)

pub deserialize_fields-returns-in_err-field-clause-meaning : goal.deserialize_fields-returns-in_err-field-clause-meaning
deserialize_fields-returns-in_err-field-clause-meaning t c =
    let p = err_from_is_err_and c.from_residual-in_err-field.result c.from_residual-in_err-field.ensures.1 in
    let led = made-some _ _ c.in_ok-table.ensures.meaning.0 in
    rw (p.1, p.2) (refuses-weaker c.in_err-field.field-0.0 _ _
    (too-many (λ s. field_at c.args.levels s) c.args.tables.now c.loop-i.i c.args.tables.now.count _ c.in_ok-table.table c.args.most c.args.visits.now c.loop-i.visits _ c.loop-i.invariant.0 led
    (omega (arith, c.loop-i-test.true, c.len-i-end.ensures)) c.loop-i.invariant.1 c.in_ok-table.ensures.meaning.1) c.in_err-field.ensures.meaning)

pub deserialize_fields-loop-i-preserved : goal.deserialize_fields-loop-i-preserved
deserialize_fields-loop-i-preserved t c =
    let v = c.args.tables.now in
    let i = c.loop-i.i in
    let fs = c.loop-i.fields.items in
    let is = c.loop-i.ipc_fields.items in
    let x = c.in_ok-field.field in
    let y = c.in_ok-field.ipc_field in
    let led = made-some _ _ c.in_ok-table.ensures.meaning.0 in
    let start : 0 + i ≡ i = omega arith in
    let more = fields-more (λ s. field_at c.args.levels s) v 0 i (fields_view fs, all_ids_view is) c.in_ok-table.table (field_view x, ids_view y) c.loop-i.invariant.0 (ap (table_in v) start ∙ led) c.in_ok-field.ensures.meaning.0 in
    let count = count-and (fields_view fs) (field_view x) in
    let opened = c.in_ok-table.ensures.meaning.1 in
    let taken = c.in_ok-field.ensures.meaning.1 in
    let before = c.loop-i.invariant.1 in
    let whole = one-and-below (field_view x) in
    let within = c.in_ok-field.ensures.within.1 in
    let one : i + 1 ≡ suc i = omega arith in
    rw (c.in_ok-push.ensures.items, c.in_ok-push-2.ensures.items, view-push fs x, ids-push is y) (
      ap (λ n. fields_from (λ s. field_at c.args.levels s) v 0 n) one ∙ more,
      omega (arith, opened, taken, before, count, whole),
      within,
    )

pub deserialize_type-returns-in_ok-child-in-List-clause-meaning : goal.deserialize_type-returns-in_ok-child-in-List-clause-meaning
unfolding single_at
deserialize_type-returns-in_ok-child-in-List-clause-meaning t c =
    let child = one-child (present (field_children c.args.field.now)) (first_field (λ s. field_at c.args.levels s)) list _ c.in_ok-child-in-List.ensures.meaning.0 in
    rw (c.in-List.is, view-List c.in_ok-child-in-List.child) (child, c.in_ok-child-in-List.ensures.meaning.1)

pub deserialize_type-returns-in_ok-child-in-LargeList-clause-meaning : goal.deserialize_type-returns-in_ok-child-in-LargeList-clause-meaning
unfolding single_at
deserialize_type-returns-in_ok-child-in-LargeList-clause-meaning t c =
    let child = one-child (present (field_children c.args.field.now)) (first_field (λ s. field_at c.args.levels s)) large_list _ c.in_ok-child-in-LargeList.ensures.meaning.0 in
    rw (c.in-LargeList.is, view-LargeList c.in_ok-child-in-LargeList.child) (child, c.in_ok-child-in-LargeList.ensures.meaning.1)

pub deserialize_type-returns-in_ok-child-in-FixedSizeList-clause-meaning : goal.deserialize_type-returns-in_ok-child-in-FixedSizeList-clause-meaning
unfolding single_at
deserialize_type-returns-in_ok-child-in-FixedSizeList-clause-meaning t c =
    let child = one-child (present (field_children c.args.field.now)) (first_field (λ s. field_at c.args.levels s)) (fixed_list c.in_ok-size-in-FixedSizeList.size) _ c.in_ok-child-in-FixedSizeList.ensures.meaning.0 in
    let slot = slot-made _ _ _ c.list_size.ensures c.in_ok-in_schema-in-FixedSizeList.ensures in
    let size : size_of c.in_ok-in_schema-in-FixedSizeList.field-0 ≡ Some c.in_ok-size-in-FixedSizeList.size = search rules in
    rw (c.in-FixedSizeList.is, view-FixedSizeList c.in_ok-child-in-FixedSizeList.child c.in_ok-size-in-FixedSizeList.size, slot, size) (child, c.in_ok-child-in-FixedSizeList.ensures.meaning.1)

pub deserialize_type-returns-in_ok-child-in-Map-clause-meaning : goal.deserialize_type-returns-in_ok-child-in-Map-clause-meaning
unfolding single_at
deserialize_type-returns-in_ok-child-in-Map-clause-meaning t c =
    let child = one-child (present (field_children c.args.field.now)) (first_field (λ s. field_at c.args.levels s)) (entries c.in_ok-is_sorted-in-Map.is_sorted) _ c.in_ok-child-in-Map.ensures.meaning.0 in
    let slot = slot-made _ _ _ c.keys_sorted.ensures c.in_ok-is_sorted-in-Map.ensures in
    rw (c.in-Map.is, view-Map c.in_ok-child-in-Map.child c.in_ok-is_sorted-in-Map.is_sorted, slot) (child, c.in_ok-child-in-Map.ensures.meaning.1)

pub deserialize_type-returns-in_ok-fields-in-Struct-clause-meaning : goal.deserialize_type-returns-in_ok-fields-in-Struct-clause-meaning
unfolding group_at
deserialize_type-returns-in_ok-fields-in-Struct-clause-meaning t c =
    let fields = several (present (field_children c.args.field.now)) (some_fields (λ s. field_at c.args.levels s)) structure _ c.in_ok-fields-in-Struct.ensures.meaning.0 in
    rw (c.in-Struct.is, view-Struct c.in_ok-fields-in-Struct.fields) (fields, c.in_ok-fields-in-Struct.ensures.meaning.1)

pub deserialize_type-returns-in_ok-fields-in-Union-clause-meaning : goal.deserialize_type-returns-in_ok-fields-in-Union-clause-meaning
unfolding group_at
deserialize_type-returns-in_ok-fields-in-Union-clause-meaning t c =
    let type_ids = c.in_ok-type_ids-in-Union.type_ids in
    let mode = c.union_mode-mode.result in
    let slot = slot-made _ _ _ c.mode.ensures c.in_ok-in_schema-in-Union.ensures in
    let fields = several (present (field_children c.args.field.now)) (some_fields (λ s. field_at c.args.levels s)) (choice (ids_of type_ids) mode) _ c.in_ok-fields-in-Union.ensures.meaning.0 in
    rw (c.in-Union.is, view-Union c.in_ok-fields-in-Union.fields type_ids mode, slot, c.in_ok-type_ids-in-Union.ensures, ← c.union_mode-mode.ensures) (fields, c.in_ok-fields-in-Union.ensures.meaning.1)
