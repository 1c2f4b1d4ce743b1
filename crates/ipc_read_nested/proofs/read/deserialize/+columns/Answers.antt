use Rattle.std.proofs.Common.{arith, rules, Some, ◌≡◌, ℕ, ◌+◌, ◌≤◌, [], ◌∷◌, length, ap, sym, subst, ◌∙◌}
use Rattle.lower.specs.TypeViews.{type_view, field_view}
use Rattle.lower_validation.specs.AnyOffsets.{list_places, list_width}
use Rattle.lower_validation.specs.Fields.{child_fields, FieldTypes}
use Rattle.lower_arrays.specs.Layouts.{len_of, type_of}
use Rattle.lower_arrays.specs.AnyLayouts.{layout_of}
use Rattle.ipc_devices.proofs.Claims.{denies_through}
use Rattle.ipc_base.specs.IdTrees.{all_ids_view}
use Rattle.ipc_devices.specs.Faults.{Answers, OwnFault}
use Rattle.ipc_model.specs.Kinds.{Kind, list_kind}
use Rattle.ipc_model.specs.TypeKinds.{first_ids, field_kind, kind_of}
use Rattle.ipc_model.specs.Columns.{IsWell}
use Rattle.ipc_model.specs.ReadArrays.{array_at}
use Rattle.ipc_read_flat.specs.Bodies.{HasRoom, entries, known}
use Rattle.ipc_read_flat.specs.Kinds.{form_of}
use Rattle.ipc_read_flat.proofs.Fetches.{refused}
use Rattle.ipc_read_nested.proofs.ColumnLevels.{child_typed, list_len, list_well, list_array}
use Rattle.std.proofs.Common.{List, None, map, drop, ◌<◌}
use Rattle.std.proofs.lemmas.List.{map-append}
use Rattle.std.proofs.Math.ListN.{drop_of_length-le}
use Rattle.lower.specs.TypeTrees.{TypeTree, FieldTrees}
use Rattle.lower.specs.TypeViews.{fields_view}
use Rattle.lower.specs.declared.datatypes.DataType.{the_lemmas}
use Rattle.lower.specs.declared.datatypes.Field.{Field}
use Rattle.lower_validation.specs.Fields.{field_type}
use Rattle.lower_arrays.specs.Layouts.{Layout, Layouts, layouts}
use Rattle.lower_arrays.specs.Children.{ChildTypes, HasChild, AllHave}
use Rattle.ipc_base.specs.IdTrees.{IdTrees}
use Rattle.ipc_model.specs.Kinds.{Kinds, no_kinds, more_kinds, struct_kind}
use Rattle.ipc_model.specs.TypeKinds.{other_ids, kinds_of}
use Rattle.ipc_model.specs.Columns.{AllHaveRows}
use Rattle.ipc_model.specs.ReadArrays.{arrays_at}
use Rattle.ipc_read_flat.specs.Kinds.{IsBehind, listed_in, all_listed}
use Rattle.ipc_read_nested.specs.StructLevels.{HaveRows, SoFar}
use Rattle.ipc_model.proofs.ReadSlots.{array_len}
use Rattle.ipc_read_nested.proofs.StructReads.{extra_is, fields_left, kinds_left, left_more, so_more, one_of, so_end, arrays_typed, arrays_have, arrays_some}
use Rattle.std.proofs.Common.{◌*◌}
use Rattle.lower_validation.specs.Fields.{IsPair}
use Rattle.ipc_model.specs.Kinds.{map_kind, fixed_list_kind}
use Rattle.ipc_read_nested.proofs.LimitLevels.{limit_same}
use Rattle.ipc_read_nested.proofs.FixedReads.{fixed_child, fixed_typed, fixed_len, fixed_well, fixed_array}
use Rattle.ipc_read_nested.proofs.MapReads.{map_kind_is, map_typed, map_pair, map_len, map_well, map_array}
use Rattle.lower.specs.declared.datatypes.DataType.{DataType}
use Rattle.ipc_model.specs.Kinds.{offsets_32, offsets_64, extension_kind}
use Rattle.ipc_read_nested.proofs.VariantKinds.{list_kind_is, large_list_kind_is, fixed_list_kind_is, extension_kind_is}
use Rattle.ipc_read_nested.specs.UnionLevels.{AreWhole, WholeSoFar}
use Rattle.ipc_read_nested.proofs.WholeReads.{whole_one, whole_more, whole_end}
use Rattle.lower.specs.TypeViews.{ids_of}
use Rattle.lower.specs.declared.datatypes.UnionMode.{UnionMode}
use Rattle.lower.specs.declared.datatypes.UnionMode.TheVariants.{Sparse, Dense}
use Rattle.lower_types.specs.declared.PrimitiveType.TheVariants.{Int32}
use Rattle.lower_validation.specs.Ids.{union_ids}
use Rattle.lower_arrays.specs.Choices.{ChoicesFit}
use Rattle.ipc_model.specs.Kinds.{nodes, buffers, union_kind}
use Rattle.ipc_model.specs.Entries.{IsSize, node, Need, rows}
use Rattle.ipc_model.specs.Columns.{AllWell}
use Rattle.ipc_model.specs.ReadArrays.{integers_of}
use Rattle.ipc_read_nested.proofs.UnionReads.{union_kind_is, union_stored, union_types, sparse_children, dense_places, dense_children, sparse_rules, sparse_union, dense_rules, dense_union}
use Rattle.std.proofs.Common.{IfOk}
use Rattle.lower_arrays.specs.Held.{all_held}
use Rattle.ipc_read_flat.specs.HeldListed.{HoldsListed, all_most_held}
use Rattle.ipc_read_nested.proofs.HeldLevels.{list_held, map_held, sized_held, records_held, sparse_held, dense_held, one_more_held}
use Rattle.ipc_read_nested.proofs.read.deserialize.+columns.Goals as goal

pub read_list-returns-in_err-array-clause-memory : goal.read_list-returns-in_err-array-clause-memory
read_list-returns-in_err-array-clause-memory g t c = λ k.
    let s = entries g.R.Failures.device c.args.body.now in
    let vs = known c.args.body.now in
    let a = c.args.place.node in
    let b = c.args.place.buffer in
    let form = form_of c.args.is_large in
    let kind = field_kind (field_view c.args.field.now) (first_ids (all_ids_view c.args.ids.now)) in
    let u = type_view c.args.own.now in
    let ut = type_view c.args.field.now.data_type in
    let head = c.in_ok-head.head in
    let at = (c.in_ok-head.ensures.memory k).1 in
    let x = layout_of c.in_ok-child.child in
    let child : IsWell s kind (a + 1) (b + 2) (Some head.last) × (x ≡ array_at s vs kind ut (a + 1) (b + 2) (Some head.last)) =
    subst (λ (z : Kind). IsWell s z (a + 1) (b + 2) (Some head.last) × (x ≡ array_at s vs z ut (a + 1) (b + 2) (Some head.last)))
    (sym c.child_of-child_id.ensures.kind) (c.in_ok-child.ensures.memory k)
    in
    let fault = c.in_err-array.field-0.0 in
    let well : Type 0 = IsWell s (list_kind form kind) a b c.args.limit in
    let denied : OwnFault fault (well → ⊥) =
    denies_through fault (FieldTypes (child_fields u) (type_of x ∷ []) × (len_of x ≡ head.last)) well
    (λ h. (
      child_typed s vs form kind u a b c.args.limit (list_places head.offsets) head.validity head.last (field_view c.args.field.now) ut at c.requires.fields c.child_of-child_id.ensures.named x child.1,
      list_len s vs form kind u a b c.args.limit (list_places head.offsets) head.validity head.last (field_view c.args.field.now) ut at c.requires.fields c.child_of-child_id.ensures.named x child.1 h,
    ))
    c.in_err-array.ensures.exact
    in
    search rules

pub read_list-returns-clause-memory : goal.read_list-returns-clause-memory
read_list-returns-clause-memory g t c = λ k.
    let s = entries g.R.Failures.device c.args.body.now in
    let vs = known c.args.body.now in
    let a = c.args.place.node in
    let b = c.args.place.buffer in
    let form = form_of c.args.is_large in
    let kind = field_kind (field_view c.args.field.now) (first_ids (all_ids_view c.args.ids.now)) in
    let u = type_view c.args.own.now in
    let ut = type_view c.args.field.now.data_type in
    let head = c.in_ok-head.head in
    let read = c.in_ok-head.ensures.memory k in
    let x = layout_of c.in_ok-child.child in
    let child : IsWell s kind (a + 1) (b + 2) (Some head.last) × (x ≡ array_at s vs kind ut (a + 1) (b + 2) (Some head.last)) =
    subst (λ (z : Kind). IsWell s z (a + 1) (b + 2) (Some head.last) × (x ≡ array_at s vs z ut (a + 1) (b + 2) (Some head.last)))
    (sym c.child_of-child_id.ensures.kind) (c.in_ok-child.ensures.memory k)
    in
    let made = c.in_ok-array.ensures.exact in (
      list_well s vs form kind u a b c.args.limit (list_places head.offsets) head.validity head.last (field_view c.args.field.now) ut read.1 c.requires.fields c.child_of-child_id.ensures.named x read.0 child made.0.1,
      list_array s vs form kind u a b c.args.limit (list_places head.offsets) head.validity head.last (field_view c.args.field.now) ut read.1 c.requires.fields c.child_of-child_id.ensures.named x
          (list_width head.offsets) (layout_of c.in_ok-array.array) c.in_ok-head.ensures.width child.1 made.1,
    )

pub read_fields-returns-in_err-column-clause-memory : goal.read_fields-returns-in_err-column-clause-memory
read_fields-returns-in_err-column-clause-memory g t c = λ k.
    let s = entries g.R.Failures.device c.args.body.now in
    let vs = known c.args.body.now in
    let fs = c.args.fields.now in
    let i = c.loop-field.field-index in
    let f = c.field-item.result in
    let is = all_ids_view c.loop-field.left.now in
    let all = kinds_of (fields_view fs) (all_ids_view c.args.ids.now) in
    let rest = kinds_of (fields_view (drop i fs)) is in
    let kind = field_kind (field_view f) (first_ids is) in
    let p = c.loop-field.place in
    let limit = c.args.limit in
    let xs = map layout_of c.loop-field.columns.items in
    let inside : i < length fs = omega arith in
    let same_kind = c.child_of-child_id.ensures.kind in
    let rest' = kinds_of (fields_view (drop (i + 1) fs)) (other_ids is) in
    let more : rest ≡ more_kinds kind rest' = kinds_left fs is i f inside c.field-item.is in
    let fault = c.in_err-column.field-0.0 in
    let well : Type 0 = HaveRows s all c.args.start limit c.args.rows in
    let denied : OwnFault fault (well → ⊥) =
    denies_through fault (IsWell s kind p.node p.buffer limit) well
    (λ h. (one_of s vs all rest rest' kind (fields_view fs) (fields_view (drop i fs)) c.args.start p limit c.args.rows xs more (c.loop-field.invariant.content k) h).0)
    (subst (λ (z : Kind). OwnFault fault (IsWell s z p.node p.buffer limit → ⊥)) (sym same_kind) (c.in_err-column.ensures.memory k))
    in
    refused c.from_residual.result fault _ _ c.from_residual.ensures denied

pub read_fields-returns-then-len-rows-clause-memory : goal.read_fields-returns-then-len-rows-clause-memory
read_fields-returns-then-len-rows-clause-memory g t c = λ k h.
    let s = entries g.R.Failures.device c.args.body.now in
    let vs = known c.args.body.now in
    let fs = c.args.fields.now in
    let i = c.loop-field.field-index in
    let f = c.field-item.result in
    let is = all_ids_view c.loop-field.left.now in
    let all = kinds_of (fields_view fs) (all_ids_view c.args.ids.now) in
    let rest = kinds_of (fields_view (drop i fs)) is in
    let kind = field_kind (field_view f) (first_ids is) in
    let p = c.loop-field.place in
    let limit = c.args.limit in
    let xs = map layout_of c.loop-field.columns.items in
    let inside : i < length fs = omega arith in
    let same_kind = c.child_of-child_id.ensures.kind in
    let rest' = kinds_of (fields_view (drop (i + 1) fs)) (other_ids is) in
    let more : rest ≡ more_kinds kind rest' = kinds_left fs is i f inside c.field-item.is in
    let one = one_of s vs all rest rest' kind (fields_view fs) (fields_view (drop i fs)) c.args.start p limit c.args.rows xs more (c.loop-field.invariant.content k) h in
    let len : c.len.result ≡ c.args.rows = c.len.ensures.len ∙ ap len_of (c.in_ok-column.ensures.memory k).1 ∙ array_len s vs (kind_of (type_view f.data_type) c.child_of-child_id.result.0 (all_ids_view c.child_of-child_id.result.1.now)) (type_view f.data_type) p.node p.buffer limit ∙ one.1 in
    absurd (omega (arith, len))

pub read_fields-loop-field-preserved : goal.read_fields-loop-field-preserved
read_fields-loop-field-preserved g t c =
    let s = entries g.R.Failures.device c.args.body.now in
    let vs = known c.args.body.now in
    let fs = c.args.fields.now in
    let i = c.loop-field.field-index in
    let f = c.field-item.result in
    let is = all_ids_view c.loop-field.left.now in
    let all = kinds_of (fields_view fs) (all_ids_view c.args.ids.now) in
    let rest = kinds_of (fields_view (drop i fs)) is in
    let kind = field_kind (field_view f) (first_ids is) in
    let p = c.loop-field.place in
    let limit = c.args.limit in
    let xs = map layout_of c.loop-field.columns.items in
    let inside : i < length fs = omega arith in
    let same_kind = c.child_of-child_id.ensures.kind in
    let x = c.args.body.now.extra in
    let q = c.in_ok-column.next in
    let rest' = kinds_of (fields_view (drop (i + 1) fs)) (all_ids_view c.others_of-left.result.now) in
    let more : rest ≡ more_kinds kind rest' =
    kinds_left fs is i f inside c.field-item.is ∙ ap (λ (j : IdTrees). more_kinds kind (kinds_of (fields_view (drop (i + 1) fs)) j)) (sym c.others_of-left.ensures)
    in
    let next : IsBehind x kind p q = subst (λ (z : Kind). IsBehind x z p q) (sym same_kind) c.in_ok-column.ensures.next in
    let e1 = ap (λ (z : Kinds). all_listed s x z p.buffer) more in
    let e2 = ap (λ (n : ℕ). all_listed s x rest' n) next.buffer in
    let e3 = ap (λ (z : Kind). listed_in s x z p.buffer) same_kind in
    let h1 = ap (λ (z : Kinds). all_most_held s x z p.buffer) more in
    let h2 = ap (λ (n : ℕ). all_most_held s x rest' n) next.buffer in
    let h3 : HoldsListed s x kind p.buffer (layout_of c.in_ok-column.column) =
    subst (λ (z : Kind). HoldsListed s x z p.buffer (layout_of c.in_ok-column.column)) (sym same_kind) c.in_ok-column.ensures.held in
    let h4 = ap (λ (ys : List Layout). all_held (layouts ys)) (ap (map layout_of) c.in_ok-push.ensures.items ∙ map-append layout_of c.loop-field.columns.items (c.in_ok-column.column ∷ [])) in
    let h5 = one_more_held xs (layout_of c.in_ok-column.column) in
    record {
      places = left_more x all rest rest' kind c.args.start p q more c.loop-field.invariant.places next;
      stands = c.in_ok-column.ensures.step.stands;
      names = c.in_ok-column.ensures.step.names ∙ c.loop-field.invariant.names;
      monotone = omega (arith, c.in_ok-column.ensures.step.monotone);
      done = c.in_ok-column.ensures.step.told ∙ c.loop-field.invariant.done;
      given = omega (arith, e1, e2, e3, c.in_ok-column.ensures.step.bounded, c.loop-field.invariant.given);
      held = omega (arith, h1, h2, h3, h4, h5, c.loop-field.invariant.held);
      content = λ k.
          let y = layout_of c.in_ok-column.column in
          let read : IsWell s kind p.node p.buffer limit × (y ≡ array_at s vs kind (field_type (field_view f)) p.node p.buffer limit) =
          subst (λ (u : TypeTree). IsWell s kind p.node p.buffer limit × (y ≡ array_at s vs kind u p.node p.buffer limit)) (sym c.child_of-child_id.ensures.named)
          (subst (λ (z : Kind). IsWell s z p.node p.buffer limit × (y ≡ array_at s vs z (type_view f.data_type) p.node p.buffer limit)) (sym same_kind) (c.in_ok-column.ensures.memory k))
          in
          subst (λ (ys : List Layout). SoFar s vs all rest' (fields_view fs) (fields_view (drop (i + 1) fs)) c.args.start q limit c.args.rows ys)
          (sym (ap (map layout_of) c.in_ok-push.ensures.items ∙ map-append layout_of c.loop-field.columns.items (c.in_ok-column.column ∷ [])))
          (so_more x s vs all rest rest' kind (field_view f) (fields_view fs) (fields_view (drop i fs)) (fields_view (drop (i + 1) fs)) c.args.start p q limit c.args.rows xs
          (extra_is g.R.Failures.device c.args.body.now) more (fields_left fs i f inside c.field-item.is) next (c.loop-field.invariant.content k) y read (sym c.len.ensures.len ∙ c.if-len-rows.false));
    }

pub read_fields-returns-clause-memory : goal.read_fields-returns-clause-memory
read_fields-returns-clause-memory g t c = λ k.
    let s = entries g.R.Failures.device c.args.body.now in
    let vs = known c.args.body.now in
    let fs = c.args.fields.now in
    let i = c.loop-field.field-index in
    let is = all_ids_view c.loop-field.left.now in
    let past : length fs ≤ i = omega arith in
    let none : kinds_of (fields_view (drop i fs)) is ≡ no_kinds = ap (λ (gs : List Field). kinds_of (fields_view gs) is) (drop_of_length-le fs past) in
    so_end s vs (kinds_of (fields_view fs) (all_ids_view c.args.ids.now)) (kinds_of (fields_view (drop i fs)) is) (fields_view fs) (fields_view (drop i fs)) c.args.start c.loop-field.place c.args.limit c.args.rows
    (map layout_of c.loop-field.columns.items) none (c.loop-field.invariant.content k)

pub read_struct-returns-in_err-array-clause-memory : goal.read_struct-returns-in_err-array-clause-memory
read_struct-returns-in_err-array-clause-memory g t c = λ k.
    let s = entries g.R.Failures.device c.args.body.now in
    let vs = known c.args.body.now in
    let a = c.args.place.node in
    let b = c.args.place.buffer in
    let limit = c.args.limit in
    let fs = fields_view c.args.fields.now in
    let is = all_ids_view c.args.ids.now in
    let ts = kinds_of fs is in
    let u = type_view c.args.own.now in
    let n = c.in_ok-head.head.rows in
    let cs = map layout_of c.in_ok-columns.columns.items in
    let head = c.in_ok-head.ensures.memory k in
    let same : layouts cs ≡ arrays_at s vs ts fs (a + 1) (b + 1) limit = (c.in_ok-columns.ensures.memory k).1 in
    let fault = c.in_err-array.field-0.0 in
    let well : Type 0 = IsWell s (struct_kind ts) a b limit in
    let denied : OwnFault fault (well → ⊥) =
    denies_through fault (HasChild (layouts cs) × ChildTypes (child_fields u) (layouts cs) × AllHave n (layouts cs)) well
    (λ h. (
      subst (λ (ls : Layouts). HasChild ls) (sym same) (arrays_some s vs ts fs (a + 1) (b + 1) limit h.0),
      subst (λ (ls : Layouts). ChildTypes (child_fields u) ls) (sym same)
          (subst (λ (gs : FieldTrees). ChildTypes gs (arrays_at s vs ts fs (a + 1) (b + 1) limit)) (sym c.requires.fields) (arrays_typed s vs fs is (a + 1) (b + 1) limit)),
      subst (λ (ls : Layouts). AllHave n ls) (sym same)
          (arrays_have s vs ts fs (a + 1) (b + 1) limit n (subst (λ (m : ℕ). AllHaveRows s ts (a + 1) (b + 1) limit m) (sym head.1.0) h.2)),
    ))
    c.in_err-array.ensures.exact
    in
    search rules

pub read_map-returns-in_err-array-clause-memory : goal.read_map-returns-in_err-array-clause-memory
read_map-returns-in_err-array-clause-memory g t c = λ k.
    let s = entries g.R.Failures.device c.args.body.now in
    let vs = known c.args.body.now in
    let a = c.args.start.node in
    let b = c.args.start.buffer in
    let limit = c.args.limit in
    let kind = field_kind (field_view c.args.field.now) (first_ids (all_ids_view c.args.ids.now)) in
    let u = type_view c.args.own.now in
    let ut = type_view c.args.field.now.data_type in
    let f = field_view c.args.field.now in
    let head = c.in_ok-head.head in
    let x = layout_of c.in_ok-child.child in
    let at = (c.in_ok-head.ensures.memory k).1 in
    let child : IsWell s kind (a + 1) (b + 2) (Some head.last) × (x ≡ array_at s vs kind ut (a + 1) (b + 2) (Some head.last)) =
    subst (λ (z : Kind). IsWell s z (a + 1) (b + 2) (Some head.last) × (x ≡ array_at s vs z ut (a + 1) (b + 2) (Some head.last)))
    (sym c.child_of-child_id.ensures.kind) (c.in_ok-child.ensures.memory k)
    in
    let fault = c.in_err-array.field-0.0 in
    let well : Type 0 = IsWell s (map_kind kind) a b limit in
    let denied : OwnFault fault (well → ⊥) =
    denies_through fault (IsPair (type_of x) × FieldTypes (child_fields u) (type_of x ∷ []) × (len_of x ≡ head.last)) well
    (λ h. (
      map_pair s vs kind u a b limit head.offsets head.validity head.last f ut c.child_of-child_id.result.0 (all_ids_view c.child_of-child_id.result.1.now) at c.requires.fields c.child_of-child_id.ensures.named c.child_of-child_id.ensures.kind x child.1 h,
      map_typed s vs kind u a b limit head.offsets head.validity head.last f ut c.child_of-child_id.result.0 (all_ids_view c.child_of-child_id.result.1.now) at c.requires.fields c.child_of-child_id.ensures.named c.child_of-child_id.ensures.kind x child.1,
      map_len s vs kind u a b limit head.offsets head.validity head.last f ut c.child_of-child_id.result.0 (all_ids_view c.child_of-child_id.result.1.now) at c.requires.fields c.child_of-child_id.ensures.named c.child_of-child_id.ensures.kind x child.1 h,
    ))
    c.in_err-array.ensures.exact
    in
    search rules

pub read_map-returns-clause-memory : goal.read_map-returns-clause-memory
read_map-returns-clause-memory g t c = λ k.
    let s = entries g.R.Failures.device c.args.body.now in
    let vs = known c.args.body.now in
    let a = c.args.start.node in
    let b = c.args.start.buffer in
    let limit = c.args.limit in
    let kind = field_kind (field_view c.args.field.now) (first_ids (all_ids_view c.args.ids.now)) in
    let u = type_view c.args.own.now in
    let ut = type_view c.args.field.now.data_type in
    let f = field_view c.args.field.now in
    let head = c.in_ok-head.head in
    let x = layout_of c.in_ok-child.child in
    let at = (c.in_ok-head.ensures.memory k).1 in
    let child : IsWell s kind (a + 1) (b + 2) (Some head.last) × (x ≡ array_at s vs kind ut (a + 1) (b + 2) (Some head.last)) =
    subst (λ (z : Kind). IsWell s z (a + 1) (b + 2) (Some head.last) × (x ≡ array_at s vs z ut (a + 1) (b + 2) (Some head.last)))
    (sym c.child_of-child_id.ensures.kind) (c.in_ok-child.ensures.memory k)
    in
    let made = c.in_ok-array.ensures.exact in (
      map_well s vs kind u a b limit head.offsets head.validity head.last f ut c.child_of-child_id.result.0 (all_ids_view c.child_of-child_id.result.1.now) at c.requires.fields c.child_of-child_id.ensures.named c.child_of-child_id.ensures.kind x (c.in_ok-head.ensures.memory k).0 child.0 child.1 made.0.0 made.0.2,
      map_array s vs kind u a b limit head.offsets head.validity head.last f ut c.child_of-child_id.result.0 (all_ids_view c.child_of-child_id.result.1.now) at c.requires.fields c.child_of-child_id.ensures.named c.child_of-child_id.ensures.kind x (layout_of c.in_ok-array.array) child.1 made.1,
    )

pub read_fixed_size_list-returns-in_err-array-clause-memory : goal.read_fixed_size_list-returns-in_err-array-clause-memory
read_fixed_size_list-returns-in_err-array-clause-memory g t c = λ k.
    let s = entries g.R.Failures.device c.args.body.now in
    let vs = known c.args.body.now in
    let a = c.args.start.node in
    let b = c.args.start.buffer in
    let limit = c.args.limit in
    let kind = field_kind (field_view c.args.field.now) (first_ids (all_ids_view c.args.ids.now)) in
    let u = type_view c.args.own.now in
    let ut = type_view c.args.field.now.data_type in
    let f = field_view c.args.field.now in
    let head = c.in_ok-head.head in
    let x = layout_of c.in_ok-child.child in
    let n = c.args.size in
    let most = c.times_limit-most.result in
    let same = limit_same g.R.Failures.device c.args.body.now limit n most c.times_limit-most.ensures in
    let some : 0 < n = omega (arith, c.if-size-eq0.false) in
    let read = c.in_ok-head.ensures.memory k in
    let child : IsWell s kind (a + 1) (b + 1) most × (x ≡ array_at s vs kind ut (a + 1) (b + 1) most) =
    subst (λ (z : Kind). IsWell s z (a + 1) (b + 1) most × (x ≡ array_at s vs z ut (a + 1) (b + 1) most))
    (sym c.child_of-child_id.ensures.kind) (c.in_ok-child.ensures.memory k)
    in
    let fault = c.in_err-array.field-0.0 in
    let well : Type 0 = IsWell s (fixed_list_kind n kind) a b limit in
    let denied : OwnFault fault (well → ⊥) =
    denies_through fault (FieldTypes (child_fields u) (type_of x ∷ []) × (len_of x ≡ head.rows * n)) well
    (λ h. (
      fixed_typed s vs n kind u a b limit most head.validity head.rows f ut some same read.1.0 read.1.1 c.requires.fields c.child_of-child_id.ensures.named x child.1,
      fixed_len s vs n kind u a b limit most head.validity head.rows f ut some same read.1.0 read.1.1 c.requires.fields c.child_of-child_id.ensures.named x child.1 h,
    ))
    c.in_err-array.ensures.exact
    in
    search rules

pub read_fixed_size_list-returns-clause-memory : goal.read_fixed_size_list-returns-clause-memory
read_fixed_size_list-returns-clause-memory g t c = λ k.
    let s = entries g.R.Failures.device c.args.body.now in
    let vs = known c.args.body.now in
    let a = c.args.start.node in
    let b = c.args.start.buffer in
    let limit = c.args.limit in
    let kind = field_kind (field_view c.args.field.now) (first_ids (all_ids_view c.args.ids.now)) in
    let u = type_view c.args.own.now in
    let ut = type_view c.args.field.now.data_type in
    let f = field_view c.args.field.now in
    let head = c.in_ok-head.head in
    let x = layout_of c.in_ok-child.child in
    let n = c.args.size in
    let most = c.times_limit-most.result in
    let same = limit_same g.R.Failures.device c.args.body.now limit n most c.times_limit-most.ensures in
    let some : 0 < n = omega (arith, c.if-size-eq0.false) in
    let read = c.in_ok-head.ensures.memory k in
    let child : IsWell s kind (a + 1) (b + 1) most × (x ≡ array_at s vs kind ut (a + 1) (b + 1) most) =
    subst (λ (z : Kind). IsWell s z (a + 1) (b + 1) most × (x ≡ array_at s vs z ut (a + 1) (b + 1) most))
    (sym c.child_of-child_id.ensures.kind) (c.in_ok-child.ensures.memory k)
    in
    let made = c.in_ok-array.ensures.exact in (
      fixed_well s vs n kind u a b limit most head.validity head.rows f ut some same read.1.0 read.1.1 c.requires.fields c.child_of-child_id.ensures.named x read.0 child.0 child.1 made.0.1,
      fixed_array s vs n kind u a b limit most head.validity head.rows f ut some same read.1.0 read.1.1 c.requires.fields c.child_of-child_id.ensures.named x (layout_of c.in_ok-array.array) child.0 child.1 made.1,
    )

pub read_fixed_size_list-returns-in_err-child-clause-memory : goal.read_fixed_size_list-returns-in_err-child-clause-memory
read_fixed_size_list-returns-in_err-child-clause-memory g t c = λ k.
    let s = entries g.R.Failures.device c.args.body.now in
    let vs = known c.args.body.now in
    let a = c.args.start.node in
    let b = c.args.start.buffer in
    let limit = c.args.limit in
    let kind = field_kind (field_view c.args.field.now) (first_ids (all_ids_view c.args.ids.now)) in
    let u = type_view c.args.own.now in
    let ut = type_view c.args.field.now.data_type in
    let f = field_view c.args.field.now in
    let head = c.in_ok-head.head in
    let n = c.args.size in
    let most = c.times_limit-most.result in
    let same = limit_same g.R.Failures.device c.args.body.now limit n most c.times_limit-most.ensures in
    let some : 0 < n = omega (arith, c.if-size-eq0.false) in
    let read = c.in_ok-head.ensures.memory k in
    let kind' = kind_of ut c.child_of-child_id.result.0 (all_ids_view c.child_of-child_id.result.1.now) in
    let fault = c.in_err-child.field-0.0 in
    let well : Type 0 = IsWell s (fixed_list_kind n kind) a b limit in
    let denied : OwnFault fault (well → ⊥) =
    denies_through fault (IsWell s kind (a + 1) (b + 1) most) well
    (λ h. fixed_child s vs n kind u a b limit most head.validity head.rows f ut some same read.1.0 read.1.1 c.requires.fields c.child_of-child_id.ensures.named h)
    (subst (λ (z : Kind). OwnFault fault (IsWell s z (a + 1) (b + 1) most → ⊥)) (sym c.child_of-child_id.ensures.kind) (c.in_err-child.ensures.memory k))
    in
    search rules

pub read_as-returns-in-Map-clause-memory : goal.read_as-returns-in-Map-clause-memory
read_as-returns-in-Map-clause-memory g t c = λ k.
    let s = entries g.R.Failures.device c.args.body.now in
    let vs = known c.args.body.now in
    let d = c.args.data_type.now in
    let is = all_ids_view c.args.ids.now in
    let a = c.args.place.node in
    let b = c.args.place.buffer in
    let limit = c.args.limit in
    let u = type_view c.args.own.now in
    let same : kind_of (type_view d) c.args.id is ≡ map_kind (field_kind (field_view c.deref-in-Map.result.now) (first_ids is)) =
    map_kind_is d c.in-Map.field _ c.args.id is c.in-Map.is ∙ ap (λ (f : Field). map_kind (field_kind (field_view f) (first_ids is))) (sym c.deref-in-Map.ensures)
    in
    subst (λ (z : Kind). Answers c.read_map.result (IsWell s z a b limit) (λ r. layout_of r.0 ≡ array_at s vs z u a b limit)) (sym same) (c.read_map.ensures.memory k)

pub read_as-returns-in-List-clause-memory : goal.read_as-returns-in-List-clause-memory
read_as-returns-in-List-clause-memory g t c = λ k.
    let s = entries g.R.Failures.device c.args.body.now in
    let vs = known c.args.body.now in
    let d = c.args.data_type.now in
    let is = all_ids_view c.args.ids.now in
    let a = c.args.place.node in
    let b = c.args.place.buffer in
    let limit = c.args.limit in
    let u = type_view c.args.own.now in
    let same : kind_of (type_view d) c.args.id is ≡ list_kind offsets_32 (field_kind (field_view c.deref-in-List.result.now) (first_ids is)) =
    list_kind_is d c.in-List.field c.args.id is c.in-List.is ∙ ap (λ (f : Field). list_kind offsets_32 (field_kind (field_view f) (first_ids is))) (sym c.deref-in-List.ensures)
    in
    subst (λ (z : Kind). Answers c.read_list.result (IsWell s z a b limit) (λ r. layout_of r.0 ≡ array_at s vs z u a b limit)) (sym same) (c.read_list.ensures.memory k)

pub read_as-returns-in-LargeList-clause-memory : goal.read_as-returns-in-LargeList-clause-memory
read_as-returns-in-LargeList-clause-memory g t c = λ k.
    let s = entries g.R.Failures.device c.args.body.now in
    let vs = known c.args.body.now in
    let d = c.args.data_type.now in
    let is = all_ids_view c.args.ids.now in
    let a = c.args.place.node in
    let b = c.args.place.buffer in
    let limit = c.args.limit in
    let u = type_view c.args.own.now in
    let same : kind_of (type_view d) c.args.id is ≡ list_kind offsets_64 (field_kind (field_view c.deref-in-LargeList.result.now) (first_ids is)) =
    large_list_kind_is d c.in-LargeList.field c.args.id is c.in-LargeList.is ∙ ap (λ (f : Field). list_kind offsets_64 (field_kind (field_view f) (first_ids is))) (sym c.deref-in-LargeList.ensures)
    in
    subst (λ (z : Kind). Answers c.read_list-in-LargeList.result (IsWell s z a b limit) (λ r. layout_of r.0 ≡ array_at s vs z u a b limit)) (sym same) (c.read_list-in-LargeList.ensures.memory k)

pub read_as-returns-in-FixedSizeList-clause-memory : goal.read_as-returns-in-FixedSizeList-clause-memory
read_as-returns-in-FixedSizeList-clause-memory g t c = λ k.
    let s = entries g.R.Failures.device c.args.body.now in
    let vs = known c.args.body.now in
    let d = c.args.data_type.now in
    let is = all_ids_view c.args.ids.now in
    let a = c.args.place.node in
    let b = c.args.place.buffer in
    let limit = c.args.limit in
    let u = type_view c.args.own.now in
    let same : kind_of (type_view d) c.args.id is ≡ fixed_list_kind c.in-FixedSizeList.size (field_kind (field_view c.deref-in-FixedSizeList.result.now) (first_ids is)) =
    fixed_list_kind_is d c.in-FixedSizeList.field c.in-FixedSizeList.size c.args.id is c.in-FixedSizeList.is ∙ ap (λ (f : Field). fixed_list_kind c.in-FixedSizeList.size (field_kind (field_view f) (first_ids is))) (sym c.deref-in-FixedSizeList.ensures)
    in
    subst (λ (z : Kind). Answers c.read_fixed_size_list.result (IsWell s z a b limit) (λ r. layout_of r.0 ≡ array_at s vs z u a b limit)) (sym same) (c.read_fixed_size_list.ensures.memory k)

pub read_as-returns-in-Extension-clause-memory : goal.read_as-returns-in-Extension-clause-memory
read_as-returns-in-Extension-clause-memory g t c = λ k.
    let s = entries g.R.Failures.device c.args.body.now in
    let vs = known c.args.body.now in
    let d = c.args.data_type.now in
    let is = all_ids_view c.args.ids.now in
    let a = c.args.place.node in
    let b = c.args.place.buffer in
    let limit = c.args.limit in
    let u = type_view c.args.own.now in
    let same : kind_of (type_view d) c.args.id is ≡ extension_kind (kind_of (type_view c.deref.result.now) c.args.id is) =
    extension_kind_is d c.in-Extension.field-0 c.in-Extension.inner c.in-Extension.field-2 c.args.id is c.in-Extension.is
    ∙ ap (λ (e : DataType). extension_kind (kind_of (type_view e) c.args.id is)) (sym c.deref.ensures)
    in
    subst (λ (z : Kind). Answers c.read_as.result (IsWell s z a b limit) (λ r. layout_of r.0 ≡ array_at s vs z u a b limit)) (sym same) (c.read_as.ensures.memory k)

pub read_whole_fields-returns-in_err-column-clause-memory : goal.read_whole_fields-returns-in_err-column-clause-memory
read_whole_fields-returns-in_err-column-clause-memory g t c = λ k.
    let s = entries g.R.Failures.device c.args.body.now in
    let vs = known c.args.body.now in
    let fs = c.args.fields.now in
    let i = c.loop-field.field-index in
    let f = c.field-item.result in
    let is = all_ids_view c.loop-field.others.now in
    let all = kinds_of (fields_view fs) (all_ids_view c.args.ids.now) in
    let rest = kinds_of (fields_view (drop i fs)) is in
    let kind = field_kind (field_view f) (first_ids is) in
    let p = c.loop-field.place in
    let xs = map layout_of c.loop-field.columns.items in
    let inside : i < length fs = omega arith in
    let same_kind = c.child_of-child_id.ensures.kind in
    let rest' = kinds_of (fields_view (drop (i + 1) fs)) (other_ids is) in
    let more : rest ≡ more_kinds kind rest' = kinds_left fs is i f inside c.field-item.is in
    let fault = c.in_err-column.field-0.0 in
    let denied : OwnFault fault (AreWhole s all c.args.start → ⊥) =
    denies_through fault (IsWell s kind p.node p.buffer None) (AreWhole s all c.args.start)
    (λ h. whole_one s vs all rest rest' kind (fields_view fs) (fields_view (drop i fs)) c.args.start p xs more (c.loop-field.invariant.content k) h)
    (subst (λ (z : Kind). OwnFault fault (IsWell s z p.node p.buffer None → ⊥)) (sym same_kind) (c.in_err-column.ensures.memory k))
    in
    refused c.from_residual.result fault _ _ c.from_residual.ensures denied

pub read_whole_fields-loop-field-preserved : goal.read_whole_fields-loop-field-preserved
read_whole_fields-loop-field-preserved g t c =
    let s = entries g.R.Failures.device c.args.body.now in
    let vs = known c.args.body.now in
    let fs = c.args.fields.now in
    let i = c.loop-field.field-index in
    let f = c.field-item.result in
    let is = all_ids_view c.loop-field.others.now in
    let all = kinds_of (fields_view fs) (all_ids_view c.args.ids.now) in
    let rest = kinds_of (fields_view (drop i fs)) is in
    let kind = field_kind (field_view f) (first_ids is) in
    let p = c.loop-field.place in
    let xs = map layout_of c.loop-field.columns.items in
    let inside : i < length fs = omega arith in
    let same_kind = c.child_of-child_id.ensures.kind in
    let x = c.args.body.now.extra in
    let q = c.in_ok-column.after in
    let rest' = kinds_of (fields_view (drop (i + 1) fs)) (all_ids_view c.others_of-others.result.now) in
    let more : rest ≡ more_kinds kind rest' =
    kinds_left fs is i f inside c.field-item.is ∙ ap (λ (j : IdTrees). more_kinds kind (kinds_of (fields_view (drop (i + 1) fs)) j)) (sym c.others_of-others.ensures)
    in
    let next : IsBehind x kind p q = subst (λ (z : Kind). IsBehind x z p q) (sym same_kind) c.in_ok-column.ensures.next in
    let e1 = ap (λ (z : Kinds). all_listed s x z p.buffer) more in
    let e2 = ap (λ (n : ℕ). all_listed s x rest' n) next.buffer in
    let e3 = ap (λ (z : Kind). listed_in s x z p.buffer) same_kind in
    let h1 = ap (λ (z : Kinds). all_most_held s x z p.buffer) more in
    let h2 = ap (λ (n : ℕ). all_most_held s x rest' n) next.buffer in
    let h3 : HoldsListed s x kind p.buffer (layout_of c.in_ok-column.column) =
    subst (λ (z : Kind). HoldsListed s x z p.buffer (layout_of c.in_ok-column.column)) (sym same_kind) c.in_ok-column.ensures.held in
    let h4 = ap (λ (ys : List Layout). all_held (layouts ys)) (ap (map layout_of) c.in_ok-push.ensures.items ∙ map-append layout_of c.loop-field.columns.items (c.in_ok-column.column ∷ [])) in
    let h5 = one_more_held xs (layout_of c.in_ok-column.column) in
    record {
      places = left_more x all rest rest' kind c.args.start p q more c.loop-field.invariant.places next;
      stands = c.in_ok-column.ensures.step.stands;
      names = c.in_ok-column.ensures.step.names ∙ c.loop-field.invariant.names;
      monotone = omega (arith, c.in_ok-column.ensures.step.monotone);
      done = c.in_ok-column.ensures.step.told ∙ c.loop-field.invariant.done;
      given = omega (arith, e1, e2, e3, c.in_ok-column.ensures.step.bounded, c.loop-field.invariant.given);
      held = omega (arith, h1, h2, h3, h4, h5, c.loop-field.invariant.held);
      content = λ k.
          let y = layout_of c.in_ok-column.column in
          let read : IsWell s kind p.node p.buffer None × (y ≡ array_at s vs kind (field_type (field_view f)) p.node p.buffer None) =
          subst (λ (u : TypeTree). IsWell s kind p.node p.buffer None × (y ≡ array_at s vs kind u p.node p.buffer None)) (sym c.child_of-child_id.ensures.named)
          (subst (λ (z : Kind). IsWell s z p.node p.buffer None × (y ≡ array_at s vs z (type_view f.data_type) p.node p.buffer None)) (sym same_kind) (c.in_ok-column.ensures.memory k))
          in
          subst (λ (ys : List Layout). WholeSoFar s vs all rest' (fields_view fs) (fields_view (drop (i + 1) fs)) c.args.start q ys)
          (sym (ap (map layout_of) c.in_ok-push.ensures.items ∙ map-append layout_of c.loop-field.columns.items (c.in_ok-column.column ∷ [])))
          (whole_more x s vs all rest rest' kind (field_view f) (fields_view fs) (fields_view (drop i fs)) (fields_view (drop (i + 1) fs)) c.args.start p q xs
          (extra_is g.R.Failures.device c.args.body.now) more (fields_left fs i f inside c.field-item.is) next (c.loop-field.invariant.content k) y read);
    }

pub read_whole_fields-returns-clause-memory : goal.read_whole_fields-returns-clause-memory
read_whole_fields-returns-clause-memory g t c = λ k.
    let s = entries g.R.Failures.device c.args.body.now in
    let vs = known c.args.body.now in
    let fs = c.args.fields.now in
    let i = c.loop-field.field-index in
    let is = all_ids_view c.loop-field.others.now in
    let past : length fs ≤ i = omega arith in
    let none : kinds_of (fields_view (drop i fs)) is ≡ no_kinds = ap (λ (gs : List Field). kinds_of (fields_view gs) is) (drop_of_length-le fs past) in
    whole_end s vs (kinds_of (fields_view fs) (all_ids_view c.args.ids.now)) (kinds_of (fields_view (drop i fs)) is) (fields_view fs) (fields_view (drop i fs)) c.args.start c.loop-field.place
    (map layout_of c.loop-field.columns.items) none (c.loop-field.invariant.content k)

pub read_union-returns-in_err-types-clause-memory : goal.read_union-returns-in_err-types-clause-memory
read_union-returns-in_err-types-clause-memory g t c = λ k.
    let s = entries g.R.Failures.device c.args.body.now in
    let vs = known c.args.body.now in
    let a = c.args.place.node in
    let b = c.args.place.buffer in
    let limit = c.args.limit in
    let ids = ids_of c.args.type_ids.now in
    let fs = fields_view c.args.fields.now in
    let is = all_ids_view c.args.ids.now in
    let ts = kinds_of fs is in
    let u = type_view c.args.own.now in
    let t = b + c.args.body.now.extra in
    let at : t ≡ b + s.extra = ap (λ n. b + n) (extra_is g.R.Failures.device c.args.body.now) in
    let well : Type 0 = IsWell s (union_kind c.args.mode ids ts) a b limit in
    let fault = c.in_err-types.field-0.0 in
    let denied : OwnFault fault (well → ⊥) =
    denies_through fault (IsSize (node s a).length × Need s t (rows s a limit)) well (λ h. union_types s c.args.mode ids ts a b t limit at h) (c.in_err-types.ensures.memory k)
    in
    search rules

pub read_union-returns-in_err-columns-in-Sparse-clause-memory : goal.read_union-returns-in_err-columns-in-Sparse-clause-memory
read_union-returns-in_err-columns-in-Sparse-clause-memory g t c = λ k.
    let s = entries g.R.Failures.device c.args.body.now in
    let vs = known c.args.body.now in
    let a = c.args.place.node in
    let b = c.args.place.buffer in
    let limit = c.args.limit in
    let ids = ids_of c.args.type_ids.now in
    let fs = fields_view c.args.fields.now in
    let is = all_ids_view c.args.ids.now in
    let ts = kinds_of fs is in
    let u = type_view c.args.own.now in
    let t = b + c.args.body.now.extra in
    let at : t ≡ b + s.extra = ap (λ n. b + n) (extra_is g.R.Failures.device c.args.body.now) in
    let zs = c.in_ok-types.types in
    let head = c.in_ok-types.ensures.memory k in
    let len : c.len-rows.result ≡ length zs = c.len-rows.ensures in
    let well : Type 0 = IsWell s (union_kind Sparse ids ts) a b limit in
    let fault = c.in_err-columns-in-Sparse.field-0.0 in
    let denied : OwnFault fault (well → ⊥) =
    denies_through fault (AllHaveRows s ts (a + 1) (t + 1) limit c.len-rows.result) well
    (λ h. sparse_children s ids ts a b t c.len-rows.result limit at (len ∙ head.1.1) h) (c.in_err-columns-in-Sparse.ensures.memory k)
    in
    let denied_so : OwnFault fault (IsWell s (union_kind c.args.mode ids ts) a b limit → ⊥) =
    subst (λ (m : UnionMode). OwnFault fault (IsWell s (union_kind m ids ts) a b limit → ⊥)) (sym c.in-Sparse.is) denied
    in
    search rules

pub read_union-returns-in_err-array-in-Sparse-clause-memory : goal.read_union-returns-in_err-array-in-Sparse-clause-memory
read_union-returns-in_err-array-in-Sparse-clause-memory g t c = λ k.
    let s = entries g.R.Failures.device c.args.body.now in
    let vs = known c.args.body.now in
    let a = c.args.place.node in
    let b = c.args.place.buffer in
    let limit = c.args.limit in
    let ids = ids_of c.args.type_ids.now in
    let fs = fields_view c.args.fields.now in
    let is = all_ids_view c.args.ids.now in
    let ts = kinds_of fs is in
    let u = type_view c.args.own.now in
    let t = b + c.args.body.now.extra in
    let at : t ≡ b + s.extra = ap (λ n. b + n) (extra_is g.R.Failures.device c.args.body.now) in
    let zs = c.in_ok-types.types in
    let head = c.in_ok-types.ensures.memory k in
    let len : c.len-rows.result ≡ length zs = c.len-rows.ensures in
    let cs = map layout_of c.in_ok-columns-in-Sparse.columns.items in
    let read : AllHaveRows s ts (a + 1) (t + 1) limit (length zs) × (layouts cs ≡ arrays_at s vs ts fs (a + 1) (t + 1) limit) =
    subst (λ (n : ℕ). AllHaveRows s ts (a + 1) (t + 1) limit n × (layouts cs ≡ arrays_at s vs ts fs (a + 1) (t + 1) limit)) len (c.in_ok-columns-in-Sparse.ensures.memory k)
    in
    let mode = c.requires.mode_named ∙ c.in-Sparse.is in
    let well : Type 0 = IsWell s (union_kind Sparse ids ts) a b limit in
    let fault = c.in_err-array-in-Sparse.field-0.0 in
    let denied : OwnFault fault (well → ⊥) =
    denies_through fault (ChoicesFit u (union_ids u) zs None (layouts cs)) well
    (λ h. sparse_rules s vs ids fs is u a b t limit zs cs c.requires.lies c.requires.ids_named c.requires.fields at head mode read h) c.in_err-array-in-Sparse.ensures.exact
    in
    let denied_so : OwnFault fault (IsWell s (union_kind c.args.mode ids ts) a b limit → ⊥) =
    subst (λ (m : UnionMode). OwnFault fault (IsWell s (union_kind m ids ts) a b limit → ⊥)) (sym c.in-Sparse.is) denied
    in
    search rules

pub read_union-returns-in_ok-array-in-Sparse-clause-memory : goal.read_union-returns-in_ok-array-in-Sparse-clause-memory
read_union-returns-in_ok-array-in-Sparse-clause-memory g t c = λ k.
    let s = entries g.R.Failures.device c.args.body.now in
    let vs = known c.args.body.now in
    let a = c.args.place.node in
    let b = c.args.place.buffer in
    let limit = c.args.limit in
    let ids = ids_of c.args.type_ids.now in
    let fs = fields_view c.args.fields.now in
    let is = all_ids_view c.args.ids.now in
    let ts = kinds_of fs is in
    let u = type_view c.args.own.now in
    let t = b + c.args.body.now.extra in
    let at : t ≡ b + s.extra = ap (λ n. b + n) (extra_is g.R.Failures.device c.args.body.now) in
    let zs = c.in_ok-types.types in
    let head = c.in_ok-types.ensures.memory k in
    let len : c.len-rows.result ≡ length zs = c.len-rows.ensures in
    let cs = map layout_of c.in_ok-columns-in-Sparse.columns.items in
    let read : AllHaveRows s ts (a + 1) (t + 1) limit (length zs) × (layouts cs ≡ arrays_at s vs ts fs (a + 1) (t + 1) limit) =
    subst (λ (n : ℕ). AllHaveRows s ts (a + 1) (t + 1) limit n × (layouts cs ≡ arrays_at s vs ts fs (a + 1) (t + 1) limit)) len (c.in_ok-columns-in-Sparse.ensures.memory k)
    in
    let mode = c.requires.mode_named ∙ c.in-Sparse.is in
    subst (λ (m : UnionMode). IsWell s (union_kind m ids ts) a b limit × (layout_of c.in_ok-array-in-Sparse.array ≡ array_at s vs (union_kind m ids ts) u a b limit)) (sym c.in-Sparse.is)
    (sparse_union s vs ids fs is u a b t limit zs cs c.requires.lies c.requires.ids_named c.requires.fields at head mode read (layout_of c.in_ok-array-in-Sparse.array) c.in_ok-array-in-Sparse.ensures.exact)

pub read_union-returns-in_err-places-in-Dense-clause-memory : goal.read_union-returns-in_err-places-in-Dense-clause-memory
read_union-returns-in_err-places-in-Dense-clause-memory g t c = λ k.
    let s = entries g.R.Failures.device c.args.body.now in
    let vs = known c.args.body.now in
    let a = c.args.place.node in
    let b = c.args.place.buffer in
    let limit = c.args.limit in
    let ids = ids_of c.args.type_ids.now in
    let fs = fields_view c.args.fields.now in
    let is = all_ids_view c.args.ids.now in
    let ts = kinds_of fs is in
    let u = type_view c.args.own.now in
    let t = b + c.args.body.now.extra in
    let at : t ≡ b + s.extra = ap (λ n. b + n) (extra_is g.R.Failures.device c.args.body.now) in
    let zs = c.in_ok-types.types in
    let head = c.in_ok-types.ensures.memory k in
    let len : c.len-rows.result ≡ length zs = c.len-rows.ensures in
    let well : Type 0 = IsWell s (union_kind Dense ids ts) a b limit in
    let fault = c.in_err-places-in-Dense.field-0.0 in
    let denied : OwnFault fault (well → ⊥) =
    denies_through fault (Need s (t + 1) (4 * c.len-rows.result)) well (λ h. dense_places s ids ts a b t c.len-rows.result limit at (len ∙ head.1.1) h) (c.in_err-places-in-Dense.ensures.memory k)
    in
    let denied_so : OwnFault fault (IsWell s (union_kind c.args.mode ids ts) a b limit → ⊥) =
    subst (λ (m : UnionMode). OwnFault fault (IsWell s (union_kind m ids ts) a b limit → ⊥)) (sym c.in-Dense.is) denied
    in
    search rules

pub read_union-returns-in_err-columns-in-Dense-clause-memory : goal.read_union-returns-in_err-columns-in-Dense-clause-memory
read_union-returns-in_err-columns-in-Dense-clause-memory g t c = λ k.
    let s = entries g.R.Failures.device c.args.body.now in
    let vs = known c.args.body.now in
    let a = c.args.place.node in
    let b = c.args.place.buffer in
    let limit = c.args.limit in
    let ids = ids_of c.args.type_ids.now in
    let fs = fields_view c.args.fields.now in
    let is = all_ids_view c.args.ids.now in
    let ts = kinds_of fs is in
    let u = type_view c.args.own.now in
    let t = b + c.args.body.now.extra in
    let at : t ≡ b + s.extra = ap (λ n. b + n) (extra_is g.R.Failures.device c.args.body.now) in
    let well : Type 0 = IsWell s (union_kind Dense ids ts) a b limit in
    let fault = c.in_err-columns-in-Dense.field-0.0 in
    let denied : OwnFault fault (well → ⊥) =
    denies_through fault (AllWell s ts (a + 1) (t + 2)) well (λ h. dense_children s ids ts a b t limit at h) (c.in_err-columns-in-Dense.ensures.memory k)
    in
    let denied_so : OwnFault fault (IsWell s (union_kind c.args.mode ids ts) a b limit → ⊥) =
    subst (λ (m : UnionMode). OwnFault fault (IsWell s (union_kind m ids ts) a b limit → ⊥)) (sym c.in-Dense.is) denied
    in
    search rules

pub read_union-returns-in_err-array-in-Dense-clause-memory : goal.read_union-returns-in_err-array-in-Dense-clause-memory
read_union-returns-in_err-array-in-Dense-clause-memory g t c = λ k.
    let s = entries g.R.Failures.device c.args.body.now in
    let vs = known c.args.body.now in
    let a = c.args.place.node in
    let b = c.args.place.buffer in
    let limit = c.args.limit in
    let ids = ids_of c.args.type_ids.now in
    let fs = fields_view c.args.fields.now in
    let is = all_ids_view c.args.ids.now in
    let ts = kinds_of fs is in
    let u = type_view c.args.own.now in
    let t = b + c.args.body.now.extra in
    let at : t ≡ b + s.extra = ap (λ n. b + n) (extra_is g.R.Failures.device c.args.body.now) in
    let zs = c.in_ok-types.types in
    let head = c.in_ok-types.ensures.memory k in
    let len : c.len-rows.result ≡ length zs = c.len-rows.ensures in
    let os = c.in_ok-places-in-Dense.places in
    let places : Need s (t + 1) (4 * length zs) × (os ≡ integers_of s (t + 1) Int32 (length zs)) =
    subst (λ (n : ℕ). Need s (t + 1) (4 * n) × (os ≡ integers_of s (t + 1) Int32 n)) len (c.in_ok-places-in-Dense.ensures.memory k)
    in
    let cs = map layout_of c.in_ok-columns-in-Dense.columns.items in
    let read = c.in_ok-columns-in-Dense.ensures.memory k in
    let mode = c.requires.mode_named ∙ c.in-Dense.is in
    let well : Type 0 = IsWell s (union_kind Dense ids ts) a b limit in
    let fault = c.in_err-array-in-Dense.field-0.0 in
    let denied : OwnFault fault (well → ⊥) =
    denies_through fault (ChoicesFit u (union_ids u) zs (Some os) (layouts cs)) well
    (λ h. dense_rules s vs ids fs is u a b t limit zs cs c.requires.lies c.requires.ids_named c.requires.fields at head os mode places read h) c.in_err-array-in-Dense.ensures.exact
    in
    let denied_so : OwnFault fault (IsWell s (union_kind c.args.mode ids ts) a b limit → ⊥) =
    subst (λ (m : UnionMode). OwnFault fault (IsWell s (union_kind m ids ts) a b limit → ⊥)) (sym c.in-Dense.is) denied
    in
    search rules

pub read_union-returns-in_ok-array-in-Dense-clause-memory : goal.read_union-returns-in_ok-array-in-Dense-clause-memory
read_union-returns-in_ok-array-in-Dense-clause-memory g t c = λ k.
    let s = entries g.R.Failures.device c.args.body.now in
    let vs = known c.args.body.now in
    let a = c.args.place.node in
    let b = c.args.place.buffer in
    let limit = c.args.limit in
    let ids = ids_of c.args.type_ids.now in
    let fs = fields_view c.args.fields.now in
    let is = all_ids_view c.args.ids.now in
    let ts = kinds_of fs is in
    let u = type_view c.args.own.now in
    let t = b + c.args.body.now.extra in
    let at : t ≡ b + s.extra = ap (λ n. b + n) (extra_is g.R.Failures.device c.args.body.now) in
    let zs = c.in_ok-types.types in
    let head = c.in_ok-types.ensures.memory k in
    let len : c.len-rows.result ≡ length zs = c.len-rows.ensures in
    let os = c.in_ok-places-in-Dense.places in
    let places : Need s (t + 1) (4 * length zs) × (os ≡ integers_of s (t + 1) Int32 (length zs)) =
    subst (λ (n : ℕ). Need s (t + 1) (4 * n) × (os ≡ integers_of s (t + 1) Int32 n)) len (c.in_ok-places-in-Dense.ensures.memory k)
    in
    let cs = map layout_of c.in_ok-columns-in-Dense.columns.items in
    let read = c.in_ok-columns-in-Dense.ensures.memory k in
    let mode = c.requires.mode_named ∙ c.in-Dense.is in
    subst (λ (m : UnionMode). IsWell s (union_kind m ids ts) a b limit × (layout_of c.in_ok-array-in-Dense.array ≡ array_at s vs (union_kind m ids ts) u a b limit)) (sym c.in-Dense.is)
    (dense_union s vs ids fs is u a b t limit zs cs c.requires.lies c.requires.ids_named c.requires.fields at head os mode places read (layout_of c.in_ok-array-in-Dense.array) c.in_ok-array-in-Dense.ensures.exact)

pub read_as-read_union-requires : goal.read_as-read_union-requires
read_as-read_union-requires g t c =
    let d = c.args.data_type.now in
    let is = all_ids_view c.args.ids.now in
    let body = c.args.body.now in
    let fs = c.in-Union.fields in
    let ids = c.in-Union.type_ids in
    let mode = c.in-Union.mode in
    let stored = union_stored (type_view c.args.own.now) d fs ids mode c.in-Union.is c.requires.stored in
    let slice : c.deref-in-Union.result.now ≡ fs.items = c.deref-in-Union.ensures.value in
    let same : kind_of (type_view d) c.args.id is ≡ union_kind mode (ids_of ids) (kinds_of (fields_view c.deref-in-Union.result.now) is) =
    union_kind_is d fs ids mode c.args.id is c.in-Union.is ∙ ap (λ (xs : List Field). union_kind mode (ids_of ids) (kinds_of (fields_view xs) is)) (sym slice)
    in
    let room = subst (λ (z : Kind). HasRoom body c.args.place (nodes z) (buffers body.extra z)) same c.requires.room in
    λ κs within. (search (rules, the_lemmas), (within, (stored.0, (stored.1 ∙ ap fields_view (sym slice), (stored.2, (stored.3, (room, c.requires.stands)))))))

pub read_list-returns-clause-held : goal.read_list-returns-clause-held
read_list-returns-clause-held g t c =
    let s = entries g.R.Failures.device c.args.body.now in
    let extra = c.args.body.now.extra in
    let b = c.args.place.buffer in
    let u = type_view c.args.own.now in
    let head = c.in_ok-head.head in
    let made = c.in_ok-array.ensures.exact in
    let kind = field_kind (field_view c.args.field.now) (first_ids (all_ids_view c.args.ids.now)) in
    let x = layout_of c.in_ok-child.child in
    let child : HoldsListed s extra kind (b + 2) x = subst (λ (z : Kind). HoldsListed s extra z (b + 2) x) (sym c.child_of-child_id.ensures.kind) c.in_ok-child.ensures.held in
    list_held s extra b u head.validity (layout_of c.in_ok-array.array) c.in_ok-head.ensures.held.0 (form_of c.args.is_large) kind (list_width head.offsets) (list_places head.offsets) x made.1
    c.in_ok-head.ensures.held.1 child

pub read_map-returns-clause-held : goal.read_map-returns-clause-held
read_map-returns-clause-held g t c =
    let s = entries g.R.Failures.device c.args.body.now in
    let extra = c.args.body.now.extra in
    let b = c.args.start.buffer in
    let u = type_view c.args.own.now in
    let head = c.in_ok-head.head in
    let made = c.in_ok-array.ensures.exact in
    let kind = field_kind (field_view c.args.field.now) (first_ids (all_ids_view c.args.ids.now)) in
    let x = layout_of c.in_ok-child.child in
    let child : HoldsListed s extra kind (b + 2) x = subst (λ (z : Kind). HoldsListed s extra z (b + 2) x) (sym c.child_of-child_id.ensures.kind) c.in_ok-child.ensures.held in
    map_held s extra b u head.validity (layout_of c.in_ok-array.array) c.in_ok-head.ensures.held.0 kind head.offsets x made.1 c.in_ok-head.ensures.held.1 child

pub read_fixed_size_list-returns-clause-held : goal.read_fixed_size_list-returns-clause-held
read_fixed_size_list-returns-clause-held g t c =
    let s = entries g.R.Failures.device c.args.body.now in
    let extra = c.args.body.now.extra in
    let b = c.args.start.buffer in
    let u = type_view c.args.own.now in
    let head = c.in_ok-head.head in
    let made = c.in_ok-array.ensures.exact in
    let kind = field_kind (field_view c.args.field.now) (first_ids (all_ids_view c.args.ids.now)) in
    let x = layout_of c.in_ok-child.child in
    let child : HoldsListed s extra kind (b + 1) x = subst (λ (z : Kind). HoldsListed s extra z (b + 1) x) (sym c.child_of-child_id.ensures.kind) c.in_ok-child.ensures.held in
    sized_held s extra b u head.validity (layout_of c.in_ok-array.array) c.in_ok-head.ensures.held c.args.size head.rows kind x made.1 child

pub read_struct-returns-clause-held : goal.read_struct-returns-clause-held
read_struct-returns-clause-held g t c =
    let s = entries g.R.Failures.device c.args.body.now in
    let extra = c.args.body.now.extra in
    let b = c.args.place.buffer in
    let u = type_view c.args.own.now in
    let head = c.in_ok-head.head in
    let made = c.in_ok-array.ensures.exact in
    records_held s extra b u head.validity (layout_of c.in_ok-array.array) c.in_ok-head.ensures.held head.rows (kinds_of (fields_view c.args.fields.now) (all_ids_view c.args.ids.now))
    (map layout_of c.in_ok-columns.columns.items) made.1 c.in_ok-columns.ensures.held

pub read_union-returns-in_ok-array-in-Sparse-clause-held : goal.read_union-returns-in_ok-array-in-Sparse-clause-held
read_union-returns-in_ok-array-in-Sparse-clause-held g t c =
    let s = entries g.R.Failures.device c.args.body.now in
    let extra = c.args.body.now.extra in
    let b = c.args.place.buffer in
    let u = type_view c.args.own.now in
    let ids = ids_of c.args.type_ids.now in
    let ts = kinds_of (fields_view c.args.fields.now) (all_ids_view c.args.ids.now) in
    let x = layout_of c.in_ok-array-in-Sparse.array in
    let cs = map layout_of c.in_ok-columns-in-Sparse.columns.items in
    subst (λ (m : UnionMode). HoldsListed s extra (union_kind m ids ts) b x) (sym c.in-Sparse.is)
    (sparse_held s extra b u ids ts c.in_ok-types.types cs x c.in_ok-types.ensures.held c.in_ok-array-in-Sparse.ensures.exact.1 c.in_ok-columns-in-Sparse.ensures.held)

pub read_union-returns-in_ok-array-in-Dense-clause-held : goal.read_union-returns-in_ok-array-in-Dense-clause-held
read_union-returns-in_ok-array-in-Dense-clause-held g t c =
    let s = entries g.R.Failures.device c.args.body.now in
    let extra = c.args.body.now.extra in
    let b = c.args.place.buffer in
    let u = type_view c.args.own.now in
    let ids = ids_of c.args.type_ids.now in
    let ts = kinds_of (fields_view c.args.fields.now) (all_ids_view c.args.ids.now) in
    let x = layout_of c.in_ok-array-in-Dense.array in
    let cs = map layout_of c.in_ok-columns-in-Dense.columns.items in
    subst (λ (m : UnionMode). HoldsListed s extra (union_kind m ids ts) b x) (sym c.in-Dense.is)
    (dense_held s extra b u ids ts c.in_ok-types.types cs x c.in_ok-types.ensures.held c.in_ok-places-in-Dense.places c.in_ok-array-in-Dense.ensures.exact.1
    c.in_ok-places-in-Dense.ensures.held c.in_ok-columns-in-Dense.ensures.held)

pub read_as-returns-in-Map-clause-held : goal.read_as-returns-in-Map-clause-held
read_as-returns-in-Map-clause-held g t c =
    let s = entries g.R.Failures.device c.args.body.now in
    let d = c.args.data_type.now in
    let is = all_ids_view c.args.ids.now in
    let b = c.args.place.buffer in
    let same : kind_of (type_view d) c.args.id is ≡ map_kind (field_kind (field_view c.deref-in-Map.result.now) (first_ids is)) =
    map_kind_is d c.in-Map.field _ c.args.id is c.in-Map.is ∙ ap (λ (f : Field). map_kind (field_kind (field_view f) (first_ids is))) (sym c.deref-in-Map.ensures)
    in
    subst (λ (z : Kind). IfOk c.read_map.result (λ r. HoldsListed s c.args.body.now.extra z b (layout_of r.0))) (sym same) c.read_map.ensures.held

pub read_as-returns-in-List-clause-held : goal.read_as-returns-in-List-clause-held
read_as-returns-in-List-clause-held g t c =
    let s = entries g.R.Failures.device c.args.body.now in
    let d = c.args.data_type.now in
    let is = all_ids_view c.args.ids.now in
    let b = c.args.place.buffer in
    let same : kind_of (type_view d) c.args.id is ≡ list_kind offsets_32 (field_kind (field_view c.deref-in-List.result.now) (first_ids is)) =
    list_kind_is d c.in-List.field c.args.id is c.in-List.is ∙ ap (λ (f : Field). list_kind offsets_32 (field_kind (field_view f) (first_ids is))) (sym c.deref-in-List.ensures)
    in
    subst (λ (z : Kind). IfOk c.read_list.result (λ r. HoldsListed s c.args.body.now.extra z b (layout_of r.0))) (sym same) c.read_list.ensures.held

pub read_as-returns-in-LargeList-clause-held : goal.read_as-returns-in-LargeList-clause-held
read_as-returns-in-LargeList-clause-held g t c =
    let s = entries g.R.Failures.device c.args.body.now in
    let d = c.args.data_type.now in
    let is = all_ids_view c.args.ids.now in
    let b = c.args.place.buffer in
    let same : kind_of (type_view d) c.args.id is ≡ list_kind offsets_64 (field_kind (field_view c.deref-in-LargeList.result.now) (first_ids is)) =
    large_list_kind_is d c.in-LargeList.field c.args.id is c.in-LargeList.is ∙ ap (λ (f : Field). list_kind offsets_64 (field_kind (field_view f) (first_ids is))) (sym c.deref-in-LargeList.ensures)
    in
    subst (λ (z : Kind). IfOk c.read_list-in-LargeList.result (λ r. HoldsListed s c.args.body.now.extra z b (layout_of r.0))) (sym same) c.read_list-in-LargeList.ensures.held

pub read_as-returns-in-FixedSizeList-clause-held : goal.read_as-returns-in-FixedSizeList-clause-held
read_as-returns-in-FixedSizeList-clause-held g t c =
    let s = entries g.R.Failures.device c.args.body.now in
    let d = c.args.data_type.now in
    let is = all_ids_view c.args.ids.now in
    let b = c.args.place.buffer in
    let same : kind_of (type_view d) c.args.id is ≡ fixed_list_kind c.in-FixedSizeList.size (field_kind (field_view c.deref-in-FixedSizeList.result.now) (first_ids is)) =
    fixed_list_kind_is d c.in-FixedSizeList.field c.in-FixedSizeList.size c.args.id is c.in-FixedSizeList.is ∙ ap (λ (f : Field). fixed_list_kind c.in-FixedSizeList.size (field_kind (field_view f) (first_ids is))) (sym c.deref-in-FixedSizeList.ensures)
    in
    subst (λ (z : Kind). IfOk c.read_fixed_size_list.result (λ r. HoldsListed s c.args.body.now.extra z b (layout_of r.0))) (sym same) c.read_fixed_size_list.ensures.held

pub read_as-returns-in-Extension-clause-held : goal.read_as-returns-in-Extension-clause-held
read_as-returns-in-Extension-clause-held g t c =
    let s = entries g.R.Failures.device c.args.body.now in
    let d = c.args.data_type.now in
    let is = all_ids_view c.args.ids.now in
    let b = c.args.place.buffer in
    let same : kind_of (type_view d) c.args.id is ≡ extension_kind (kind_of (type_view c.deref.result.now) c.args.id is) =
    extension_kind_is d c.in-Extension.field-0 c.in-Extension.inner c.in-Extension.field-2 c.args.id is c.in-Extension.is
    ∙ ap (λ (e : DataType). extension_kind (kind_of (type_view e) c.args.id is)) (sym c.deref.ensures)
    in
    subst (λ (z : Kind). IfOk c.read_as.result (λ r. HoldsListed s c.args.body.now.extra z b (layout_of r.0))) (sym same) c.read_as.ensures.held
