use Rattle.std.proofs.Common.{arith, rules, ◌≡◌, ◌+◌, ◌-◌, ◌*◌, ℕ, List, [], ◌∷◌, ◌++◌, map, take, length, refl, sym, ap, ap₂, ◌∙◌, subst, All, None, Some, Option, ℤ, Result}
use Rattle.std.specs.List.{flat_map}
use Rattle.std.specs.Option.{option_copied}
use Rattle.std.specs.Prelude.{slice_index, OnOk}
use Rattle.std.proofs.lemmas.List.{take_all}
use Rattle.std.proofs.lemmas.List.Elements.{All-more}
use Rattle.lower_types.specs.declared.PrimitiveType.{PrimitiveType}
use Rattle.lower_types.specs.declared.PrimitiveType.TheVariants.{Int32, Int64}
use Rattle.lower_flat_arrays.specs.Validities.{Validity, part, cut_validity}
use Rattle.lower_arrays.specs.AnyLayouts.{layout_of}
use Rattle.lower_arrays.specs.Children.{AllHave, AllReach, lens_of}
use Rattle.lower_validation.specs.Ids.{union_ids}
use Rattle.lower_validation.specs.Places.{PlacesFit}
use Rattle.lower_arrays.specs.Cuts.{cut_level}
use Rattle.lower_arrays.specs.declared.array.AnyArray.{AnyArray}
use Rattle.lower_arrays.specs.Layouts.{Layout, Level, heights, layouts, level, records, choices}
use Rattle.lower_arrays.specs.Lists.{ListSeen, list_layout, list_layout_as}
use Rattle.lower_arrays.specs.Maps.{map_layout}
use Rattle.lower_arrays.specs.FixedLists.{fixed_list_layout}
use Rattle.lower_arrays.specs.Slots.{IsArray}
use Rattle.lower_arrays.specs.Structs.{struct_layout}
use Rattle.lower_arrays.specs.Unions.{union_layout}
use Rattle.lower_arrays.proofs.Children.{height_at, reach_at}
use Rattle.lower_arrays.proofs.CutRules.{have-reach}
use Rattle.ipc_model.specs.Accepted.{IsSayable, body_length}
use Rattle.ipc_model.specs.Offers.{written_levels, whole_levels, levels_below, offsets_length, validity_length}
use Rattle.ipc_plan.specs.Plans.{Adds, AddsHead, AddsStart}
use Rattle.ipc_plan.specs.OffsetViews.{places_of, type_of_offsets}
use Rattle.ipc_plan.specs.Taking.{AreShort, RefusesRoom, TakesLevels}
use Rattle.ipc_plan.specs.declared.plan.Plan.{Plan}
use Rattle.ipc_plan.specs.declared.plan.PlanFault.{PlanFault}
use Rattle.ipc_plan.proofs.Growing.{on_ok, adds_then, adds_none, child_then, lists_adds, maps_adds, fixed_lists_adds, scaled_wide, records_adds, levels_more, columns_more}
use Rattle.ipc_plan.proofs.Taking.{room, own_room, room-both, short-both, start_exit, level_exit, child_takes, levels_then, levels_exit, beside_rest, whole_rest, sparse_children, dense_children}
use Rattle.ipc_plan.proofs.serialize.+plans.Goals as goal

-- Lists are planned alike in either variant of AnyArray.
planned_list :
    (named : PrimitiveType) (p q r : Plan) (a : ListSeen) (o n first last : ℕ) (w : PrimitiveType) (os : List ℕ) (v : Validity) (l : Layout) (x : Result Unit PlanFault)
    → w ≡ a.width → os ≡ a.offsets → v ≡ a.validity → l ≡ a.child → first ≡ slice_index a.offsets o → last ≡ slice_index a.offsets (o + n)
    → AddsHead p q n w (part o (n + 1) os) (cut_validity o n v) → OnOk x (Adds q r (written_levels l first (last - first)))
    → OnOk x (Adds p r (written_levels (list_layout_as named a) o n))
planned_list named p q r a o n first last w os v l x width places bits child starts ends head below =
    let level_head : AddsHead p q n a.width (part o (n + 1) a.offsets) (cut_validity o n a.validity) =
    subst (λ (y : PrimitiveType). AddsHead p q n y (part o (n + 1) a.offsets) (cut_validity o n a.validity)) width
    (subst (λ (ys : List ℕ). AddsHead p q n w (part o (n + 1) ys) (cut_validity o n a.validity)) places
    (subst (λ (y : Validity). AddsHead p q n w (part o (n + 1) os) (cut_validity o n y)) bits head)) in
    let own = lists_adds p q n a.type named a.width (part o (n + 1) a.offsets) (cut_validity o n a.validity) level_head in
    let same : written_levels l first (last - first) ≡ written_levels a.child (slice_index a.offsets o) (slice_index a.offsets (o + n) - slice_index a.offsets o) =
    ap (λ (m : Layout). written_levels m first (last - first)) child ∙ ap₂ (λ (i j : ℕ). written_levels a.child i (j - i)) starts ends in
    on_ok x (λ y.
    child_then p q r (cut_level o n (level (list_layout_as named a))) (written_levels a.child (slice_index a.offsets o) (slice_index a.offsets (o + n) - slice_index a.offsets o)) own
    (subst (λ (hs : List Level). Adds q r hs) same y)) below

pub list::plan_list-returns-clause-small : goal.list::plan_list-returns-clause-small
list::plan_list-returns-clause-small t c =
    let places : places_of c.list_offsets-offsets.result ≡ c.args.array.now.offsets = c.list_offsets-offsets.ensures.places ∙ c.offsets.ensures.places in
    planned_list Int32 c.args.plan.now c.plan_head.new.plan c.plan_array.new.plan c.args.array.now c.args.offset c.args.len
    c.range_of-from.result.0 c.range_of-from.result.1 (type_of_offsets c.list_offsets-offsets.result) (places_of c.list_offsets-offsets.result)
    (option_copied c.validity.result) (layout_of c.values.result.now) c.plan_array.result
    (c.list_offsets-offsets.ensures.width ∙ c.offsets.ensures.width) places c.validity.ensures.bits c.values.ensures.child
    (c.range_of-from.ensures.from ∙ ap (λ (os : List ℕ). slice_index os c.args.offset) places)
    (c.range_of-from.ensures.to ∙ ap (λ (os : List ℕ). slice_index os (c.args.offset + c.args.len)) places)
    c.in_ok-plan_head.ensures.grows c.plan_array.ensures.grows

pub list::plan_list-returns-clause-large : goal.list::plan_list-returns-clause-large
list::plan_list-returns-clause-large t c =
    let places : places_of c.list_offsets-offsets.result ≡ c.args.array.now.offsets = c.list_offsets-offsets.ensures.places ∙ c.offsets.ensures.places in
    planned_list Int64 c.args.plan.now c.plan_head.new.plan c.plan_array.new.plan c.args.array.now c.args.offset c.args.len
    c.range_of-from.result.0 c.range_of-from.result.1 (type_of_offsets c.list_offsets-offsets.result) (places_of c.list_offsets-offsets.result)
    (option_copied c.validity.result) (layout_of c.values.result.now) c.plan_array.result
    (c.list_offsets-offsets.ensures.width ∙ c.offsets.ensures.width) places c.validity.ensures.bits c.values.ensures.child
    (c.range_of-from.ensures.from ∙ ap (λ (os : List ℕ). slice_index os c.args.offset) places)
    (c.range_of-from.ensures.to ∙ ap (λ (os : List ℕ). slice_index os (c.args.offset + c.args.len)) places)
    c.in_ok-plan_head.ensures.grows c.plan_array.ensures.grows

pub map::plan_map-returns-clause-grows : goal.map::plan_map-returns-clause-grows
map::plan_map-returns-clause-grows t c =
    let a = c.args.array.now in
    let o = c.args.offset in
    let n = c.args.len in
    let p = c.args.plan.now in
    let q = c.plan_head.new.plan in
    let r = c.plan_array.new.plan in
    let v = cut_validity o n a.validity in
    let places : c.offsets.result.now ≡ a.offsets = c.offsets.ensures.places in
    let from : c.range_of-from.result.0 ≡ slice_index a.offsets o = c.range_of-from.ensures.from ∙ ap (λ (os : List ℕ). slice_index os o) places in
    let to : c.range_of-from.result.1 ≡ slice_index a.offsets (o + n) = c.range_of-from.ensures.to ∙ ap (λ (os : List ℕ). slice_index os (o + n)) places in
    let head : AddsHead p q n Int32 (part o (n + 1) a.offsets) v =
    subst (λ (os : List ℕ). AddsHead p q n Int32 (part o (n + 1) os) v) places
    (subst (λ (w : Validity). AddsHead p q n Int32 (part o (n + 1) c.offsets.result.now) (cut_validity o n w)) c.validity.ensures.bits c.in_ok-plan_head.ensures.grows) in
    let own = maps_adds p q n a.type (part o (n + 1) a.offsets) v head in
    let same : written_levels (layout_of c.field.result.now) c.range_of-from.result.0 (c.range_of-from.result.1 - c.range_of-from.result.0)
    ≡ written_levels a.child (slice_index a.offsets o) (slice_index a.offsets (o + n) - slice_index a.offsets o) =
    ap (λ (l : Layout). written_levels l c.range_of-from.result.0 (c.range_of-from.result.1 - c.range_of-from.result.0)) c.field.ensures.child
    ∙ ap₂ (λ (x y : ℕ). written_levels a.child x (y - x)) from to in
    on_ok c.plan_array.result (λ x.
    child_then p q r (cut_level o n (level (map_layout a))) (written_levels a.child (slice_index a.offsets o) (slice_index a.offsets (o + n) - slice_index a.offsets o)) own
    (subst (λ (hs : List Level). Adds q r hs) same x)) c.plan_array.ensures.grows

pub fixed_size_list::plan_fixed_size_list-returns-clause-grows : goal.fixed_size_list::plan_fixed_size_list-returns-clause-grows
fixed_size_list::plan_fixed_size_list-returns-clause-grows t c =
    let a = c.args.array.now in
    let o = c.args.offset in
    let n = c.args.len in
    let z = a.size in
    let p = c.args.plan.now in
    let q = c.plan_start.new.plan in
    let r = c.plan_array.new.plan in
    let v = cut_validity o n a.validity in
    let from : c.scaled-from.result ≡ o * z = c.scaled-from.ensures.value ∙ ap (λ (k : ℕ). o * k) c.size.ensures.size in
    let to : c.scaled-to.result ≡ (o + n) * z = c.scaled-to.ensures.value ∙ ap (λ (k : ℕ). (o + n) * k) c.size-2.ensures.size in
    let wide : c.scaled-to.result - c.scaled-from.result ≡ n * z = ap₂ (λ (x y : ℕ). x - y) to from ∙ scaled_wide o n z in
    let start : AddsStart p q n v = subst (λ (w : Validity). AddsStart p q n (cut_validity o n w)) c.validity.ensures.bits c.in_ok-plan_start.ensures.grows in
    let same : written_levels (layout_of c.values-2.result.now) c.scaled-from.result (c.scaled-to.result - c.scaled-from.result) ≡ written_levels a.child (o * z) (n * z) =
    ap (λ (l : Layout). written_levels l c.scaled-from.result (c.scaled-to.result - c.scaled-from.result)) c.values-2.ensures.child
    ∙ ap₂ (λ (x y : ℕ). written_levels a.child x y) from wide in
    on_ok c.plan_array.result (λ x.
    child_then p q r (cut_level o n (level (fixed_list_layout a))) (written_levels a.child (o * z) (n * z)) (fixed_lists_adds p q n z a.type v start)
    (subst (λ (hs : List Level). Adds q r hs) same x)) c.plan_array.ensures.grows

pub list::plan_list-returns-in_err-plan_head-clause-takes : goal.list::plan_list-returns-in_err-plan_head-clause-takes
list::plan_list-returns-in_err-plan_head-clause-takes t c =
    let a = c.args.array.now in
    let o = c.args.offset in
    let n = c.args.len in
    let p = c.args.plan.now in
    let h = cut_level o n (level (list_layout a)) in
    let width : type_of_offsets c.list_offsets-offsets.result ≡ a.width = c.list_offsets-offsets.ensures.width ∙ c.offsets.ensures.width in
    let own = ap₂ (λ (w : Validity) (z : PrimitiveType). p.end + body_length (validity_length (cut_validity o n w) n ∷ offsets_length z n ∷ [])) c.validity.ensures.bits width in
    level_exit c.from_residual.result c.in_err-plan_head.field-0.0 h (written_levels a.child (slice_index a.offsets o) (slice_index a.offsets (o + n) - slice_index a.offsets o) ++ []) p.end _ (own_room h) c.from_residual.ensures.1 (omega arith)
    (subst (λ (k : ℕ). RefusesRoom (IsSayable n) k c.in_err-plan_head.field-0.0) own c.in_err-plan_head.ensures.takes)

pub list::plan_list-returns-clause-takes : goal.list::plan_list-returns-clause-takes
list::plan_list-returns-clause-takes t c =
    let a = c.args.array.now in
    let o = c.args.offset in
    let n = c.args.len in
    let p = c.args.plan.now in
    let q = c.plan_head.new.plan in
    let r = c.plan_array.new.plan in
    let h = cut_level o n (level (list_layout a)) in
    let places : places_of c.list_offsets-offsets.result ≡ a.offsets = c.list_offsets-offsets.ensures.places ∙ c.offsets.ensures.places in
    let width : type_of_offsets c.list_offsets-offsets.result ≡ a.width = c.list_offsets-offsets.ensures.width ∙ c.offsets.ensures.width in
    let from : c.range_of-from.result.0 ≡ slice_index a.offsets o = c.range_of-from.ensures.from ∙ ap (λ (os : List ℕ). slice_index os o) places in
    let to : c.range_of-from.result.1 ≡ slice_index a.offsets (o + n) = c.range_of-from.ensures.to ∙ ap (λ (os : List ℕ). slice_index os (o + n)) places in
    let same : written_levels (layout_of c.values.result.now) c.range_of-from.result.0 (c.range_of-from.result.1 - c.range_of-from.result.0)
    ≡ written_levels a.child (slice_index a.offsets o) (slice_index a.offsets (o + n) - slice_index a.offsets o) =
    ap (λ (l : Layout). written_levels l c.range_of-from.result.0 (c.range_of-from.result.1 - c.range_of-from.result.0)) c.values.ensures.child
    ∙ ap₂ (λ (x y : ℕ). written_levels a.child x (y - x)) from to in
    let own = c.in_ok-plan_head.ensures.takes in
    child_takes c.plan_array.result h (written_levels a.child (slice_index a.offsets o) (slice_index a.offsets (o + n) - slice_index a.offsets o)) p.end q.end r.end own.0
    (own.1 ∙ ap₂ (λ (w : Validity) (z : PrimitiveType). p.end + body_length (validity_length (cut_validity o n w) n ∷ offsets_length z n ∷ [])) c.validity.ensures.bits width)
    (subst (λ (hs : List Level). TakesLevels c.plan_array.result hs q.end r.end) same c.plan_array.ensures.takes)

pub map::plan_map-returns-in_err-plan_head-clause-takes : goal.map::plan_map-returns-in_err-plan_head-clause-takes
map::plan_map-returns-in_err-plan_head-clause-takes t c =
    let a = c.args.array.now in
    let o = c.args.offset in
    let n = c.args.len in
    let p = c.args.plan.now in
    let h = cut_level o n (level (map_layout a)) in
    let own = ap (λ (w : Validity). p.end + body_length (validity_length (cut_validity o n w) n ∷ offsets_length Int32 n ∷ [])) c.validity.ensures.bits in
    level_exit c.from_residual.result c.in_err-plan_head.field-0.0 h (written_levels a.child (slice_index a.offsets o) (slice_index a.offsets (o + n) - slice_index a.offsets o) ++ []) p.end _ (own_room h) c.from_residual.ensures.1 (omega arith)
    (subst (λ (k : ℕ). RefusesRoom (IsSayable n) k c.in_err-plan_head.field-0.0) own c.in_err-plan_head.ensures.takes)

pub map::plan_map-returns-clause-takes : goal.map::plan_map-returns-clause-takes
map::plan_map-returns-clause-takes t c =
    let a = c.args.array.now in
    let o = c.args.offset in
    let n = c.args.len in
    let p = c.args.plan.now in
    let q = c.plan_head.new.plan in
    let r = c.plan_array.new.plan in
    let h = cut_level o n (level (map_layout a)) in
    let places : c.offsets.result.now ≡ a.offsets = c.offsets.ensures.places in
    let from : c.range_of-from.result.0 ≡ slice_index a.offsets o = c.range_of-from.ensures.from ∙ ap (λ (os : List ℕ). slice_index os o) places in
    let to : c.range_of-from.result.1 ≡ slice_index a.offsets (o + n) = c.range_of-from.ensures.to ∙ ap (λ (os : List ℕ). slice_index os (o + n)) places in
    let same : written_levels (layout_of c.field.result.now) c.range_of-from.result.0 (c.range_of-from.result.1 - c.range_of-from.result.0)
    ≡ written_levels a.child (slice_index a.offsets o) (slice_index a.offsets (o + n) - slice_index a.offsets o) =
    ap (λ (l : Layout). written_levels l c.range_of-from.result.0 (c.range_of-from.result.1 - c.range_of-from.result.0)) c.field.ensures.child
    ∙ ap₂ (λ (x y : ℕ). written_levels a.child x (y - x)) from to in
    let own = c.in_ok-plan_head.ensures.takes in
    child_takes c.plan_array.result h (written_levels a.child (slice_index a.offsets o) (slice_index a.offsets (o + n) - slice_index a.offsets o)) p.end q.end r.end own.0
    (own.1 ∙ ap (λ (w : Validity). p.end + body_length (validity_length (cut_validity o n w) n ∷ offsets_length Int32 n ∷ [])) c.validity.ensures.bits)
    (subst (λ (hs : List Level). TakesLevels c.plan_array.result hs q.end r.end) same c.plan_array.ensures.takes)

pub fixed_size_list::plan_fixed_size_list-returns-in_err-plan_start-clause-takes : goal.fixed_size_list::plan_fixed_size_list-returns-in_err-plan_start-clause-takes
fixed_size_list::plan_fixed_size_list-returns-in_err-plan_start-clause-takes t c =
    let a = c.args.array.now in
    let o = c.args.offset in
    let n = c.args.len in
    start_exit c.from_residual.result _ (cut_level o n (level (fixed_list_layout a))) (written_levels a.child (o * a.size) (n * a.size) ++ []) c.args.plan.now.end _ n o _ a.validity []
    c.validity.ensures.bits c.from_residual.ensures.1 refl refl c.in_err-plan_start.ensures.takes

pub fixed_size_list::plan_fixed_size_list-returns-clause-takes : goal.fixed_size_list::plan_fixed_size_list-returns-clause-takes
fixed_size_list::plan_fixed_size_list-returns-clause-takes t c =
    let a = c.args.array.now in
    let o = c.args.offset in
    let n = c.args.len in
    let z = a.size in
    let p = c.args.plan.now in
    let q = c.plan_start.new.plan in
    let r = c.plan_array.new.plan in
    let h = cut_level o n (level (fixed_list_layout a)) in
    let from : c.scaled-from.result ≡ o * z = c.scaled-from.ensures.value ∙ ap (λ (k : ℕ). o * k) c.size.ensures.size in
    let to : c.scaled-to.result ≡ (o + n) * z = c.scaled-to.ensures.value ∙ ap (λ (k : ℕ). (o + n) * k) c.size-2.ensures.size in
    let wide : c.scaled-to.result - c.scaled-from.result ≡ n * z = ap₂ (λ (x y : ℕ). x - y) to from ∙ scaled_wide o n z in
    let same : written_levels (layout_of c.values-2.result.now) c.scaled-from.result (c.scaled-to.result - c.scaled-from.result) ≡ written_levels a.child (o * z) (n * z) =
    ap (λ (l : Layout). written_levels l c.scaled-from.result (c.scaled-to.result - c.scaled-from.result)) c.values-2.ensures.child
    ∙ ap₂ (λ (x y : ℕ). written_levels a.child x y) from wide in
    let own = c.in_ok-plan_start.ensures.takes in
    child_takes c.plan_array.result h (written_levels a.child (o * z) (n * z)) p.end q.end r.end own.0
    (own.1 ∙ ap (λ (w : Validity). p.end + body_length (validity_length (cut_validity o n w) n ∷ [])) c.validity.ensures.bits)
    (subst (λ (hs : List Level). TakesLevels c.plan_array.result hs q.end r.end) same c.plan_array.ensures.takes)

-- ---- the same slots of each child

pub plan_beside-loop-child-init : goal.plan_beside-loop-child-init
plan_beside-loop-child-init t c = record { adds = adds_none c.args.plan.now c.requires.small; short = tt; end = omega arith }

pub plan_beside-plan_array-requires : goal.plan_beside-plan_array-requires
plan_beside-plan_array-requires t c =
    let xs = c.args.children.now in
    let i = c.loop-child.child-index in
    let y = c.child-item.result in
    let reach = reach_at xs (c.args.offset + c.args.len) i y c.loop-child-test.true c.child-item.is c.requires.inside in
    (omega (arith, height_at xs i y c.loop-child-test.true c.child-item.is, c.decreases), (c.loop-child.invariant.adds.grows.small, reach))

pub plan_beside-loop-child-preserved : goal.plan_beside-loop-child-preserved
plan_beside-loop-child-preserved t c =
    let xs = c.args.children.now in
    let i = c.loop-child.child-index in
    let y = c.child-item.result in
    let o = c.args.offset in
    let n = c.args.len in
    let p = c.args.plan.now in
    let q = c.plan_array.new.plan in
    let front = levels_below (layouts (map layout_of (take i xs))) records o n in
    let this = written_levels (layout_of y) o n in
    let more = levels_more xs o n i y c.loop-child-test.true c.child-item.is in
    let wide = ap room more ∙ room-both front this in
    let step = c.in_ok-plan_array.ensures.takes in
    record {
      adds = subst (λ (hs : List Level). Adds p q hs) (sym more) (adds_then p c.loop-child.plan q front this c.loop-child.invariant.adds c.in_ok-plan_array.ensures.grows);
      short = subst (λ (hs : List Level). AreShort hs) (sym more) (short-both front this c.loop-child.invariant.short step.0);
      end = omega (arith, wide, step.1, c.loop-child.invariant.end);
    }

pub plan_beside-returns-in_err-plan_array-clause-takes : goal.plan_beside-returns-in_err-plan_array-clause-takes
plan_beside-returns-in_err-plan_array-clause-takes t c =
    let xs = c.args.children.now in
    let i = c.loop-child.child-index in
    let y = c.child-item.result in
    let o = c.args.offset in
    let n = c.args.len in
    let amid = beside_rest xs o n i y c.loop-child-test.true c.child-item.is in
    levels_exit c.from_residual.result _ (levels_below (layouts (map layout_of xs)) records o n) (levels_below (layouts (map layout_of (take i xs))) records o n) (written_levels (layout_of y) o n) amid.rest
    c.args.plan.now.end c.loop-child.plan.end _ amid.same c.loop-child.invariant.end c.from_residual.ensures.1 c.in_err-plan_array.ensures.takes

pub plan_beside-returns-clause-grows : goal.plan_beside-returns-clause-grows
plan_beside-returns-clause-grows t c =
    let xs = c.args.children.now in
    subst (λ (ys : List AnyArray). Adds c.args.plan.now c.loop-child.plan (levels_below (layouts (map layout_of ys)) records c.args.offset c.args.len)) (take_all c.loop-child.child-index xs c.loop-child-test.false)
    c.loop-child.invariant.adds

pub plan_beside-returns-clause-takes : goal.plan_beside-returns-clause-takes
plan_beside-returns-clause-takes t c =
    let xs = c.args.children.now in
    let o = c.args.offset in
    let n = c.args.len in
    let all = take_all c.loop-child.child-index xs c.loop-child-test.false in (
      subst (λ (ys : List AnyArray). AreShort (levels_below (layouts (map layout_of ys)) records o n)) all c.loop-child.invariant.short,
      subst (λ (ys : List AnyArray). c.loop-child.plan.end ≡ c.args.plan.now.end + room (levels_below (layouts (map layout_of ys)) records o n)) all c.loop-child.invariant.end,
    )

-- ---- arrays whole

pub plan_whole-loop-array-init : goal.plan_whole-loop-array-init
plan_whole-loop-array-init t c = record { adds = adds_none c.args.plan.now c.requires; short = tt; end = omega arith; arrays = search rules }

pub plan_whole-plan_array-requires : goal.plan_whole-plan_array-requires
plan_whole-plan_array-requires t c =
    let xs = c.args.arrays.now in
    let i = c.loop-array.array-index in
    let y = c.array-item.result in
    (omega (arith, height_at xs i y c.loop-array-test.true c.array-item.is, c.decreases), (c.loop-array.invariant.adds.grows.small, omega (arith, c.len-len.ensures.len)))

pub plan_whole-loop-array-preserved : goal.plan_whole-loop-array-preserved
plan_whole-loop-array-preserved t c =
    let xs = c.args.arrays.now in
    let i = c.loop-array.array-index in
    let y = c.array-item.result in
    let p = c.args.plan.now in
    let m = c.loop-array.plan in
    let q = c.plan_array.new.plan in
    let front = flat_map whole_levels (map layout_of (take i xs)) in
    let this = whole_levels (layout_of y) in
    let more = columns_more xs i y c.loop-array-test.true c.array-item.is in
    let wide = ap room more ∙ room-both front this in
    let one : Adds m q this = subst (λ (k : ℕ). Adds m q (written_levels (layout_of y) 0 k)) c.len-len.ensures.len c.in_ok-plan_array.ensures.grows in
    let step : AreShort this × (q.end ≡ m.end + room this) = subst (λ (k : ℕ). AreShort (written_levels (layout_of y) 0 k) × (q.end ≡ m.end + room (written_levels (layout_of y) 0 k))) c.len-len.ensures.len c.in_ok-plan_array.ensures.takes in
    record {
      adds = subst (λ (hs : List Level). Adds p q hs) (sym more) (adds_then p m q front this c.loop-array.invariant.adds one);
      short = subst (λ (hs : List Level). AreShort hs) (sym more) (short-both front this c.loop-array.invariant.short step.0);
      end = omega (arith, wide, step.1, c.loop-array.invariant.end);
      arrays = All-more (λ (x : AnyArray). IsArray (layout_of x)) xs i y c.loop-array-test.true c.loop-array.invariant.arrays (rw c.array-item.is at c.len-len.ensures.valid);
    }

pub plan_whole-returns-in_err-plan_array-clause-takes : goal.plan_whole-returns-in_err-plan_array-clause-takes
plan_whole-returns-in_err-plan_array-clause-takes t c =
    let xs = c.args.arrays.now in
    let i = c.loop-array.array-index in
    let y = c.array-item.result in
    let m = c.loop-array.plan in
    let amid = whole_rest xs i y c.loop-array-test.true c.array-item.is in
    levels_exit c.from_residual.result c.in_err-plan_array.field-0.0 (flat_map whole_levels (map layout_of xs)) (flat_map whole_levels (map layout_of (take i xs))) (whole_levels (layout_of y)) amid.rest
    c.args.plan.now.end m.end _ amid.same c.loop-array.invariant.end c.from_residual.ensures.1
    (subst (λ (k : ℕ). RefusesRoom (AreShort (written_levels (layout_of y) 0 k)) (m.end + room (written_levels (layout_of y) 0 k)) c.in_err-plan_array.field-0.0) c.len-len.ensures.len c.in_err-plan_array.ensures.takes)

pub plan_whole-returns-clause-grows : goal.plan_whole-returns-clause-grows
plan_whole-returns-clause-grows t c =
    subst (λ (ys : List AnyArray). Adds c.args.plan.now c.loop-array.plan (flat_map whole_levels (map layout_of ys))) (take_all c.loop-array.array-index c.args.arrays.now c.loop-array-test.false) c.loop-array.invariant.adds

pub plan_whole-returns-clause-takes : goal.plan_whole-returns-clause-takes
plan_whole-returns-clause-takes t c =
    let all = take_all c.loop-array.array-index c.args.arrays.now c.loop-array-test.false in (
      subst (λ (ys : List AnyArray). AreShort (flat_map whole_levels (map layout_of ys))) all c.loop-array.invariant.short,
      subst (λ (ys : List AnyArray). c.loop-array.plan.end ≡ c.args.plan.now.end + room (flat_map whole_levels (map layout_of ys))) all c.loop-array.invariant.end,
    )

pub plan_whole-returns-clause-arrays : goal.plan_whole-returns-clause-arrays
plan_whole-returns-clause-arrays t c =
    subst (λ (ys : List AnyArray). All (λ (x : AnyArray). IsArray (layout_of x)) ys) (take_all c.loop-array.array-index c.args.arrays.now c.loop-array-test.false) c.loop-array.invariant.arrays

-- ---- records

pub struct_::plan_struct-plan_beside-requires : goal.struct_::plan_struct-plan_beside-requires
struct_::plan_struct-plan_beside-requires t c =
    let a = c.args.array.now in
    let xs = c.values.result.now in
    let m = c.args.offset + c.args.len in
    let reach : AllReach m (layouts (map layout_of xs)) = subst (λ (ls : List Layout). AllReach m (layouts ls)) (sym c.values.ensures.children) (have-reach (layouts a.children) m a.len c.requires.inside c.values.ensures.valid.1.3) in
    let e : heights (layouts (map layout_of xs)) ≡ heights (layouts a.children) = ap (λ (ls : List Layout). heights (layouts ls)) c.values.ensures.children in
    (omega (arith, e, c.decreases), (c.in_ok-plan_start.ensures.grows.grows.small, reach))

pub struct_::plan_struct-returns-in_err-plan_start-clause-takes : goal.struct_::plan_struct-returns-in_err-plan_start-clause-takes
struct_::plan_struct-returns-in_err-plan_start-clause-takes t c =
    let a = c.args.array.now in
    let o = c.args.offset in
    let n = c.args.len in
    start_exit c.from_residual.result _ (cut_level o n (level (struct_layout a))) (levels_below (layouts a.children) records o n) c.args.plan.now.end _ n o _ a.validity []
    c.validity.ensures.bits c.from_residual.ensures.1 refl refl c.in_err-plan_start.ensures.takes

pub struct_::plan_struct-returns-clause-grows : goal.struct_::plan_struct-returns-clause-grows
struct_::plan_struct-returns-clause-grows t c =
    let a = c.args.array.now in
    let o = c.args.offset in
    let n = c.args.len in
    let p = c.args.plan.now in
    let q = c.plan_start.new.plan in
    let r = c.plan_beside.new.plan in
    let h = cut_level o n (level (struct_layout a)) in
    let start : AddsStart p q n (cut_validity o n a.validity) = subst (λ (w : Validity). AddsStart p q n (cut_validity o n w)) c.validity.ensures.bits c.in_ok-plan_start.ensures.grows in
    let own : Adds p q (h ∷ []) = records_adds p q n a.type (cut_validity o n a.validity) start in
    on_ok c.plan_beside.result (λ x. adds_then p q r (h ∷ []) (levels_below (layouts a.children) records o n) own
    (subst (λ (ls : List Layout). Adds q r (levels_below (layouts ls) records o n)) c.values.ensures.children x)) c.plan_beside.ensures.grows

pub struct_::plan_struct-returns-clause-takes : goal.struct_::plan_struct-returns-clause-takes
struct_::plan_struct-returns-clause-takes t c =
    let a = c.args.array.now in
    let o = c.args.offset in
    let n = c.args.len in
    let p = c.args.plan.now in
    let q = c.plan_start.new.plan in
    let r = c.plan_beside.new.plan in
    let h = cut_level o n (level (struct_layout a)) in
    let own = c.in_ok-plan_start.ensures.takes in
    levels_then c.plan_beside.result (h ∷ []) (levels_below (layouts a.children) records o n) p.end q.end r.end (own.0, tt)
    (own.1 ∙ ap (λ (w : Validity). p.end + body_length (validity_length (cut_validity o n w) n ∷ [])) c.validity.ensures.bits)
    (subst (λ (ls : List Layout). TakesLevels c.plan_beside.result (levels_below (layouts ls) records o n) q.end r.end) c.values.ensures.children c.plan_beside.ensures.takes)

-- ---- unions

pub union::plan_union-returns-in_err-plan_union_level-clause-takes : goal.union::plan_union-returns-in_err-plan_union_level-clause-takes
union::plan_union-returns-in_err-plan_union_level-clause-takes t c =
    let a = c.args.array.now in
    let o = c.args.offset in
    let n = c.args.len in
    let h = cut_level o n (level (union_layout a)) in
    let below = levels_below (layouts a.children) (choices (union_ids a.type) a.types a.offsets) o n in
    levels_exit c.from_residual.result _ (h ∷ below) [] (h ∷ []) below c.args.plan.now.end c.args.plan.now.end _ refl (omega arith) c.from_residual.ensures.1 c.in_err-plan_union_level.ensures.takes

pub union::plan_union-plan_beside-requires : goal.union::plan_union-plan_beside-requires
union::plan_union-plan_beside-requires t c =
    let a = c.args.array.now in
    let xs = c.fields.result.now in
    let m = c.args.offset + c.args.len in
    let none : a.offsets ≡ None = sym c.offsets.ensures.places ∙ ap option_copied c.in-None.is in
    let have : AllHave (length a.types) (layouts a.children) = subst (λ (os : Option (List ℤ)). PlacesFit (union_ids a.type) a.types os (lens_of (layouts a.children))) none c.fields.ensures.valid.fits.places in
    let reach : AllReach m (layouts (map layout_of xs)) = subst (λ (ls : List Layout). AllReach m (layouts ls)) (sym c.fields.ensures.children) (have-reach (layouts a.children) m (length a.types) c.requires.inside have) in
    let e : heights (layouts (map layout_of xs)) ≡ heights (layouts a.children) = ap (λ (ls : List Layout). heights (layouts ls)) c.fields.ensures.children in
    (omega (arith, e, c.decreases), (c.in_ok-plan_union_level.ensures.grows.grows.small, reach))

pub union::plan_union-returns-in-None-clause-grows : goal.union::plan_union-returns-in-None-clause-grows
union::plan_union-returns-in-None-clause-grows t c =
    let a = c.args.array.now in
    let o = c.args.offset in
    let n = c.args.len in
    let p = c.args.plan.now in
    let q = c.plan_union_level.new.plan in
    let r = c.plan_beside.new.plan in
    let ls = map layout_of c.fields.result.now in
    let h = cut_level o n (level (union_layout a)) in
    let none : a.offsets ≡ None = sym c.offsets.ensures.places ∙ ap option_copied c.in-None.is in
    let below = sparse_children a ls o n none c.fields.ensures.children in
    on_ok c.plan_beside.result (λ x. subst (λ (hs : List Level). Adds p r (h ∷ hs)) (sym below) (adds_then p q r (h ∷ []) (levels_below (layouts ls) records o n) c.in_ok-plan_union_level.ensures.grows x))
    c.plan_beside.ensures.grows

pub union::plan_union-returns-in-None-clause-takes : goal.union::plan_union-returns-in-None-clause-takes
union::plan_union-returns-in-None-clause-takes t c =
    let a = c.args.array.now in
    let o = c.args.offset in
    let n = c.args.len in
    let p = c.args.plan.now in
    let q = c.plan_union_level.new.plan in
    let r = c.plan_beside.new.plan in
    let ls = map layout_of c.fields.result.now in
    let h = cut_level o n (level (union_layout a)) in
    let none : a.offsets ≡ None = sym c.offsets.ensures.places ∙ ap option_copied c.in-None.is in
    let below = sparse_children a ls o n none c.fields.ensures.children in
    let own = c.in_ok-plan_union_level.ensures.takes in
    subst (λ (hs : List Level). TakesLevels c.plan_beside.result (h ∷ hs) p.end r.end) (sym below)
    (levels_then c.plan_beside.result (h ∷ []) (levels_below (layouts ls) records o n) p.end q.end r.end own.0 own.1 c.plan_beside.ensures.takes)

pub union::plan_union-returns-in-Some-clause-grows : goal.union::plan_union-returns-in-Some-clause-grows
union::plan_union-returns-in-Some-clause-grows t c =
    let a = c.args.array.now in
    let o = c.args.offset in
    let n = c.args.len in
    let p = c.args.plan.now in
    let q = c.plan_union_level.new.plan in
    let r = c.plan_whole.new.plan in
    let ls = map layout_of c.fields-in-Some.result.now in
    let h = cut_level o n (level (union_layout a)) in
    let some : a.offsets ≡ Some c.in-Some._places.now = sym c.offsets.ensures.places ∙ ap option_copied c.in-Some.is in
    let below = dense_children a ls c.in-Some._places.now o n some c.fields-in-Some.ensures.children in
    on_ok c.plan_whole.result (λ x. subst (λ (hs : List Level). Adds p r (h ∷ hs)) (sym below) (adds_then p q r (h ∷ []) (flat_map whole_levels ls) c.in_ok-plan_union_level.ensures.grows x))
    c.plan_whole.ensures.grows

pub union::plan_union-returns-in-Some-clause-takes : goal.union::plan_union-returns-in-Some-clause-takes
union::plan_union-returns-in-Some-clause-takes t c =
    let a = c.args.array.now in
    let o = c.args.offset in
    let n = c.args.len in
    let p = c.args.plan.now in
    let q = c.plan_union_level.new.plan in
    let r = c.plan_whole.new.plan in
    let ls = map layout_of c.fields-in-Some.result.now in
    let h = cut_level o n (level (union_layout a)) in
    let some : a.offsets ≡ Some c.in-Some._places.now = sym c.offsets.ensures.places ∙ ap option_copied c.in-Some.is in
    let below = dense_children a ls c.in-Some._places.now o n some c.fields-in-Some.ensures.children in
    let own = c.in_ok-plan_union_level.ensures.takes in
    subst (λ (hs : List Level). TakesLevels c.plan_whole.result (h ∷ hs) p.end r.end) (sym below)
    (levels_then c.plan_whole.result (h ∷ []) (flat_map whole_levels ls) p.end q.end r.end own.0 own.1 c.plan_whole.ensures.takes)
