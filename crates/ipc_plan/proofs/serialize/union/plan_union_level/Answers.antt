use Rattle.std.proofs.Common.{◌≡◌, ℤ, List, [], ◌∷◌, Option, None, Some, map, sym, ap, ◌∙◌, subst}
use Rattle.std.specs.Option.{option_copied}
use Rattle.std.specs.Prelude.{option_map}
use Rattle.lower_flat_arrays.specs.Validities.{part}
use Rattle.lower_validation.specs.Ids.{union_ids}
use Rattle.lower_types.specs.NumberTypes.{whole}
use Rattle.lower_types.specs.declared.PrimitiveType.TheVariants.{Int8, Int32}
use Rattle.lower_arrays.specs.Layouts.{choices}
use Rattle.ipc_plan.specs.Plans.{Adds, AddsNumbers}
use Rattle.ipc_plan.proofs.Growing.{on_ok, types_adds, places_adds}
use Rattle.ipc_plan.proofs.serialize.union.plan_union_level.Goals as goal

pub returns-in-None-clause-grows : goal.returns-in-None-clause-grows
returns-in-None-clause-grows c =
    let a = c.args.array.now in
    let o = c.args.offset in
    let n = c.args.len in
    let p = c.args.plan.now in
    let q = c.push_node.new.plan in
    let r = c.plan_numbers.new.plan in
    let ids = union_ids a.type in
    let zs = part o n a.types in
    let types : c.slice_in.result.now ≡ zs = c.slice_in.ensures.values ∙ ap (λ (xs : List ℤ). part o n xs) c.types.ensures.ids in
    let x : AddsNumbers q r Int8 (map (λ z. whole z) zs) = subst (λ (ys : List ℤ). AddsNumbers q r Int8 (map (λ z. whole z) ys)) types c.in_ok-plan_numbers.ensures.grows in
    let none : a.offsets ≡ None = sym c.offsets.ensures.places ∙ ap option_copied c.in-None.is in
    subst (λ (os : Option (List ℤ)). Adds p r (record { type = a.type; len = n; validity = None; parts = choices ids zs (option_map (λ xs. part o n xs) os) } ∷ [])) (sym none)
    (types_adds p q r n a.type ids zs c.in_ok-push_node.ensures.grows x)

pub returns-in-Some-clause-grows : goal.returns-in-Some-clause-grows
returns-in-Some-clause-grows c =
    let a = c.args.array.now in
    let o = c.args.offset in
    let n = c.args.len in
    let p = c.args.plan.now in
    let q = c.push_node.new.plan in
    let r = c.plan_numbers.new.plan in
    let s = c.plan_numbers-in-Some.new.plan in
    let ids = union_ids a.type in
    let zs = part o n a.types in
    let os = part o n c.in-Some.places.now in
    let types : c.slice_in.result.now ≡ zs = c.slice_in.ensures.values ∙ ap (λ (xs : List ℤ). part o n xs) c.types.ensures.ids in
    let x : AddsNumbers q r Int8 (map (λ z. whole z) zs) = subst (λ (ys : List ℤ). AddsNumbers q r Int8 (map (λ z. whole z) ys)) types c.in_ok-plan_numbers.ensures.grows in
    let some : a.offsets ≡ Some c.in-Some.places.now = sym c.offsets.ensures.places ∙ ap option_copied c.in-Some.is in
    on_ok c.plan_numbers-in-Some.result (λ y.
    subst (λ (ps : Option (List ℤ)). Adds p s (record { type = a.type; len = n; validity = None; parts = choices ids zs (option_map (λ xs. part o n xs) ps) } ∷ [])) (sym some)
    (places_adds p q r s n a.type ids zs os c.in_ok-push_node.ensures.grows x
    (subst (λ (ys : List ℤ). AddsNumbers r s Int32 (map (λ z. whole z) ys)) c.slice_in-in-Some.ensures.values y))) c.plan_numbers-in-Some.ensures.grows
