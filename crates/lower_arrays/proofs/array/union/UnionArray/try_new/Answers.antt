use Rattle.std.proofs.Common.{refl, map, subst}
use Rattle.std.specs.List.{All}
use Rattle.lower.specs.TypeViews.{type_view}
use Rattle.lower_validation.specs.Rules.{UnionRules}
use Rattle.lower_arrays.specs.Layouts.{type_of, len_of}
use Rattle.lower_arrays.specs.Slots.{IsArray}
use Rattle.lower_arrays.specs.AnyLayouts.{layout_of}
use Rattle.lower_arrays.proofs.Checked.{union_is}
use Rattle.lower_arrays.proofs.array.union.UnionArray.try_new.Goals as goal

pub invariant_of-result : goal.invariant_of-result
invariant_of-result c =
    let t = type_view c.args.data_type in
    let ts = c.args.types in
    let os = c.args.offsets in
    let xs = c.args.fields.items in
    let ys = c.deref.result.now in
    let same = c.deref.ensures.value in
    let types : UnionRules t ts os (map (λ x. type_of (layout_of x)) ys) (map (λ x. len_of (layout_of x)) ys) =
    subst (λ zs. UnionRules t zs os (map (λ x. type_of (layout_of x)) ys) (map (λ x. len_of (layout_of x)) ys)) c.as_slice.ensures c.in_ok-check_union.ensures.rules
    in
    let keeps : UnionRules t ts os (map (λ x. type_of (layout_of x)) xs) (map (λ x. len_of (layout_of x)) xs) =
    subst (λ zs. UnionRules t ts os (map (λ x. type_of (layout_of x)) zs) (map (λ x. len_of (layout_of x)) zs)) same types
    in
    union_is t ts os xs keeps (subst (All (λ x. IsArray (layout_of x))) same c.in_ok-check_union.ensures.valid)

pub returns : goal.returns
returns c = (refl, invariant_of-result c)
