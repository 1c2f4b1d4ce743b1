use Rattle.std.proofs.Common.{◌≡◌, map, get_or, subst, sym}
use Rattle.std.specs.List.{All}
use Rattle.lower.specs.TypeViews.{type_view}
use Rattle.lower_validation.specs.Rules.{StructRules}
use Rattle.lower_arrays.specs.Layouts.{type_of, len_of}
use Rattle.lower_arrays.specs.Slots.{IsArray}
use Rattle.lower_arrays.specs.Structs.{first_len}
use Rattle.lower_arrays.specs.AnyLayouts.{layout_of}
use Rattle.lower_arrays.proofs.Children.{first_is}
use Rattle.lower_arrays.proofs.Checked.{struct_is, struct_seen_is}
use Rattle.lower_arrays.proofs.array.struct_.StructArray.try_new.Goals as goal

pub returns : goal.returns
returns c =
    let t = type_view c.args.data_type in
    let xs = c.args.values.items in
    let v = c.args.validity in
    let same = c.deref.ensures.value in
    let n : c.in_ok-len.len ≡ get_or (map (λ x. len_of (layout_of x)) xs) 0 0 =
    subst (λ ys. c.in_ok-len.len ≡ get_or (map (λ x. len_of (layout_of x)) ys) 0 0) same c.in_ok-len.ensures.len
    in
    let keeps : StructRules t (map (λ x. type_of (layout_of x)) xs) (map (λ x. len_of (layout_of x)) xs) v =
    subst (λ ys. StructRules t (map (λ x. type_of (layout_of x)) ys) (map (λ x. len_of (layout_of x)) ys) v) same c.in_ok-len.ensures.rules
    in
    let are : All (λ x. IsArray (layout_of x)) xs = subst (All (λ x. IsArray (layout_of x))) same c.in_ok-len.ensures.valid in
    (struct_seen_is t xs c.in_ok-len.len v n, struct_is t xs (first_len (map layout_of xs)) v (sym (first_is xs)) keeps are)
