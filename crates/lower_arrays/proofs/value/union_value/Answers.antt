use Rattle.std.proofs.Common.{rules, arith, ◌≡◌, ◌<◌, ◌+◌, ◌≤◌, pos, length, map, get_or, subst, sym, ap, ◌∙◌}
use mir.Val.{SFits}
use Rattle.std.specs.Int.{w8}
use Rattle.std.proofs.lemmas.Int.{to_z-of_z}
use Rattle.lower_arrays.specs.Layouts.{layouts, len_of, height, heights}
use Rattle.lower_arrays.specs.Slots.{variant_slot, variant_at, slot_at, children_at}
use Rattle.lower_arrays.specs.Children.{child_count}
use Rattle.lower_validation.specs.Ids.{child_number, union_ids}
use Rattle.lower_arrays.specs.Choices.{child, place_in}
use Rattle.lower_arrays.specs.AnyLayouts.{layout_of}
use Rattle.lower_arrays.proofs.Choices.{child_is, child_slot, child_low}
use Rattle.lower_arrays.proofs.Children.{children_counted}
use Rattle.lower_arrays.proofs.value.union_value.Goals as goal

pub bounds-fields-number : goal.bounds-fields-number
bounds-fields-number c =
    let xs = c.fields.result.now in
    let count : child_count (layouts c.args.array.now.children) ≡ length xs =
    ap (λ ls. child_count (layouts ls)) (sym c.fields.ensures.children) ∙ children_counted xs
    in
    omega (arith, count, c.index-number.ensures.child)

pub nested-requires-clause-within : goal.nested-requires-clause-within
nested-requires-clause-within c =
    let a = c.args.array.now in
    let xs = c.fields.result.now in
    let x = c.index-fields-number.result in
    let k = c.index-number.result.0 in
    let cs = layouts a.children in
    let children = c.fields.ensures.children in
    let count : child_count cs ≡ length xs = ap (λ ls. child_count (layouts ls)) (sym children) ∙ children_counted xs in
    let at : k < length xs = omega (arith, count, c.index-number.ensures.child) in
    let own : child cs k ≡ layout_of x = ap (λ ls. child (layouts ls) k) (sym children) ∙ child_is xs k x at c.index-fields-number.is in
    let room : c.index-number.result.1 < len_of (layout_of x) = subst (λ l. c.index-number.result.1 < len_of l) own c.index-number.ensures.bound in
    omega (arith, room)

pub returns-clause-slot : goal.returns-clause-slot
returns-clause-slot c =
    let a = c.args.array.now in
    let z = get_or a.types c.args.index (pos 0) in
    let xs = c.fields.result.now in
    let x = c.index-fields-number.result in
    let k = c.index-number.result.0 in
    let p = c.index-number.result.1 in
    let cs = layouts a.children in
    let children = c.fields.ensures.children in
    let count : child_count cs ≡ length xs = ap (λ ls. child_count (layouts ls)) (sym children) ∙ children_counted xs in
    let at : k < length xs = omega (arith, count, c.index-number.ensures.child) in
    let own : child cs k ≡ layout_of x = ap (λ ls. child (layouts ls) k) (sym children) ∙ child_is xs k x at c.index-fields-number.is in
    let low = child_low cs k c.index-number.ensures.child in
    let high : height (child cs k) ≡ height (layout_of x) = ap height own in
    let there : variant_at (children_at cs) z k p ≡ variant_slot z (slot_at (layout_of x) p) =
    ap (variant_slot z) (child_slot cs k p ∙ ap (λ l. slot_at l p) own)
    in
    let same : variant_at (children_at cs) z k p ≡ variant_at (children_at cs) z (child_number (union_ids a.type) z) (place_in a.offsets c.args.index) =
    λ j. variant_at (children_at cs) z (c.index-number.ensures.number j) (c.index-number.ensures.place j)
    in
    let fits : SFits w8 c.type_at-id.result = search rules in
    c.nested.ensures.slot ∙ ap (λ y. variant_slot y (slot_at (layout_of x) p)) (to_z-of_z w8 c.type_at-id.result fits ∙ c.type_at-id.ensures) ∙ sym there ∙ same

pub returns-clause-height : goal.returns-clause-height
returns-clause-height c =
    let a = c.args.array.now in
    let xs = c.fields.result.now in
    let x = c.index-fields-number.result in
    let k = c.index-number.result.0 in
    let cs = layouts a.children in
    let children = c.fields.ensures.children in
    let count : child_count cs ≡ length xs = ap (λ ls. child_count (layouts ls)) (sym children) ∙ children_counted xs in
    let at : k < length xs = omega (arith, count, c.index-number.ensures.child) in
    let own : child cs k ≡ layout_of x = ap (λ ls. child (layouts ls) k) (sym children) ∙ child_is xs k x at c.index-fields-number.is in
    let low = child_low cs k c.index-number.ensures.child in
    let high : height (child cs k) ≡ height (layout_of x) = ap height own in
    let above = c.nested.ensures.height in
    omega (arith, low, high, above)
