use Rattle.std.proofs.Common.{arith, rules, ap, ◌∙◌}
use Rattle.lower_flat_arrays.specs.Columns.{slots_from}
use Rattle.lower_flat_arrays.proofs.SlotRows.{slots_from-same, same_place}
use Rattle.lower_flat_arrays.proofs.equality.has_each_slot.Goals as goal

pub returns-then-not-has_same_slot : goal.returns-then-not-has_same_slot
returns-then-not-has_same_slot g c =
    let f = g.A.ToColumn.slot c.args.lhs.now in
    let h = g.A.ToColumn.slot c.args.rhs.now in
    (λ f. search rules, λ e. c.if-not-has_same_slot.ensures.1 (same_place f h _ _ c.loop-index.index (omega arith) (omega arith) e))

pub returns : goal.returns
returns g c =
    let f = g.A.ToColumn.slot c.args.lhs.now in
    let h = g.A.ToColumn.slot c.args.rhs.now in
    let n = g.A.ToColumn.count c.args.lhs.now in
    (λ t. slots_from-same f h n (λ k lt. c.loop-index.invariant k (omega arith)) ∙ ap (slots_from h 0) c.requires, λ e. search rules)
