use Rattle.std.proofs.Common.{rules, sym, ◌∙◌}
use Rattle.lower_flat_arrays.proofs.SlotRows.{same_count}
use Rattle.lower_flat_arrays.proofs.equality.has_same_slots.Goals as goal

pub returns-then-count : goal.returns-then-count
returns-then-count g c =
    let f = g.A.ToColumn.slot c.args.lhs.now in
    let h = g.A.ToColumn.slot c.args.rhs.now in
    (λ f. search rules, λ e. absurd (c.if-count.true (c.count.ensures ∙ same_count f h _ _ e ∙ sym c.count-2.ensures)))
