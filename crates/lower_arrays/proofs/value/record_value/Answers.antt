use Rattle.std.proofs.Common.{◌≡◌, ◌+◌, List, true, subst, sym, ap, ◌∙◌}
use Rattle.lower_flat_arrays.specs.Validities.{is_valid}
use Rattle.lower_arrays.specs.Layouts.{Layout, layouts}
use Rattle.lower_arrays.specs.Children.{AllReach}
use Rattle.lower_arrays.specs.Slots.{record_slot, slots_of, slot_where, each_at, children_at}
use Rattle.lower_arrays.proofs.SameSlots.{record_slots-children}
use Rattle.lower_arrays.proofs.ItemPlaces.{record_within}
use Rattle.lower_arrays.proofs.value.record_value.Goals as goal

pub returns-clause-slot : goal.returns-clause-slot
returns-clause-slot c =
    let a = c.args.array.now in
    let i = c.args.index in
    let e = record_slots-children c.values.result.now a.children i c.values.ensures.children in
    let valid : is_valid a.validity i ≡ true = sym c.is_valid.ensures ∙ c.if-not-is_valid.false in
    ap (λ s. record_slot (slots_of s)) e
    ∙ ap (λ b. slot_where b (record_slot (slots_of (each_at (children_at (layouts a.children)) i)))) (sym valid)

pub returns-clause-fits : goal.returns-clause-fits
returns-clause-fits c =
    let a = c.args.array.now in
    subst (λ cs. AllReach (c.args.index + 1) (layouts cs)) (sym c.values.ensures.children) (record_within a c.args.index c.values.ensures.valid c.requires)
