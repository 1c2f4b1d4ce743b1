use Rattle.std.proofs.Common.{Bool, List, subst}
use Rattle.lower_flat_arrays.specs.Validities.{Validity, part, cut_validity}
use Rattle.ipc_plan.specs.Plans.{AddsStart, AddsBits}
use Rattle.ipc_plan.proofs.Growing.{on_ok, truths_adds}
use Rattle.ipc_plan.proofs.serialize.boolean.plan_boolean.Goals as goal

pub returns-clause-grows : goal.returns-clause-grows
returns-clause-grows c =
    let a = c.args.array.now in
    let o = c.args.offset in
    let n = c.args.len in
    let p = c.args.plan.now in
    let q = c.plan_start.new.plan in
    let r = c.plan_bits.new.plan in
    let start : AddsStart p q n (cut_validity o n a.validity) = subst (λ (w : Validity). AddsStart p q n (cut_validity o n w)) c.validity.ensures.bits c.in_ok-plan_start.ensures.grows in
    on_ok c.plan_bits.result (λ b. truths_adds p q r n a.type (part o n a.values) (cut_validity o n a.validity) start
    (subst (λ (ts : List Bool). AddsBits q r (part o n ts)) c.values.ensures.bits b)) c.plan_bits.ensures.grows
