use Rattle.std.proofs.Common.{◌+◌, ℕ, List, ◌∙◌, subst}
use Rattle.lower_flat_arrays.specs.Validities.{Validity, part, cut_validity}
use Rattle.lower_types.specs.declared.PrimitiveType.TheVariants.{Int64}
use Rattle.ipc_plan.specs.Plans.{AddsSpans}
use Rattle.ipc_plan.proofs.Growing.{on_ok, texts_adds}
use Rattle.ipc_plan.proofs.serialize.utf8.plan_large_utf8.Goals as goal

pub returns-clause-grows : goal.returns-clause-grows
returns-clause-grows c =
    let a = c.args.array.now in
    let o = c.args.offset in
    let n = c.args.len in
    let p = c.args.plan.now in
    let q = c.plan_cut_out.new.plan in
    on_ok c.plan_cut_out.result (λ x.
    texts_adds p q n a.type Int64 (part o (n + 1) a.offsets) a.values (cut_validity o n a.validity)
    (subst (λ (os : List ℕ). AddsSpans p q n Int64 (part o (n + 1) os) a.values (cut_validity o n a.validity)) c.offsets.ensures.offsets
    (subst (λ (xs : List ℕ). AddsSpans p q n Int64 (part o (n + 1) c.offsets.result.now) xs (cut_validity o n a.validity)) (c.as_slice.ensures ∙ c.values.ensures.bytes)
    (subst (λ (w : Validity). AddsSpans p q n Int64 (part o (n + 1) c.offsets.result.now) c.as_slice.result.now (cut_validity o n w)) c.validity.ensures.bits x)))) c.plan_cut_out.ensures.grows
