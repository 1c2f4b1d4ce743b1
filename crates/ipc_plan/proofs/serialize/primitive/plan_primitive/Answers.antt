use Rattle.std.proofs.Common.{◌≡◌, List, subst}
use Rattle.lower_types.specs.NumberTypes.{Number}
use Rattle.lower_types.specs.declared.PrimitiveType.{PrimitiveType}
use Rattle.lower_flat_arrays.specs.Validities.{Validity, part, cut_validity}
use Rattle.lower_validation.specs.AnyNumbers.{numbers_seen}
use Rattle.ipc_model.specs.Kinds.{number_kind}
use Rattle.ipc_plan.specs.Levels.{number_form}
use Rattle.ipc_plan.specs.Pieces.{slice_type}
use Rattle.ipc_plan.specs.Plans.{AddsStart, AddsNumbers}
use Rattle.ipc_plan.proofs.Growing.{numbers_adds, slice_form}
use Rattle.ipc_plan.proofs.serialize.primitive.plan_primitive.Goals as goal

pub returns-clause-grows : goal.returns-clause-grows
returns-clause-grows c =
    let seen = numbers_seen c.args.array.now in
    let o = c.args.offset in
    let n = c.args.len in
    let v = cut_validity o n seen.validity in
    let ns = c.numbers_in.result in
    let p = c.args.plan.now in
    let q = c.plan_start.new.plan in
    let r = c.plan_numbers.new.plan in
    let form : number_form seen.number ≡ number_kind seen.number = subst (λ (t : PrimitiveType). number_form t ≡ number_kind t) c.numbers_in.ensures.form (slice_form ns) in
    let start : AddsStart p q n v = subst (λ (w : Validity). AddsStart p q n (cut_validity o n w)) c.validity.ensures.bits c.in_ok-plan_start.ensures.grows in
    numbers_adds p q r n seen.type seen.number (part o n seen.numbers) v form start
    (subst (λ (t : PrimitiveType). AddsNumbers q r t (part o n seen.numbers)) c.numbers_in.ensures.form
    (subst (λ (xs : List Number). AddsNumbers q r (slice_type ns) xs) c.numbers_in.ensures.numbers c.in_ok-plan_numbers.ensures.grows))
