use Rattle.std.proofs.Common.{◌≡◌, ◌+◌, ◌-◌, ◌*◌, ℕ, List, [], ◌∷◌, take, drop, ap, ap₂, ◌∙◌, subst}
use Rattle.lower_flat_arrays.specs.Validities.{Validity, part, cut_validity}
use Rattle.ipc_plan.specs.Plans.{AddsStart, Grows}
use Rattle.ipc_plan.proofs.Growing.{on_ok, fixed_adds, scaled_wide}
use Rattle.ipc_plan.proofs.serialize.fixed_size_binary.plan_fixed_size_binary.Goals as goal

pub returns-clause-grows : goal.returns-clause-grows
returns-clause-grows c =
    let a = c.args.array.now in
    let o = c.args.offset in
    let n = c.args.len in
    let z = a.size in
    let p = c.args.plan.now in
    let q = c.plan_start.new.plan in
    let r = c.push_buffer.new.plan in
    let v = cut_validity o n a.validity in
    let from : c.scaled-from.result ≡ o * z = c.scaled-from.ensures.value ∙ ap (λ (k : ℕ). o * k) c.size.ensures.size in
    let to : c.scaled-to.result ≡ (o + n) * z = c.scaled-to.ensures.value ∙ ap (λ (k : ℕ). (o + n) * k) c.size-2.ensures.size in
    let wide : c.scaled-to.result - c.scaled-from.result ≡ n * z = ap₂ (λ (x y : ℕ). x - y) to from ∙ scaled_wide o n z in
    let values = c.as_slice-values.ensures ∙ c.values.ensures.bytes in
    let start : AddsStart p q n v = subst (λ (w : Validity). AddsStart p q n (cut_validity o n w)) c.validity.ensures.bits c.in_ok-plan_start.ensures.grows in
    let same = ap₂ (λ (w f : ℕ). take w (drop f c.as_slice-values.result.now)) wide from ∙ ap (λ (xs : List ℕ). part (o * z) (n * z) xs) values in
    on_ok c.push_buffer.result (λ g. fixed_adds p q r n z a.type (part (o * z) (n * z) a.values) v start (subst (λ (xs : List ℕ). Grows q r [] (xs ∷ [])) same g)) c.push_buffer.ensures.grows
