use Rattle.std.proofs.Common.{◌∙◌, List, map, subst, ap}
use Rattle.lower_types.specs.NumberTypes.{Number, whole}
use Rattle.lower_types.specs.declared.PrimitiveType.{PrimitiveType}
use Rattle.lower_flat_arrays.specs.Validities.{Validity, part, cut_validity}
use Rattle.lower_validation.specs.Keys.{KeysSeen}
use Rattle.ipc_model.specs.TypeKinds.{key_form}
use Rattle.ipc_plan.specs.Pieces.{slice_type}
use Rattle.ipc_plan.specs.Plans.{AddsStart, AddsNumbers}
use Rattle.ipc_plan.proofs.Growing.{on_ok, keys_adds}
use Rattle.ipc_plan.proofs.serialize.dictionary.plan_dictionary.Goals as goal

pub returns-clause-grows : goal.returns-clause-grows
returns-clause-grows c =
    let a = c.args.array.now in
    let o = c.args.offset in
    let n = c.args.len in
    let p = c.args.plan.now in
    let q = c.plan_start.new.plan in
    let r = c.plan_numbers.new.plan in
    let start : AddsStart p q n (cut_validity o n a.keys.validity) = subst (λ (w : Validity). AddsStart p q n (cut_validity o n w)) c.validity.ensures.bits c.in_ok-plan_start.ensures.grows in
    let form = c.keys_in.ensures.form ∙ ap (λ (k : KeysSeen). key_form k.key) c.keys.ensures.keys in
    let numbers = c.keys_in.ensures.numbers ∙ ap (λ (k : KeysSeen). map (λ z. whole z) (part o n k.integers)) c.keys.ensures.keys in
    on_ok c.plan_numbers.result (λ x. keys_adds p q r n a.type a.keys.key (part o n a.keys.integers) (cut_validity o n a.keys.validity) start
    (subst (λ (t : PrimitiveType). AddsNumbers q r t (map (λ z. whole z) (part o n a.keys.integers))) form
    (subst (λ (xs : List Number). AddsNumbers q r (slice_type c.keys_in.result) xs) numbers x))) c.plan_numbers.ensures.grows
