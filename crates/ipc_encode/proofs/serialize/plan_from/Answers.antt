use Rattle.std.proofs.Common.{◌≡◌, ℕ, ◌+◌, arith, refl, subst}
use Rattle.std.proofs.lemmas.Result.{err_from_is_err_and}
use Rattle.lower_arrays.specs.AnyLayouts.{layout_of}
use Rattle.ipc_model.specs.Accepted.{body_length}
use Rattle.ipc_model.specs.Offers.{body_lengths, whole_levels, written_levels}
use Rattle.ipc_plan.specs.Plans.{Adds}
use Rattle.ipc_plan.specs.Taking.{AreShort, RefusesRoom}
use Rattle.ipc_plan.proofs.Taking.{refused_whole}
use Rattle.ipc_plan.specs.declared.plan.Plan.{Plan}
use Rattle.ipc_encode.specs.Appending.{PlansFrom}
use Rattle.ipc_encode.proofs.Appended.{planned_length}
use Rattle.ipc_encode.proofs.serialize.plan_from.Goals as goal

pub returns-clause-plans : goal.returns-clause-plans
returns-clause-plans c =
    let l = layout_of c.args.array.now in
    let begun : Plan = record { order = c.args.order; nodes = c.new.result; buffers = c.new-2.result; pieces = c.new-3.result; end = c.args.start } in
    record {
      begun = begun;
      is_begun = record { order_is = refl; no_nodes = c.new.ensures.items; no_buffers = c.new-2.ensures.items; no_pieces = c.new-3.ensures.items; end_is = refl };
      adds = subst (λ (k : ℕ). Adds begun c.plan_array.new.plan (written_levels l 0 k)) c.len-len.ensures.len c.in_ok-plan_array.ensures.grows;
    }

pub returns-clause-end : goal.returns-clause-end
returns-clause-end c =
    let l = layout_of c.args.array.now in
    let begun : Plan = record { order = c.args.order; nodes = c.new.result; buffers = c.new-2.result; pieces = c.new-3.result; end = c.args.start } in
    let plans : PlansFrom c.args.order c.args.start (whole_levels l) c.plan_array.new.plan = record {
      begun = begun;
      is_begun = record { order_is = refl; no_nodes = c.new.ensures.items; no_buffers = c.new-2.ensures.items; no_pieces = c.new-3.ensures.items; end_is = refl };
      adds = subst (λ (k : ℕ). Adds begun c.plan_array.new.plan (written_levels l 0 k)) c.len-len.ensures.len c.in_ok-plan_array.ensures.grows;
    } in
    planned_length c.args.order c.args.start (whole_levels l) c.plan_array.new.plan plans

pub returns-clause-small : goal.returns-clause-small
returns-clause-small c = c.in_ok-plan_array.ensures.grows.grows.small

pub returns-clause-takes : goal.returns-clause-takes
returns-clause-takes c =
    let l = layout_of c.args.array.now in
    let p = c.plan_array.new.plan in
    let step : AreShort (whole_levels l) × (p.end ≡ c.args.start + body_length (body_lengths (whole_levels l))) =
    subst (λ (k : ℕ). AreShort (written_levels l 0 k) × (p.end ≡ c.args.start + body_length (body_lengths (written_levels l 0 k)))) c.len-len.ensures.len c.in_ok-plan_array.ensures.takes in
    (step.0, omega (arith, step.1, c.in_ok-plan_array.ensures.grows.grows.small))

pub returns-in_err-plan_array-clause-takes : goal.returns-in_err-plan_array-clause-takes
returns-in_err-plan_array-clause-takes c =
    let l = layout_of c.args.array.now in
    let e = err_from_is_err_and c.from_residual.result c.from_residual.ensures.1 in
    rw (e.1, e.2)
    (refused_whole c.in_err-plan_array.field-0.0 (AreShort (whole_levels l)) (c.args.start + body_length (body_lengths (whole_levels l)))
    (subst (λ (k : ℕ). RefusesRoom (AreShort (written_levels l 0 k)) (c.args.start + body_length (body_lengths (written_levels l 0 k))) c.in_err-plan_array.field-0.0) c.len-len.ensures.len
    c.in_err-plan_array.ensures.takes))
