use Rattle.std.proofs.Common.{arith, ◌≡◌, ◌+◌, ◌-◌, ◌≤◌, ℕ, length, subst}
use Rattle.std.specs.Prelude.{slice_index}
use Rattle.ipc_plan.specs.OffsetViews.{places_of}
use Rattle.ipc_plan.proofs.Cutting.{rises}
use Rattle.ipc_plan.proofs.serialize.offsets.range_of.Goals as goal

pub returns-clause-order : goal.returns-clause-order
returns-clause-order c =
    let up = rises (places_of c.args.offsets.now) c.args.offset c.args.len c.offset_count-count.ensures.offsets.rising c.requires.inside in
    omega (arith, up, c.place_at.ensures, c.place_at-2.ensures)

pub returns-clause-within : goal.returns-clause-within
returns-clause-within c =
    let os = places_of c.args.offsets.now in
    let at = c.args.offset + c.args.len in
    let e : at + (length os - 1 - at) ≡ length os - 1 = omega (arith, c.requires.inside) in
    let up = rises os at (length os - 1 - at) c.offset_count-count.ensures.offsets.rising (omega (arith, c.requires.inside)) in
    let last : slice_index os at ≤ slice_index os (length os - 1) = subst (λ (j : ℕ). slice_index os at ≤ slice_index os j) e up in
    omega (arith, last, c.place_at-2.ensures)
