use Rattle.std.proofs.Common.{arith, ◌≡◌, ◌+◌, ◌-◌, length}
use Rattle.std.proofs.lemmas.Grind.{common_steps}
use Rattle.lower_compute.proofs.RunPlaces.{places-grown}
use Rattle.lower_compute.proofs.runs.push_slot.Goals as goal

pub returns-then-index-last-clause-slots : goal.returns-then-index-last-clause-slots
returns-then-index-last-clause-slots c =
    let runs = c.args.runs.now.items in
    let last = c.index-last.result.now in
    let whole : c.len-count.result - 1 + 1 ≡ length runs = grind (arith, common_steps) in
    let ends : last.offset + last.len ≡ c.args.index = omega (arith, c.if-last-index.true, c.if-index-last.true) in
    let same : last.array ≡ c.args.array = c.if-last-array.true in
    places-grown runs (c.len-count.result - 1) last c.args.array c.args.index whole c.index-last.ensures same ends
