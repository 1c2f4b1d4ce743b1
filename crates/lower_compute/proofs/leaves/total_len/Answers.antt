use Rattle.std.proofs.Common.{arith, ◌<◌, ◌+◌, length, get_or}
use Rattle.std.proofs.lemmas.List.{get_or_default}
use Rattle.lower_compute.specs.declared.runs.Run.{Run}
use Rattle.lower_compute.proofs.LoopSteps.{count_taken, count_least}
use Rattle.lower_compute.proofs.leaves.total_len.Goals as goal

pub loop-run-preserved : goal.loop-run-preserved
loop-run-preserved c =
    let d : Run = record { array = 0; offset = 0; len = 0 } in
    let runs = c.args.runs.now in
    let k = c.loop-run.run-index in
    let h : k < length runs = omega (arith, c.loop-run-test.true) in
    let run = get_or runs k d in
    let more = count_taken runs k run h (get_or_default runs k d run h) in
    let sum = c.in-Some.ensures in
    let before = c.loop-run.invariant in
    omega (arith, more, sum, before)

pub returns-in_default : goal.returns-in_default
returns-in_default c =
    let d : Run = record { array = 0; offset = 0; len = 0 } in
    let runs = c.args.runs.now in
    let k = c.loop-run.run-index in
    let h : k < length runs = omega (arith, c.loop-run-test.true) in
    let run = get_or runs k d in
    let more = count_taken runs k run h (get_or_default runs k d run h) in
    let least = count_least runs (k + 1) in
    let high = c.in_default.ensures in
    let before = c.loop-run.invariant in
    omega (arith, more, least, high, before)
