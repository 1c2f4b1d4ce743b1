use Rattle.std.proofs.Common.{arith, [], ◌∷◌, ◌++◌, sym, ap₂, ◌∙◌}
use Rattle.lower_arrays.specs.AnyLayouts.{layout_of}
use Rattle.lower_compute.proofs.LoopSteps.{whole_more}
use Rattle.lower_compute.proofs.concatenate.whole_runs.Goals as goal

pub loop-number-preserved : goal.loop-number-preserved
loop-number-preserved c =
    let k = c.loop-number.number in
    c.in_ok-push.ensures.items
    ∙ ap₂ (λ l n. l ++ record { array = k; offset = 0; len = n } ∷ []) c.loop-number.invariant c.len.ensures.len
    ∙ sym (whole_more (λ a. layout_of a.now) c.args.arrays.now k c.index-arrays-number.result (omega (arith, c.loop-number-test.true)) c.index-arrays-number.is)
