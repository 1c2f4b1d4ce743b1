use Rattle.std.proofs.Common.{arith, ◌≡◌, ◌≤◌, length, map, ap, ◌∙◌}
use Rattle.std.specs.Prelude.{Some}
use Rattle.std.specs.Option.{option_copied}
use Rattle.std.proofs.lemmas.List.{take_all}
use Rattle.std.proofs.lemmas.Result.{IfOk-weaker}
use Rattle.lower_compute.specs.Runs.{bits_of_runs, IsValidityOf}
use Rattle.lower_compute.proofs.RunPlaces.{bits-validity}
use Rattle.lower_compute.proofs.bits.copy_bits.Goals as goal

pub returns-clause-each : goal.returns-clause-each
returns-clause-each c =
    let vs = map option_copied c.args.bitmaps.now in
    let runs = c.args.runs.now in
    let over : length runs ≤ c.loop-run.run-index = omega (arith, c.loop-run-test.false) in
    IfOk-weaker c.finish.result (λ bits. bits ≡ c.loop-run.all) (λ bits. IsValidityOf vs runs (Some bits))
    (λ bits e. bits-validity vs runs bits c.requires (e ∙ c.loop-run.invariant ∙ ap (bits_of_runs vs) (take_all c.loop-run.run-index runs over)))
    c.finish.ensures
