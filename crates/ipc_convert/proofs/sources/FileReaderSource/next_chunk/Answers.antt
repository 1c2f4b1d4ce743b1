use Rattle.std.proofs.Common.{rules, ◌≡◌, None, refl}
use Rattle.ipc_convert.proofs.ReadFiles.{block_broken, block_came, blocks_over}
use Rattle.ipc_convert.proofs.sources.FileReaderSource.next_chunk.Goals as goal

pub returns-in-None-clause-came : goal.returns-in-None-clause-came
returns-in-None-clause-came g c =
    let e : c.next.result ≡ None = search rules in
    let step = rw e at c.next.ensures.steps in
    (refl, blocks_over g.F.Failures.device g.met.F.Seeks.known_still c.args.self.now c.next.new.self step, step.device.names)

pub returns-in-None-clause-done : goal.returns-in-None-clause-done
returns-in-None-clause-done g c =
    let e : c.next.result ≡ None = search rules in
    (rw e at c.next.ensures.steps).device.told

pub returns-in-Some-Ok-clause-came : goal.returns-in-Some-Ok-clause-came
returns-in-Some-Ok-clause-came g c =
    let step = rw c.in-Some-Ok.field-0-is at c.in-Some-Ok.ensures.steps in
    block_came g.F.Failures.device g.met.F.Seeks.known_still c.args.self.now c.next.new.self _ step

pub returns-in-Some-Ok-clause-done : goal.returns-in-Some-Ok-clause-done
returns-in-Some-Ok-clause-done g c =
    let step = rw c.in-Some-Ok.field-0-is at c.in-Some-Ok.ensures.steps in
    step.device.told

pub returns-in-Some-Err-clause-broken : goal.returns-in-Some-Err-clause-broken
returns-in-Some-Err-clause-broken g c =
    let step = rw c.in-Some-Err.field-0-is at c.in-Some-Err.ensures.steps in
    block_broken g.F.Failures.device g.met.F.Seeks.known_still c.args.self.now c.next.new.self _ step

pub returns-in-Some-Err-clause-failed : goal.returns-in-Some-Err-clause-failed
returns-in-Some-Err-clause-failed g c =
    let step = rw c.in-Some-Err.field-0-is at c.in-Some-Err.ensures.steps in
    step.device.failed

pub returns-in-Some-Err-clause-answered : goal.returns-in-Some-Err-clause-answered
returns-in-Some-Err-clause-answered g c =
    let step = rw c.in-Some-Err.field-0-is at c.in-Some-Err.ensures.steps in
    step.device.answered
