use Rattle.std.proofs.Common.{rules, ◌≡◌, None, Some, Ok}
use Rattle.ipc_readers.specs.declared.read.stream.reader.StreamState.TheVariants as states
use Rattle.ipc_convert.proofs.Failing.{stream_next_fails}
use Rattle.ipc_convert.proofs.ReadStreams.{none_over, none_waits, one_fault, one_gave}
use Rattle.ipc_convert.proofs.Unfailed.{came_unfailed, ended_unfailed}
use Rattle.ipc_convert.specs.declared.chunks.Ending.TheVariants.{Over, Waits}
use Rattle.ipc_convert.proofs.sources.StreamReaderSource.next_chunk.Goals as goal

pub returns-in-None-clause-came : goal.returns-in-None-clause-came
returns-in-None-clause-came g c =
    let e : c.next.result ≡ None = search rules in
    none_over g.R.Reads.gives g.R.Failures.device g.met.R.Reads.laws.in_order c.args.self.now c.next.new.self (rw e at c.next.ensures.steps)

pub returns-in-None-clause-done : goal.returns-in-None-clause-done
returns-in-None-clause-done g c =
    ended_unfailed g.R.Reads.gives g.R.Failures.device.failures g.met.R.Reads.laws.fails c.args.self.now c.next.new.self Over (returns-in-None-clause-came g c)

pub returns-in-Some-Ok-Waiting-clause-came : goal.returns-in-Some-Ok-Waiting-clause-came
returns-in-Some-Ok-Waiting-clause-came g c =
    let e : c.next.result ≡ Some (Ok states.Waiting) = search rules in
    none_waits g.R.Reads.gives g.R.Failures.device g.met.R.Reads.laws.in_order c.args.self.now c.next.new.self (rw e at c.next.ensures.steps)

pub returns-in-Some-Ok-Waiting-clause-done : goal.returns-in-Some-Ok-Waiting-clause-done
returns-in-Some-Ok-Waiting-clause-done g c =
    ended_unfailed g.R.Reads.gives g.R.Failures.device.failures g.met.R.Reads.laws.fails c.args.self.now c.next.new.self Waits (returns-in-Some-Ok-Waiting-clause-came g c)

pub returns-in-Some-Ok-Some-clause-came : goal.returns-in-Some-Ok-Some-clause-came
returns-in-Some-Ok-Some-clause-came g c =
    let step = rw (c.in-Some-Ok-Some.field-0-is, c.in-Some-Ok-Some.field-0-0-is) at c.in-Some-Ok-Some.ensures.steps in
    one_gave g.R.Reads.gives g.R.Failures.device g.met.R.Reads.laws.in_order c.args.self.now c.next.new.self _ step

pub returns-in-Some-Ok-Some-clause-done : goal.returns-in-Some-Ok-Some-clause-done
returns-in-Some-Ok-Some-clause-done g c =
    came_unfailed g.R.Reads.gives g.R.Failures.device.failures g.met.R.Reads.laws.fails c.args.self.now c.next.new.self _ (returns-in-Some-Ok-Some-clause-came g c)

pub returns-in-Some-Err-clause-broken : goal.returns-in-Some-Err-clause-broken
returns-in-Some-Err-clause-broken g c =
    let step = rw c.in-Some-Err.field-0-is at c.in-Some-Err.ensures.steps in
    one_fault g.R.Reads.gives g.R.Failures.device g.met.R.Reads.laws.in_order c.args.self.now c.next.new.self _ step

pub returns-in-Some-Err-clause-failed : goal.returns-in-Some-Err-clause-failed
returns-in-Some-Err-clause-failed g c =
    let step = rw c.in-Some-Err.field-0-is at c.in-Some-Err.ensures.steps in
    stream_next_fails g.R.Reads.gives g.R.Failures.device g.met.R.Reads.laws.fails c.args.self.now _ c.next.new.self step

pub returns-in-Some-Err-clause-answered : goal.returns-in-Some-Err-clause-answered
returns-in-Some-Err-clause-answered g c =
    let step = rw c.in-Some-Err.field-0-is at c.in-Some-Err.ensures.steps in
    step.answered
