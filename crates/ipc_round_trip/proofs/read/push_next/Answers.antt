use Rattle.std.proofs.Common.{rules, ◌≡◌, None, Some, Ok, Err}
use Rattle.ipc_devices.specs.declared.fault.Fault.TheVariants as faults
use Rattle.ipc_readers.specs.declared.read.stream.reader.StreamState.TheVariants as states
use Rattle.ipc_round_trip.proofs.Pushes.{finished_push, pushed, refused_push, starved_push, waiting_push}
use Rattle.ipc_round_trip.proofs.read.push_next.Goals.{in-Some+in-Ok+in-Waiting-1, in-None-1}
use Rattle.ipc_round_trip.proofs.read.push_next.Goals as goal

pub returns-in_ok-push-in-Some-Ok-Some-clause-memory : goal.returns-in_ok-push-in-Some-Ok-Some-clause-memory
returns-in_ok-push-in-Some-Ok-Some-clause-memory g c =
    pushed g.R.Reads.gives g.R.Failures.device g.met.R.Reads.laws.fails c.args.reader.now c.next.new.self _ c.args.chunks.now.items _ (rw (c.in-Some-Ok-Some.field-0-is, c.in-Some-Ok-Some.field-0-0-is) at c.in-Some-Ok-Some.ensures.steps) c.in_ok-push-in-Some-Ok-Some.ensures.items

pub returns-in-Some-Err-clause-memory : goal.returns-in-Some-Err-clause-memory
returns-in-Some-Err-clause-memory g c =
    refused_push g.R.Reads.gives g.R.Failures.device g.met.R.Reads.laws.fails c.args.reader.now c.next.new.self c.in-Some-Err.fault c.args.chunks.now.items _ (rw c.in-Some-Err.field-0-is at c.in-Some-Err.ensures.steps)

pub returns-in_err-push-in-Some-Ok-Some-clause-memory : goal.returns-in_err-push-in-Some-Ok-Some-clause-memory
returns-in_err-push-in-Some-Ok-Some-clause-memory g c =
    let e : c.from_residual.result ≡ Err faults.Memory = search rules in
    rw e (starved_push g.R.Reads.gives g.R.Failures.device g.met.R.Reads.laws.fails c.args.reader.now c.next.new.self _ c.args.chunks.now.items _ (rw (c.in-Some-Ok-Some.field-0-is, c.in-Some-Ok-Some.field-0-0-is) at c.in-Some-Ok-Some.ensures.steps))

pub returns-in-Some-Ok-Waiting-clause-memory : goal.returns-in-Some-Ok-Waiting-clause-memory
returns-in-Some-Ok-Waiting-clause-memory g c = elim c.in-Some-Ok-Waiting-1.branch [
  | in-Some+in-Ok+in-Waiting-1 w ↦
      let e : c.next.result ≡ Some (Ok states.Waiting) = search rules in
      waiting_push g.R.Reads.gives g.R.Failures.device g.met.R.Reads.laws.fails c.args.reader.now c.next.new.self c.args.chunks.now.items (rw e at c.next.ensures.steps)
  | in-None-1 w ↦
      let e : c.next.result ≡ None = search rules in
      finished_push g.R.Reads.gives g.R.Failures.device g.met.R.Reads.laws.fails c.args.reader.now c.next.new.self c.args.chunks.now.items (rw e at c.next.ensures.steps)
]
