use Rattle.std.proofs.Common.{rules, Bool, ◌∙◌, subst, arith}
use Rattle.std.proofs.lemmas.Result.{err_from_is_err_and}
use Rattle.std.specs.Prelude.{List, Vec}
use Rattle.std.specs.declared.alloc.Global.{Global}
use Rattle.lower_arrays.specs.declared.array.AnyArray.{AnyArray}
use Rattle.ipc_devices.specs.Faults.{OwnFault}
use Rattle.ipc_readers.proofs.Loops.{same_request}
use Rattle.ipc_readers.specs.ChosenStreams.{Request}
use Rattle.ipc_readers.specs.Refusals.{IsStreamFault}
use Rattle.ipc_readers.specs.Streams.{device_of}
use Rattle.ipc_round_trip.proofs.Pushes.{all_read, goes_on, refused_ahead, risen_later}
use Rattle.ipc_round_trip.specs.Reading.{GivesAll}
use Rattle.ipc_round_trip.proofs.read.read_chunks.Goals as goal

pub loop-chunks-preserved : goal.loop-chunks-preserved
loop-chunks-preserved g c =
    let step = rw c.if-branch.true at c.in_ok-push_next.ensures.memory in
    record {
      described = search rules;
      asked = same_request c.loop-chunks.reader c.push_next.new.reader step.described step.projected ∙ c.loop-chunks.invariant.asked;
      monotone = search rules;
      same = λ k going.
          let so_far = c.loop-chunks.invariant.same k going in
          let pushed = step.push k so_far.0 in
          (pushed.0, goes_on g.R.Failures.device c.args.reader.now c.loop-chunks.reader c.push_next.new.reader c.loop-chunks.chunks.items c.push_next.new.chunks.items so_far.1 pushed.1);
    }

pub returns : goal.returns
returns g c =
    let step = rw c.if-branch.false at c.in_ok-push_next.ensures.memory in
    record {
      exact = λ k going.
          let so_far = c.loop-chunks.invariant.same k going in
          let none = step.push k so_far.0 in
          let all : GivesAll g.R.Failures.device c.args.reader.now c.push_next.new.chunks.items c.push_next.new.reader =
          rw none.0 (all_read g.R.Failures.device c.args.reader.now c.loop-chunks.reader c.push_next.new.reader c.loop-chunks.chunks.items so_far.1 none.1) in
          all;
      causes = tt;
      device = record { monotone = omega (arith, c.loop-chunks.invariant.monotone, step.monotone); failed = tt };
      state = step.described ∙ c.loop-chunks.invariant.described;
    }

pub returns-in_err-push_next : goal.returns-in_err-push_next
returns-in_err-push_next g c =
    let fault = c.in_err-push_next.field-0.0 in
    let step = c.in_err-push_next.ensures.memory in
    let invariant = c.loop-chunks.invariant in
    let p = err_from_is_err_and c.from_residual.result c.from_residual.ensures.1 in
    rw (p.1, p.2) (record {
      exact = λ k going. tt;
      causes = record {
        refused = λ k going.
            let so_far = invariant.same k going in
            refused_ahead g.R.Failures.device c.args.reader.now c.loop-chunks.reader c.loop-chunks.chunks.items fault so_far.1 (step.push k so_far.0);
        only = subst (λ (h : Request). OwnFault fault (IsStreamFault h fault)) invariant.asked step.only;
      };
      device = record {
        monotone = omega (arith, invariant.monotone, step.monotone);
        failed =
            risen_later Bool (Vec (List AnyArray) Global) fault (g.R.Failures.device.failures (device_of c.args.reader.now)) (g.R.Failures.device.failures (device_of c.loop-chunks.reader))
            (g.R.Failures.device.failures (device_of c.push_next.new.reader)) invariant.monotone step.failed;
      };
      state = step.described ∙ invariant.described;
    })
