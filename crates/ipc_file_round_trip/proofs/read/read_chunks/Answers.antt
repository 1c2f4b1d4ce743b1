use Rattle.std.proofs.Common.{rules, inl, inr}
use Rattle.std.proofs.lemmas.Result.{err_from_is_err_and}
use Rattle.ipc_file_round_trip.proofs.Pushes.{all_given, broken_off, one_more}
use Rattle.ipc_file_round_trip.proofs.read.read_chunks.Goals as goal

pub returns-in_err-push_next-clause-refused : goal.returns-in_err-push_next-clause-refused
returns-in_err-push_next-clause-refused g c =
    let fault = c.in_err-push_next.field-0.0 in
    let p = err_from_is_err_and c.from_residual.result c.from_residual.ensures.1 in
    rw (p.1, p.2) (elim c.in_err-push_next.ensures.step.push [
      | inl h ↦ inl h
      | inr step ↦
          broken_off g.R.Failures.device c.args.reader.now c.loop-chunks.reader c.push_next.new.reader
          c.loop-chunks.chunks.items fault step c.loop-chunks.invariant.so_far
    ])

pub loop-chunks-preserved : goal.loop-chunks-preserved
loop-chunks-preserved g c =
    let step = rw c.if-branch.true at c.in_ok-push_next.ensures.step in
    record {
      monotone = search rules;
      so_far =
          one_more g.R.Failures.device c.args.reader.now c.loop-chunks.reader c.push_next.new.reader
          c.loop-chunks.chunks.items c.push_next.new.chunks.items step.push.0 step.push.1 step.push.2 c.loop-chunks.invariant.so_far;
    }

pub returns-clause-all : goal.returns-clause-all
returns-clause-all g c =
    let step = rw c.if-branch.false at c.in_ok-push_next.ensures.step in
    all_given g.R.Failures.device c.args.reader.now c.loop-chunks.reader c.push_next.new.reader
    c.loop-chunks.chunks.items c.push_next.new.chunks.items step.push.0 step.push.1 c.loop-chunks.invariant.so_far
