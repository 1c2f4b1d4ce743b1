use Rattle.std.proofs.Common.{Option, subst}
use Rattle.std.proofs.lemmas.Result.{err_from_is_err_and}
use Rattle.ipc_convert.proofs.Handing.{all_handed, handed_on, next_stops, nothing_handed, source_stops, too_many}
use Rattle.ipc_convert.specs.SourceLaws.{stream_came_in_order, stream_came_nothing}
use Rattle.ipc_convert.specs.Sources.{NextOfStreamCause, StreamCame, StreamStopped}
use Rattle.ipc_convert.specs.declared.chunks.Ending.{Ending}
use Rattle.ipc_programs.specs.Shown.{OneCame, anything, nothing_refused}
use Rattle.ipc_programs.proofs.PrintSteps.{nothing_printed, prints_then}
use Rattle.ipc_programs.proofs.cat.show.show_chunks.Goals as goal

pub loop-init : goal.loop-init
loop-init g c = record {
  came = nothing_handed (StreamCame g.R.Reads.gives) anything (stream_came_nothing g.R.Reads.gives g.met.R.Reads.laws.nothing) (λ a. tt) _ tt;
  prints = nothing_printed _;
}

pub loop-preserved : goal.loop-preserved
loop-preserved g c =
    let next = subst (λ (o : Option Ending). OneCame g.R.Reads.gives c.loop.reader o c.show_chunk.new.reader) c.in_default.is c.in_ok-ending.ensures.came in
    record {
      came = handed_on (StreamCame g.R.Reads.gives) anything (stream_came_in_order g.R.Reads.gives g.met.R.Reads.laws.in_order) (λ a xs b ys d f g. tt) _ _ _ _ tt tt tt
          c.loop.invariant.came next;
      prints = prints_then c.loop.invariant.prints c.in_ok-ending.ensures.prints;
    }

pub returns-in-Some : goal.returns-in-Some
returns-in-Some g c = record {
  came = all_handed (StreamCame g.R.Reads.gives) (StreamStopped g.R.Reads.gives) anything _ _ _ tt tt tt c.in_ok-ending.field-0 _ c.in-Some.is c.loop.invariant.came.handed
      c.in_ok-ending.ensures.came;
  stops = tt;
  prints = prints_then c.loop.invariant.prints c.in_ok-ending.ensures.prints;
}

pub returns-in_err-ending-clause-stops : goal.returns-in_err-ending-clause-stops
returns-in_err-ending-clause-stops g c =
    let p = err_from_is_err_and c.from_residual.result c.from_residual.ensures.1 in
    let e = c.in_err-ending.field-0.0 in
    rw (p.1, p.2) (next_stops (StreamCame g.R.Reads.gives) (NextOfStreamCause g.R.Reads.gives) anything nothing_refused _ _ tt tt e c.loop.invariant.came.handed
    (source_stops (StreamCame g.R.Reads.gives) (NextOfStreamCause g.R.Reads.gives) nothing_refused _ tt e c.in_err-ending.ensures.broken))

pub returns-clause-stops : goal.returns-clause-stops
returns-clause-stops g c =
    too_many (StreamCame g.R.Reads.gives) (NextOfStreamCause g.R.Reads.gives) anything nothing_refused _ _ _ tt tt c.loop.invariant.came c.loop-test.false
