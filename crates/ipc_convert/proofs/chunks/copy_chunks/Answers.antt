use Rattle.std.proofs.Common.{Option, refl, subst}
use Rattle.std.proofs.lemmas.Result.{err_from_is_err_and}
use Rattle.ipc_convert.proofs.Failing.{copy_fails_then}
use Rattle.ipc_convert.proofs.Handing.{all_handed, handed_on, next_stops, none_more, none_on, nothing_handed, refused_then, too_many}
use Rattle.ipc_convert.specs.Chunks.{CopiedOne}
use Rattle.ipc_convert.specs.declared.chunks.Ending.{Ending}
use Rattle.ipc_convert.proofs.chunks.copy_chunks.Goals as goal

pub loop-init : goal.loop-init
loop-init g c = record { many = nothing_handed g.S.Source.came g.T.Sink.took g.met.S.Source.came_nothing g.met.T.Sink.took_nothing _ _; done = (refl, refl) }

pub returns-in-Some-clause-copied : goal.returns-in-Some-clause-copied
returns-in-Some-clause-copied g c =
    all_handed g.S.Source.came g.S.Source.stopped g.T.Sink.took _ _ _ _ _ _ c.in_ok-ending.field-0 _ c.in-Some.is c.loop.invariant.many.handed c.in_ok-ending.ensures.copied

pub loop-preserved : goal.loop-preserved
loop-preserved g c =
    let next = subst (λ o. CopiedOne g.S.Source.came g.S.Source.stopped g.T.Sink.took c.loop.source c.loop.sink o c.copy_next.new.source c.copy_next.new.sink) c.in_default.is c.in_ok-ending.ensures.copied in
    record {
      many = handed_on g.S.Source.came g.T.Sink.took g.met.S.Source.came_in_order g.met.T.Sink.took_in_order _ _ _ _ _ _ _ c.loop.invariant.many next;
      done = none_on g.S.Source.failures g.T.Sink.failures _ _ _ _ _ _ c.loop.invariant.done c.in_ok-ending.ensures.done;
    }

pub returns-in-Some-clause-done : goal.returns-in-Some-clause-done
returns-in-Some-clause-done g c = none_on g.S.Source.failures g.T.Sink.failures _ _ _ _ _ _ c.loop.invariant.done c.in_ok-ending.ensures.done

pub returns-in_err-ending-clause-failed : goal.returns-in_err-ending-clause-failed
returns-in_err-ending-clause-failed g c =
    let p = err_from_is_err_and c.from_residual.result c.from_residual.ensures.1 in
    rw (p.1, p.2) (copy_fails_then g.S.Source.failures g.T.Sink.failures g.T.Sink.fails _ _ _ _ _ _ c.in_err-ending.field-0.0 c.loop.invariant.done c.in_err-ending.ensures.failed)

pub returns-in_err-ending-clause-refused : goal.returns-in_err-ending-clause-refused
returns-in_err-ending-clause-refused g c =
    let p = err_from_is_err_and c.from_residual.result c.from_residual.ensures.1 in
    rw (p.1, p.2)
    (refused_then (Option Ending) Ending c.in_err-ending.field-0.0 (λ none. none_more g.S.Source.came g.T.Sink.took g.met.T.Sink.took_in_order _ _ _ _ _ c.loop.invariant.many.handed none) c.in_err-ending.ensures.refused)

pub returns-in_err-ending-clause-stops : goal.returns-in_err-ending-clause-stops
returns-in_err-ending-clause-stops g c =
    let p = err_from_is_err_and c.from_residual.result c.from_residual.ensures.1 in
    rw (p.1, p.2)
    (next_stops g.S.Source.came g.S.Source.breaks g.T.Sink.took g.T.Sink.refuses _ _ _ _ c.in_err-ending.field-0.0 c.loop.invariant.many.handed c.in_err-ending.ensures.stops)

pub returns-clause-stops : goal.returns-clause-stops
returns-clause-stops g c = too_many g.S.Source.came g.S.Source.breaks g.T.Sink.took g.T.Sink.refuses _ _ _ _ _ c.loop.invariant.many c.loop-test.false

pub returns-in_err-ending-clause-answered : goal.returns-in_err-ending-clause-answered
returns-in_err-ending-clause-answered g c =
    let p = err_from_is_err_and c.from_residual.result c.from_residual.ensures.1 in
    rw (p.1, p.2) c.in_err-ending.ensures.answered
