use Rattle.std.proofs.Common.{rules, refl}
use Rattle.std.proofs.lemmas.Result.{err_from_is_err_and}
use Rattle.ipc_programs.proofs.Borrowed.{copies_stream, given_refused, renamed, takes_stream, writes_stream}
use Rattle.ipc_convert.proofs.Unfailed.{takes_unfailed}
use Rattle.ipc_programs.proofs.convert.copies.input_to_stream.Goals as goal

pub returns-clause-takes : goal.returns-clause-takes
returns-clause-takes g c = takes_stream g.R.Reads.gives _ _ _ _ c.in_ok-input.ensures.takes refl (λ e. search rules)

pub returns-clause-done : goal.returns-clause-done
returns-clause-done g c = takes_unfailed g.R.Reads.gives g.R.Failures.device.failures g.met.R.Reads.laws.fails _ _ (returns-clause-takes g c)

pub returns-clause-copies : goal.returns-clause-copies
returns-clause-copies g c known =
    copies_stream g.R.Reads.gives _ _ _ _ _ _ (c.in_ok-input.ensures.exact known) refl (λ e. search rules)
    (writes_stream g.O.Failures.device (renamed c.stream_to_stream-arg-2-1.given c.args.out) c.in_ok-input.out _ _ c.in_ok-input.ensures.device.names.1 refl (λ e. search rules) _)

pub returns-in_err-input-clause-refused : goal.returns-in_err-input-clause-refused
returns-in_err-input-clause-refused g c =
    let p = err_from_is_err_and c.from_residual.result c.from_residual.ensures.1 in
    rw (p.1, p.2) (given_refused g.R.Reads.gives g.R.Failures.device (renamed c.stream_to_stream-arg-1.given c.args.input) c.in_err-input.field-0.0 _ _ (λ bytes why. why) c.in_err-input.ensures.causes)
