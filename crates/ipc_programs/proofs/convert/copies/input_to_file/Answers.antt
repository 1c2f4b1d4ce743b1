use Rattle.std.proofs.Common.{rules, refl, []}
use Rattle.std.proofs.lemmas.Result.{err_from_is_err_and}
use Rattle.ipc_write.specs.Writers.{order_of}
use Rattle.ipc_programs.proofs.Borrowed.{copies_stream, given_refused, renamed, takes_stream, writes_file}
use Rattle.ipc_programs.proofs.BorrowedFiles.{stream_not_filed}
use Rattle.ipc_convert.proofs.Unfailed.{takes_unfailed}
use Rattle.ipc_programs.proofs.convert.copies.input_to_file.Goals as goal

pub returns-clause-takes : goal.returns-clause-takes
returns-clause-takes g c = takes_stream g.R.Reads.gives _ _ _ _ c.in_ok-input.ensures.takes refl (λ e. search rules)

pub returns-clause-done : goal.returns-clause-done
returns-clause-done g c = takes_unfailed g.R.Reads.gives g.R.Failures.device.failures g.met.R.Reads.laws.fails _ _ (returns-clause-takes g c)

pub returns-clause-copies : goal.returns-clause-copies
returns-clause-copies g c known =
    copies_stream g.R.Reads.gives _ _ _ _ _ _ (c.in_ok-input.ensures.exact known) refl (λ e. search rules)
    (λ schema cs end. writes_file g.O.Failures.device (renamed c.stream_to_file-arg-2-1.given c.args.out) c.in_ok-input.out _ _ c.in_ok-input.ensures.device.names.1 refl (λ e. search rules) _ schema [] cs)

pub returns-in_err-input-clause-refused : goal.returns-in_err-input-clause-refused
returns-in_err-input-clause-refused g c =
    let p = err_from_is_err_and c.from_residual.result c.from_residual.ensures.1 in
    let e = c.in_err-input.field-0.0 in
    rw (p.1, p.2) (given_refused g.R.Reads.gives g.R.Failures.device (renamed c.stream_to_file-arg-1.given c.args.input) e _ _
    (λ bytes. stream_not_filed g.O.Failures.device (renamed c.stream_to_file-arg-2-1.given c.args.out) (order_of c.args.write_options) bytes e) c.in_err-input.ensures.causes)
