use Rattle.std.proofs.Common.{rules, refl}
use Rattle.ipc_model.specs.Streams.{marked}
use Rattle.std.proofs.lemmas.Result.{err_from_is_err_and}
use Rattle.ipc_programs.proofs.Borrowed.{copies_file, file_refused, renamed, writes_stream}
use Rattle.ipc_programs.proofs.convert.copies.opened_to_stream.Goals as goal

pub returns-clause-copies : goal.returns-clause-copies
returns-clause-copies g c known =
    copies_file g.F.Failures.device c.args.file _ _
    (λ schema pairs cs. writes_stream g.O.Failures.device (renamed c.file_to_stream-arg-1.given c.args.out) c.in_ok-file.out _ _ c.in_ok-file.ensures.device.names.1 refl (λ e. search rules) _ schema cs marked) (c.in_ok-file.ensures.exact known)

pub returns-in_err-file-clause-refused : goal.returns-in_err-file-clause-refused
returns-in_err-file-clause-refused g c =
    let p = err_from_is_err_and c.from_residual.result c.from_residual.ensures.1 in
    rw (p.1, p.2) (file_refused g.F.Failures.device.is_memory (g.F.Failures.device.memory c.args.file) c.in_err-file.field-0.0 _ _ (λ why. why) c.in_err-file.ensures.causes)
