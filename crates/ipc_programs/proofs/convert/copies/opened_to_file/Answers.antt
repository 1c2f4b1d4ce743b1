use Rattle.std.proofs.Common.{rules, refl}
use Rattle.std.proofs.lemmas.Result.{err_from_is_err_and}
use Rattle.ipc_write.specs.Writers.{order_of}
use Rattle.ipc_programs.proofs.Borrowed.{copies_file, file_refused, renamed, writes_file}
use Rattle.ipc_programs.proofs.BorrowedFiles.{file_not_filed}
use Rattle.ipc_programs.proofs.convert.copies.opened_to_file.Goals as goal

pub returns-clause-copies : goal.returns-clause-copies
returns-clause-copies g c known =
    copies_file g.F.Failures.device c.args.file _ _
    (writes_file g.O.Failures.device (renamed c.file_to_file-arg-1.given c.args.out) c.in_ok-file.out _ _ c.in_ok-file.ensures.device.names.1 refl (λ e. search rules) _) (c.in_ok-file.ensures.exact known)

pub returns-in_err-file-clause-refused : goal.returns-in_err-file-clause-refused
returns-in_err-file-clause-refused g c =
    let p = err_from_is_err_and c.from_residual.result c.from_residual.ensures.1 in
    let e = c.in_err-file.field-0.0 in
    rw (p.1, p.2) (file_refused g.F.Failures.device.is_memory (g.F.Failures.device.memory c.args.file) e _ _
    (file_not_filed g.O.Failures.device (renamed c.file_to_file-arg-1.given c.args.out) (order_of c.args.write_options) (g.F.Failures.device.memory c.args.file).whole e) c.in_err-file.ensures.causes)
