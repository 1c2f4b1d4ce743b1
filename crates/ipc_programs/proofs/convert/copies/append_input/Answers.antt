use Rattle.std.proofs.Common.{rules, inl, inr, refl}
use Rattle.std.proofs.lemmas.Result.{err_from_is_err_and}
use Rattle.ipc_programs.proofs.Borrowed.{copies_stream, file_refused, refuses_appended, renamed, takes_stream}
use Rattle.ipc_convert.proofs.Unfailed.{takes_unfailed}
use Rattle.ipc_programs.proofs.convert.copies.append_input.Goals as goal

pub returns-clause-takes : goal.returns-clause-takes
returns-clause-takes g c = takes_stream g.R.Reads.gives _ _ _ _ c.in_ok-file.ensures.takes refl (λ e. search rules)

pub returns-clause-done : goal.returns-clause-done
returns-clause-done g c = (c.in_ok-file.ensures.device.done.0, takes_unfailed g.R.Reads.gives g.R.Failures.device.failures g.met.R.Reads.laws.fails _ _ (returns-clause-takes g c))

pub returns-clause-flushed : goal.returns-clause-flushed
returns-clause-flushed g c = c.in_ok-file.ensures.flushed

pub returns-clause-appends : goal.returns-clause-appends
returns-clause-appends g c known at = copies_stream g.R.Reads.gives _ _ _ _ _ _ (c.in_ok-file.ensures.exact known at) refl (λ e. search rules) (λ schema cs end h. h)

pub returns-in_err-file-clause-refused : goal.returns-in_err-file-clause-refused
returns-in_err-file-clause-refused g c =
    let p = err_from_is_err_and c.from_residual.result c.from_residual.ensures.1 in
    let e = c.in_err-file.field-0.0 in
    rw (p.1, p.2) (file_refused g.F.Failures.device.is_memory (g.F.Failures.device.memory c.args.file) e _ _ (λ why. elim why [
      | inl none ↦ inl none
      | inr refused ↦ inr (refuses_appended g.F.Failures.device c.args.file g.R.Reads.gives g.R.Failures.device (renamed c.append_stream-arg-1.given c.args.input) e refused)
    ]) c.in_err-file.ensures.causes)
