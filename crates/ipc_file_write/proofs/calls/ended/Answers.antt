use Rattle.std.proofs.Common.{rules, inl, inr, ◌∙◌}
use Rattle.std.proofs.lemmas.Result.{err_from_is_err_and}
use Rattle.ipc_file_write.proofs.CallLists.{finished_before, finished_now}
use Rattle.ipc_file_write.specs.FileWriters.{seen}
use Rattle.ipc_file_write.proofs.WrittenFiles.{ending_full, refuses_end}
use Rattle.ipc_file_write.proofs.calls.ended.Goals as goal

pub returns-in-Finished : goal.returns-in-Finished
returns-in-Finished c = record {
  ok = finished_before (seen c.args.writer) c.into_inner.result (search rules) c.into_inner.ensures;
  state = inr (search rules);
  only = tt;
}

pub returns-in_ok-finish-in_default : goal.returns-in_ok-finish-in_default
returns-in_ok-finish-in_default c = record {
  ok =
      finished_now (seen c.args.writer) (seen c.finish.new.self) c.into_inner-in_default.result c.in_ok-finish-in_default.ensures.finishes.device c.in_ok-finish-in_default.ensures.finishes.state.ok
      c.in_ok-finish-in_default.ensures.finishes.content c.into_inner-in_default.ensures;
  state = inl c.in_ok-finish-in_default.ensures.finishes.state.ok.was;
  only = tt;
}

pub returns-in_err-finish-in_default : goal.returns-in_err-finish-in_default
returns-in_err-finish-in_default c =
    let fault = c.in_err-finish-in_default.field-0.0 in
    let e = c.in_err-finish-in_default.ensures.finishes in
    let p = err_from_is_err_and c.from_residual.result c.from_residual.ensures.1 in
    rw (p.1, p.2) (record {
      ok = tt;
      state = tt;
      only =
          refuses_end (seen c.args.writer) (seen c.finish.new.self) (λ is. c.in_default.not-Finished (c.state.ensures ∙ is)) fault e.state.first e.causes e.exact.0
          (ending_full (seen c.args.writer) (seen c.finish.new.self) fault e.device);
    })
