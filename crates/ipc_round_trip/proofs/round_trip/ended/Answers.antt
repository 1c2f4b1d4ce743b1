use Rattle.std.proofs.Common.{rules, inl, inr, ◌∙◌}
use Rattle.std.proofs.lemmas.Result.{err_from_is_err_and}
use Rattle.ipc_write.specs.Writers.{seen}
use Rattle.ipc_round_trip.proofs.Streams.{ends_stream, refuses_end}
use Rattle.ipc_round_trip.proofs.round_trip.ended.Goals as goal

pub returns-in-Finished : goal.returns-in-Finished
returns-in-Finished c = record {
  ok = ends_stream (seen c.args.writer) (seen c.args.writer) c.into_inner.result (record { kept = λ k base head chunks at. at }) (search rules) c.into_inner.ensures;
  state = inr (search rules);
  only = tt;
}

pub returns-in_ok-finish-in_default : goal.returns-in_ok-finish-in_default
returns-in_ok-finish-in_default c = record {
  ok =
      ends_stream (seen c.args.writer) (seen c.finish.new.self) c.into_inner-in_default.result c.in_ok-finish-in_default.ensures.content c.in_ok-finish-in_default.ensures.state.ok.1
      c.into_inner-in_default.ensures;
  state = inl c.in_ok-finish-in_default.ensures.state.ok.0;
  only = tt;
}

pub returns-in_err-finish-in_default : goal.returns-in_err-finish-in_default
returns-in_err-finish-in_default c =
    let fault = c.in_err-finish-in_default.field-0.0 in
    let e = c.in_err-finish-in_default.ensures in
    let p = err_from_is_err_and c.from_residual.result c.from_residual.ensures.1 in
    rw (p.1, p.2) (record {
      ok = tt;
      state = tt;
      only = refuses_end (seen c.args.writer) (seen c.finish.new.self) (λ is. c.in_default.not-Finished (c.state.ensures ∙ is)) fault e.state.first e.device e.causes;
    })
