use Rattle.std.proofs.Common.{inl, inr}
use Rattle.std.proofs.lemmas.Result.{err_from_is_err_and}
use Rattle.ipc_devices.proofs.Claims.{claimed, claims_through}
use Rattle.ipc_sessions.proofs.Going.{io_fails}
use Rattle.ipc_sessions.proofs.sessions.whole_session.Goals as goal

pub returns-clause-adds : goal.returns-clause-adds
returns-clause-adds g c = λ k. rw c.in_ok-outcome.was at (c.in_ok-session.ensures.exact k)

pub returns-clause-made : goal.returns-clause-made
returns-clause-made g c = rw c.in_ok-outcome.was at c.in_ok-session.ensures.calls

pub returns-in_err-session-clause-only : goal.returns-in_err-session-clause-only
returns-in_err-session-clause-only g c =
    let p = err_from_is_err_and c.from_residual.result c.from_residual.ensures.1 in
    rw (p.1, p.2) (claims_through c.in_err-session.field-0.0 _ _ (λ refused. inl refused) c.in_err-session.ensures.causes.only)

pub returns-in_err-outcome-clause-only : goal.returns-in_err-outcome-clause-only
returns-in_err-outcome-clause-only g c =
    let p = err_from_is_err_and c.from_residual-in_err-outcome.result c.from_residual-in_err-outcome.ensures.1 in
    rw (p.1, p.2)
    (claimed c.in_err-outcome.field-0.0 _
    (inr (record { answers = c.in_ok-session.session.answers.items; left = c.in_ok-session.session.device; session = rw c.in_err-outcome.was at c.in_ok-session.ensures.calls })))

pub returns-in_err-session-clause-failed : goal.returns-in_err-session-clause-failed
returns-in_err-session-clause-failed g c =
    let p = err_from_is_err_and c.from_residual.result c.from_residual.ensures.1 in
    rw (p.1, p.2) (λ io. inl (io_fails c.in_err-session.field-0.0 _ c.in_err-session.ensures.device io))

pub returns-in_err-outcome-clause-failed : goal.returns-in_err-outcome-clause-failed
returns-in_err-outcome-clause-failed g c =
    let p = err_from_is_err_and c.from_residual-in_err-outcome.result c.from_residual-in_err-outcome.ensures.1 in
    rw (p.1, p.2) (λ io. inr (record {
      answers = c.in_ok-session.session.answers.items;
      left = c.in_ok-session.session.device;
      session = rw c.in_err-outcome.was at c.in_ok-session.ensures.calls;
    }))

pub returns-in_err-session-clause-answered : goal.returns-in_err-session-clause-answered
returns-in_err-session-clause-answered g c =
    let p = err_from_is_err_and c.from_residual.result c.from_residual.ensures.1 in
    rw (p.1, p.2) c.in_err-session.ensures.answered

pub returns-in_err-outcome-clause-answered : goal.returns-in_err-outcome-clause-answered
returns-in_err-outcome-clause-answered g c =
    let p = err_from_is_err_and c.from_residual-in_err-outcome.result c.from_residual-in_err-outcome.ensures.1 in
    let on = rw c.in_err-outcome.was at c.in_ok-session.ensures.calls in
    rw (p.1, p.2) on.session.calls.ends.device.step.answered
