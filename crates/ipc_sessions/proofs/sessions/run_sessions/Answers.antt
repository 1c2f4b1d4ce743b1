use Rattle.std.proofs.Common.{◌≡◌, ◌+◌, ◌∷◌, [], ◌++◌, List, arith, length, length-append, drop, take, sym, ap, ◌∙◌, subst, refl}
use Rattle.std.proofs.lemmas.List.{take_all, take_more}
use Rattle.std.proofs.lemmas.Result.{err_from_is_err_and}
use Rattle.ipc_devices.proofs.Claims.{claims_through}
use Rattle.ipc_model.specs.Batches.{Chunk}
use Rattle.ipc_sessions.specs.Sessions.{AddsInTurn}
use Rattle.ipc_sessions.proofs.Going.{at_index, in_turn_more, in_turn_none, sessions_more, sessions_named}
use Rattle.ipc_sessions.proofs.Taken.{all_taken_more}
use Rattle.ipc_sessions.proofs.sessions.run_sessions.Goals as goal

pub loop-chunks-init : goal.loop-chunks-init
loop-chunks-init g c = rw c.new-answers.ensures.items (refl, refl, λ k. in_turn_none _)

pub loop-chunks-preserved : goal.loop-chunks-preserved
loop-chunks-preserved g c =
    let sessions = c.args.sessions.now in
    let i = c.loop-chunks.chunks-index in
    let chunks = c.chunks-item.result in
    let next : take (i + 1) sessions ≡ take i sessions ++ chunks ∷ [] =
    take_more sessions i chunks c.loop-chunks-test.true ∙ sym (ap (λ x. take i sessions ++ x ∷ []) c.chunks-item.is) in
    let answers = c.loop-chunks.answers.items in
    let inv = c.loop-chunks.invariant in
    let one = c.in_ok-ended.ended.1 in
    let left = c.in_ok-ended.ended.0 in
    rw (next, c.in_ok-push.ensures.items) (
      sessions_more g.W.Failures.device _ _ _ (take i sessions) answers chunks one inv.0 (rw c.deref.ensures.value at c.in_ok-ended.ensures.made),
      omega (arith, inv.1, length-append (take i sessions) (chunks ∷ []), length-append answers (one ∷ [])),
      λ k.
          subst (λ (xs : List Chunk). AddsInTurn (length (take i sessions ++ chunks ∷ [])) (g.W.Failures.device.memory c.args.device).whole (g.W.Failures.device.memory left).whole xs) (sym (all_taken_more (take i sessions) chunks answers one inv.1))
          (in_turn_more (length (take i sessions)) (length (take i sessions ++ chunks ∷ [])) (omega (arith, length-append (take i sessions) (chunks ∷ []))) _ _ _ _ _ (inv.2 k) (rw c.deref.ensures.value at (c.in_ok-ended.ensures.adds k))),
    )

pub returns : goal.returns
returns g c = record {
  exact = rw (take_all c.loop-chunks.chunks-index c.args.sessions.now c.loop-chunks-test.false) at c.loop-chunks.invariant.2;
  causes = tt;
  device = tt;
  answered = tt;
  calls = rw (take_all c.loop-chunks.chunks-index c.args.sessions.now c.loop-chunks-test.false) at c.loop-chunks.invariant.0;
  names = sessions_named g.W.Failures.device c.args.device c.loop-chunks.device (take c.loop-chunks.chunks-index c.args.sessions.now) c.loop-chunks.answers.items c.loop-chunks.invariant.0;
}

pub returns-in_err-ended : goal.returns-in_err-ended
returns-in_err-ended g c =
    let sessions = c.args.sessions.now in
    let i = c.loop-chunks.chunks-index in
    let chunks = c.chunks-item.result in
    let next : take (i + 1) sessions ≡ take i sessions ++ chunks ∷ [] =
    take_more sessions i chunks c.loop-chunks-test.true ∙ sym (ap (λ x. take i sessions ++ x ∷ []) c.chunks-item.is) in
    let p = err_from_is_err_and c.from_residual.result c.from_residual.ensures.1 in
    rw (p.1, p.2) (record {
      exact = λ k. tt;
      causes =
          claims_through c.in_err-ended.field-0.0 _ _
          (λ why. record {
            done = take i sessions;
            refused = chunks;
            rest = drop (i + 1) sessions;
            sessions_are = at_index sessions i chunks next;
            answers = c.loop-chunks.answers.items;
            left = c.loop-chunks.device;
            made = c.loop-chunks.invariant.0;
            why = why;
          }) (rw c.deref.ensures.value at c.in_err-ended.ensures.only);
      device = λ io. record {
        done = take i sessions;
        refused = chunks;
        rest = drop (i + 1) sessions;
        sessions_are = at_index sessions i chunks next;
        answers = c.loop-chunks.answers.items;
        left = c.loop-chunks.device;
        made = c.loop-chunks.invariant.0;
        why = (rw c.deref.ensures.value at c.in_err-ended.ensures.failed) io;
      };
      answered = c.in_err-ended.ensures.answered;
      calls = tt;
      names = tt;
    })
