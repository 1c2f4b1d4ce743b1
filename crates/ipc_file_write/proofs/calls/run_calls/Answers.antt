use Rattle.std.proofs.Common.{◌≡◌, ◌+◌, ◌∷◌, [], ◌++◌, take, sym, ap, ◌∙◌}
use Rattle.std.proofs.lemmas.List.{take_all, take_more}
use Rattle.ipc_write.proofs.CallLists.{on_err}
use Rattle.ipc_file_write.specs.FileWriters.{seen}
use Rattle.ipc_file_write.proofs.CallLists.{made_more, moves_all, moves_chosen, moves_follow, moves_run, moves_same}
use Rattle.ipc_file_write.proofs.calls.run_calls.Goals as goal

pub loop-call-preserved : goal.loop-call-preserved
loop-call-preserved g c =
    let calls = c.args.calls.now in
    let i = c.loop-call.call-index in
    let call = c.call-item.result in
    let next : take (i + 1) calls ≡ take i calls ++ call ∷ [] =
    take_more calls i call c.loop-call-test.true ∙ sym (ap (λ x. take i calls ++ x ∷ []) c.call-item.is) in
    rw (next, c.in_ok-push.ensures.items)
    (made_more g.W.Failures.device _ _ _ (take i calls) c.loop-call.answers.items call c.run_call.result c.loop-call.invariant c.run_call.ensures.made)

pub returns-in_err-push-clause-refused : goal.returns-in_err-push-clause-refused
returns-in_err-push-clause-refused g c =
    let calls = c.args.calls.now in
    let i = c.loop-call.call-index in
    let call = c.call-item.result in
    let next : take (i + 1) calls ≡ take i calls ++ call ∷ [] =
    take_more calls i call c.loop-call-test.true ∙ sym (ap (λ x. take i calls ++ x ∷ []) c.call-item.is) in
    on_err c.from_residual.result _ (record {
      count = i + 1;
      answers = c.loop-call.answers.items ++ c.run_call.result ∷ [];
      made = rw next
          (made_more g.W.Failures.device _ _ _ (take i calls) c.loop-call.answers.items call c.run_call.result c.loop-call.invariant c.run_call.ensures.made);
    })

pub returns-clause-ran : goal.returns-clause-ran
returns-clause-ran g c =
    let a = seen c.args.writer.now in
    let b = seen c.loop-call.writer in
    let calls = c.args.calls.now in
    let answers = c.loop-call.answers.items in
    let whole : take c.loop-call.call-index c.args.calls.now ≡ c.args.calls.now = take_all _ _ c.loop-call-test.false in
    record {
      made = rw whole at c.loop-call.invariant;
      state = moves_run g.W.Failures.device a b calls answers (moves_all g.W.Failures.device a b calls answers (rw whole at c.loop-call.invariant));
      content = moves_follow g.W.Failures.device a b calls answers (moves_all g.W.Failures.device a b calls answers (rw whole at c.loop-call.invariant));
      same = moves_same g.W.Failures.device a b calls answers (moves_all g.W.Failures.device a b calls answers (rw whole at c.loop-call.invariant));
      chosen = moves_chosen g.W.Failures.device a b calls answers (moves_all g.W.Failures.device a b calls answers (rw whole at c.loop-call.invariant));
    }
