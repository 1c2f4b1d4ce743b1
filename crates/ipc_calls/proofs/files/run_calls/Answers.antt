use Rattle.std.proofs.Common.{◌≡◌, ◌+◌, ◌∷◌, [], ◌++◌, take, sym, ap, subst, ◌∙◌}
use Rattle.std.proofs.lemmas.List.{take_all, take_more}
use Rattle.ipc_write.proofs.CallLists.{on_err}
use Rattle.ipc_file_write.specs.FileWriters.{seen}
use Rattle.ipc_calls.specs.FileCalls.{FirstAreMade}
use Rattle.ipc_calls.proofs.FileLists.{made_follow, made_keep, made_more, made_run}
use Rattle.ipc_calls.proofs.files.run_calls.Goals as goal

pub loop-call-preserved : goal.loop-call-preserved
loop-call-preserved g c =
    let calls = c.args.calls.now in
    let i = c.loop-call.call-index in
    let call = c.call-item.result in
    let next : take (i + 1) calls ≡ take i calls ++ call ∷ [] =
    take_more calls i call c.loop-call-test.true ∙ sym (ap (λ x. take i calls ++ x ∷ []) c.call-item.is) in
    rw (next, c.in_ok-push.ensures.items)
    (made_more g.W.Failures.device (seen c.args.writer.now) (seen c.loop-call.writer) (seen c.run_call.new.writer)
    (take i calls) c.loop-call.answers.items call c.in_ok-answer.answer c.loop-call.invariant c.in_ok-answer.ensures.made)

pub returns-in_err-push-clause-refused : goal.returns-in_err-push-clause-refused
returns-in_err-push-clause-refused g c =
    let calls = c.args.calls.now in
    let i = c.loop-call.call-index in
    let call = c.call-item.result in
    let next : take (i + 1) calls ≡ take i calls ++ call ∷ [] =
    take_more calls i call c.loop-call-test.true ∙ sym (ap (λ x. take i calls ++ x ∷ []) c.call-item.is) in
    on_err c.from_residual-in_err-push.result _ (record {
      count = i + 1;
      answers = c.loop-call.answers.items ++ c.in_ok-answer.answer ∷ [];
      made = rw next
          (made_more g.W.Failures.device (seen c.args.writer.now) (seen c.loop-call.writer) (seen c.run_call.new.writer)
          (take i calls) c.loop-call.answers.items call c.in_ok-answer.answer c.loop-call.invariant c.in_ok-answer.ensures.made);
    })

-- The call whose allocation failed did nothing.
pub returns-in_err-answer-clause-refused : goal.returns-in_err-answer-clause-refused
returns-in_err-answer-clause-refused g c =
    on_err c.from_residual.result _
    (subst (λ w. FirstAreMade g.W.Failures.device (seen c.args.writer.now) c.args.calls.now w) (sym c.in_err-answer.ensures.none)
    (record { count = c.loop-call.call-index; answers = c.loop-call.answers.items; made = c.loop-call.invariant }))

pub returns-clause-run : goal.returns-clause-run
returns-clause-run g c =
    let whole : take c.loop-call.call-index c.args.calls.now ≡ c.args.calls.now = take_all _ _ c.loop-call-test.false in
    made_run g.W.Failures.device (seen c.args.writer.now) (seen c.loop-call.writer) c.args.calls.now c.loop-call.answers.items
    (rw whole at c.loop-call.invariant)

pub returns-clause-follows : goal.returns-clause-follows
returns-clause-follows g c =
    let whole : take c.loop-call.call-index c.args.calls.now ≡ c.args.calls.now = take_all _ _ c.loop-call-test.false in
    made_follow g.W.Failures.device (seen c.args.writer.now) (seen c.loop-call.writer) c.args.calls.now c.loop-call.answers.items
    (rw whole at c.loop-call.invariant)

pub returns-clause-keeps : goal.returns-clause-keeps
returns-clause-keeps g c =
    let whole : take c.loop-call.call-index c.args.calls.now ≡ c.args.calls.now = take_all _ _ c.loop-call-test.false in
    made_keep g.W.Failures.device (seen c.args.writer.now) (seen c.loop-call.writer) c.args.calls.now c.loop-call.answers.items
    (rw whole at c.loop-call.invariant)
