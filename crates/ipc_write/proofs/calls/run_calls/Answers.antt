use Rattle.std.proofs.Common.{◌≡◌, ◌+◌, ◌∷◌, [], ◌++◌, take, sym, ap, subst, ◌∙◌}
use Rattle.std.proofs.lemmas.List.{take_all, take_more}
use Rattle.lower.specs.TypeViews.{fields_view, pairs_of}
use Rattle.std.specs.Prelude.{Option, Vec}
use Rattle.std.specs.declared.alloc.Global.{Global}
use Rattle.ipc_base.specs.declared.ipc.IpcField.{IpcField}
use Rattle.ipc_write.specs.Calls.{HandsIds}
use Rattle.ipc_write.specs.Writers.{chosen_ids, seen}
use Rattle.ipc_write.proofs.CallLists.{made_follow, made_more, made_run, made_with, on_err}
use Rattle.ipc_write.proofs.calls.run_calls.Goals as goal

pub loop-call-preserved : goal.loop-call-preserved
loop-call-preserved g c =
    let calls = c.args.calls.now in
    let i = c.loop-call.call-index in
    let call = c.call-item.result in
    let next : take (i + 1) calls ≡ take i calls ++ call ∷ [] =
    take_more calls i call c.loop-call-test.true ∙ sym (ap (λ x. take i calls ++ x ∷ []) c.call-item.is) in
    let inv = c.loop-call.invariant in
    let handed = subst (λ (all : Option (Vec IpcField Global)). HandsIds call all c.in_ok-ids.ids) inv.0 c.in_ok-ids.ensures in
    let made =
    made_with g.W.Failures.device (fields_view c.args.schema.now.fields.items) (pairs_of c.args.schema.now.metadata.entries) c.args.ipc_fields
    c.in_ok-ids.ids _ _ call c.run_call.result handed c.run_call.ensures in
    rw (next, c.in_ok-push.ensures.items) (inv.0, made_more _ _ _ _ _ _ _ (take i calls) c.loop-call.answers.items call c.run_call.result inv.1 made)

pub returns-in_err-push-clause-refused : goal.returns-in_err-push-clause-refused
returns-in_err-push-clause-refused g c =
    let calls = c.args.calls.now in
    let i = c.loop-call.call-index in
    let call = c.call-item.result in
    let next : take (i + 1) calls ≡ take i calls ++ call ∷ [] =
    take_more calls i call c.loop-call-test.true ∙ sym (ap (λ x. take i calls ++ x ∷ []) c.call-item.is) in
    let inv = c.loop-call.invariant in
    let handed = subst (λ (all : Option (Vec IpcField Global)). HandsIds call all c.in_ok-ids.ids) inv.0 c.in_ok-ids.ensures in
    let made =
    made_with g.W.Failures.device (fields_view c.args.schema.now.fields.items) (pairs_of c.args.schema.now.metadata.entries) c.args.ipc_fields
    c.in_ok-ids.ids _ _ call c.run_call.result handed c.run_call.ensures in
    on_err c.from_residual-in_err-push.result _ (record {
      count = i + 1;
      answers = c.loop-call.answers.items ++ c.run_call.result ∷ [];
      made = rw next (made_more _ _ _ _ _ _ _ (take i calls) c.loop-call.answers.items call c.run_call.result inv.1 made);
    })

pub returns-clause-ran : goal.returns-clause-ran
returns-clause-ran g c =
    let fields = fields_view c.args.schema.now.fields.items in
    let whole : take c.loop-call.call-index c.args.calls.now ≡ c.args.calls.now = take_all _ _ c.loop-call-test.false in
    record {
      made = rw whole at c.loop-call.invariant.1;
      state = made_run g.W.Failures.device fields (pairs_of c.args.schema.now.metadata.entries)
          (chosen_ids c.args.ipc_fields fields) (seen c.args.writer.now) (seen c.loop-call.writer) c.args.calls.now c.loop-call.answers.items (rw whole at c.loop-call.invariant.1);
      content = made_follow g.W.Failures.device fields (pairs_of c.args.schema.now.metadata.entries)
          (chosen_ids c.args.ipc_fields fields) (seen c.args.writer.now) (seen c.loop-call.writer) c.args.calls.now c.loop-call.answers.items (rw whole at c.loop-call.invariant.1);
    }

pub returns-in_err-ids-clause-refused : goal.returns-in_err-ids-clause-refused
returns-in_err-ids-clause-refused g c = on_err c.from_residual.result _ (record { count = c.loop-call.call-index; answers = c.loop-call.answers.items; made = c.loop-call.invariant.1 })
