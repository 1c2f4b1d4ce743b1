use Rattle.std.proofs.Common.{Err, ap, ◌∙◌}
use Rattle.std.proofs.lemmas.Result.{err_from_is_err_and}
use Rattle.lower.specs.TypeViews.{fields_view, pairs_of}
use Rattle.ipc_base.specs.IdTrees.{all_ids_view}
use Rattle.ipc_file_write.specs.FileWriters.{seen}
use Rattle.ipc_convert.proofs.Answered.{pairs_answer_none}
use Rattle.ipc_convert.proofs.CopyFaults.{begin_refused, pairs_refused}
use Rattle.ipc_convert.proofs.Failing.{file_step_fails, pairs_say_none, send_fails}
use Rattle.ipc_convert.proofs.Taken.{file_begun}
use Rattle.ipc_convert.proofs.files.begin_file.Goals as goal

pub returns-clause-begins : goal.returns-clause-begins
returns-clause-begins g c =
    let made = c.in_ok-writer.ensures.made in
    file_begun g.W.Failures.device c.args.out c.args.write_options.big_endian (fields_view c.args.schema.fields.items)
    (pairs_of c.args.schema.metadata.entries) (all_ids_view c.args.ids.items) (pairs_of c.args.pairs.entries) (seen c.in_ok-writer.writer) (seen c.set_custom_metadata.new.self) (seen c.start.new.self) _
    made.device made.content made.file c.in_ok-set_custom_metadata.ensures.sets.state.ok c.in_ok-set_custom_metadata.ensures.sets.content c.in_ok-start.ensures.starts.device c.in_ok-start.ensures.starts.state.ok c.in_ok-start.ensures.starts.content

pub returns-in_err-set_custom_metadata-clause-only : goal.returns-in_err-set_custom_metadata-clause-only
returns-in_err-set_custom_metadata-clause-only g c =
    let p = err_from_is_err_and c.from_residual-in_err-set_custom_metadata.result c.from_residual-in_err-set_custom_metadata.ensures.1 in
    let made = c.in_ok-writer.ensures.made in
    rw (p.1, p.2) (pairs_refused (seen c.in_ok-writer.writer) _ _ (all_ids_view c.args.ids.items) (pairs_of c.args.pairs.entries) c.in_err-set_custom_metadata.field-0.0 made.state made.file.fields_are made.file.metadata_are c.in_err-set_custom_metadata.ensures.sets.causes)

pub returns-in_err-start-clause-only : goal.returns-in_err-start-clause-only
returns-in_err-start-clause-only g c =
    let p = err_from_is_err_and c.from_residual-in_err-start.result c.from_residual-in_err-start.ensures.1 in
    let made = c.in_ok-writer.ensures.made in
    let takes = c.in_ok-set_custom_metadata.ensures.sets.state.ok in
    rw (p.1, p.2) (begin_refused (seen c.set_custom_metadata.new.self) _ _ (all_ids_view c.args.ids.items) (pairs_of c.args.pairs.entries) c.in_err-start.field-0.0
    (takes.state ∙ made.state) (takes.fields ∙ made.file.fields_are) (takes.metadata ∙ made.file.metadata_are) (takes.chosen ∙ made.file.chosen_are) c.in_err-start.ensures.starts.causes)

pub returns-in_err-set_custom_metadata-clause-failed : goal.returns-in_err-set_custom_metadata-clause-failed
returns-in_err-set_custom_metadata-clause-failed g c =
    let p = err_from_is_err_and c.from_residual-in_err-set_custom_metadata.result c.from_residual-in_err-set_custom_metadata.ensures.1 in
    rw (p.1, p.2) (pairs_say_none (seen c.in_ok-writer.writer) (pairs_of c.args.pairs.entries) c.in_err-set_custom_metadata.field-0.0 _ c.in_err-set_custom_metadata.ensures.sets.causes)

pub returns-in_err-start-clause-failed : goal.returns-in_err-start-clause-failed
returns-in_err-start-clause-failed g c =
    let p = err_from_is_err_and c.from_residual-in_err-start.result c.from_residual-in_err-start.ensures.1 in
    let given = c.set_custom_metadata.new.self in
    rw (p.1, p.2) (send_fails g.W.Failures.device c.args.out (seen given).device (seen c.start.new.self).device c.in_err-start.field-0.0
    (ap g.W.Failures.device.failures (c.in_ok-set_custom_metadata.ensures.sets.state.ok.device ∙ c.in_ok-writer.ensures.made.device))
    (file_step_fails g.W.Failures.device (seen given) (Err c.in_err-start.field-0.0) (seen c.start.new.self) _ c.in_err-start.ensures.starts.device.step))

pub returns-clause-done : goal.returns-clause-done
returns-clause-done g c = c.in_ok-start.ensures.starts.device.step.done ∙ ap g.W.Failures.device.failures (c.in_ok-set_custom_metadata.ensures.sets.state.ok.device ∙ c.in_ok-writer.ensures.made.device)

pub returns-in_err-set_custom_metadata-clause-answered : goal.returns-in_err-set_custom_metadata-clause-answered
returns-in_err-set_custom_metadata-clause-answered g c =
    let p = err_from_is_err_and c.from_residual-in_err-set_custom_metadata.result c.from_residual-in_err-set_custom_metadata.ensures.1 in
    rw (p.1, p.2) (pairs_answer_none (seen c.in_ok-writer.writer) (pairs_of c.args.pairs.entries) c.in_err-set_custom_metadata.field-0.0 _ c.in_err-set_custom_metadata.ensures.sets.causes)

pub returns-in_err-start-clause-answered : goal.returns-in_err-start-clause-answered
returns-in_err-start-clause-answered g c =
    let p = err_from_is_err_and c.from_residual-in_err-start.result c.from_residual-in_err-start.ensures.1 in
    rw (p.1, p.2) c.in_err-start.ensures.starts.device.step.answered
