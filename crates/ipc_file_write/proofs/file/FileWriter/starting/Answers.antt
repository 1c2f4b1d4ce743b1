use Rattle.std.proofs.Common.{rules, ◌≡◌, Err, refl}
use Rattle.std.proofs.lemmas.Result.{err_from_is_err_and}
use Rattle.lower.specs.TypeViews.{fields_view, pairs_of}
use Rattle.ipc_base.specs.IdTrees.{all_ids_view}
use Rattle.ipc_schema_write.specs.DefaultIds.{default_all}
use Rattle.ipc_schema_write.specs.WriterAnswers.{RefusesSchema}
use Rattle.ipc_write.proofs.Refusals.{state_answered}
use Rattle.ipc_write.specs.Writers.{chosen_ids, fault_unless_new}
use Rattle.ipc_file_write.specs.FileWriters.{seen}
use Rattle.ipc_file_write.proofs.FileStates.{ids_refused, may_start}
use Rattle.ipc_file_write.proofs.Keeping.{new_light}
use Rattle.ipc_file_write.proofs.file.FileWriter.starting.Goals as goal
use Rattle.ipc_file_write.proofs.file.FileWriter.starting.Goals.{in-Some+in_ok-ipc_fields-in-Some, in-None+in_ok-ipc_fields-in-None}

pub returns-in_err-check_new-clause-first : goal.returns-in_err-check_new-clause-first
returns-in_err-check_new-clause-first g c =
    let fault = c.in_err-check_new.field-0.0 in
    let e : c.from_residual.result ≡ Err fault = search rules in
    state_answered (fault_unless_new c.args.self.now.state) fault c.from_residual.result e c.in_err-check_new.ensures.only

pub returns-in_err-ipc_fields-in-None-clause-only : goal.returns-in_err-ipc_fields-in-None-clause-only
returns-in_err-ipc_fields-in-None-clause-only g c =
    let p = err_from_is_err_and c.from_residual-in_err-ipc_fields-in-None.result c.from_residual-in_err-ipc_fields-in-None.ensures.1 in
    let s = c.args.self.now.schema in
    let fs = fields_view s.fields.items in
    let es = pairs_of s.metadata.entries in
    let refused : RefusesSchema c.in_err-ipc_fields-in-None.field-0.0 fs es (default_all 0 fs) = rw c.deref.ensures.value at (c.in_err-ipc_fields-in-None.ensures.only es) in
    let chosen : RefusesSchema c.in_err-ipc_fields-in-None.field-0.0 fs es (chosen_ids c.args.self.now.given fs) = rw c.in-None.is refused in
    rw (p.1, p.2) (ids_refused (seen c.args.self.now) c.in_err-ipc_fields-in-None.field-0.0 chosen)

pub returns-clause-ok : goal.returns-clause-ok
returns-clause-ok g c =
    let s = c.args.self.now.schema in
    let fs = fields_view s.fields.items in
    let ids : all_ids_view c.match-self.ipc_fields.items ≡ chosen_ids c.args.self.now.given fs = elim c.match-self.branch [ in-Some+in_ok-ipc_fields-in-Some w ↦ search rules | in-None+in_ok-ipc_fields-in-None w ↦ search rules ] in
    let w = rw (c.deref-2.ensures.value) at c.in_ok-message.ensures in
    let b = rw (c.deref-3.ensures.value) at c.in_ok-bytes.ensures in
    let light = new_light c.args.self.now.state fs (pairs_of s.metadata.entries) (all_ids_view c.args.self.now.ipc_fields.items) (all_ids_view c.match-self.ipc_fields.items) (pairs_of c.args.self.now.custom_metadata.entries) c.args.self.now.writable
    c.in_ok-check_new.ensures.ok w.0 in
    may_start (seen c.args.self.now) _ c.in_ok-message.message.items (all_ids_view c.match-self.ipc_fields.items) c.in_ok-check_new.ensures.ok ids refl light w.0 w.2 w.3 w.4 w.5 b
