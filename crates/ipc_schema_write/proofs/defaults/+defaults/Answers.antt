use Rattle.std.proofs.Common.{arith}
use Rattle.std.proofs.lemmas.Grind.{common_steps}
use Rattle.std.proofs.lemmas.List.{drop_more}
use Rattle.ipc_schema_write.proofs.IdAppends.{append_ids-push, append_ids-none}
use Rattle.ipc_schema_write.proofs.defaults.+defaults.Goals as goal

pub ids_from-loop-field-preserved : goal.ids_from-loop-field-preserved
ids_from-loop-field-preserved t c =
    let l = c.loop-field in
    let i = c.in_ok-ids_of in
    let split = drop_more c.args.fields.now l.field-index c.field-item.result c.loop-field-test.true in
    (grind (arith, common_steps, append_ids-push), grind (arith, common_steps))

pub ids_from-returns-clause-ids : goal.ids_from-returns-clause-ids
ids_from-returns-clause-ids t c = grind (arith, common_steps, append_ids-none)
