use Rattle.std.proofs.Common.{◌≡◌, ◌∙◌, ◌+◌, ◌<◌, ℕ, List, Some, Ok, ap, sym, length, arith}
use Rattle.std.proofs.lemmas.Result.{err_from_is_err_and}
use Rattle.ipc_table_views.specs.SchemaSlots.{schema_fields}
use Rattle.ipc_schema.proofs.Counted.{counts-refused, fields-long}
use Rattle.ipc_schema.proofs.Steps.{in_schema-ok}
use Rattle.ipc_schema.proofs.read.schema.fb_to_schema.Goals as goal

pub returns-in_err-fields-clause-refused : goal.returns-in_err-fields-clause-refused
returns-in_err-fields-clause-refused c =
    let p = err_from_is_err_and c.from_residual-in_err-fields.result c.from_residual-in_err-fields.ensures.1 in
    let tables = c.in-Some.tables in
    let there : schema_fields c.args.schema.now ≡ Ok (Some tables) = sym c.fields.ensures ∙ in_schema-ok _ _ c.in_ok-tables.ensures ∙ ap (λ o. Ok o) c.in-Some.is in
    let long = fields-long c.args.schema.now tables there in
    let same = ap (λ (m : List ℕ). length m) c.message.ensures in
    let room : c.args.visits.now < c.args.visits.now + length c.message.result.now = omega (arith, long, same) in
    rw (p.1, p.2) (counts-refused c.in_err-fields.field-0.0 _ c.args.visits.now _ (c.in_err-fields.ensures.counted room))
