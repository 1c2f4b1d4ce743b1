use Rattle.std.proofs.Common.{◌≡◌, [], Err, length, map, rules, ◌∙◌, sym}
use Rattle.std.proofs.lemmas.List.{length-map}
use Rattle.lower_arrays.specs.AnyLayouts.{layout_of}
use Rattle.ipc_base.specs.IdTrees.{all_ids_view}
use Rattle.ipc_schema_write.specs.WriterAnswers.{RefusesSchema}
use Rattle.ipc_chunks.specs.Chunks.{encoded_fields, id_number}
use Rattle.ipc_chunks.proofs.Counts.{columns_refused, numbers_same}
use Rattle.ipc_chunks.proofs.writable.check_columns.Goals as goal

pub returns-then-columns-ids-clause-refused : goal.returns-then-columns-ids-clause-refused
returns-then-columns-ids-clause-refused c =
    λ e. c.if-columns-ids.true (sym (length-map c.args.columns.now layout_of) ∙ e ∙ numbers_same c.args.ids.now)

pub returns-in_err-serialize_schema-clause-refused : goal.returns-in_err-serialize_schema-clause-refused
returns-in_err-serialize_schema-clause-refused c =
    let columns = map layout_of c.args.columns.now in
    let is = all_ids_view c.args.ids.now in
    let e : c.from_residual-in_err-serialize_schema.result ≡ Err c.in_err-serialize_schema.field-0.0 = search rules in
    let same : length columns ≡ id_number is = length-map c.args.columns.now layout_of ∙ c.if-columns-ids.false ∙ sym (numbers_same c.args.ids.now) in
    let refused : RefusesSchema c.in_err-serialize_schema.field-0.0 (encoded_fields columns) [] is = search rules in
    rw e (columns_refused columns is c.in_err-serialize_schema.field-0.0 same refused)
