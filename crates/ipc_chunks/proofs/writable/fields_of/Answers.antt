use Rattle.std.proofs.Common.{◌∙◌, ap, map, arith}
use Rattle.std.proofs.lemmas.List.{take_all}
use Rattle.ipc_chunks.proofs.Fields.{encoded_field, fields_all}
use Rattle.ipc_chunks.proofs.writable.fields_of.Goals as goal

pub returns : goal.returns
returns c =
    let columns = c.args.columns.now in
    fields_all c.loop-column.fields.items columns
    (c.loop-column.invariant ∙ ap (map encoded_field) (take_all c.loop-column.column-index columns (omega (arith, c.loop-column-test.false))))
