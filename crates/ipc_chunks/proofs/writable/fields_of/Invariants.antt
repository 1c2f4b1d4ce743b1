use Rattle.std.proofs.Common.{◌≡◌, map, take}
use Rattle.lower.specs.TypeViews.{field_view}
use Rattle.ipc_chunks.proofs.Fields.{encoded_field}
use Rattle.ipc_chunks.proofs.writable.fields_of.Given as goal

abbrev pub invariant-loop-column : goal.invariant-loop-column
invariant-loop-column l = map field_view l.fields.items ≡ map encoded_field (take l.column-index l.columns)
