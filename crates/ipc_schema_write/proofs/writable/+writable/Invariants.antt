use Rattle.std.proofs.Common.{◌↔◌, drop}
use Rattle.lower.specs.TypeViews.{fields_view}
use Rattle.ipc_model.specs.Writable.{AreWritable}
use Rattle.ipc_schema_write.proofs.writable.+writable.Given as goal

abbrev pub invariant-are_writable-loop-field : goal.invariant-are_writable-loop-field
invariant-are_writable-loop-field l = AreWritable (fields_view l.fields) ↔ AreWritable (fields_view (drop l.field-index l.fields))
