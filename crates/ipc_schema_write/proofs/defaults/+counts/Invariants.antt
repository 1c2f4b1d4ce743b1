use Rattle.std.proofs.Common.{◌≡◌, ◌+◌, drop}
use Rattle.lower.specs.TypeViews.{fields_view}
use Rattle.ipc_schema_write.specs.DefaultIds.{count_all}
use Rattle.ipc_schema_write.proofs.defaults.+counts.Given as goal

abbrev pub invariant-count_all-loop-field : goal.invariant-count_all-loop-field
invariant-count_all-loop-field l =
    l.sum + count_all (fields_view (drop l.field-index l.fields)) ≡ count_all (fields_view l.fields)
