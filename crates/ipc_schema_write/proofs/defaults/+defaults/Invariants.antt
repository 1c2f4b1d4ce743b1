use Rattle.std.proofs.Common.{◌≡◌, ◌+◌, drop}
use Rattle.lower.specs.TypeViews.{fields_view}
use Rattle.ipc_base.specs.IdTrees.{all_ids_view}
use Rattle.ipc_schema_write.specs.DefaultIds.{append_ids, count_all, default_all}
use Rattle.ipc_schema_write.proofs.defaults.+defaults.Given as goal

abbrev pub invariant-ids_from-loop-field : goal.invariant-ids_from-loop-field
invariant-ids_from-loop-field l =
    (append_ids (all_ids_view l.all.items) (default_all l.next (fields_view (drop l.field-index l.fields))) ≡ default_all l.initial.next (fields_view l.fields))
    × (l.next + count_all (fields_view (drop l.field-index l.fields)) ≡ l.initial.next + count_all (fields_view l.fields))
