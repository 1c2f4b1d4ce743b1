use Rattle.std.proofs.Common.{◌≡◌, ◌++◌, map, drop}
use Rattle.lower.specs.TypeViews.{fields_view}
use Rattle.ipc_write.specs.Meaning.{normal_types}
use Rattle.ipc_write.specs.Writers.{normal_view}
use Rattle.ipc_write.proofs.stream.types_of_fields.Given as goal

-- The types so far and those of the fields that are left are those of all fields.
abbrev pub invariant-loop-field : goal.invariant-loop-field
invariant-loop-field l =
    map normal_view l.types.items ++ normal_types (fields_view (drop l.field-index l.fields)) ≡ normal_types (fields_view l.fields)
