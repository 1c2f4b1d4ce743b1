-- Fields that were read, with one more after them.
-- (Arrow columnar format, "Schema message".)
use Rattle.lower.specs.TypeTrees.{FieldTree, FieldTrees, no_fields, more_fields}
use Rattle.ipc_base.specs.IdTrees.{IdTree, IdTrees, no_ids, more_ids}
use Rattle.ipc_model.specs.Schemas.{Read, ReadAll}

-- Fields and one more after them.
abbrev pub and_field : FieldTrees → FieldTree → FieldTrees
and_field no_fields f = more_fields f no_fields
and_field (more_fields g gs) f = more_fields g (and_field gs f)

-- The ids of fields and those of one more after them.
abbrev pub and_id : IdTrees → IdTree → IdTrees
and_id no_ids i = more_ids i no_ids
and_id (more_ids j js) i = more_ids j (and_id js i)

-- Fields with their ids, and one more after them.
abbrev pub and_read : ReadAll → Read → ReadAll
and_read all x = (and_field all.0 x.0, and_id all.1 x.1)
