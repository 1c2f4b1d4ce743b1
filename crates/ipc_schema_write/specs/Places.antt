-- The dictionary fields of a schema, in the order in which they are visited.
-- (Arrow columnar format, "Dictionary messages".)
use Rattle.std.specs.Prelude.{◌≡◌, List, Some, map}
use Rattle.lower.specs.Normal.{norm}
use Rattle.lower.specs.TypeViews.{type_view}
use Rattle.ipc_base.specs.IdTrees.{all_ids_view}
use Rattle.ipc_model.specs.Batches.{Place}
use Rattle.ipc_schema_write.specs.declared.dictionaries.DictionaryPlace.{DictionaryPlace}

-- A dictionary field that was visited, as the meaning of a schema has it.
abbrev pub place_view : DictionaryPlace → Place
place_view p = record { id = Some p.id; type = type_view p.values.now; ids = all_ids_view p.ids.now }

-- Some dictionary fields that were visited.
abbrev pub places_view : List DictionaryPlace → List Place
places_view ps = map place_view ps

-- Two dictionary fields have one value type, in its normal form, with the same ids in it.
abbrev pub HaveOneValueType : Place → Place → Type 0
HaveOneValueType p q = (norm p.type ≡ norm q.type) × (p.ids ≡ q.ids)
