use Rattle.std.proofs.Common.{◌++◌}
use Rattle.lower.specs.TypeViews.{fields_view}
use Rattle.ipc_base.specs.IdTrees.{all_ids_view}
use Rattle.ipc_model.specs.Batches.{places}
use Rattle.ipc_schema_write.specs.Places.{places_view}
use Rattle.ipc_schema_write.proofs.PlaceLists.{AreLeft}
use Rattle.ipc_schema_write.proofs.dictionaries.+places.Given as goal

abbrev pub invariant-add_places-loop-i : goal.invariant-add_places-loop-i
invariant-add_places-loop-i l =
    AreLeft (places_view l.all.items) l.fields l.ipc_fields l.i (places_view l.initial.all.items ++ places (fields_view l.fields) (all_ids_view l.ipc_fields))
