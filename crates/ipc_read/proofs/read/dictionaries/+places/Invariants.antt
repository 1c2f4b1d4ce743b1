use Rattle.std.proofs.Common.{◌≡◌, drop}
use Rattle.lower.specs.TypeViews.{fields_view}
use Rattle.ipc_base.specs.IdTrees.{all_ids_view}
use Rattle.ipc_model.specs.Batches.{places, place_of}
use Rattle.ipc_read.proofs.read.dictionaries.+places.Given as goal

abbrev pub invariant-first_dict_field-loop-field : goal.invariant-first_dict_field-loop-field
invariant-first_dict_field-loop-field l = place_of (places (fields_view l.fields) (all_ids_view l.ids)) l.id
    ≡ place_of (places (fields_view (drop l.field-index l.fields)) (all_ids_view l.left)) l.id
