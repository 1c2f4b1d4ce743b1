use Rattle.lower.specs.TypeViews.{type_view}
use Rattle.lower_arrays.specs.AnyLayouts.{layout_of}
use Rattle.ipc_base.specs.IdTrees.{all_ids_view}
use Rattle.ipc_model.specs.TypeKinds.{kind_of}
use Rattle.ipc_read_flat.specs.Bodies.{entries, known}
use Rattle.ipc_read_flat.proofs.KnownValues.{values_are}
use Rattle.ipc_read_nested.proofs.Tops.{slots_answered}
use Rattle.ipc_read_nested.proofs.read.deserialize.read.Goals as goal

pub returns-clause-memory : goal.returns-clause-memory
returns-clause-memory g c = λ k.
    let s = entries g.R.Failures.device c.args.body.now in
    let u = type_view c.args.data_type.now in
    let t = kind_of u c.args.id (all_ids_view c.args.ids.now) in
    slots_answered c.read_as-column.result (λ r. layout_of r.0) s (known c.args.body.now) t u c.args.place.node c.args.place.buffer c.args.limit (values_are g.R.Failures.device c.args.body.now) (c.read_as-column.ensures.memory k)
