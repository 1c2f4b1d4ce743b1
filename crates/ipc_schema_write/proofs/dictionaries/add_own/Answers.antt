use Rattle.lower.specs.TypeViews.{type_view}
use Rattle.ipc_base.specs.IdTrees.{all_ids_view}
use Rattle.ipc_schema_write.proofs.PlaceLists.{none-own}
use Rattle.ipc_schema_write.proofs.dictionaries.add_own.Goals as goal

pub returns-in-None : goal.returns-in-None
returns-in-None c = none-own (type_view c.args.data_type.now) c.args.id (all_ids_view c.args.ids.now) _ c.requires c.in-None.is
