use Rattle.lower.specs.TypeViews.{ids_of}
use Rattle.ipc_schema_write.proofs.TypeTables.{union-table}
use Rattle.ipc_schema_write.proofs.types.union.Goals as goal

pub returns : goal.returns
returns c = union-table c.mode_tag.result c.args.mode c.in_ok-type_ids.type_ids (ids_of c.args.type_ids.now) c.mode_tag.ensures c.in_ok-type_ids.ensures c.requires
