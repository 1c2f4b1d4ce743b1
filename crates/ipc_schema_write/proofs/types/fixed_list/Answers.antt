use Rattle.std.proofs.Common.{ap, ◌∙◌}
use Rattle.ipc_tables.specs.Slots.{kept32}
use Rattle.ipc_schema_write.proofs.TypeTables.{fixed_list-table, short-kept}
use Rattle.ipc_schema_write.proofs.types.fixed_list.Goals as goal

pub returns : goal.returns
returns c = fixed_list-table _ c.args.size (ap kept32 c.short.ensures ∙ short-kept c.args.size c.requires) c.requires
