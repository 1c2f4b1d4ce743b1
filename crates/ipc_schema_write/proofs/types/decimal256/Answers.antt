use Rattle.std.proofs.Common.{ap, ◌∙◌}
use Rattle.ipc_tables.specs.Slots.{kept32}
use Rattle.ipc_schema_write.proofs.TypeTables.{decimal256-table, short-kept}
use Rattle.ipc_schema_write.proofs.types.decimal256.Goals as goal

pub returns : goal.returns
returns c = decimal256-table _ _ c.args.precision c.args.scale (ap kept32 c.short.ensures ∙ short-kept c.args.precision c.requires.precision) (ap kept32 c.short-2.ensures ∙ short-kept c.args.scale c.requires.scale) c.requires.precision c.requires.scale
