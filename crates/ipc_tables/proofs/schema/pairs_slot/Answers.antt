use Rattle.std.proofs.Common.{sym, ◌∙◌}
use Rattle.ipc_tables.proofs.BuiltLists.{IsOptional-pairs}
use Rattle.ipc_tables.proofs.schema.pairs_slot.Goals as goal

pub returns : goal.returns
returns c = IsOptional-pairs _ c.args.pairs.now (sym c.is_empty.ensures ∙ c.if-is_empty.false) c.in_ok-pairs_vector.ensures
