use Rattle.std.proofs.Common.{rules}
use Rattle.ipc_schema_write.proofs.defaults.take_id.Goals as goal

pub returns-clause-after : goal.returns-clause-after
returns-clause-after c = search rules
