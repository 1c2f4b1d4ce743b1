use Rattle.std.proofs.Common.{rules}
use Rattle.lower.specs.declared.datatypes.DataType.{the_lemmas}
use Rattle.ipc_schema_write.proofs.Unions.{pair_view}
use Rattle.ipc_schema_write.proofs.writable.is_pair_type.Goals as goal

pub returns-in-Struct : goal.returns-in-Struct
returns-in-Struct c = rw c.len.ensures (search (rules, the_lemmas, pair_view))
