use Rattle.std.proofs.Common.{refl}
use Rattle.ipc_table_bytes.proofs.VectorHolds.{IsPart-tables}
use Rattle.ipc_table_bytes.proofs.vector_parts.tables.Goals as goal

pub returns : goal.returns
returns c = λ xs are. IsPart-tables _ _ xs c.in_ok-bytes.ensures.items refl are
