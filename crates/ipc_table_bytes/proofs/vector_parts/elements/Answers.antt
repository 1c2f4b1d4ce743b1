use Rattle.std.proofs.Common.{refl}
use Rattle.ipc_table_bytes.proofs.VectorHolds.{IsPart-elements}
use Rattle.ipc_table_bytes.proofs.VectorLengths.{elements-done}
use Rattle.ipc_table_bytes.proofs.vector_parts.elements.Goals as goal

pub returns : goal.returns
returns c = λ align size count raw e whole some long.
    IsPart-elements _ align size count raw (elements-done _ _ count raw c.in_ok-pad.ensures.items e) refl whole some long
