use Rattle.std.proofs.Common.{map}
use Rattle.ipc_tables.specs.Schemas.{pair_part}
use Rattle.ipc_tables.specs.Slots.{parts_of}
use Rattle.ipc_tables.proofs.BuiltLists.{AreParts-from_built}
use Rattle.ipc_tables.proofs.schema.pairs_vector.Goals as goal

pub returns : goal.returns
returns c =
    let pairs = c.args.pairs.now in
    c.tables.ensures (parts_of (map pair_part pairs)) (AreParts-from_built _ (map pair_part pairs) (rw c.deref.ensures.value c.in_ok-parts.ensures))
