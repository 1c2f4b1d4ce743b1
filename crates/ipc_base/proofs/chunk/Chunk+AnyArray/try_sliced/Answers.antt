use Rattle.ipc_base.proofs.CutRows.{equal_cut}
use Rattle.ipc_base.proofs.chunk.Chunk+AnyArray.try_sliced.Goals as goal

pub new-requires : goal.new-requires
new-requires c = equal_cut c.args.offset c.args.len c.sliced_each-arrays.result.items c.into_arrays.result.items c.sliced_each-arrays.ensures
