use Rattle.std.proofs.Common.{◌≡◌, ◌*◌, ◌^◌, ◌≤◌, take}
use Rattle.ipc_read.specs.Sizes.{AreSizes, total_of}
use Rattle.ipc_read.proofs.read.common.listed_bytes.Given as goal

abbrev pub invariant-loop-index : goal.invariant-loop-index
invariant-loop-index l = record {
  small : l.total ≤ l.index * 2 ^ 63;
  total : l.total ≡ total_of (take l.index l.buffers);
  sizes : AreSizes (take l.index l.buffers);
}
