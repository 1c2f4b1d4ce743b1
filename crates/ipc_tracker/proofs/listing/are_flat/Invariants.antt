use Rattle.std.proofs.Common.{drop}
use Rattle.ipc_tracker.specs.Places.{HaveNoKeys}
use Rattle.ipc_tracker.proofs.listing.are_flat.Given as goal

-- If the arrays that are left have no keys, none has.
abbrev pub invariant-loop-array : goal.invariant-loop-array
invariant-loop-array l = HaveNoKeys (drop l.array-index l.arrays) → HaveNoKeys l.arrays
