use Rattle.std.proofs.Common.{length, ◌+◌, ◌≡◌, ◌≤◌, ℕ, List}
use Rattle.ipc_devices.specs.Gives.{going}
use Rattle.ipc_devices.proofs.device.Reads.skip.Given as goal

abbrev pub invariant-loop-left : goal.invariant-loop-left
invariant-loop-left g l = record {
  inside : l.left ≤ l.count;
  gave : (xs : List ℕ) × (length xs + l.left ≡ l.count) × g.Self.Reads.gives l.fn.self xs going l.self;
}

abbrev pub decreases-loop-left : goal.decreases-loop-left
decreases-loop-left g l = l.left
