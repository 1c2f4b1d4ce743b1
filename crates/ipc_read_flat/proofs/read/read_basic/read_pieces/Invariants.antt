use Rattle.std.proofs.Common.{◌≡◌, ◌+◌, ◌*◌, ◌≤◌, ◌-◌, vec_len, IsTrue}
use Rattle.ipc_devices.specs.Device.{after}
use Rattle.ipc_read_flat.proofs.Pieces.{ReadSoFar}
use Rattle.ipc_read_flat.proofs.read.read_basic.read_pieces.Given as goal

abbrev pub invariant-pieces : goal.invariant-pieces
invariant-pieces g l = record {
  inside : vec_len l.numbers ≤ l.count;
  monotone : g.R.Failures.device.failures l.fn.reader ≤ g.R.Failures.device.failures l.reader;
  done : g.R.Failures.device.failures l.reader ≡ g.R.Failures.device.failures l.fn.reader;
  given : g.R.Failures.device.given l.reader ≤ g.R.Failures.device.given l.fn.reader + g.T.NativeType.width * vec_len l.numbers;
  whole : IsTrue g.R.Failures.device.is_read_only → (g.R.Failures.device.memory l.reader).whole ≡ (g.R.Failures.device.memory l.fn.reader).whole;
  names : g.R.Failures.device.names l.reader ≡ g.R.Failures.device.names l.fn.reader;
  same : IsTrue g.R.Failures.device.is_memory → ReadSoFar (g.T.NativeType.value l.order) g.T.NativeType.width (after (g.R.Failures.device.memory l.fn.reader)) (after (g.R.Failures.device.memory l.reader)) l.numbers.items;
}

abbrev pub decreases-pieces : goal.decreases-pieces
decreases-pieces g l = l.count - vec_len l.numbers
