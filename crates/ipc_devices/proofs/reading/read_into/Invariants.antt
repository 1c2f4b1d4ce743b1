use Rattle.std.proofs.Common.{length, ◌-◌, ◌+◌, ◌≡◌, ◌≤◌, ◌++◌, IsTrue}
use Rattle.ipc_devices.specs.Device.{after}
use Rattle.ipc_devices.specs.Gives.{going}
use Rattle.ipc_devices.proofs.reading.read_into.Given as goal

abbrev pub invariant-loop-bytes : goal.invariant-loop-bytes
invariant-loop-bytes g l = record {
  inside : length l.bytes.items ≤ l.count;
  gave : g.R.Reads.gives l.fn.reader l.bytes.items going l.reader;
  monotone : g.R.Failures.device.failures l.fn.reader ≤ g.R.Failures.device.failures l.reader;
  done : g.R.Failures.device.failures l.reader ≡ g.R.Failures.device.failures l.fn.reader;
  given : g.R.Failures.device.given l.reader ≤ g.R.Failures.device.given l.fn.reader + length l.bytes.items;
  whole : IsTrue g.R.Failures.device.is_read_only → (g.R.Failures.device.memory l.reader).whole ≡ (g.R.Failures.device.memory l.fn.reader).whole;
  names : g.R.Failures.device.names l.reader ≡ g.R.Failures.device.names l.fn.reader;
  same : IsTrue g.R.Failures.device.is_memory → after (g.R.Failures.device.memory l.fn.reader) ≡ l.bytes.items ++ after (g.R.Failures.device.memory l.reader);
}

abbrev pub decreases-loop-bytes : goal.decreases-loop-bytes
decreases-loop-bytes g l = l.count - length l.bytes.items
