use Rattle.std.proofs.Common.{length, ◌-◌, ◌+◌, ◌≡◌, ◌≤◌, ◌++◌, take, IsTrue}
use Rattle.ipc_devices.specs.Device.{after}
use Rattle.ipc_devices.specs.Gives.{going}
use Rattle.ipc_devices.proofs.reading.fill.Given as goal

abbrev pub invariant-loop-at : goal.invariant-loop-at
invariant-loop-at g l = record {
  inside : l.at ≤ length l.buf;
  gave : g.R.Reads.gives l.fn.reader (take l.at l.buf) going l.reader;
  monotone : g.R.Failures.device.failures l.fn.reader ≤ g.R.Failures.device.failures l.reader;
  done : g.R.Failures.device.failures l.reader ≡ g.R.Failures.device.failures l.fn.reader;
  given : g.R.Failures.device.given l.reader ≤ g.R.Failures.device.given l.fn.reader + l.at;
  whole : IsTrue g.R.Failures.device.is_read_only → (g.R.Failures.device.memory l.reader).whole ≡ (g.R.Failures.device.memory l.fn.reader).whole;
  names : g.R.Failures.device.names l.reader ≡ g.R.Failures.device.names l.fn.reader;
  same : IsTrue g.R.Failures.device.is_memory → after (g.R.Failures.device.memory l.fn.reader) ≡ take l.at l.buf ++ after (g.R.Failures.device.memory l.reader);
}

abbrev pub decreases-loop-at : goal.decreases-loop-at
decreases-loop-at g l = length l.initial.buf - l.at
