use Rattle.std.proofs.Common.{rules, arith, ◌≡◌, ◌≤◌, length, take, IsTrue}
use Rattle.ipc_devices.specs.Device.{after}
use Rattle.ipc_model.specs.Files.{magic}
use Rattle.ipc_files.proofs.Reasons.{not_feather}
use Rattle.ipc_files.proofs.read.file.metadata.read_head.Goals as goal

pub returns-clause-reason : goal.returns-clause-reason
returns-clause-reason g c = λ k.
    let front = after (g.R.Failures.device.memory c.args.reader.now) in
    let other : IsTrue g.R.Failures.device.is_memory → take 6 front ≡ magic → ⊥ = search rules in
    let long : 6 ≤ length front = omega (arith, (c.in_ok-read_exact.ensures.memory k).0) in
    (long, other k, not_feather front c.read_exact.new.buf c.starts_with.result (c.in_ok-read_exact.ensures.memory k).1 c.starts_with.ensures.value c.if-starts_with.false)
