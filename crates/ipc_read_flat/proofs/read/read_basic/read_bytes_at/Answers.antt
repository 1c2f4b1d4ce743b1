use Rattle.std.proofs.Common.{rules, ◌≡◌, Err}
use Rattle.ipc_devices.proofs.Acts.{device_failed}
use Rattle.ipc_devices.specs.declared.fault.Fault.TheVariants.{Io}
use Rattle.ipc_read_flat.proofs.read.read_basic.read_bytes_at.Goals as goal

pub returns-in_err-seek_end-clause-device : goal.returns-in_err-seek_end-clause-device
returns-in_err-seek_end-clause-device g c =
    let x = c.in_err-seek_end.field-0.0 in
    let w = c.in_err-seek_end.ensures in
    let e : c.from_residual.result ≡ Err (Io x) = search rules in
    rw e (device_failed g.R.Failures.device c.args.reader.now c.seek_end.new.self x w.monotone w.failed w.whole w.names w.answered)

pub returns-in_err-seek_to-clause-device : goal.returns-in_err-seek_to-clause-device
returns-in_err-seek_to-clause-device g c =
    let x = c.in_err-seek_to.field-0.0 in
    let w = c.in_err-seek_to.ensures in
    let e : c.from_residual-in_err-seek_to.result ≡ Err (Io x) = search rules in
    rw e (device_failed g.R.Failures.device c.args.reader.now c.seek_to.new.self x w.monotone w.failed w.whole w.names w.answered)
