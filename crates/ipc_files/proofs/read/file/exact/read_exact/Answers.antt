use Rattle.std.proofs.Common.{rules, ◌≡◌, Err}
use Rattle.ipc_devices.proofs.Acts.{device_failed}
use Rattle.ipc_devices.specs.declared.fault.Fault.TheVariants.{Io}
use Rattle.ipc_files.proofs.read.file.exact.read_exact.Goals as goal

pub returns-in_err-n-clause-device : goal.returns-in_err-n-clause-device
returns-in_err-n-clause-device g c =
    let x = c.in_err-n.field-0.0 in
    let w = c.in_err-n.ensures in
    let is : c.from_residual.result ≡ Err (Io x) = search rules in
    rw is (device_failed g.R.Failures.device c.args.reader.now c.fill.new.reader x w.monotone w.failed w.whole w.names w.answered)
