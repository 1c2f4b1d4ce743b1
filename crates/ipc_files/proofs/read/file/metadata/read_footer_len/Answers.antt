use Rattle.std.proofs.Common.{rules, ◌≡◌, ◌∙◌, ◌≤◌, length, Err, sym, ap, arith}
use Rattle.ipc_devices.proofs.Acts.{device_failed, device_sought}
use Rattle.ipc_devices.specs.declared.fault.Fault.TheVariants.{Io}
use Rattle.ipc_files.specs.Files.{footer_length}
use Rattle.ipc_files.proofs.Reasons.{tail_reason, tail_read}
use Rattle.ipc_files.proofs.read.file.metadata.read_footer_len.Goals as goal

pub returns-in_err-length-clause-reason : goal.returns-in_err-length-clause-reason
returns-in_err-length-clause-reason g c = λ k.
    let e = c.in_err-length.field-0.0 in
    let is : c.from_residual-in_err-length.result ≡ Err e = search rules in
    let whole = (g.R.Failures.device.memory c.args.reader.now).whole in
    let at_end = c.in_ok-end.ensures.memory k in
    let goes = c.in_ok-seek_to.ensures.memory k in
    let long : 10 ≤ length whole = omega (arith, c.if-end-lt10.false, at_end.0) in
    let here = tail_read whole c.read_exact.new.buf (g.R.Failures.device.memory c.seek_to.new.self) c.in_ok-end.end (goes.whole ∙ at_end.1.whole) goes.place at_end.0
    long (c.in_ok-read_exact.ensures.memory k).1 in
    rw is (tail_reason whole e long (ap footer_length (sym here) ∙ sym c.in_err-length.ensures.value))

pub returns-in_err-end-clause-device : goal.returns-in_err-end-clause-device
returns-in_err-end-clause-device g c =
    let x = c.in_err-end.field-0.0 in
    let w = c.in_err-end.ensures in
    let is : c.from_residual.result ≡ Err (Io x) = search rules in
    rw is (device_failed g.R.Failures.device c.args.reader.now c.seek_end.new.self x w.monotone w.failed w.whole w.names w.answered)

pub returns-in_err-seek_to-clause-device : goal.returns-in_err-seek_to-clause-device
returns-in_err-seek_to-clause-device g c =
    let d = g.R.Failures.device in
    let x = c.in_err-seek_to.field-0.0 in
    let is : c.from_residual-in_err-seek_to.result ≡ Err (Io x) = search rules in
    let at_end = c.in_ok-end.ensures in
    let w = c.in_err-seek_to.ensures in
    rw is
    (device_sought d c.args.reader.now c.seek_end.new.self (Err (Io x)) c.seek_to.new.self at_end.monotone at_end.done at_end.whole at_end.names
    (device_failed d c.seek_end.new.self c.seek_to.new.self x w.monotone w.failed w.whole w.names w.answered))
