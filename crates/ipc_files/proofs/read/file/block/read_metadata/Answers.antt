use Rattle.std.proofs.Common.{rules, ◌≡◌, ◌∙◌, ℕ, List, Err, sym, ap, subst, arith, inl, inr}
use Rattle.ipc_devices.proofs.Acts.{device_after, device_failed, device_read, device_sought}
use Rattle.ipc_devices.specs.Device.{after}
use Rattle.ipc_devices.specs.Faults.{OwnFault}
use Rattle.ipc_devices.specs.declared.fault.Fault.TheVariants.{Io}
use Rattle.ipc_model.specs.Frame.{frame}
use Rattle.ipc_files.specs.Blocks.{frame_fault, prefix_of}
use Rattle.ipc_files.proofs.BlockFaults.{length-below-0, less-than-stated, no-prefix}
use Rattle.ipc_files.proofs.BlockFrames.{gone-to, negative-sized, read-sized, refused-sized}
use Rattle.ipc_files.proofs.read.file.block.read_metadata.Goals as goal

pub returns-then-length-clause-memory : goal.returns-then-length-clause-memory
returns-then-length-clause-memory g c = λ k.
    let there = gone-to (g.R.Failures.device.memory c.args.reader.now) (g.R.Failures.device.memory c.seek_to.new.self) c.args.place (c.in_ok-seek_to.ensures.memory k) in
    negative-sized _ c.in_ok-length.length (after (g.R.Failures.device.memory c.read_prefix.new.reader)) (ap frame (sym there) ∙ c.in_ok-length.ensures.memory k) (omega (arith, c.if-length.true))

pub returns-in_err-read_into-clause-memory : goal.returns-in_err-read_into-clause-memory
returns-in_err-read_into-clause-memory g c = λ k.
    let e = c.in_err-read_into.field-0.0 in
    let is : c.from_residual-in_err-read_into.result ≡ Err e = search rules in
    let there = gone-to (g.R.Failures.device.memory c.args.reader.now) (g.R.Failures.device.memory c.seek_to.new.self) c.args.place (c.in_ok-seek_to.ensures.memory k) in
    rw is (refused-sized _ c.in_ok-length.length (after (g.R.Failures.device.memory c.read_prefix.new.reader)) e (ap frame (sym there) ∙ c.in_ok-length.ensures.memory k)
    (omega (arith, c.if-length.false)) (c.in_err-read_into.ensures.memory k))

pub returns-clause-memory : goal.returns-clause-memory
returns-clause-memory g c = λ k.
    let there = gone-to (g.R.Failures.device.memory c.args.reader.now) (g.R.Failures.device.memory c.seek_to.new.self) c.args.place (c.in_ok-seek_to.ensures.memory k) in
    let read = c.in_ok-read_into.ensures.memory k in
    read-sized _ c.in_ok-length.length (after (g.R.Failures.device.memory c.read_prefix.new.reader)) c.read_into.new.bytes.items (ap frame (sym there) ∙ c.in_ok-length.ensures.memory k)
    (omega (arith, c.if-length.false)) read.0 read.1

pub returns-in_err-length-clause-reason : goal.returns-in_err-length-clause-reason
returns-in_err-length-clause-reason g c = λ k.
    let e = c.in_err-length.field-0.0 in
    let is : c.from_residual-in_err-length.result ≡ Err e = search rules in
    let there = gone-to (g.R.Failures.device.memory c.args.reader.now) (g.R.Failures.device.memory c.seek_to.new.self) c.args.place (c.in_ok-seek_to.ensures.memory k) in
    rw is (subst (λ (xs : List ℕ). OwnFault e (e ≡ frame_fault c.args.negative (prefix_of xs))) there
    (no-prefix c.args.negative (prefix_of (after (g.R.Failures.device.memory c.seek_to.new.self))) e c.in_err-length.ensures.only (c.in_err-length.ensures.number k)))

pub returns-then-length-clause-reason : goal.returns-then-length-clause-reason
returns-then-length-clause-reason g c = λ k.
    let there = gone-to (g.R.Failures.device.memory c.args.reader.now) (g.R.Failures.device.memory c.seek_to.new.self) c.args.place (c.in_ok-seek_to.ensures.memory k) in
    length-below-0 c.args.negative _ c.in_ok-length.length (ap prefix_of (sym there) ∙ c.in_ok-length.ensures.number k) (omega (arith, c.if-length.true))

pub returns-in_err-read_into-clause-reason : goal.returns-in_err-read_into-clause-reason
returns-in_err-read_into-clause-reason g c = λ k.
    let e = c.in_err-read_into.field-0.0 in
    let is : c.from_residual-in_err-read_into.result ≡ Err e = search rules in
    let there = gone-to (g.R.Failures.device.memory c.args.reader.now) (g.R.Failures.device.memory c.seek_to.new.self) c.args.place (c.in_ok-seek_to.ensures.memory k) in
    rw is (less-than-stated c.args.negative _ c.in_ok-length.length e (ap prefix_of (sym there) ∙ c.in_ok-length.ensures.number k)
    (omega (arith, c.if-length.false)) c.in_err-read_into.ensures.only)

pub returns-in_err-length-clause-given : goal.returns-in_err-length-clause-given
returns-in_err-length-clause-given g c =
    let is : c.from_residual-in_err-length.result ≡ Err c.in_err-length.field-0.0 = search rules in
    rw is (inl (omega (arith, c.in_ok-seek_to.ensures.given, c.in_err-length.ensures.given)))

pub returns-then-length-clause-given : goal.returns-then-length-clause-given
returns-then-length-clause-given g c = inl (omega (arith, c.in_ok-seek_to.ensures.given, c.in_ok-length.ensures.given))

pub returns-in_err-read_into-clause-given : goal.returns-in_err-read_into-clause-given
returns-in_err-read_into-clause-given g c =
    let is : c.from_residual-in_err-read_into.result ≡ Err c.in_err-read_into.field-0.0 = search rules in
    rw is (inr (
      c.in_ok-length.length,
      omega (arith, c.if-length.false),
      λ k.
          let there = gone-to (g.R.Failures.device.memory c.args.reader.now) (g.R.Failures.device.memory c.seek_to.new.self) c.args.place (c.in_ok-seek_to.ensures.memory k) in
          ap prefix_of (sym there) ∙ c.in_ok-length.ensures.number k,
      omega (arith, c.in_ok-seek_to.ensures.given, c.in_ok-length.ensures.given, c.in_err-read_into.ensures.given),
    ))

pub returns-in_err-seek_to-clause-device : goal.returns-in_err-seek_to-clause-device
returns-in_err-seek_to-clause-device g c =
    let x = c.in_err-seek_to.field-0.0 in
    let w = c.in_err-seek_to.ensures in
    let is : c.from_residual.result ≡ Err (Io x) = search rules in
    rw is (device_failed g.R.Failures.device c.args.reader.now c.seek_to.new.self x w.monotone w.failed w.whole w.names w.answered)

pub returns-in_err-read_into-clause-device : goal.returns-in_err-read_into-clause-device
returns-in_err-read_into-clause-device g c =
    let d = g.R.Failures.device in
    let e = c.in_err-read_into.field-0.0 in
    let is : c.from_residual-in_err-read_into.result ≡ Err e = search rules in
    let sought = c.in_ok-seek_to.ensures in
    let w = c.in_err-read_into.ensures in
    rw is
    (device_sought d c.args.reader.now c.seek_to.new.self (Err e) c.read_into.new.reader sought.monotone sought.done sought.whole sought.names
    (device_after d c.seek_to.new.self c.read_prefix.new.reader c.in_ok-length.length (Err e) c.read_into.new.reader c.in_ok-length.ensures.device
    (device_read d c.read_prefix.new.reader (Err e) c.read_into.new.reader w.monotone w.failed w.told w.whole w.names w.answered)))
