use Rattle.std.proofs.Common.{◌∙◌, rules, ◌≡◌, Ok, Err}
use Rattle.ipc_devices.proofs.Acts.{device_after, device_failed, device_refused}
use Rattle.ipc_devices.specs.declared.fault.Fault.TheVariants.{Io}
use Rattle.ipc_file_write.proofs.append.dictionaries_of.Goals as goal

pub returns-clause-place : goal.returns-clause-place
returns-clause-place g c = λ k.
    let s = c.in_ok-seek_to.ensures.memory k in
    record { whole = s.whole ∙ c.in_ok-dictionaries.ensures.dictionaries.device.whole (g.met.W.Seeks.known_still k); place = s.place }

pub returns-in_err-dictionaries-clause-only : goal.returns-in_err-dictionaries-clause-only
returns-in_err-dictionaries-clause-only g c =
    let is : c.from_residual.result ≡ Err c.in_err-dictionaries.field-0.0 = search rules in
    rw is c.in_err-dictionaries.ensures.dictionaries.causes.kind

pub returns-in_err-dictionaries-clause-reason : goal.returns-in_err-dictionaries-clause-reason
returns-in_err-dictionaries-clause-reason g c = λ k.
    let is : c.from_residual.result ≡ Err c.in_err-dictionaries.field-0.0 = search rules in
    rw is (c.in_err-dictionaries.ensures.dictionaries.causes.reason k)

pub returns-in_err-dictionaries-clause-memory : goal.returns-in_err-dictionaries-clause-memory
returns-in_err-dictionaries-clause-memory g c = λ k.
    let is : c.from_residual.result ≡ Err c.in_err-dictionaries.field-0.0 = search rules in
    rw is (c.in_err-dictionaries.ensures.dictionaries.exact k)

pub returns-in_err-dictionaries-clause-device : goal.returns-in_err-dictionaries-clause-device
returns-in_err-dictionaries-clause-device g c =
    let is : c.from_residual.result ≡ Err c.in_err-dictionaries.field-0.0 = search rules in
    rw is c.in_err-dictionaries.ensures.dictionaries.device

pub returns-in_err-seek_to-clause-device : goal.returns-in_err-seek_to-clause-device
returns-in_err-seek_to-clause-device g c =
    let d = g.W.Failures.device in
    let x = c.in_err-seek_to.field-0.0 in
    let is : c.from_residual-in_err-seek_to.result ≡ Err (Io x) = search rules in
    let w = c.in_err-seek_to.ensures in
    rw is
    (device_after d c.args.device.now c.read_file_dictionaries.new.reader _ (Err (Io x)) c.seek_to.new.self c.in_ok-dictionaries.ensures.dictionaries.device
    (device_failed d c.read_file_dictionaries.new.reader c.seek_to.new.self x w.monotone w.failed w.whole w.names w.answered))

pub returns-clause-device : goal.returns-clause-device
returns-clause-device g c =
    let d = g.W.Failures.device in
    let read = c.in_ok-dictionaries.dictionaries in
    let sought = c.in_ok-seek_to.ensures in
    device_after d c.args.device.now c.read_file_dictionaries.new.reader read (Ok read) c.seek_to.new.self c.in_ok-dictionaries.ensures.dictionaries.device
    (device_refused d c.read_file_dictionaries.new.reader c.seek_to.new.self (Ok read) sought.monotone sought.done sought.whole sought.names tt)
