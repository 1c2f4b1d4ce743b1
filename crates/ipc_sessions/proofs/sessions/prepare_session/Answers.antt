use Rattle.std.proofs.Common.{rules, ◌≡◌, inr, ap, sym, ◌∙◌, Ok, Err}
use Rattle.std.proofs.lemmas.Result.{err_from_is_err_and}
use Rattle.ipc_devices.proofs.Acts.{device_after, device_err, device_failed, device_sought}
use Rattle.ipc_devices.proofs.Claims.{claims_through}
use Rattle.ipc_devices.specs.declared.fault.Fault.TheVariants.{Io}
use Rattle.ipc_files.specs.Footers.{file_seen}
use Rattle.ipc_model.specs.Files.{metadata_of}
use Rattle.ipc_sessions.proofs.Going.{refused_as_read, refused_unread}
use Rattle.ipc_sessions.proofs.sessions.prepare_session.Goals as goal

pub returns-clause-ok : goal.returns-clause-ok
returns-clause-ok g c = record {
  read = c.read_file_metadata.new.reader;
  same = λ k. c.in_ok-metadata.ensures.device.whole (g.met.W.Seeks.known_still k) ∙ (c.in_ok-seek_to.ensures.memory k).whole;
  metadata = file_seen c.in_ok-metadata.metadata;
  metadata_is = λ k. let at = c.in_ok-seek_to.ensures.memory k in ap metadata_of (sym at.whole) ∙ c.in_ok-metadata.ensures.from_start k at.place;
  opens = record { goes_on = c.in_ok-prepared.ensures.ok; done = c.in_ok-prepared.ensures.device.told; names = c.in_ok-prepared.ensures.device.names };
}

pub returns-clause-device : goal.returns-clause-device
returns-clause-device g c =
    let d = g.W.Failures.device in
    let sought = c.in_ok-seek_to.ensures in
    device_sought d c.args.device.now c.seek_to.new.self (Ok c.in_ok-prepared.prepared) c.prepare.new.device sought.monotone sought.done sought.whole sought.names
    (device_after d c.seek_to.new.self c.read_file_metadata.new.reader c.in_ok-metadata.metadata (Ok c.in_ok-prepared.prepared) c.prepare.new.device c.in_ok-metadata.ensures.device c.in_ok-prepared.ensures.device)

pub returns-in_err-seek_to-clause-device : goal.returns-in_err-seek_to-clause-device
returns-in_err-seek_to-clause-device g c =
    let x = c.in_err-seek_to.field-0.0 in
    let w = c.in_err-seek_to.ensures in
    let is : c.from_residual.result ≡ Err (Io x) = search rules in
    rw is (device_failed g.W.Failures.device c.args.device.now c.seek_to.new.self x w.monotone w.failed w.whole w.names w.answered)

pub returns-in_err-metadata-clause-only : goal.returns-in_err-metadata-clause-only
returns-in_err-metadata-clause-only g c =
    let p = err_from_is_err_and c.from_residual-in_err-metadata.result c.from_residual-in_err-metadata.ensures.1 in
    rw (p.1, p.2)
    (refused_unread g.W.Failures.device.is_memory (g.W.Failures.device.memory c.args.device.now).whole (g.W.Failures.device.memory c.seek_to.new.self).whole (g.W.Failures.device.memory c.seek_to.new.self).place c.in_err-metadata.field-0.0
    (λ k. (c.in_ok-seek_to.ensures.memory k).whole) (λ k. (c.in_ok-seek_to.ensures.memory k).place) c.in_err-metadata.ensures.causes.kind (λ k. c.in_err-metadata.ensures.from_start k (c.in_ok-seek_to.ensures.memory k).place)
    c.in_err-metadata.ensures.causes.reason)

pub returns-in_err-metadata-clause-device : goal.returns-in_err-metadata-clause-device
returns-in_err-metadata-clause-device g c =
    let p = err_from_is_err_and c.from_residual-in_err-metadata.result c.from_residual-in_err-metadata.ensures.1 in
    let d = g.W.Failures.device in
    let e = c.in_err-metadata.field-0.0 in
    let sought = c.in_ok-seek_to.ensures in
    rw (p.1, p.2)
    (device_sought d c.args.device.now c.seek_to.new.self (Err e) c.read_file_metadata.new.reader sought.monotone sought.done sought.whole sought.names
    (device_err d c.seek_to.new.self e c.read_file_metadata.new.reader c.in_err-metadata.ensures.device))

pub returns-in_err-prepared-clause-only : goal.returns-in_err-prepared-clause-only
returns-in_err-prepared-clause-only g c =
    let p = err_from_is_err_and c.from_residual-in_err-prepared.result c.from_residual-in_err-prepared.ensures.1 in
    rw (p.1, p.2)
    (claims_through c.in_err-prepared.field-0.0 _ _
    (λ refused. inr (refused_as_read g.W.Failures.device.is_memory (g.W.Failures.device.memory c.args.device.now).whole (g.W.Failures.device.memory c.read_file_metadata.new.reader).whole (file_seen c.in_ok-metadata.metadata) c.in_err-prepared.field-0.0
    (λ k. c.in_ok-metadata.ensures.device.whole (g.met.W.Seeks.known_still k) ∙ (c.in_ok-seek_to.ensures.memory k).whole)
    (λ k. let at = c.in_ok-seek_to.ensures.memory k in ap metadata_of (sym at.whole) ∙ c.in_ok-metadata.ensures.from_start k at.place) c.in_err-prepared.ensures.only))
    c.in_err-prepared.ensures.only)

pub returns-in_err-prepared-clause-device : goal.returns-in_err-prepared-clause-device
returns-in_err-prepared-clause-device g c =
    let p = err_from_is_err_and c.from_residual-in_err-prepared.result c.from_residual-in_err-prepared.ensures.1 in
    let d = g.W.Failures.device in
    let e = c.in_err-prepared.field-0.0 in
    let sought = c.in_ok-seek_to.ensures in
    rw (p.1, p.2)
    (device_sought d c.args.device.now c.seek_to.new.self (Err e) c.prepare.new.device sought.monotone sought.done sought.whole sought.names
    (device_after d c.seek_to.new.self c.read_file_metadata.new.reader c.in_ok-metadata.metadata (Err e) c.prepare.new.device c.in_ok-metadata.ensures.device c.in_err-prepared.ensures.device))
