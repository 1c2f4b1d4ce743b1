use Rattle.std.proofs.Common.{rules, ◌≡◌, refl, Err}
use Rattle.std.proofs.lemmas.Result.{err_from_is_err_and}
use Rattle.ipc_devices.proofs.Acts.{device_err, idle_device}
use Rattle.ipc_devices.specs.declared.fault.Fault.TheVariants.{Memory as NoMemory}
use Rattle.ipc_files.specs.Footers.{file_seen}
use Rattle.ipc_file_write.proofs.AppendOpens.{opened}
use Rattle.ipc_file_write.proofs.AppendEnds.{dictionaries_refused, own_not_io, own_refused}
use Rattle.ipc_file_write.proofs.append.prepare.Goals as goal

pub returns-in_err-place-clause-only : goal.returns-in_err-place-clause-only
returns-in_err-place-clause-only g c =
    let p = err_from_is_err_and c.from_residual.result c.from_residual.ensures.1 in
    rw (p.1, p.2) (own_refused g.W.Failures.device.is_memory (file_seen c.args.metadata) (g.W.Failures.device.memory c.args.device.now).whole c.in_err-place.field-0.0 c.in_err-place.ensures.only)

pub returns-in_err-place-clause-device : goal.returns-in_err-place-clause-device
returns-in_err-place-clause-device g c =
    let e = c.in_err-place.field-0.0 in
    let p = err_from_is_err_and c.from_residual.result c.from_residual.ensures.1 in
    rw (p.1, p.2) (idle_device g.W.Failures.device c.args.device.now (Err e) (own_not_io (file_seen c.args.metadata) e ⊥ c.in_err-place.ensures.only))

pub returns-in_err-extend_from_slice-clause-device : goal.returns-in_err-extend_from_slice-clause-device
returns-in_err-extend_from_slice-clause-device g c =
    let e : c.from_residual-in_err-extend_from_slice.result ≡ Err NoMemory = search rules in
    rw e (idle_device g.W.Failures.device c.args.device.now (Err NoMemory) tt)

pub returns-in_err-dictionaries-clause-only : goal.returns-in_err-dictionaries-clause-only
returns-in_err-dictionaries-clause-only g c =
    let p = err_from_is_err_and c.from_residual-in_err-dictionaries.result c.from_residual-in_err-dictionaries.ensures.1 in
    rw (p.1, p.2) (dictionaries_refused g.W.Failures.device.is_memory (file_seen c.args.metadata) (g.W.Failures.device.memory c.args.device.now).whole c.in_err-dictionaries.field-0.0 c.in_err-dictionaries.ensures.only c.in_err-dictionaries.ensures.memory
    c.in_err-dictionaries.ensures.reason)

pub returns-in_err-dictionaries-clause-device : goal.returns-in_err-dictionaries-clause-device
returns-in_err-dictionaries-clause-device g c =
    let e = c.in_err-dictionaries.field-0.0 in
    let p = err_from_is_err_and c.from_residual-in_err-dictionaries.result c.from_residual-in_err-dictionaries.ensures.1 in
    rw (p.1, p.2) (device_err g.W.Failures.device c.args.device.now e c.dictionaries_of.new.device c.in_err-dictionaries.ensures.device)

pub returns-clause-device : goal.returns-clause-device
returns-clause-device g c =
    let read = c.in_ok-dictionaries.ensures.device in
    record { monotone = read.monotone; failed = tt; told = read.told; whole = read.whole; names = read.names; answered = tt }

pub returns-clause-ok : goal.returns-clause-ok
returns-clause-ok g c =
    opened g.W.Failures.device (file_seen c.args.metadata) c.args.device.now _ c.in_ok-place.place c.in_ok-dictionaries.dictionaries c.in_ok-place.ensures.ok c.in_ok-place.ensures.place
    c.in_ok-dictionaries.ensures.place c.in_ok-dictionaries.ensures.memory (λ id. refl) refl
    (record { state = refl; order = refl; fields = refl; metadata = refl; ids = refl; pairs = refl; dictionaries = search rules; blocks = refl; size = refl })
