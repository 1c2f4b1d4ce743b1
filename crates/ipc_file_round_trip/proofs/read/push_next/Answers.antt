use Rattle.std.proofs.Common.{rules, ◌≡◌, List, Option, Bool, Err, inl, inr, refl}
use Rattle.lower_arrays.specs.declared.array.AnyArray.{AnyArray}
use Rattle.ipc_devices.specs.declared.fault.Fault.TheVariants as faults
use Rattle.ipc_readers.proofs.OfMemory.{other_answer}
use Rattle.ipc_file_round_trip.proofs.read.push_next.Goals as goal

pub returns-in_ok-push-in-Some-Ok-clause-step : goal.returns-in_ok-push-in-Some-Ok-clause-step
returns-in_ok-push-in-Some-Ok-clause-step g c =
    let step = rw c.in-Some-Ok.field-0-is at c.in-Some-Ok.ensures.steps in
    record { push = (c.in-Some-Ok.chunk, c.in_ok-push-in-Some-Ok.ensures.items, step); failed = tt; monotone = step.device.monotone }

pub returns-in-Some-Err-clause-step : goal.returns-in-Some-Err-clause-step
returns-in-Some-Err-clause-step g c =
    let step = rw c.in-Some-Err.field-0-is at c.in-Some-Err.ensures.steps in
    record { push = inr step; failed = other_answer (Option (List AnyArray)) Bool c.in-Some-Err.fault _ step.device.failed; monotone = step.device.monotone }

pub returns-in_err-push-in-Some-Ok-clause-step : goal.returns-in_err-push-in-Some-Ok-clause-step
returns-in_err-push-in-Some-Ok-clause-step g c =
    let e : c.from_residual.result ≡ Err faults.Memory = search rules in
    let step = rw c.in-Some-Ok.field-0-is at c.in-Some-Ok.ensures.steps in
    rw e (record { push = inl refl; failed = tt; monotone = step.device.monotone })

pub returns-in-None-clause-step : goal.returns-in-None-clause-step
returns-in-None-clause-step g c =
    let step = c.in-None.ensures.steps in
    record { push = (refl, step); failed = tt; monotone = step.device.monotone }
