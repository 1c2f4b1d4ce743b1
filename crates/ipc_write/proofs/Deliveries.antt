-- The bytes that are sent, and those that a device has kept back.
use Rattle.std.proofs.Common.{◌≡◌, ℕ, ◌≤◌, inl, IsTrue, List, subst, sym, ◌∙◌, arith, Result, Ok, Err}
use Rattle.std.specs.declared.io.Error.{Error}
use Rattle.ipc_devices.specs.Device.{Device, Memory, Rises, WritesOver}
use Rattle.ipc_devices.specs.declared.fault.Fault.{Fault}
use Rattle.ipc_devices.specs.declared.fault.Fault.TheVariants.{Io}
use Rattle.ipc_plan.specs.Sending.{Sends, WritesSome}
use Rattle.ipc_write.specs.Sending.{Delivers}

pub delivered : {X W : Type 0} (d : Device W) (w w' : W) (r : Result X Fault) (bytes : List ℕ) → Sends d bytes w r w' → Delivers d bytes w r w'
delivered d w w' r bytes h = record { monotone = h.monotone; failed = h.failed; only = h.only; done = h.done; memory = h.memory; part = h.part; names = h.names }

-- it failed before all was sent
pub stopped : {X Y W : Type 0} (d : Device W) (w w' : W) (e : Fault) (bytes : List ℕ) → Sends {X = X} d bytes w (Err e) w' → Delivers {X = Y} d bytes w (Err e) w'
stopped d w w' e bytes h = record { monotone = h.monotone; failed = h.failed; only = h.only; done = tt; memory = λ k. tt; part = h.part; names = h.names }

-- The same of a call with another result.
pub delivered_as : {X Y W : Type 0} (d : Device W) (w w' : W) (x : X) (y : Y) (bytes : List ℕ) → Delivers {X = X} d bytes w (Ok x) w' → Delivers {X = Y} d bytes w (Ok y) w'
delivered_as d w w' x y bytes h = record { monotone = h.monotone; failed = tt; only = tt; done = h.done; memory = h.memory; part = h.part; names = h.names }

pub failed_as : {X Y W : Type 0} (d : Device W) (w w' : W) (e : Fault) (bytes : List ℕ) → Delivers {X = X} d bytes w (Err e) w' → Delivers {X = Y} d bytes w (Err e) w'
failed_as d w w' e bytes h = record { monotone = h.monotone; failed = h.failed; only = h.only; done = tt; memory = λ k. tt; part = h.part; names = h.names }

-- all was sent, and what was kept back
pub flushed : {X W : Type 0} (d : Device W) (w w' w'' : W) (x : X) (bytes : List ℕ) → Sends {X = X} d bytes w (Ok x) w' → d.failures w'' ≡ d.failures w' → (IsTrue d.is_memory → d.memory w'' ≡ d.memory w')
    → d.names w'' ≡ d.names w' → Delivers {X = Unit {0}} d bytes w (Ok tt) w''
flushed d w w' w'' x bytes h done same names = record {
  monotone = omega (arith, h.monotone, done);
  failed = tt;
  only = tt;
  done = done ∙ h.done;
  memory = λ k. subst (λ (m : Memory). WritesOver (d.memory w) m bytes) (sym (same k)) (h.memory k);
  part = λ k. subst (λ (m : Memory). WritesSome (d.memory w) m bytes) (sym (same k)) (h.part k);
  names = names ∙ h.names;
}

-- all was sent, and the flush failed
pub unflushed : {X Y W : Type 0} (d : Device W) (w w' w'' : W) (x : X) (e : Error) (bytes : List ℕ) → Sends {X = X} d bytes w (Ok x) w' → d.failures w' ≤ d.failures w'' → Rises (d.failures w') (d.failures w'')
    → d.answered w'' e → (IsTrue d.is_memory → d.memory w'' ≡ d.memory w') → d.names w'' ≡ d.names w' → Delivers {X = Y} d bytes w (Err (Io e)) w''
unflushed d w w' w'' x e bytes h more rises own same names = record {
  monotone = omega (arith, h.monotone, more);
  failed = inl (omega (arith, h.monotone, rises));
  only = (w'', own);
  done = tt;
  memory = λ k. tt;
  part = λ k. subst (λ (m : Memory). WritesSome (d.memory w) m bytes) (sym (same k)) (h.part k);
  names = names ∙ h.names;
}
