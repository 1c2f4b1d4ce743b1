-- Sends that follow one another, and sends that may be refused.
use Rattle.std.proofs.Common.{ℕ, List, [], ◌++◌, refl, sym, append-nil, add-zero, arith, Result, Ok, Err}
use Rattle.ipc_devices.specs.Device.{Device, Memory, WritesOver, before}
use Rattle.ipc_devices.specs.declared.fault.Fault.{Fault}
use Rattle.ipc_devices.specs.declared.fault.Fault.TheVariants.{Argument}
use Rattle.ipc_devices.specs.declared.fault.ArgFault.TheVariants.{TooLarge}
use Rattle.ipc_plan.specs.Sending.{Sends, WritesSome}
use Rattle.ipc_plan.proofs.Sends.{sends_stop, sends_then}
use Rattle.ipc_write.specs.Sending.{SendsOrRefuses}

writes_none : (m : Memory) → WritesOver m m []
writes_none m = record {
  added = sym (append-nil (before m));
  rest = refl;
  place = sym (add-zero m.place);
  reaches = λ h. h;
}

pub some_none : (m : Memory) (bytes : List ℕ) → WritesSome m m bytes
some_none m bytes = record { count = 0; most = omega arith; over = writes_none m }

-- All was sent, whatever the result is.
pub sent_as : {X Y W : Type 0} (d : Device W) (w w' : W) (x : X) (y : Y) (bytes : List ℕ) → Sends {X = X} d bytes w (Ok x) w' → Sends {X = Y} d bytes w (Ok y) w'
sent_as d w w' x y bytes f = record { monotone = f.monotone; failed = tt; only = tt; done = f.done; memory = f.memory; part = f.part; room = f.room; names = f.names }

-- The same error, of a call with another result.
pub failed_as : {X Y W : Type 0} (d : Device W) (w w' : W) (e : Fault) (bytes : List ℕ) → Sends {X = X} d bytes w (Err e) w' → Sends {X = Y} d bytes w (Err e) w'
failed_as d w w' e bytes f = record { monotone = f.monotone; failed = f.failed; only = f.only; done = tt; memory = f.memory; part = f.part; room = f.room; names = f.names }

-- what is sent after other bytes
pub both_sent : {X Y W : Type 0} (d : Device W) (w w' w'' : W) (x : X) (r : Result Y Fault) (xs ys : List ℕ) → Sends {X = X} d xs w (Ok x) w' → Sends {X = Y} d ys w' r w''
    → Sends {X = Y} d (xs ++ ys) w r w''
both_sent {X = X} d w w' w'' x r xs ys f g = sends_then d w w' w'' r xs ys (sent_as {X = X} {Y = Unit {0}} d w w' x tt xs f) g

-- A device's error is no refusal.
pub sends_or : {X W : Type 0} (d : Device W) (w : W) (r : Result X Fault) (w' : W) (bytes : List ℕ) (reason : Type 0)
    → Sends d bytes w r w' → SendsOrRefuses d w r w' bytes reason
sends_or d w (Err (Argument TooLarge)) w' bytes reason h = absurd h.only
sends_or d w _ w' bytes reason h = h

-- A failure on the way, or a refusal, before other bytes.
pub or_stop : (X Y : Type 0) {W : Type 0} (d : Device W) (w : W) (e : Fault) (w' : W) (xs ys : List ℕ) (reason : Type 0)
    → SendsOrRefuses {X = X} d w (Err e) w' xs reason → SendsOrRefuses {X = Y} d w (Err e) w' (xs ++ ys) reason
or_stop X Y d w (Argument TooLarge) w' xs ys reason h = h
or_stop X Y d w _ w' xs ys reason h = sends_stop {X = X} {Y = Y} d _ _ _ xs ys h

-- The same error or refusal, of a call with another result.
pub or_fail : (X Y : Type 0) {W : Type 0} (d : Device W) (w : W) (e : Fault) (w' : W) (bytes : List ℕ) (reason : Type 0)
    → SendsOrRefuses {X = X} d w (Err e) w' bytes reason → SendsOrRefuses {X = Y} d w (Err e) w' bytes reason
or_fail X Y d w (Argument TooLarge) w' bytes reason h = h
or_fail X Y d w _ w' bytes reason h = failed_as {X = X} {Y = Y} d _ _ _ bytes h

-- what can't be refused is sent
pub or_sends : {X W : Type 0} (d : Device W) (w : W) (r : Result X Fault) (w' : W) (bytes : List ℕ) (reason : Type 0)
    → SendsOrRefuses d w r w' bytes reason → (reason → ⊥) → Sends d bytes w r w'
or_sends d w (Err (Argument TooLarge)) w' bytes reason h never = absurd (never h.1)
or_sends d w _ w' bytes reason h never = h
