-- Calls of `next`, one after the other, on bytes that are known.
-- (Arrow columnar format, "IPC Streaming Format".)
use Rattle.std.specs.Prelude.{◌≡◌, ◌≢◌, ℕ, zero, suc, ◌≤◌, List, [], ◌∷◌, ◌++◌, length, Option, None, Some, Result, Ok, Err, false, IsTrue}
use Rattle.ipc_devices.specs.Device.{Device, Rises}
use Rattle.ipc_devices.specs.Faults.{OnIo, OwnFault}
use Rattle.ipc_devices.specs.Gives.{ended, Counts, Gives}
use Rattle.ipc_devices.specs.declared.fault.Fault.{Fault}
use Rattle.ipc_model.specs.Batches.{Chunk}
use Rattle.ipc_stream_lemmas.specs.Agreement.{AreAt}
use Rattle.ipc_model.specs.Streams.{Known, End, marked, waits, faulty, more}
use Rattle.ipc_read.specs.Chunks.{chunk_seen}
use Rattle.ipc_readers.specs.ChosenStreams.{Request, chosen_item, chosen_meaning}
use Rattle.ipc_readers.specs.Streams.{Knows, NextStep, ahead, request_of, begun_of, device_of, is_over, known_of, next_result}
use Rattle.ipc_readers.specs.declared.read.stream.reader.StreamReader.{StreamReader}
use Rattle.ipc_readers.specs.declared.read.stream.reader.StreamState.{StreamState}
use Rattle.ipc_readers.specs.declared.read.stream.reader.StreamState.TheVariants as states

-- What a call of `next` returns.
abbrev pub Answer : Type 0
Answer = Option (Result StreamState Fault)

-- The answers of some calls of `next`, one after the other, that begin with this reader.
abbrev pub Calls : {R : Type 0} → Gives R → Device R → StreamReader R → List Answer → Type 0
Calls gives d a [] = Unit {0}
Calls {R} gives d a (r ∷ rs) =
    (b : StreamReader R) × NextStep gives d a r b × Calls gives d b rs

-- All answers are None.
abbrev pub AreNone : List Answer → Type 0
AreNone [] = Unit {0}
AreNone (None ∷ rs) = AreNone rs
AreNone (Some r ∷ rs) = ⊥

-- The answers are these chunks in order, and then what the end says: None after the mark, or that
-- the stream waits. Nothing is claimed of answers after a wait, since the device may have more
-- bytes then. Any error is one of allocation or of the device, and only None comes after it.
abbrev pub AreAnswers : List Chunk → End → List Answer → Type 0
AreAnswers cs e [] = Unit {0}
AreAnswers cs e (Some (Err f) ∷ rs) = OwnFault f ⊥ × AreNone rs
AreAnswers (c ∷ cs) e (Some (Ok (states.Some chunk)) ∷ rs) = (chunk_seen chunk ≡ c) × AreAnswers cs e rs
AreAnswers [] (waits known begun) (Some (Ok states.Waiting) ∷ rs) = Unit {0}
AreAnswers [] marked (None ∷ rs) = AreNone rs
AreAnswers _ _ _ = ⊥

-- Theorem: a stream that doesn't end in a fault is read as what it means, by the requested columns
-- and the dictionaries that the reader has.
abbrev pub ReadLaw : {R : Type 0} → Gives R → Device R → StreamReader R → Type 0
ReadLaw gives d a = (rs : List Answer) (s : Known) (cs : List Chunk) (e : End) → IsTrue d.is_memory → is_over a ≡ false → Knows a s
    → e ≢ faulty → chosen_meaning (request_of a) s (ahead d a) ≡ record { chunks = cs; end = e }
    → Calls gives d a rs → AreAnswers cs e rs

-- ---- calls of any device

-- xs begins with n dictionary messages, and ys comes after them. `t` is known
-- after them if `s` was known before.
abbrev pub Passes : Request → ℕ → (s : Known) → (xs : List ℕ) → (t : Known) → (ys : List ℕ) → Type 0
Passes h zero s xs t ys = (s ≡ t) × (xs ≡ ys)
Passes h (suc n) s xs t ys = (u : Known) × (zs : List ℕ) × (chosen_item h s xs ≡ more None u zs) × Passes h n u zs t ys

-- xs begins with some dictionary messages, and ys comes after them; what is
-- known after them agrees with l.
pub record Passed (h : Request) (s : Known) (xs : List ℕ) (l : Known) (ys : List ℕ) : Type 0 where
  pub count : ℕ
  pub known : Known
  pub at : AreAt known l
  pub passes : Passes h count s xs known ys

-- A call that waits read some bytes. With the partial prefix from before they are dictionary
-- messages, which the reader then knows, and the new partial prefix: nothing is lost.
pub record Waits {R : Type 0} (gives : Gives R) (given : R → ℕ) (a b : StreamReader R) : Type 0 where
  pub bytes : List ℕ
  pub gave : gives (device_of a) bytes ended (device_of b)
  pub kept : (s : Known) → Knows a s → Passed (request_of a) s (begun_of a ++ bytes) (known_of b) (begun_of b)
  pub counted : Counts (given (device_of a)) (length bytes) (given (device_of b))

-- Theorem: the bytes that were read before a wait are whole dictionary messages, which are known
-- then, and after them the partial prefix.
abbrev pub WaitsLaw : {R : Type 0} → Gives R → Device R → StreamReader R → Type 0
WaitsLaw {R} gives d a = (b : StreamReader R) → is_over a ≡ false → NextStep gives d a (Some (Ok states.Waiting)) b
    → Waits gives d.given a b

-- Theorem: if an error is a device's, a call of it failed; the count of failures never falls.
abbrev pub FailsLaw : {R : Type 0} → Gives R → Device R → StreamReader R → Type 0
FailsLaw {R} gives d a = (r : Answer) (b : StreamReader R) → NextStep gives d a r b
    → OnIo (next_result r) (Rises (d.failures (device_of a)) (d.failures (device_of b))) × (d.failures (device_of a) ≤ d.failures (device_of b))
