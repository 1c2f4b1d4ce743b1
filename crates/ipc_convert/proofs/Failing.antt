-- What a device's error says, call by call: which device failed.
use Rattle.std.proofs.Common.{◌≡◌, ◌⊎◌, ℕ, List, length, Result, Ok, Err, OnOk, inl, inr, refl, sym, subst, ◌∙◌}
use Rattle.ipc_devices.specs.Device.{Device, Memory, Rises}
use Rattle.ipc_devices.specs.Faults.{OnIo}
use Rattle.ipc_devices.specs.Gives.{Gives, GivesFails}
use Rattle.ipc_devices.specs.declared.fault.Fault.{Fault}
use Rattle.ipc_devices.specs.declared.fault.Fault.TheVariants as faults
use Rattle.ipc_readers.proofs.OfMemory.{metadata_fails, next_fails}
use Rattle.ipc_readers.specs.Metadata.{MetadataGave}
use Rattle.ipc_readers.specs.Runs.{Answer}
use Rattle.ipc_readers.specs.Streams.{NextStep, device_of, next_result}
use Rattle.ipc_readers.specs.declared.read.stream.reader.StreamReader.{StreamReader}
use Rattle.ipc_write.specs.Sending.{FailsOrIsFull}
use Rattle.ipc_write.specs.Writers.{SendStep, WriterSeen}
use Rattle.ipc_write.specs.declared.stream.WriterState.TheVariants.{Failed}
use Rattle.ipc_file_write.specs.Appends.{DeviceFails}
use Rattle.ipc_file_write.specs.FileWriters.{FileSeen, FileStep, TakesNoPairs}
use Rattle.lower.specs.TypeTrees.{Pairs}
use Rattle.ipc_convert.specs.Chunks.{NoneFailed}
use Rattle.ipc_convert.specs.Failures.{CopyFails, FailsAt, OutputFails, SendFails}
use Rattle.ipc_convert.specs.declared.chunks.Ending.{Ending}

-- What a propagated error of a device says.
pub io_through : (e : Fault) (P Q : Type 0) → (P → Q) → OnIo {X = Unit {0}} (Err e) P → OnIo {X = Unit {0}} (Err e) Q
io_through (faults.Io x) P Q f h = f h
io_through _ P Q f h = tt

-- The same of any result.
pub told_on : {X : Type 0} (r : Result X Fault) (P Q : Type 0) → (P → Q) → OnIo r P → OnIo r Q
told_on (Ok x) P Q f h = tt
told_on (Err e) P Q f h = io_through e P Q f h

-- An error of allocation is none of a device.
pub memory_says_none : (e : Fault) (P : Type 0) → e ≡ faults.Memory → OnIo {X = Unit {0}} (Err e) P
memory_says_none e P is = subst (λ (x : Fault). OnIo {X = Unit {0}} (Err x) P) (sym is) tt

-- Nor is an error that names a condition.
pub never_io : (e : Fault) (P : Type 0) → OnIo {X = Unit {0}} (Err e) ⊥ → OnIo {X = Unit {0}} (Err e) P
never_io e P = io_through e ⊥ P (λ no. absurd no)

-- Nor is an error of pairs.
pub pairs_say_none : {W : Type 0} (w : FileSeen W) (pairs : Pairs) (e : Fault) (P : Type 0) → TakesNoPairs w pairs e → OnIo {X = Unit {0}} (Err e) P
pairs_say_none w pairs (faults.Io x) P h = absurd h
pairs_say_none w pairs _ P h = tt

-- ---- a chunk

-- The next chunk of a stream.
pub stream_next_fails : {R : Type 0} (gives : Gives R) (d : Device R) → GivesFails gives d.failures → (a : StreamReader R) (r : Answer) (b : StreamReader R)
    → NextStep gives d a r b → OnIo (next_result r) (Rises (d.failures (device_of a)) (d.failures (device_of b)))
stream_next_fails gives d law a r b step = (next_fails gives d law a r b step).0

-- A chunk that is written to a stream.
pub stream_step_fails : {W : Type 0} (d : Device W) (a : WriterSeen W) (r : Result (Unit {0}) Fault) (b : WriterSeen W) (bytes : List ℕ) (count : ℕ)
    → SendStep d a r b bytes count → OnIo r (SendFails d a.device b.device)
stream_step_fails d a r b bytes count step =
    told_on r ((b.state ≡ Failed) × FailsOrIsFull d.grows (d.failures a.device) (d.failures b.device) (d.room a.device) count) (SendFails d a.device b.device)
    (λ h. record { count = count; failed = h.1 }) step.io

-- A chunk that is written to a file.
pub file_step_fails : {W : Type 0} (d : Device W) (a : FileSeen W) (r : Result (Unit {0}) Fault) (b : FileSeen W) (bytes : List ℕ)
    → FileStep d a r b bytes → OnIo r (SendFails d a.device b.device)
file_step_fails d a r b bytes step =
    told_on r ((b.state ≡ Failed) × FailsOrIsFull d.grows (d.failures a.device) (d.failures b.device) (d.room a.device) (length bytes)) (SendFails d a.device b.device)
    (λ h. record { count = length bytes; failed = h.1 }) step.io

-- A failure after chunks for which nothing failed.
pub copy_fails_then : {S T : Type 0} (failures : S → ℕ) (others : T → ℕ) (fails : FailsAt T) (a b c : S) (u v w : T) (e : Fault) → NoneFailed failures others a u b v
    → OnIo {X = Unit {0}} (Err e) (CopyFails failures others fails b v c w) → OnIo {X = Unit {0}} (Err e) (CopyFails failures others fails a u c w)
copy_fails_then failures others fails a b c u v w e none = io_through e (CopyFails failures others fails b v c w) (CopyFails failures others fails a u c w) (λ h. elim h [
  | inl rises ↦ inl (subst (λ (n : ℕ). Rises n (failures c)) none.0 rises)
  | inr one ↦ inr (record { last = one.last; before = one.before ∙ none.1; failed = one.failed })
])

-- ---- the input

pub input_fails : {R : Type 0} (failures : R → ℕ) (input left : R) (e : Fault) (Q : Type 0) → OnIo {X = Unit {0}} (Err e) (Rises (failures input) (failures left))
    → OnIo {X = Unit {0}} (Err e) (DeviceFails failures input ⊎ Q)
input_fails failures input left e Q = io_through e (Rises (failures input) (failures left)) (DeviceFails failures input ⊎ Q) (λ h. inl (record { after = left; rises = h }))

-- the schema of a stream
pub front_fails : {R : Type 0} (gives : Gives R) (failures : R → ℕ) → GivesFails gives failures → (input left : R) (e : Fault) (Q : Type 0) → MetadataGave gives input (Err e) left
    → OnIo {X = Unit {0}} (Err e) (DeviceFails failures input ⊎ Q)
front_fails gives failures law input left e Q front = input_fails failures input left e Q (metadata_fails gives failures law (Err e) input left front)

-- ---- the output

module _ {W : Type 0} (d : Device W) (out : W) where
  output_is : (from to : W) → d.failures from ≡ d.failures out → SendFails d from to → OutputFails d out
  output_is from to same h = record { from = from; to = to; before = same; failed = h }

  -- A call that sends, after others that didn't fail.
  pub send_fails : (from to : W) (e : Fault) → d.failures from ≡ d.failures out → OnIo {X = Unit {0}} (Err e) (SendFails d from to)
      → OnIo {X = Unit {0}} (Err e) (OutputFails d out)
  send_fails from to e same = io_through e (SendFails d from to) (OutputFails d out) (output_is from to same)

  -- An output that fails, whatever the input does.
  pub output_fails : (e : Fault) (P : Type 0) → OnIo {X = Unit {0}} (Err e) (OutputFails d out) → OnIo {X = Unit {0}} (Err e) (P ⊎ OutputFails d out)
  output_fails e P = io_through e (OutputFails d out) (P ⊎ OutputFails d out) (λ h. inr h)

  -- a call that reads a file that is appended to
  pub output_read_fails : (left : W) (e : Fault) → OnIo {X = Unit {0}} (Err e) (Rises (d.failures out) (d.failures left)) → OnIo {X = Unit {0}} (Err e) (OutputFails d out)
  output_read_fails left e = io_through e (Rises (d.failures out) (d.failures left)) (OutputFails d out)
      (λ h. output_is out left refl (record { count = 0; failed = inl h }))

  -- A call after others that didn't fail.
  pub output_opens_not : (read : W) (e : Fault) → d.failures read ≡ d.failures out → OnIo {X = Unit {0}} (Err e) (DeviceFails d.failures read) → OnIo {X = Unit {0}} (Err e) (OutputFails d out)
  output_opens_not read e same = io_through e (DeviceFails d.failures read) (OutputFails d out)
      (λ h. output_is read h.after same (record { count = 0; failed = inl h.rises }))

  -- ---- both

  -- A copy of an input to an output; no call before the first chunk failed.
  module _ {R S T : Type 0} (counts : R → ℕ) (input : R) (source : S → R) (sink : T → W) (a b : S) (v w : T) (unread : counts (source a) ≡ counts input) (unsent : d.failures (sink v) ≡ d.failures out) where
    abbrev Sends : T → T → Type 0
    Sends t u = SendFails d (sink t) (sink u)

    abbrev Fails : Type 0
    Fails = CopyFails (λ s. counts (source s)) (λ t. d.failures (sink t)) Sends a v b w

    abbrev Done : Type 0
    Done = NoneFailed (λ s. counts (source s)) (λ t. d.failures (sink t)) a v b w

    abbrev Why : Type 0
    Why = DeviceFails counts input ⊎ OutputFails d out

    one_failed : Fails → Why
    one_failed h = elim h [
      | inl rises ↦ inl (record { after = source b; rises = subst (λ (n : ℕ). Rises n (counts (source b))) unread rises })
      | inr one ↦ inr (output_is (sink one.last) (sink w) (one.before ∙ unsent) one.failed)
    ]

    pub copy_fails : (e : Fault) → OnIo {X = Unit {0}} (Err e) Fails → OnIo {X = Unit {0}} (Err e) Why
    copy_fails e = io_through e Fails Why one_failed

    -- The end of a stream, after all chunks.
    pub end_fails : (x : T) (e : Fault) → Done → OnIo {X = Unit {0}} (Err e) (Sends w x) → OnIo {X = Unit {0}} (Err e) Why
    end_fails x e done ends = output_fails e (DeviceFails counts input) (send_fails (sink w) (sink x) e (done.1 ∙ unsent) ends)

    -- A file that was finished, whatever became of the chunks: they failed, or the end did.
    pub file_fails : (x : T) (copied : Result Ending Fault) (e : Fault) (P : Type 0) → (copied ≡ Err e) ⊎ ((ending : Ending) × (copied ≡ Ok ending) × P) → OnIo copied Fails → OnOk copied Done
        → OnIo {X = Unit {0}} (Err e) (OnOk copied (Sends w x)) → OnIo {X = Unit {0}} (Err e) Why
    file_fails x copied e P by failed done ends = elim by [
      | inl refused ↦ copy_fails e (subst (λ (o : Result Ending Fault). OnIo o Fails) refused failed)
      | inr all ↦ end_fails x e (subst (λ (o : Result Ending Fault). OnOk o Done) all.1 done) (subst (λ (o : Result Ending Fault). OnIo {X = Unit {0}} (Err e) (OnOk o (Sends w x))) all.1 ends)
    ]
