-- What a call of `next` returned, by its steps.
use Rattle.std.proofs.Common.{◌≡◌, ℕ, ℤ, ◌+◌, ◌-◌, ◌≤◌, List, Bool, true, false, IsTrue, Option, None, Some, Result, Ok, Err, IfErr, OnOk, refl, sym, ap, ◌∙◌, subst, arith, inr}
use Rattle.lower_arrays.specs.Layouts.{Layout}
use Rattle.lower_arrays.specs.declared.array.AnyArray.{AnyArray}
use Rattle.std.specs.declared.io.Error.{Error}
use Rattle.ipc_devices.proofs.Acts.{answered_err}
use Rattle.ipc_devices.specs.Device.{Device, IsAnswered, Rises}
use Rattle.ipc_devices.specs.Faults.{IfIo, OnIo, UnlessIo, OwnFault}
use Rattle.ipc_devices.specs.declared.fault.Fault.{Fault}
use Rattle.ipc_devices.specs.declared.fault.Fault.TheVariants as faults
use Rattle.std.specs.Prelude.{slice_get}
use Rattle.ipc_model.specs.Batches.{kinds}
use Rattle.ipc_model.specs.Entries.{Dictionaries, Limit}
use Rattle.ipc_model.specs.Files.{file_chunk}
use Rattle.ipc_read.specs.Chunks.{chunk_seen}
use Rattle.ipc_files.specs.Batches.{RecordReason, block_metadata, needed_bytes}
use Rattle.ipc_files.specs.Dictionaries.{ValuesGiven}
use Rattle.ipc_files.specs.Footers.{GivesPart}
use Rattle.ipc_files.specs.declared.read.file.metadata.FileMetadata.{FileMetadata}
use Rattle.ipc_file_readers.specs.Readers.{HasNext, HoldValues, NextStep, WasNext, asked_of, block_of, columns_asked, device_of, file_of, is_over, known_of, less, message_of, metadata_of, next_result, remaining_of, rows_given, values_of}
use Rattle.ipc_file_readers.specs.Steps.{DictionariesGave, NextGave, WasChunk}
use Rattle.ipc_file_readers.specs.declared.read.reader.state.FileReader.{FileReader}

rises_from : (a b c : ℕ) → a ≤ b → Rises b c → Rises a c
rises_from a b c h r = omega (arith, h, r)

-- no rows leave a limit as it was
pub less_nothing : (l : Limit) → l ≡ less l 0
less_nothing None = refl
less_nothing (Some n) = ap Some (let e : n ≡ n - 0 = omega arith in e)

-- An error of a device, after steps that don't lower the count of failures.
failed_behind : (r : Result (List AnyArray) Fault) (a b c : ℕ) → a ≤ b → OnIo r (Rises b c) → OnIo (next_result (Some r)) (Rises a c)
failed_behind (Ok xs) a b c h f = tt
failed_behind (Err (faults.Io e)) a b c h f = rises_from a b c h f
failed_behind (Err _) a b c h f = tt

-- A device that failed neither in this call nor in one before it.
told_behind : (r : Result (List AnyArray) Fault) (a b c : ℕ) → b ≡ a → UnlessIo r (c ≡ b) → UnlessIo (next_result (Some r)) (c ≡ a)
told_behind (Ok xs) a b c h t = t ∙ h
told_behind (Err (faults.Io e)) a b c h t = tt
told_behind (Err _) a b c h t = t ∙ h

-- What is known of an error of a device.
answered_behind : (r : Result (List AnyArray) Fault) (P : Error → Type 0) → IfIo r P → IfIo (next_result (Some r)) P
answered_behind (Ok xs) P h = tt
answered_behind (Err e) P h = answered_err (List AnyArray) (Option (List AnyArray)) e P h

-- What was read first, before a chunk.
first_given : (r : Result (List AnyArray) Fault) (Q : ℕ → Type 0) (n b needed : ℕ) → Q n → OnOk r (b ≤ n + needed) → OnOk r ((n : ℕ) × Q n × (b ≤ n + needed))
first_given (Ok xs) Q n b needed q most = (n, q, most)
first_given (Err e) Q n b needed q most = tt

-- a chunk of the same file
same_chunk : (known : Bool) (m n : FileMetadata) (p q : Option (List ℕ)) (l k : Limit) (i j : ℕ) (ds : Dictionaries) (xs : List ℕ) (old new : ℕ) (metadata : List ℕ) (r : Result (List AnyArray) Fault)
    → n ≡ m → q ≡ p → k ≡ l → j ≡ i → WasChunk known n q k j ds xs old new metadata r → WasChunk known m p l i ds xs old new metadata r
same_chunk known m n p q l k i j ds xs old new metadata r a b c d h =
    subst (λ (x : FileMetadata). WasChunk known x p l i ds xs old new metadata r) a
    (subst (λ (x : Option (List ℕ)). WasChunk known n x l i ds xs old new metadata r) b
    (subst (λ (x : Limit). WasChunk known n q x i ds xs old new metadata r) c
    (subst (λ (x : ℕ). WasChunk known n q k x ds xs old new metadata r) d h)))

module _ {R : Type 0} (d : Device R) (stays : IsTrue d.is_memory → IsTrue d.is_read_only)
    (a mid b : FileReader R) (first : DictionariesGave d a (Ok tt) mid)
    (r : Result (List AnyArray) Fault) (second : NextGave d mid r b) where
  same_source : IsTrue d.is_memory → (d.memory (device_of mid)).whole ≡ (d.memory (device_of a)).whole
  same_source k = first.asked.whole (stays k)

  here : WasChunk d.is_memory (metadata_of a) (asked_of a) (remaining_of a) (block_of a) first.are.0 (d.memory (device_of mid)).whole (d.given (device_of mid)) (d.given (device_of b)) (message_of b) r
  here = same_chunk d.is_memory _ _ _ _ _ _ _ _ first.are.0 _ _ _ _ r first.file.described first.file.asked first.remaining first.block (second.chunk first.are.0 first.are.1)

  was_next : WasNext d a r b
  was_next = record {
    dictionaries = first.are.0;
    held = second.held ∙ first.are.1;
    are = first.are.2;
    held_values =
        subst (λ (v : Option ℤ → Layout). HoldValues d.is_memory (file_of a) (d.memory (device_of a)).whole (known_of a) (values_of a) v) (sym second.values) first.holds;
    block = second.block ∙ ap (λ (n : ℕ). n + 1) first.block;
    remaining = second.remaining ∙ ap (λ (l : Limit). less l (rows_given r)) first.remaining;
    many = here.many;
    only = here.only;
    reason = λ k.
        let why = λ (xs : List ℕ) (e : Fault). OwnFault e (RecordReason (file_of a) (columns_asked (metadata_of a) (asked_of a)) xs (slice_get (metadata_of a).blocks.items (block_of a)) e) in
        subst (λ (xs : List ℕ). IfErr r (why xs)) (same_source k) (here.reason k);
    message = λ k.
        subst (λ (xs : List ℕ). OnOk r (block_metadata xs (slice_get (metadata_of a).blocks.items (block_of a)) ≡ Some (message_of b))) (same_source k) (here.message k);
    bytes = λ ds is.
        let needed = needed_bytes (kinds (file_of a).schema) (columns_asked (metadata_of a) (asked_of a)) (message_of b) in
        subst (λ (n : ℕ). OnOk r (d.given (device_of b) ≤ n + needed)) (ap d.given (first.left_alone ds is)) here.bytes;
    first = λ unread.
        first_given r (λ n. ValuesGiven d.is_memory (file_of a) (d.memory (device_of a)).whole (d.given (device_of a)) n) _ _ _ (first.bytes unread) here.bytes;
    holds = here.holds;
    meaning = λ k es alike.
        subst (λ (xs : List ℕ). GivesPart chunk_seen r (file_chunk (file_of a) es xs (asked_of a) (remaining_of a) (block_of a))) (same_source k) (here.meaning k es alike);
    values = here.values;
  }

  has_next : (s : Result (List AnyArray) Fault) → WasNext d a s b → HasNext d a (Some s) b
  has_next (Ok xs) h = h
  has_next (Err e) h = inr h

  pub next_step : is_over a ≡ false → NextStep d a (Some r) b
  next_step more = record {
    over = λ e. let no : true ≡ false = sym e ∙ more in absurd cc;
    next = λ _. has_next r was_next;
    device = record {
      monotone = omega (arith, first.asked.monotone, second.asked.monotone);
      failed = failed_behind r _ _ _ first.asked.monotone second.asked.failed;
      told = told_behind r _ _ _ first.asked.told second.asked.told;
      whole = λ s. second.asked.whole s ∙ first.asked.whole s;
      names = second.asked.names ∙ first.asked.names;
      answered = answered_behind r (IsAnswered d) second.asked.answered;
    };
    state = record {
      file = record {
        described = second.file.described ∙ first.file.described;
        asked = second.file.asked ∙ first.file.asked;
        shown = second.file.shown ∙ first.file.shown;
      };
      room = omega (arith, second.room, first.room);
      unread = λ _ none. let no : None ≡ Some first.are.0 = sym none ∙ second.held ∙ first.are.1 in absurd cc;
    };
  }
