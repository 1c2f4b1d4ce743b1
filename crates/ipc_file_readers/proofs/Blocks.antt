-- What was read of a block, as a reader returns it.
use Rattle.std.proofs.Common.{◌≡◌, ℕ, ℤ, ◌+◌, ◌≤◌, List, map, length, Bool, true, IsTrue, Option, None, Some, Result, Ok, Err, IfOk, IfErr, OnOk, refl, sym, ap, ◌∙◌, subst, false}
use Rattle.std.specs.Prelude.{slice_get, option_map, is_some}
use Rattle.std.specs.HashMap.{HashMap}
use Rattle.std.specs.declared.sync.Arc.{Arc}
use Rattle.lower_arrays.specs.declared.array.AnyArray.{AnyArray}
use Rattle.ipc_devices.proofs.Claims.{claims_through}
use Rattle.ipc_devices.specs.Faults.{OnIo, UnlessIo, OwnFault}
use Rattle.ipc_devices.specs.declared.fault.Fault.{Fault}
use Rattle.ipc_devices.specs.declared.fault.Fault.TheVariants as faults
use Rattle.ipc_stream_lemmas.specs.Agreement.{KnowAlike}
use Rattle.ipc_model.specs.Batches.{Chunk, chosen, kinds}
use Rattle.ipc_model.specs.Entries.{Dictionaries, Limit}
use Rattle.ipc_model.specs.Files.{FileMetadata as Meaning, file_chunk}
use Rattle.ipc_model.specs.Kinds.{Kinds}
use Rattle.ipc_model.specs.ReadChunks.{HaveMeaning}
use Rattle.ipc_base.specs.IdTrees.{IdTrees, all_ids_view}
use Rattle.ipc_read_flat.specs.Bodies.{known_dictionaries}
use Rattle.lower_arrays.specs.AnyLayouts.{layout_of}
use Rattle.ipc_projection.specs.ChosenColumns.{AreAsMany, AreOrdered, AreShuffled, asked_by, rising_by}
use Rattle.ipc_projection.specs.declared.read.chosen.ChosenColumns.{ChosenColumns}
use Rattle.ipc_read.proofs.AskedColumns.{AreArrays, as_many_read, values_in_order}
use Rattle.ipc_read.specs.Chunks.{chunk_seen}
use Rattle.ipc_files.specs.Batches.{HoldBatch, IsRecordFault, RecordReason, block_metadata, needed_bytes}
use Rattle.ipc_files.specs.Footers.{GivesPart, file_seen}
use Rattle.ipc_files.specs.declared.read.file.metadata.FileMetadata.{FileMetadata}
use Rattle.ipc_file_readers.proofs.AskedFaults.{bytes_asked, fault_asked, held_asked, many_asked, reason_asked}
use Rattle.ipc_file_readers.proofs.Chunks.{chunk_alike, given_in_order, refused_in_order}
use Rattle.ipc_file_readers.specs.Readers.{AreKnown, HoldValues, values_in}
use Rattle.ipc_file_readers.specs.Steps.{WasChunk}

-- ---- a result that only an allocation can refuse

pub no_io : {X : Type 0} (r : Result X Fault) (P : Type 0) → IfErr r (λ e. e ≡ faults.Memory) → OnIo r P
no_io (Ok x) P h = tt
no_io (Err e) P h = subst (λ (f : Fault). OnIo {X = Unit {0}} (Err f) P) (sym h) tt

-- What holds whatever the result is.
pub unless_io : {X : Type 0} (r : Result X Fault) (P : Type 0) → P → UnlessIo r P
unless_io (Ok x) P p = p
unless_io (Err (faults.Io e)) P p = tt
unless_io (Err _) P p = p

memory_own : (e : Fault) (P : Type 0) → e ≡ faults.Memory → OwnFault e P
memory_own e P h = subst (λ (f : Fault). OwnFault f P) (sym h) tt

memory_only : {X : Type 0} (r : Result X Fault) (P : Fault → Type 0) → IfErr r (λ e. e ≡ faults.Memory) → IfErr r (λ e. OwnFault e (P e))
memory_only (Ok x) P h = tt
memory_only (Err e) P h = memory_own e (P e) h

on_ok : {X : Type 0} (r : Result X Fault) (P : Type 0) → P → OnOk r P
on_ok (Ok x) P p = p
on_ok (Err e) P p = tt

-- ---- columns

as_many : (q : Option ChosenColumns) (read given : List AnyArray) → AreOrdered q read given → length given ≡ length read
as_many None read given h = ap length h
as_many (Some q) read given h = h.count

given_many : (q : Option ChosenColumns) (n : ℕ) (read : List AnyArray) (r : Result (List AnyArray) Fault) → AreShuffled q → length read ≡ length (chosen (rising_by q) n)
    → IfOk r (λ given. AreOrdered q read given) → IfOk r (λ xs. length xs ≡ length (chosen (asked_by q) n))
given_many q n read (Ok given) same long h = many_asked q n (length given) same (as_many q read given h ∙ long)
given_many q n read (Err e) same long h = tt

values_given : (known : Dictionaries) (is : IdTrees) (q : Option ChosenColumns) (n : ℕ) (read : List AnyArray) (r : Result (List AnyArray) Fault) → AreShuffled q → AreAsMany q (length read)
    → IfOk r (λ given. AreOrdered q read given) → AreArrays known is (chosen (rising_by q) n) read → IfOk r (λ given. AreArrays known is (chosen (asked_by q) n) given)
values_given known is q n read (Ok given) same many order h = values_in_order known is n q read given same many order h
values_given known is q n read (Err e) same many order h = tt

held_given : (q : Option ChosenColumns) (n most : ℕ) (ts : Kinds) (metadata : List ℕ) (read : List AnyArray) (r : Result (List AnyArray) Fault) → AreShuffled q → AreAsMany q (length read)
    → IfOk r (λ given. AreOrdered q read given) → HoldBatch most ts (chosen (rising_by q) n) metadata read → IfOk r (λ given. HoldBatch most ts (chosen (asked_by q) n) metadata given)
held_given q n most ts metadata read (Ok given) same many order h = held_asked q n most ts metadata read given same many order h
held_given q n most ts metadata read (Err e) same many order h = tt

-- ---- what it means

module _ (q : Option ChosenColumns) (same : AreShuffled q) (m : Meaning) (ds es : Dictionaries) (alike : KnowAlike ds es) (source : List ℕ) (limit : Limit) (i : ℕ) where
  moved : (r : Result (List AnyArray) Fault) → GivesPart chunk_seen r (file_chunk m ds source (asked_by q) limit i) → GivesPart chunk_seen r (file_chunk m es source (asked_by q) limit i)
  moved r h = subst (λ (o : Option Chunk). GivesPart chunk_seen r o) (chunk_alike m ds es alike (asked_by q) limit source i) h

  block_refused : (e : Fault) → OwnFault e (file_chunk m ds source (rising_by q) limit i ≡ None) → OwnFault e (file_chunk m es source (asked_by q) limit i ≡ None)
  block_refused e h = moved (Err e) (refused_in_order q m ds source limit i e same h)

  block_given : (read : List AnyArray) (r : Result (List AnyArray) Fault) → AreAsMany q (length read) → IfOk r (λ given. AreOrdered q read given) → IfErr r (λ e. e ≡ faults.Memory)
      → file_chunk m ds source (rising_by q) limit i ≡ Some (chunk_seen read) → GivesPart chunk_seen r (file_chunk m es source (asked_by q) limit i)
  block_given read (Ok given) long order only e = moved (Ok given) (given_in_order q m ds source limit i read given same long order e)
  block_given read (Err f) long order only e = memory_own f (file_chunk m es source (asked_by q) limit i ≡ None) only

-- ---- the block

-- a reader's own dictionaries
pub same_known : {D : Type 0} (view : D → Dictionaries) (o : Option D) (d : D) (ds : Dictionaries) → o ≡ Some d → option_map view o ≡ Some ds → view d ≡ ds
same_known view o d ds is e = let s : Some (view d) ≡ Some ds = sym (ap (option_map view) is) ∙ e in cc

-- they are known already
pub known_already : {D : Type 0} (view : D → Dictionaries) (o : Option D) (known : Bool) (file : Option Dictionaries) → is_some o ≡ true
    → (ds : Dictionaries) × (option_map view o ≡ Some ds) × AreKnown known (option_map view o) file ds
known_already view None known file e = absurd cc
known_already view (Some d) known file e = (view d, refl, refl)

pub not_unread : {D : Type 0} (view : D → Dictionaries) (o : Option D) → is_some o ≡ true → option_map view o ≡ None → ⊥
not_unread view None e none = absurd cc
not_unread view (Some d) e none = absurd cc

-- They aren't known yet.
pub none_known : {D : Type 0} (view : D → Dictionaries) (o : Option D) → is_some o ≡ false → option_map view o ≡ None
none_known view None e = refl
none_known view (Some d) e = absurd cc

pub values_already : {Z S : Type 0} (o : Option (HashMap ℤ (Arc AnyArray Z) S)) (known : Bool) (m : Meaning) (source : List ℕ) → is_some o ≡ true
    → HoldValues known m source (option_map known_dictionaries o) (values_in o) (values_in o)
values_already None known m source e = absurd cc
values_already (Some d) known m source e = refl

module _ (known : Bool) (q : Option ChosenColumns) (m : FileMetadata) (limit : Limit) (i : ℕ) (d ds : Dictionaries) (source : List ℕ) (old new : ℕ) (metadata : List ℕ) (o : Option (List ℕ))
    (same : AreShuffled q) (rising : o ≡ rising_by q) (held : d ≡ ds) where
  abbrev N : ℕ
  N = length m.schema.fields.items

  -- it was refused
  pub refused_chunk : (r : Result (List AnyArray) Fault) (e : Fault) → r ≡ Err e → OwnFault e (IsRecordFault (kinds (file_seen m).schema) (chosen o N) e)
      → (IsTrue known → OwnFault e (RecordReason (file_seen m) (chosen o N) source (slice_get m.blocks.items i) e))
      → (IsTrue known → OwnFault e (file_chunk (file_seen m) d source o limit i ≡ None)) → WasChunk known m (asked_by q) limit i ds source old new metadata r
  refused_chunk r e is only why means = rw is (record {
    many = tt;
    only = claims_through e _ _ (fault_asked q N (kinds (file_seen m).schema) e same) (subst (λ (p : Option (List ℕ)). OwnFault e (IsRecordFault (kinds (file_seen m).schema) (chosen p N) e)) rising only);
    reason = λ k. claims_through e _ _ (reason_asked q N (file_seen m) e source (slice_get m.blocks.items i) same)
        (subst (λ (p : Option (List ℕ)). OwnFault e (RecordReason (file_seen m) (chosen p N) source (slice_get m.blocks.items i) e)) rising (why k));
    message = λ k. tt;
    bytes = tt;
    holds = tt;
    meaning = λ k es alike. block_refused q same (file_seen m) d es (subst (λ (x : Dictionaries). KnowAlike x es) (sym held) alike) source limit i e
        (subst (λ (p : Option (List ℕ)). OwnFault e (file_chunk (file_seen m) d source p limit i ≡ None)) rising (means k));
    values = λ k. tt;
  })

  -- it was read
  pub read_chunk : (read : List AnyArray) (r : Result (List AnyArray) Fault) → length read ≡ length (chosen o N)
      → IfOk r (λ given. AreOrdered q read given) → IfErr r (λ e. e ≡ faults.Memory)
      → (IsTrue known → block_metadata source (slice_get m.blocks.items i) ≡ Some metadata) → new ≤ old + needed_bytes (kinds (file_seen m).schema) (chosen o N) metadata
      → HoldBatch m.size (kinds (file_seen m).schema) (chosen o N) metadata read → (IsTrue known → file_chunk (file_seen m) d source o limit i ≡ Some (chunk_seen read))
      → (IsTrue known → HaveMeaning d (all_ids_view m.ipc_schema.fields.items) (chosen o N) (chunk_seen read) (map layout_of read))
      → WasChunk known m (asked_by q) limit i ds source old new metadata r
  read_chunk read r long order only message most holds means vals =
      let many : length read ≡ length (chosen (rising_by q) N) = subst (λ (p : Option (List ℕ)). length read ≡ length (chosen p N)) rising long in
      let bound : new ≤ old + needed_bytes (kinds (file_seen m).schema) (chosen (rising_by q) N) metadata =
      subst (λ (p : Option (List ℕ)). new ≤ old + needed_bytes (kinds (file_seen m).schema) (chosen p N) metadata) rising most in
      record {
        many = given_many q N read r same many order;
        only = memory_only r _ only;
        reason = λ k. memory_only r _ only;
        message = λ k. on_ok r _ (message k);
        bytes = on_ok r _ (subst (λ (n : ℕ). new ≤ old + n) (bytes_asked q N (kinds (file_seen m).schema) metadata same) bound);
        holds = held_given q N m.size (kinds (file_seen m).schema) metadata read r same (as_many_read N q (length read) many) order
            (subst (λ (p : Option (List ℕ)). HoldBatch m.size (kinds (file_seen m).schema) (chosen p N) metadata read) rising holds);
        meaning = λ k es alike. block_given q same (file_seen m) d es (subst (λ (x : Dictionaries). KnowAlike x es) (sym held) alike) source limit i read r (as_many_read N q (length read) many) order only
            (subst (λ (p : Option (List ℕ)). file_chunk (file_seen m) d source p limit i ≡ Some (chunk_seen read)) rising (means k));
        values = λ k.
            let is = all_ids_view m.ipc_schema.fields.items in
            values_given ds is q N read r same (as_many_read N q (length read) many) order
            (subst (λ (x : Dictionaries). HaveMeaning x is (chosen (rising_by q) N) (chunk_seen read) (map layout_of read)) held
            (subst (λ (p : Option (List ℕ)). HaveMeaning d is (chosen p N) (chunk_seen read) (map layout_of read)) rising (vals k)));
      }
