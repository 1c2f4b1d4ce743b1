-- What a session does that appends to a file.
use Rattle.std.proofs.Common.{◌≡◌, ◌⊎◌, inl, inr, ℕ, ◌+◌, ◌≤◌, Bool, false, IsTrue, List, [], ◌∷◌, ◌++◌, drop, length, map, take, Some, None, Result, Ok, Err, OnOk, refl, sym, ap, ◌∙◌, subst, arith, append_assoc, append-nil, length-drop}
use Rattle.std.proofs.lemmas.List.{take-append-drop}
use Rattle.std.specs.Prelude.{Vec}
use Rattle.std.specs.declared.alloc.Global.{Global}
use Rattle.lower.specs.TypeTrees.{Pairs}
use Rattle.lower_arrays.specs.declared.array.AnyArray.{AnyArray}
use Rattle.ipc_devices.proofs.Claims.{claims_own, claims_through}
use Rattle.ipc_devices.specs.Device.{Device}
use Rattle.ipc_devices.specs.Faults.{IsIo, OnIo, OwnFault}
use Rattle.ipc_devices.specs.declared.fault.ArgFault.TheVariants.{FieldsShape, NoRecordBlocks, NotWritable, TooLarge}
use Rattle.ipc_devices.specs.declared.fault.Fault.{Fault}
use Rattle.ipc_devices.specs.declared.fault.Fault.TheVariants.{Argument, Io, Memory as NoMemory, OutOfSpec}
use Rattle.ipc_devices.specs.declared.fault.OutOfSpecKind.TheVariants.{UnexpectedNegativeInteger}
use Rattle.ipc_model.specs.Batches.{Chunk, Schema}
use Rattle.ipc_model.specs.Entries.{Dictionaries}
use Rattle.ipc_model.specs.Files.{FileMetadata, file_dictionaries, metadata_of}
use Rattle.ipc_model.specs.Streams.{Head}
use Rattle.ipc_model.proofs.Given.{some-same}
use Rattle.ipc_files.specs.Dictionaries.{DictionariesReason}
use Rattle.ipc_files.specs.Files.{FileFault, FileReason}
use Rattle.ipc_file_lemmas.proofs.Appending.{stay_law}
use Rattle.ipc_file_lemmas.specs.Appending.{MeansBefore, goes_on, normal_chunk, normal_schema}
use Rattle.ipc_file_write.specs.AppendLaws.{NoMore}
use Rattle.ipc_file_write.specs.Appends.{GoesOn, GoesOnAgain, GoesOnWith, HasNoDictionaries, MayGoOn, RefusesFile, RefusesToGoOn}
use Rattle.ipc_file_write.specs.FileWriters.{FileSeen, HoldsBytes, head_of_file}
use Rattle.ipc_file_write.proofs.Appends.{inside_file, same_head, schema_same}
use Rattle.ipc_file_write.proofs.FileHeads.{is_headed}
use Rattle.ipc_sessions.specs.Sessions.{GainsChunks, AddsInTurn, ResumeCause, MetadataCause, IsEndedFile, IsForeignFile, IsOldFile, KeepsOld, OldFileCause, OpeningCause}
use Rattle.ipc_sessions.specs.Steps.{AreSessions, IsSessionOn, Leaves}

-- ---- the file that it makes

module _ (is_stream : Bool) (bytes : List ℕ) where
  ended-as : (s t : Schema) (ps qs : Pairs) (cs ds : List Chunk) → s ≡ t → ps ≡ qs → cs ≡ ds → IsEndedFile is_stream bytes s ps cs → IsEndedFile is_stream bytes t qs ds
  ended-as s t ps qs cs ds e f g h =
      subst (λ (x : List Chunk). IsEndedFile is_stream bytes t qs x) g (subst (λ (x : Pairs). IsEndedFile is_stream bytes t x cs) f (subst (λ (x : Schema). IsEndedFile is_stream bytes x ps cs) e h))

module _ {W : Type 0} (d : Device W) (m : FileMetadata) (device : W) (w : FileSeen W) (c : W) (cs : List Chunk) (g : GoesOn d m device w) (k : IsTrue d.is_memory) (is : metadata_of (d.memory device).whole ≡ Some m) where
  stands-inside : (d.memory w.device).place ≤ length (d.memory w.device).whole
  stands-inside =
      let at = g.stands k in
      let inside = inside_file m (d.memory device).whole (is_headed (d.memory device).whole m is) in
      omega (arith, at.place, ap length at.whole, inside)

  no-more-there : NoMore (d.memory w.device) w.size
  no-more-there =
      let at = g.stands k in
      let headed = is_headed (d.memory device).whole m is in
      omega (arith, at.place, ap length at.whole, length-drop (d.memory w.device).place (d.memory w.device).whole, g.size, headed.size)

  module _ (ended : (is_stream : Bool) (before : List Chunk) → HoldsBytes is_stream (d.memory w.device) w [] before → (d.memory w.device).place ≤ length (d.memory w.device).whole → NoMore (d.memory w.device) w.size
      → IsEndedFile is_stream (d.memory c).whole (head_of_file w).schema w.pairs (before ++ cs)) where
    -- After a file that another session left.
    from-ended : GoesOnAgain d m device w → (is_stream : Bool) (schema : Schema) (pairs : Pairs) (before : List Chunk) → IsEndedFile is_stream (d.memory device).whole schema pairs before
        → IsEndedFile is_stream (d.memory c).whole schema pairs (before ++ cs)
    from-ended again is_stream schema pairs before h =
        let head = same_head d m device w h.writer is_stream before g k is h.whole in
        let metadata = some-same _ m (sym h.whole.file.means.metadata ∙ is) in
        let same : w.pairs ≡ pairs = g.pairs ∙ sym (ap (λ (x : FileMetadata). x.pairs) metadata) ∙ h.pairs_are in
        ended-as is_stream (d.memory c).whole (head_of_file w).schema schema w.pairs pairs (before ++ cs) (before ++ cs) (ap (λ (x : Head). x.schema) (sym head) ∙ h.schema_is) same refl
        (ended is_stream before (again k is is_stream h.writer before h.whole) stands-inside no-more-there)

    -- After a file that another program wrote.
    from-foreign : GoesOnWith d m device w → (schema : Schema) (pairs : Pairs) (before : List Chunk) → IsForeignFile false (d.memory device).whole schema pairs before
        → IsEndedFile false (d.memory c).whole schema pairs (before ++ cs)
    from-foreign gives schema pairs before h =
        let metadata : h.metadata ≡ m = some-same h.metadata m (sym h.metadata_is ∙ is) in
        let means : MeansBefore m (d.memory device).whole h.known h.chunks = subst (λ (x : FileMetadata). MeansBefore x (d.memory device).whole h.known h.chunks) metadata h.means in
        let schema_is : (head_of_file w).schema ≡ schema = schema_same m w g.order g.fields g.metadata g.ids ∙ sym (ap (λ (x : FileMetadata). normal_schema x.schema) metadata) ∙ h.schema_is in
        let same : w.pairs ≡ pairs = g.pairs ∙ sym (ap (λ (x : FileMetadata). x.pairs) metadata) ∙ h.pairs_are in
        ended-as false (d.memory c).whole (head_of_file w).schema schema w.pairs pairs (map normal_chunk h.chunks ++ cs) (before ++ cs) schema_is same (ap (λ (xs : List Chunk). xs ++ cs) h.chunks_are)
        (ended false (map normal_chunk h.chunks) (gives k is h.known h.chunks means) stands-inside no-more-there)

    foreign-alone : (is_stream : Bool) (schema : Schema) (pairs : Pairs) (before : List Chunk) → is_stream ≡ false → IsForeignFile is_stream (d.memory device).whole schema pairs before
        → GoesOnWith d m device w → IsEndedFile is_stream (d.memory c).whole schema pairs (before ++ cs)
    foreign-alone is_stream schema pairs before e h gives =
        subst (λ (b : Bool). IsEndedFile b (d.memory c).whole schema pairs (before ++ cs)) (sym e)
        (from-foreign gives schema pairs before (subst (λ (b : Bool). IsForeignFile b (d.memory device).whole schema pairs before) e h))

    one-more : GoesOnAgain d m device w → GoesOnWith d m device w → GainsChunks (d.memory device).whole (d.memory c).whole cs
    one-more again gives is_stream schema pairs before old =
        elim old [
          | inl h ↦ from-ended again is_stream schema pairs before h
          | inr h ↦ foreign-alone is_stream schema pairs before h.no_stream h gives
        ]

  pub adds_ok : (r : Result (Unit {0}) Fault) → Leaves d w c r cs → GoesOnAgain d m device w → GoesOnWith d m device w → OnOk r (GainsChunks (d.memory device).whole (d.memory c).whole cs)
  adds_ok (Ok x) l again gives = one-more (l.ended k) again gives
  adds_ok (Err e) l again gives = tt

  -- What stays, whatever the calls return.
  pub keeps_old : (r : Result (Unit {0}) Fault) → Leaves d w c r cs → KeepsOld m (d.memory device).whole (d.memory c).whole
  keeps_old r l =
      let p = goes_on m in
      let at = g.stands k in
      let onward = l.onward k stands-inside in
      let same : take p (d.memory c).whole ≡ take p (d.memory device).whole =
      ap (λ (n : ℕ). take n (d.memory c).whole) (sym at.place) ∙ onward.kept ∙ ap (λ (n : ℕ). take n (d.memory w.device).whole) at.place ∙ ap (take p) at.whole in
      record {
        longer = omega (arith, ap length at.whole, onward.longer);
        kept = same;
        gives = λ found before means. stay_law m (d.memory device).whole (d.memory c).whole found before same means;
      }

-- ---- which are refused

-- Unless an allocation or the device fails, a file that can be appended to isn't refused.
refuses-not : (m : FileMetadata) (e : Fault) → OwnFault e (MayGoOn m → RefusesToGoOn m e → ⊥)
refuses-not m (Argument NoRecordBlocks) = λ may h. may.some_blocks h
refuses-not m (OutOfSpec UnexpectedNegativeInteger) = λ may h. may.natural h
refuses-not m (Argument TooLarge) = λ may h. elim h [ inl long ↦ absurd (let short = may.short in omega (arith, long, short)) | inr heavy ↦ heavy may.light ]
refuses-not m (Argument FieldsShape) = λ may h. h may.writable.fits
refuses-not m (Argument NotWritable) = λ may h. h may.writable
refuses-not m NoMemory = tt
refuses-not m (Io x) = tt
refuses-not m _ = λ may h. absurd h

own-two : (e : Fault) (P Q R : Type 0) → (P → Q → R) → OwnFault e P → OwnFault e Q → OwnFault e R
own-two NoMemory P Q R f p q = tt
own-two (Io x) P Q R f p q = tt
own-two _ P Q R f p q = f p q

-- its dictionaries have a meaning
old-dictionaries : (m : FileMetadata) (bytes : List ℕ) (is_stream : Bool) (schema : Schema) (pairs : Pairs) (before : List Chunk) → metadata_of bytes ≡ Some m → IsOldFile is_stream bytes schema pairs before
    → (known : Dictionaries) × (file_dictionaries m bytes ≡ Some known)
old-dictionaries m bytes is_stream schema pairs before is old =
    elim old [
      | inl h ↦
          let metadata = some-same _ m (sym h.whole.file.means.metadata ∙ is) in
          (h.whole.file.known, subst (λ (x : FileMetadata). file_dictionaries x bytes ≡ Some h.whole.file.known) metadata h.whole.file.means.dictionaries)
      | inr h ↦
          let metadata = some-same h.metadata m (sym h.metadata_is ∙ is) in
          let whole = stay_law h.metadata bytes bytes h.known h.chunks refl h.means in
          (h.known, subst (λ (x : FileMetadata). file_dictionaries x bytes ≡ Some h.known) metadata whole.dictionaries)
    ]

pub refuses_no_old : (m : FileMetadata) (bytes : List ℕ) (known : Bool) (e : Fault) → IsTrue known → metadata_of bytes ≡ Some m → RefusesFile known m bytes e → OldFileCause m bytes e
refuses_no_old m bytes known e k is refused =
    own-two e (RefusesToGoOn m e ⊎ HasNoDictionaries known m bytes e) (MayGoOn m → RefusesToGoOn m e → ⊥) _
    (λ reason not may is_stream schema pairs before old.
    elim reason [
      | inl own ↦ not may own
      | inr lacks ↦
          let there = old-dictionaries m bytes is_stream schema pairs before is old in
          let both : None ≡ Some there.0 = sym (lacks.none k) ∙ there.1 in
          absurd cc
    ])
    refused (refuses-not m e)

-- ---- metadata that a session reads

-- What holds of the bytes that were read holds of those that were there before.
pub as_read : (P : FileMetadata → List ℕ → Type 0) (old mid read : List ℕ) (m : FileMetadata) → mid ≡ old → read ≡ mid → metadata_of mid ≡ Some m → (metadata_of read ≡ Some m → P m read)
    → (m' : FileMetadata) → metadata_of old ≡ Some m' → P m' old
as_read P old mid read m e f is h m' is' =
    let there : metadata_of old ≡ Some m = ap metadata_of (sym e) ∙ is in
    let same : m ≡ m' = some-same m m' (sym there ∙ is') in
    subst (λ (x : FileMetadata). P x old) same (subst (λ (xs : List ℕ). P m xs) (f ∙ e) (h (ap metadata_of f ∙ is)))

-- What is refused of the bytes that were read is refused of those that were there.
refuses-read : (known : Bool) (old read : List ℕ) (m : FileMetadata) (e : Fault) → (IsTrue known → read ≡ old) → RefusesFile known m read e → RefusesFile known m old e
refuses-read known old read m e same =
    claims_through e (RefusesToGoOn m e ⊎ HasNoDictionaries known m read e) (RefusesToGoOn m e ⊎ HasNoDictionaries known m old e)
    (λ reason. elim reason [
      | inl own ↦ inl own
      | inr lacks ↦ inr (record {
        kind = lacks.kind;
        none = λ k. ap (file_dictionaries m) (sym (same k)) ∙ lacks.none k;
        reason = λ k. subst (λ (xs : List ℕ). DictionariesReason m xs [] m.dictionaries e) (same k) (lacks.reason k);
      })
    ])

pub refused_as_read : (known : Bool) (old read : List ℕ) (m : FileMetadata) (e : Fault) → (IsTrue known → read ≡ old) → (IsTrue known → metadata_of old ≡ Some m) → RefusesFile known m read e → ResumeCause known old e
refused_as_read known old read m e same is refused = record { metadata = m; is = is; refused = refuses-read known old read m e same refused }

-- a claim that follows from three
own-three : (e : Fault) (known : Bool) (P Q R S : Type 0) → (P → (IsTrue known → Q) → (IsTrue known → R) → S) → OwnFault e P → (IsTrue known → OwnFault e Q) → (IsTrue known → OwnFault e R) → OwnFault e S
own-three NoMemory known P Q R S f p q r = tt
own-three (Io x) known P Q R S f p q r = tt
own-three _ known P Q R S f p q r = f p q r

-- A file that has no metadata, for this reason.
pub refused_unread : (known : Bool) (old mid : List ℕ) (place : ℕ) (e : Fault) → (IsTrue known → mid ≡ old) → (IsTrue known → place ≡ 0) → OwnFault e (FileFault e) → (IsTrue known → OwnFault e (metadata_of mid ≡ None))
    → (IsTrue known → OwnFault e (FileReason place mid e)) → OpeningCause known old e
refused_unread known old mid place e same at =
    own-three e known (FileFault e) (metadata_of mid ≡ None) (FileReason place mid e) (MetadataCause known old e ⊎ ResumeCause known old e)
    (λ kind none reason. inl (record {
      kind = kind;
      none = λ k. ap metadata_of (sym (same k)) ∙ none k;
      reason = λ k. subst (λ (n : ℕ). FileReason n old e) (at k) (subst (λ (xs : List ℕ). FileReason place xs e) (same k) (reason k));
    }))

-- ---- sessions that are refused

-- no old file is refused that may be appended to
pub session_refuses_no_old : (known : Bool) (bytes : List ℕ) (e : Fault) → IsTrue known → OpeningCause known bytes e → (m : FileMetadata) → metadata_of bytes ≡ Some m → OldFileCause m bytes e
session_refuses_no_old known bytes e k refused m is =
    claims_own e (MetadataCause known bytes e ⊎ ResumeCause known bytes e) _
    (λ why. elim why [
      | inl none ↦ let both : None ≡ Some m = sym (none.none k) ∙ is in absurd cc
      | inr cant ↦
          let same = some-same cant.metadata m (sym (cant.is k) ∙ is) in
          subst (λ (x : FileMetadata). OldFileCause x bytes e) same (refuses_no_old cant.metadata bytes known e k (cant.is k) cant.refused)
    ])
    refused

-- The failure that a device's error reports.
pub io_fails : (e : Fault) (P : Type 0) → OnIo {X = Unit {0}} (Err e) P → IsIo e → P
io_fails (Io x) P h io = h
io_fails _ P h io = absurd io

-- ---- one after the other

-- One of some sessions, those before it and those after it.
pub at_index : (sessions : List (Vec (List AnyArray) Global)) (i : ℕ) (x : Vec (List AnyArray) Global) → take (i + 1) sessions ≡ take i sessions ++ x ∷ [] → sessions ≡ take i sessions ++ x ∷ drop (i + 1) sessions
at_index sessions i x next =
    let rest = drop (i + 1) sessions in
    sym (take-append-drop (i + 1) sessions) ∙ ap (λ (xs : List (Vec (List AnyArray) Global)). xs ++ rest) next ∙ append_assoc (take i sessions) (x ∷ []) rest

pub in_turn_none : (bytes : List ℕ) → AddsInTurn 0 bytes bytes []
in_turn_none bytes = record {
  some = λ h. absurd (omega (arith, h));
  any = λ is_stream schema pairs before old. subst (λ (cs : List Chunk). IsOldFile is_stream bytes schema pairs cs) (sym (append-nil before)) old;
  ended = λ is_stream schema pairs before h. subst (λ (cs : List Chunk). IsEndedFile is_stream bytes schema pairs cs) (sym (append-nil before)) h;
}

pub in_turn_more : (n n' : ℕ) → n' ≡ n + 1 → (old mid new : List ℕ) (cs ds : List Chunk) → AddsInTurn n old mid cs → GainsChunks mid new ds → AddsInTurn n' old new (cs ++ ds)
in_turn_more n n' one old mid new cs ds f g =
    let next : (is_stream : Bool) (schema : Schema) (pairs : Pairs) (before : List Chunk) → IsOldFile is_stream mid schema pairs (before ++ cs) → IsEndedFile is_stream new schema pairs (before ++ (cs ++ ds)) =
    λ is_stream schema pairs before h. subst (λ (xs : List Chunk). IsEndedFile is_stream new schema pairs xs) (append_assoc before cs ds) (g is_stream schema pairs (before ++ cs) h) in
    record {
      some = λ h is_stream schema pairs before o. next is_stream schema pairs before (f.any is_stream schema pairs before o);
      any = λ is_stream schema pairs before o. inl (next is_stream schema pairs before (f.any is_stream schema pairs before o));
      ended = λ is_stream schema pairs before h. next is_stream schema pairs before (inl (f.ended is_stream schema pairs before h));
    }

-- ---- lists of sessions

module _ {W : Type 0} (d : Device W) where
  -- one session more
  pub sessions_more : (a m b : W) (cs : List (Vec (List AnyArray) Global)) (rs : List (Vec (Result (Unit {0}) Fault) Global)) (c : Vec (List AnyArray) Global) (r : Vec (Result (Unit {0}) Fault) Global) → AreSessions d a cs rs m
      → IsSessionOn d m c.items r.items (Ok tt) b → AreSessions d a (cs ++ c ∷ []) (rs ++ r ∷ []) b
  sessions_more a m b [] [] c r h last = (b, (subst (λ (y : W). IsSessionOn d y c.items r.items (Ok tt) b) h last, refl))
  sessions_more a m b [] (x ∷ rs) c r h last = absurd h
  sessions_more a m b (y ∷ cs) [] c r h last = absurd h
  sessions_more a m b (y ∷ cs) (x ∷ rs) c r h last = (h.0, (h.1.0, sessions_more h.0 m b cs rs c r h.1.1 last))

  -- They have the same device.
  pub sessions_named : (a b : W) (cs : List (Vec (List AnyArray) Global)) (rs : List (Vec (Result (Unit {0}) Fault) Global)) → AreSessions d a cs rs b → d.names b ≡ d.names a
  sessions_named a b [] [] h = ap d.names h
  sessions_named a b [] (x ∷ rs) h = absurd h
  sessions_named a b (y ∷ cs) [] h = absurd h
  sessions_named a b (y ∷ cs) (x ∷ rs) h = sessions_named h.0 b cs rs h.1.1 ∙ h.1.0.names
