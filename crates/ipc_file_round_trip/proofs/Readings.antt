-- What a file reader returned, from the first block on, is what the file means.
use Rattle.std.proofs.Common.{◌≡◌, ℕ, ◌+◌, ◌<◌, ◌≤◌, List, [], ◌∷◌, ◌++◌, map, length, drop, true, false, IsTrue, nat_le, Option, None, Some, Err, refl, sym, ap, ◌∙◌, subst, arith, inl, inr}
use Rattle.std.specs.Option.{option_map}
use Rattle.std.specs.Prelude.{slice_get, vec_len}
use Rattle.lower_arrays.specs.declared.array.AnyArray.{AnyArray}
use Rattle.ipc_devices.proofs.Claims.{claims_through}
use Rattle.ipc_base.specs.IdTrees.{all_ids_view}
use Rattle.ipc_devices.specs.Device.{Device}
use Rattle.ipc_devices.specs.Faults.{OwnFault}
use Rattle.ipc_devices.specs.declared.fault.Fault.{Fault}
use Rattle.ipc_table_views.specs.declared.file.Block.{Block}
use Rattle.ipc_model.specs.Batches.{Chunk, chosen, kinds}
use Rattle.ipc_model.specs.Entries.{Dictionaries, Limit}
use Rattle.ipc_model.specs.Files.{FileMetadata as Meaning, all_of, chunk_at, chunks_at, file_chunk, file_dictionaries}
use Rattle.ipc_model.specs.Kinds.{count}
use Rattle.ipc_model.specs.Schemas.{given as given_then}
use Rattle.ipc_read.proofs.Fields.{field_count}
use Rattle.ipc_files.specs.Footers.{file_seen}
use Rattle.ipc_files.specs.declared.read.file.metadata.FileMetadata.{FileMetadata}
use Rattle.ipc_file_readers.proofs.Rows.{rows_law}
use Rattle.ipc_file_readers.proofs.Runs.{items_law, over_law, told_once_law}
use Rattle.ipc_file_readers.specs.Readers.{Answer, IsUnread, asked_of, block_of, blocks_left, device_of, file_of, is_over, known_of, less, metadata_of, remaining_of}
use Rattle.ipc_file_readers.specs.Rows.{AreChunks, Mean}
use Rattle.ipc_file_readers.specs.Runs.{AreNone, Calls, HoldsDictionaries, IsToldOnce}
use Rattle.ipc_file_readers.specs.declared.read.reader.state.FileReader.{FileReader}
use Rattle.ipc_file_round_trip.proofs.Blocks.{all_items, as_many, block_of_each, some_items}
use Rattle.ipc_file_round_trip.proofs.Pushes.{calls_front}
use Rattle.ipc_file_round_trip.specs.Reading.{HasFirstRows, chunks_by, chunks_seen, dictionaries_for, file_chunks, rows_of}
use Rattle.ipc_file_round_trip.specs.Steps.{GivesThenFails, GivesAll, ReadBlocksCause, answers_of}

-- ---- no block is left

none_given : (xs : List (List AnyArray)) → AreNone (answers_of xs ++ None ∷ []) → xs ≡ []
none_given [] h = refl
none_given (x ∷ xs) h = let no = h.0 in absurd cc

pub none_broken : (xs : List (List AnyArray)) (e : Fault) → AreNone (answers_of xs ++ Some (Err e) ∷ []) → ⊥
none_broken [] e h = let no = h.0 in absurd cc
none_broken (x ∷ xs) e h = let no = h.0 in absurd cc

-- ---- an error is returned once

told_given : (P : Type 0) (xs : List (List AnyArray)) → IsToldOnce P (answers_of xs ++ None ∷ []) → ⊥
told_given P [] h = h
told_given P (x ∷ xs) h = h

told_broken : (P : Type 0) (xs : List (List AnyArray)) (e : Fault) → IsToldOnce P (answers_of xs ++ Some (Err e) ∷ []) → OwnFault e P
told_broken P [] e h = h.0
told_broken P (x ∷ xs) e h = absurd h

-- ---- a reader that has read nothing

-- Whether blocks are left after the first.
over_none : (n i : ℕ) → n ≡ 0 → nat_le n i ≡ true
over_none n i e = let l : n ≤ i = omega (arith, e) in search arith

more_some : (n i k : ℕ) → n ≡ 1 + k → i ≡ 0 → nat_le n i ≡ false
more_some n i k e f = let l : i < n = omega (arith, e, f) in search arith

are_chunks : (xs : List (List AnyArray)) → AreChunks (answers_of xs) (chunks_seen xs)
are_chunks [] = tt
are_chunks (x ∷ xs) = (refl, are_chunks xs)

-- There are as many chunks as blocks.
module _ (m : Meaning) (ds : Dictionaries) (source : List ℕ) (p : Option (List ℕ)) (bs : List Block) where
  long_behind : (c : Chunk) (o : Option (List Chunk)) (gs : List Chunk) → ((hs : List Chunk) → o ≡ Some hs → length hs ≡ length bs) → option_map (λ cs. c ∷ cs) o ≡ Some gs → length gs ≡ 1 + length bs
  long_behind c None gs rest e = absurd cc
  long_behind c (Some hs) gs rest e =
      let are : gs ≡ c ∷ hs = cc in
      let long = ap length are in
      let others = rest hs refl in
      omega (arith, long, others)

  long_first : (limit : Limit) (o : Option Chunk) (gs : List Chunk) → ((l : Limit) (hs : List Chunk) → chunks_by m ds source p l bs ≡ Some hs → length hs ≡ length bs)
      → given_then o (λ c. option_map (λ cs. c ∷ cs) (chunks_by m ds source p (less limit (rows_of c)) bs)) ≡ Some gs → length gs ≡ 1 + length bs
  long_first limit None gs rest e = absurd cc
  long_first limit (Some c) gs rest e = long_behind c (chunks_by m ds source p (less limit (rows_of c)) bs) gs (rest (less limit (rows_of c))) e

chunks_long : (m : Meaning) (ds : Dictionaries) (source : List ℕ) (p : Option (List ℕ)) (limit : Limit) (bs : List Block) (gs : List Chunk) → chunks_by m ds source p limit bs ≡ Some gs → length gs ≡ length bs
chunks_long m ds source p limit [] gs e = ap length (let same : gs ≡ [] = cc in same)
chunks_long m ds source p limit (b ∷ bs) gs e = long_first m ds source p bs limit (chunk_at m ds source b p limit) gs (λ l hs. chunks_long m ds source p l bs hs) e ∙ omega arith

long_in : (m : Meaning) (ds : Dictionaries) (source : List ℕ) (p : Option (List ℕ)) (limit : Limit) (bs : List Block) (cs gs : List Chunk) → file_dictionaries m source ≡ Some ds
    → map (λ b. chunk_at m ds source b None None) bs ≡ map Some cs → given_then (dictionaries_for bs m source) (λ es. chunks_by m es source p limit bs) ≡ Some gs → length gs ≡ length cs
long_in m ds source p limit [] cs gs file means e = let none : gs ≡ [] = cc in ap length none ∙ as_many m ds source [] cs means
long_in m ds source p limit (b ∷ bs) cs gs file means e =
    let there : chunks_by m ds source p limit (b ∷ bs) ≡ Some gs = sym (ap (λ (o : Option Dictionaries). given_then o (λ es. chunks_by m es source p limit (b ∷ bs))) file) ∙ e in
    chunks_long m ds source p limit (b ∷ bs) gs there ∙ as_many m ds source (b ∷ bs) cs means

module _ {R : Type 0} (d : Device R) (stays : IsTrue d.is_memory → IsTrue d.is_read_only) (a : FileReader R)
    (k : IsTrue d.is_memory) (unread : known_of a ≡ None) (first : block_of a ≡ 0) where
  abbrev source_of : List ℕ
  source_of = (d.memory (device_of a)).whole

  abbrev Run : List Answer → Type 0
  Run rs = Calls d a rs

  -- The answers if all chunks were returned, and if an error was.
  abbrev Whole : List (List AnyArray) → List Answer
  Whole xs = answers_of xs ++ None ∷ []

  abbrev Broken : List (List AnyArray) → Fault → List Answer
  Broken xs e = answers_of xs ++ Some (Err e) ∷ []

  abbrev In : List Block → Dictionaries → Option (List Chunk)
  In bs ds = chunks_by (file_of a) ds source_of (asked_of a) (remaining_of a) bs

  holds : (ds : Dictionaries) → file_dictionaries (file_of a) source_of ≡ Some ds → HoldsDictionaries (known_of a) (file_dictionaries (file_of a) source_of) ds
  holds ds e = subst (λ (o : Option Dictionaries). HoldsDictionaries o (file_dictionaries (file_of a) source_of) ds) (sym unread) e

  over : (file_of a).blocks ≡ [] → is_over a ≡ true
  over e = let none = ap length e in over_none (vec_len (metadata_of a).blocks) (block_of a) (omega (arith, none, (metadata_of a).blocks.ok))

  more : (b : Block) (bs : List Block) → (file_of a).blocks ≡ b ∷ bs → is_over a ≡ false
  more b bs e = let some = ap length e in more_some (vec_len (metadata_of a).blocks) (block_of a) (length bs) (omega (arith, some, (metadata_of a).blocks.ok)) first

  from_first : (bs : List Block) → (file_of a).blocks ≡ bs → drop (block_of a) (file_of a).blocks ≡ bs
  from_first bs e = ap (λ (i : ℕ). drop i (file_of a).blocks) first ∙ e

  left_is : (bs : List Block) → (file_of a).blocks ≡ bs → length bs ≡ blocks_left a
  left_is bs e = let long = ap length e in omega (arith, long, first, (metadata_of a).blocks.ok)

  -- All chunks were returned.
  given_by : (b : Block) (bs : List Block) (o : Option Dictionaries) (xs : List (List AnyArray)) → (file_of a).blocks ≡ b ∷ bs → file_dictionaries (file_of a) source_of ≡ o
      → Run (Whole xs) → given_then o (In (b ∷ bs)) ≡ Some (chunks_seen xs)
  given_by b bs None xs e file h = absurd (told_given (Unit {0}) xs (told_once_law d stays a (Whole xs) k (more b bs e) unread file h))
  given_by b bs (Some ds) xs e file h = elim (items_law d stays a (Whole xs) ds k (holds ds file) h) [
    | inl items ↦ all_items (file_of a) ds source_of (asked_of a) (b ∷ bs) (blocks_left a) (block_of a) (remaining_of a) xs (from_first (b ∷ bs) e) (left_is (b ∷ bs) e) items
    | inr told ↦ absurd (told_given ⊥ xs told)
  ]

  given_in : (bs : List Block) (xs : List (List AnyArray)) → (file_of a).blocks ≡ bs → Run (Whole xs)
      → given_then (dictionaries_for bs (file_of a) source_of) (In bs) ≡ Some (chunks_seen xs)
  given_in [] xs e h = let nothing = none_given xs (over_law d stays a (Whole xs) (over e) h) in ap (λ (ys : List (List AnyArray)). Some (chunks_seen ys)) (sym nothing)
  given_in (b ∷ bs) xs e h = given_by b bs _ xs e refl h

  pub all_chunks : (xs : List (List AnyArray)) → GivesAll d a xs → file_chunks (file_of a) source_of (asked_of a) (remaining_of a) ≡ Some (chunks_seen xs)
  all_chunks xs h = given_in (file_of a).blocks xs refl h.calls

  -- An error was returned.
  broken_by : (b : Block) (bs : List Block) (o : Option Dictionaries) (xs : List (List AnyArray)) (e : Fault) → (file_of a).blocks ≡ b ∷ bs → file_dictionaries (file_of a) source_of ≡ o
      → Run (Broken xs e) → OwnFault e (given_then o (In (b ∷ bs)) ≡ None)
  broken_by b bs None xs e at file h =
      claims_through e _ _ (λ _. refl) (told_broken (Unit {0}) xs e (told_once_law d stays a (Broken xs e) k (more b bs at) unread file h))
  broken_by b bs (Some ds) xs e at file h = elim (items_law d stays a (Broken xs e) ds k (holds ds file) h) [
    | inl items ↦ some_items (file_of a) ds source_of (asked_of a) (b ∷ bs) (blocks_left a) (block_of a) (remaining_of a) xs e (from_first (b ∷ bs) at) (left_is (b ∷ bs) at) items
    | inr told ↦ claims_through e ⊥ _ (λ no. absurd no) (told_broken ⊥ xs e told)
  ]

  broken_in : (bs : List Block) (xs : List (List AnyArray)) (e : Fault) → (file_of a).blocks ≡ bs → Run (Broken xs e)
      → OwnFault e (given_then (dictionaries_for bs (file_of a) source_of) (In bs) ≡ None)
  broken_in [] xs e at h = absurd (none_broken xs e (over_law d stays a (Broken xs e) (over at) h))
  broken_in (b ∷ bs) xs e at h = broken_by b bs _ xs e at refl h

  pub no_chunks : (e : Fault) → GivesThenFails d a e → OwnFault e (file_chunks (file_of a) source_of (asked_of a) (remaining_of a) ≡ None)
  no_chunks e h = broken_in (file_of a).blocks h.chunks e refl h.calls

  -- ---- the rows

  from_i : (i : ℕ) → block_of a + i ≡ i
  from_i i = omega (arith, first)

  -- A chunk was returned for each that the file has.
  as_long : (ds : Dictionaries) (cs : List Chunk) (xs : List (List AnyArray)) → file_dictionaries (file_of a) source_of ≡ Some ds
      → chunks_at (file_of a) ds (all_of source_of) None None (file_of a).blocks ≡ map Some cs → GivesAll d a xs → length (chunks_seen xs) ≡ length cs
  as_long ds cs xs file means h = long_in (file_of a) ds source_of (asked_of a) (remaining_of a) (file_of a).blocks cs (chunks_seen xs) file means (all_chunks xs h)

  pub all_rows : (xs : List (List AnyArray)) → GivesAll d a xs → HasFirstRows (file_of a) source_of (asked_of a) (remaining_of a) (chunks_seen xs)
  all_rows xs h = record {
    rows = λ ds cs file means q j at.
        let m = metadata_of a in
        let many : count (kinds (file_of a).schema) ≡ length m.schema.fields.items = field_count m.schema.fields.items (all_ids_view m.ipc_schema.fields.items) in
        let column : slice_get (chosen (asked_of a) (length m.schema.fields.items)) q ≡ Some j = ap (λ (n : ℕ). slice_get (chosen (asked_of a) n) q) (sym many) ∙ at in
        let each : Mean (file_of a) ds source_of (block_of a) cs = record {
          each = λ i c here. ap (file_chunk (file_of a) ds source_of None None) (from_i i) ∙ block_of_each (file_of a) ds source_of (file_of a).blocks cs i c means here;
        } in
        rows_law d stays a (answers_of xs) ds cs (chunks_seen xs) k (holds ds file) (calls_front d (answers_of xs) (None ∷ []) a h.calls) each
        (are_chunks xs) (as_long ds cs xs file means h) q j column;
  }

-- ---- by what was requested

pub moved : (P : Meaning → List ℕ → Option (List ℕ) → Limit → Type 0) (m n : Meaning) (xs ys : List ℕ) (p q : Option (List ℕ)) (l k : Limit) → m ≡ n → xs ≡ ys → p ≡ q → l ≡ k → P m xs p l → P n ys q k
moved P m n xs ys p q l k e f g h x =
    subst (λ (v : Meaning). P v ys q k) e (subst (λ (v : List ℕ). P m v q k) f (subst (λ (v : Option (List ℕ)). P m xs v k) g (subst (λ (v : Limit). P m xs p v) h x)))

module _ {R : Type 0} (d : Device R) (stays : IsTrue d.is_memory → IsTrue d.is_read_only) (k : IsTrue d.is_memory) (a : FileReader R) (device : R)
    (m : FileMetadata) (p : Option (List ℕ)) (limit : Limit) (source : List ℕ) (begins : IsUnread device m p limit a) (whole : (d.memory device).whole ≡ source) where
  to_source : (d.memory (device_of a)).whole ≡ source
  to_source = ap (λ (x : R). (d.memory x).whole) begins.device ∙ whole

  pub as_asked : (P : Meaning → List ℕ → Option (List ℕ) → Limit → Type 0) → P (file_of a) (d.memory (device_of a)).whole (asked_of a) (remaining_of a) → P (file_seen m) source p limit
  as_asked P = moved P (file_of a) (file_seen m) (d.memory (device_of a)).whole source (asked_of a) p (remaining_of a) limit (ap file_seen begins.described) to_source begins.asked_for begins.remaining

  pub chunks_read : (xs : List (List AnyArray)) → GivesAll d a xs → file_chunks (file_seen m) source p limit ≡ Some (chunks_seen xs)
  chunks_read xs h =
      as_asked (λ n s q l. file_chunks n s q l ≡ Some (chunks_seen xs)) (all_chunks d stays a k begins.unread begins.block xs h)

  pub rows_read : (xs : List (List AnyArray)) → GivesAll d a xs → HasFirstRows (file_seen m) source p limit (chunks_seen xs)
  rows_read xs h = as_asked (λ n s q l. HasFirstRows n s q l (chunks_seen xs)) (all_rows d stays a k begins.unread begins.block xs h)

  pub chunks_refused : (e : Fault) → ReadBlocksCause d a e → OwnFault e (file_chunks (file_seen m) source p limit ≡ None)
  chunks_refused e h = elim h [
    | inl is ↦ subst (λ (x : Fault). OwnFault x (file_chunks (file_seen m) source p limit ≡ None)) (sym is) tt
    | inr off ↦ as_asked (λ n s q l. OwnFault e (file_chunks n s q l ≡ None)) (no_chunks d stays a k begins.unread begins.block e off)
  ]
