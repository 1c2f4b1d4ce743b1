-- Why a file reader returned no more, after the chunks that it returned.
use Rattle.std.proofs.Common.{◌≡◌, ℕ, suc, ◌+◌, ◌-◌, ◌<◌, ◌≤◌, List, [], ◌∷◌, ◌++◌, length, drop, Bool, true, false, IsTrue, nat_le, Option, None, Some, MatchOption, Ok, Err, refl, sym, ap, ◌∙◌, subst, arith, inl, inr, length-drop}
use Rattle.std.specs.Prelude.{slice_get, vec_len}
use Rattle.lower_arrays.specs.declared.array.AnyArray.{AnyArray}
use Rattle.ipc_devices.proofs.Claims.{claims_own, claims_through}
use Rattle.ipc_base.specs.IdTrees.{all_ids_view}
use Rattle.ipc_devices.specs.Device.{Device}
use Rattle.ipc_devices.specs.Faults.{OwnFault}
use Rattle.ipc_devices.specs.declared.fault.Fault.{Fault}
use Rattle.ipc_table_views.specs.declared.file.Block.{Block}
use Rattle.ipc_model.specs.Batches.{Chunk, chosen, kinds}
use Rattle.ipc_model.specs.Entries.{Dictionaries, Limit}
use Rattle.ipc_model.specs.Files.{FileMetadata as Meaning, chunk_at, file_dictionaries}
use Rattle.ipc_model.specs.Kinds.{count}
use Rattle.ipc_stream_lemmas.specs.Agreement.{AreAlike, KnowAlike}
use Rattle.ipc_read.proofs.Fields.{field_count}
use Rattle.ipc_read.specs.Chunks.{chunk_seen}
use Rattle.ipc_files.specs.Batches.{RecordReason}
use Rattle.ipc_files.specs.Dictionaries.{DictionariesReason}
use Rattle.ipc_files.specs.Footers.{file_seen}
use Rattle.ipc_files.specs.declared.read.file.metadata.FileMetadata.{FileMetadata}
use Rattle.ipc_file_readers.proofs.Runs.{held_before, over_law, read_now}
use Rattle.ipc_file_readers.specs.Readers.{Answer, AreKnown, IsUnread, NextStep, WasNext, asked_of, block_of, columns_asked, device_of, file_of, is_over, known_of, less, metadata_of, remaining_of}
use Rattle.ipc_file_readers.specs.Runs.{Calls}
use Rattle.ipc_file_readers.specs.declared.read.reader.state.FileReader.{FileReader}
use Rattle.ipc_file_round_trip.proofs.Blocks.{at_front, found_at, rows_seen, then_next}
use Rattle.ipc_file_round_trip.proofs.Readings.{as_asked, moved, none_broken}
use Rattle.ipc_file_round_trip.specs.Reading.{BlocksCause, FileChunksCause, dictionaries_for, rows_of}
use Rattle.ipc_file_round_trip.specs.Steps.{GivesThenFails, ReadBlocksCause, answers_of}

-- whether blocks are left, of so many
left_over : (n i k : ℕ) → n - i ≡ suc k → nat_le n i ≡ false
left_over n i k e = let l : i < n = omega (arith, e) in search arith

none_over : (n i : ℕ) → n - i ≡ 0 → nat_le n i ≡ true
none_over n i e = let l : n ≤ i = omega (arith, e) in search arith

-- dictionaries that have no meaning aren't known
never_known : (known : Bool) (o file : Option Dictionaries) (d : Dictionaries) → IsTrue known → o ≡ None → file ≡ None → AreKnown known o file d → ⊥
never_known known None file d k e f h = subst (λ (x : Option Dictionaries). AreAlike x (Some d)) f (h k)
never_known known (Some x) file d k e f h = absurd cc

-- ---- the block at the front

module _ (m : Meaning) (ds : Dictionaries) (source : List ℕ) (p : Option (List ℕ)) (limit : Limit) (b : Block) (bs : List Block) (e : Fault) where
  abbrev By : Option Chunk → Type 0
  By o =
      MatchOption o (RecordReason m (chosen p (count (kinds m.schema))) source (Some b) e)
      (λ c. BlocksCause m ds source p (less limit (rows_of c)) bs e)

  none_here : chunk_at m ds source b p limit ≡ None → RecordReason m (chosen p (count (kinds m.schema))) source (Some b) e → BlocksCause m ds source p limit (b ∷ bs) e
  none_here none why = subst By (sym none) why

  one_here : (c : Chunk) → chunk_at m ds source b p limit ≡ Some c → BlocksCause m ds source p (less limit (rows_of c)) bs e → BlocksCause m ds source p limit (b ∷ bs) e
  one_here c here why = subst By (sym here) why

module _ {R : Type 0} (d : Device R) (stays : IsTrue d.is_memory → IsTrue d.is_read_only) (k : IsTrue d.is_memory) (e : Fault) where
  abbrev whole_of : FileReader R → List ℕ
  whole_of a = (d.memory (device_of a)).whole

  abbrev Run : FileReader R → List Answer → Type 0
  Run a rs = Calls d a rs

  abbrev Broken : List (List AnyArray) → List Answer
  Broken xs = answers_of xs ++ Some (Err e) ∷ []

  abbrev Because : FileReader R → Dictionaries → List Block → Type 0
  Because a ds bs = OwnFault e (BlocksCause (file_of a) ds (whole_of a) (asked_of a) (remaining_of a) bs e)

  more : (a : FileReader R) (b : Block) (bs : List Block) → drop (block_of a) (file_of a).blocks ≡ b ∷ bs → is_over a ≡ false
  more a b bs at =
      let long = ap length at in
      left_over (vec_len (metadata_of a).blocks) (block_of a) (length bs) (omega (arith, long, length-drop (block_of a) (file_of a).blocks, (metadata_of a).blocks.ok))

  over : (a : FileReader R) → drop (block_of a) (file_of a).blocks ≡ [] → is_over a ≡ true
  over a at =
      let long = ap length at in
      none_over (vec_len (metadata_of a).blocks) (block_of a) (omega (arith, long, length-drop (block_of a) (file_of a).blocks, (metadata_of a).blocks.ok))

  why_here : (a : FileReader R) (b : Block) → slice_get (file_of a).blocks (block_of a) ≡ Some b
      → RecordReason (file_of a) (columns_asked (metadata_of a) (asked_of a)) (whole_of a) (slice_get (file_of a).blocks (block_of a)) e
      → RecordReason (file_of a) (chosen (asked_of a) (count (kinds (file_of a).schema))) (whole_of a) (Some b) e
  why_here a b at why =
      let m = metadata_of a in
      subst (λ (n : ℕ). RecordReason (file_of a) (chosen (asked_of a) n) (whole_of a) (Some b) e) (sym (field_count m.schema.fields.items (all_ids_view m.ipc_schema.fields.items)))
      (subst (λ (o : Option Block). RecordReason (file_of a) (columns_asked m (asked_of a)) (whole_of a) o e) at why)

  -- The block was refused.
  refused_here : (a next : FileReader R) (b : Block) (bs : List Block) (ds : Dictionaries) → slice_get (file_of a).blocks (block_of a) ≡ Some b → (w : WasNext d a (Err e) next)
      → KnowAlike w.dictionaries ds → Because a ds (b ∷ bs)
  refused_here a next b bs ds at w alike =
      let Q = BlocksCause (file_of a) ds (whole_of a) (asked_of a) (remaining_of a) (b ∷ bs) e in
      claims_own e _ Q
      (λ none. claims_through e _ Q
      (λ why. none_here (file_of a) ds (whole_of a) (asked_of a) (remaining_of a) b bs e
      (found_at (file_of a) ds (whole_of a) (asked_of a) (block_of a) b (remaining_of a) None at none) (why_here a b at why))
      (w.reason k))
      (w.meaning k ds alike)

  -- The block's chunk was returned, and a later block was refused.
  refused_behind : (a next : FileReader R) (x : List AnyArray) (b : Block) (bs : List Block) (ds : Dictionaries) → slice_get (file_of a).blocks (block_of a) ≡ Some b
      → (w : WasNext d a (Ok x) next) → KnowAlike w.dictionaries ds → NextStep d a (Some (Ok x)) next → Because next ds bs → Because a ds (b ∷ bs)
  refused_behind a next x b bs ds at w alike step rest =
      let here = found_at (file_of a) ds (whole_of a) (asked_of a) (block_of a) b (remaining_of a) (Some (chunk_seen x)) at (w.meaning k ds alike) in
      let left : remaining_of next ≡ less (remaining_of a) (rows_of (chunk_seen x)) = w.remaining ∙ ap (less (remaining_of a)) (rows_seen x) in
      let then =
      moved (λ n s q l. OwnFault e (BlocksCause n ds s q l bs e)) (file_of next) (file_of a) (whole_of next) (whole_of a) (asked_of next) (asked_of a) (remaining_of next) (less (remaining_of a) (rows_of (chunk_seen x)))
      (ap file_seen step.state.file.described) (step.device.whole (stays k)) step.state.file.asked left rest in
      claims_through e _ _ (one_here (file_of a) ds (whole_of a) (asked_of a) (remaining_of a) b bs e (chunk_seen x) here) then

  -- The blocks after it are the next ones.
  next_at : (a next : FileReader R) (x : List AnyArray) (b : Block) (bs : List Block) → drop (block_of a) (file_of a).blocks ≡ b ∷ bs → WasNext d a (Ok x) next
      → NextStep d a (Some (Ok x)) next → drop (block_of next) (file_of next).blocks ≡ bs
  next_at a next x b bs at w step =
      ap (λ (i : ℕ). drop i (file_of next).blocks) w.block
      ∙ ap (λ (m : FileMetadata). drop (block_of a + 1) (file_seen m).blocks) step.state.file.described
      ∙ then_next (file_of a).blocks (block_of a) bs (at_front (file_of a).blocks (block_of a) b bs at).1

  -- ---- one call after the other

  same_known : (a : FileReader R) (es ds y : Dictionaries) → known_of a ≡ Some es → KnowAlike es ds → AreKnown d.is_memory (known_of a) (file_dictionaries (file_of a) (whole_of a)) y → KnowAlike y ds
  same_known a es ds y held alike are = subst (λ (x : Dictionaries). KnowAlike x ds) (held_before d.is_memory (known_of a) _ es y held are) alike

  known_reason : (xs : List (List AnyArray)) (bs : List Block) (a : FileReader R) (es ds : Dictionaries) → known_of a ≡ Some es → KnowAlike es ds → drop (block_of a) (file_of a).blocks ≡ bs
      → Run a (Broken xs) → Because a ds bs
  known_reason xs [] a es ds held alike at h = absurd (none_broken xs e (over_law d stays a (Broken xs) (over a at) h))
  known_reason [] (b ∷ bs) a es ds held alike at h = elim (h.1.next (more a b bs at)) [
    | inl w ↦ (let no : Some es ≡ None = sym held ∙ w.unread in absurd cc)
    | inr w ↦ refused_here a h.0 b bs ds (at_front (file_of a).blocks (block_of a) b bs at).0 w (same_known a es ds w.dictionaries held alike w.are)
  ]
  known_reason (x ∷ xs) (b ∷ bs) a es ds held alike at h =
      let w = h.1.next (more a b bs at) in
      let both = same_known a es ds w.dictionaries held alike w.are in
      refused_behind a h.0 x b bs ds (at_front (file_of a).blocks (block_of a) b bs at).0 w both h.1
      (known_reason xs bs h.0 w.dictionaries ds w.held both (next_at a h.0 x b bs at w h.1) h.2)

  -- the first call reads the dictionaries
  abbrev FirstBecause : FileReader R → Option Dictionaries → List Block → Type 0
  FirstBecause a o bs =
      OwnFault e (MatchOption o (DictionariesReason (file_of a) (whole_of a) [] (file_of a).dictionaries e)
      (λ ds. BlocksCause (file_of a) ds (whole_of a) (asked_of a) (remaining_of a) bs e))

  first_reason : (xs : List (List AnyArray)) (b : Block) (bs : List Block) (a : FileReader R) (o : Option Dictionaries) → known_of a ≡ None → drop (block_of a) (file_of a).blocks ≡ b ∷ bs
      → file_dictionaries (file_of a) (whole_of a) ≡ o → Run a (Broken xs) → FirstBecause a o (b ∷ bs)
  first_reason [] b bs a None unread at file h = elim (h.1.next (more a b bs at)) [
    | inl w ↦ w.reason k
    | inr w ↦ absurd (never_known d.is_memory (known_of a) _ w.dictionaries k unread file w.are)
  ]
  first_reason (x ∷ xs) b bs a None unread at file h = let w = h.1.next (more a b bs at) in absurd (never_known d.is_memory (known_of a) _ w.dictionaries k unread file w.are)
  first_reason [] b bs a (Some ds) unread at file h = elim (h.1.next (more a b bs at)) [
    | inl w ↦ claims_through e _ _ (λ none. let no : Some ds ≡ None = sym file ∙ none in absurd cc) (w.meaning k)
    | inr w ↦ refused_here a h.0 b bs ds (at_front (file_of a).blocks (block_of a) b bs at).0 w (read_now d.is_memory (known_of a) _ ds w.dictionaries k unread file w.are)
  ]
  first_reason (x ∷ xs) b bs a (Some ds) unread at file h =
      let w = h.1.next (more a b bs at) in
      let both = read_now d.is_memory (known_of a) _ ds w.dictionaries k unread file w.are in
      refused_behind a h.0 x b bs ds (at_front (file_of a).blocks (block_of a) b bs at).0 w both h.1
      (known_reason xs bs h.0 w.dictionaries ds w.held both (next_at a h.0 x b bs at w h.1) h.2)

  reason_in : (bs : List Block) (xs : List (List AnyArray)) (a : FileReader R) → known_of a ≡ None → drop (block_of a) (file_of a).blocks ≡ bs → Run a (Broken xs)
      → FirstBecause a (dictionaries_for bs (file_of a) (whole_of a)) bs
  reason_in [] xs a unread at h = absurd (none_broken xs e (over_law d stays a (Broken xs) (over a at) h))
  reason_in (b ∷ bs) xs a unread at h = first_reason xs b bs a _ unread at refl h

  pub broken_reason : (a : FileReader R) → known_of a ≡ None → block_of a ≡ 0 → GivesThenFails d a e
      → OwnFault e (FileChunksCause (file_of a) (whole_of a) (asked_of a) (remaining_of a) e)
  broken_reason a unread first off = reason_in (file_of a).blocks off.chunks a unread (ap (λ (i : ℕ). drop i (file_of a).blocks) first) off.calls

-- ---- by what was requested

module _ {R : Type 0} (d : Device R) (stays : IsTrue d.is_memory → IsTrue d.is_read_only) (k : IsTrue d.is_memory) (a : FileReader R) (device : R)
    (m : FileMetadata) (p : Option (List ℕ)) (limit : Limit) (source : List ℕ) (begins : IsUnread device m p limit a) (whole : (d.memory device).whole ≡ source) where
  pub all_reason : (e : Fault) → ReadBlocksCause d a e → OwnFault e (FileChunksCause (file_seen m) source p limit e)
  all_reason e h = elim h [
    | inl is ↦ subst (λ (x : Fault). OwnFault x (FileChunksCause (file_seen m) source p limit x)) (sym is) tt
    | inr off ↦
        as_asked d stays k a device m p limit source begins whole (λ n s q l. OwnFault e (FileChunksCause n s q l e))
        (broken_reason d stays k e a begins.unread begins.block off)
  ]
