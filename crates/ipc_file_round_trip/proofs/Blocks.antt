-- The chunks of the blocks of a file, one after the other.
use Rattle.std.proofs.Common.{◌≡◌, ℕ, zero, suc, ◌+◌, List, [], ◌∷◌, ◌++◌, map, length, drop, Option, None, Some, Ok, Err, refl, sym, ap, ◌∙◌, arith}
use Rattle.std.specs.Option.{option_and_then, option_map}
use Rattle.std.specs.Prelude.{slice_get}
use Rattle.std.proofs.Math.Numerals.{add-one}
use Rattle.lower_arrays.specs.AnyLayouts.{layout_of}
use Rattle.lower_arrays.specs.Layouts.{len_of}
use Rattle.lower_arrays.specs.declared.array.AnyArray.{AnyArray}
use Rattle.ipc_devices.proofs.Claims.{claims_through}
use Rattle.ipc_devices.specs.Faults.{OwnFault}
use Rattle.ipc_devices.specs.declared.fault.Fault.{Fault}
use Rattle.ipc_table_views.specs.declared.file.Block.{Block}
use Rattle.ipc_model.specs.BatchLaws.{pruned}
use Rattle.ipc_model.specs.Batches.{Chunk, IsProjection, kinds}
use Rattle.ipc_model.specs.Entries.{Dictionaries, Limit}
use Rattle.ipc_model.specs.Files.{FileMetadata as Meaning, chunk_at}
use Rattle.ipc_model.specs.Kinds.{count}
use Rattle.ipc_model.specs.Schemas.{given}
use Rattle.ipc_read.specs.Chunks.{chunk_seen}
use Rattle.ipc_read.proofs.Meanings.{length-slots_from}
use Rattle.ipc_file_readers.proofs.Rows.{block_pruned}
use Rattle.ipc_file_readers.specs.Readers.{less, rows_given}
use Rattle.ipc_file_readers.specs.Runs.{AreItems}
use Rattle.ipc_file_round_trip.specs.Reading.{all_pruned, chunks_by, chunks_seen, rows_of}
use Rattle.ipc_file_round_trip.specs.Steps.{answers_of}

-- ---- lists

-- The first element of what is left of a list.
pub at_front : {X : Type 0} (xs : List X) (i : ℕ) (x : X) (rest : List X) → drop i xs ≡ x ∷ rest → (slice_get xs i ≡ Some x) × (drop (suc i) xs ≡ rest)
at_front [] zero x rest e = absurd cc
at_front [] (suc i) x rest e = absurd cc
at_front (y ∷ ys) zero x rest e = (let same : y ≡ x = cc in ap Some same, let others : ys ≡ rest = cc in others)
at_front (y ∷ ys) (suc i) x rest e = at_front ys i x rest e

pub then_next : {X : Type 0} (xs : List X) (i : ℕ) (rest : List X) → drop (suc i) xs ≡ rest → drop (i + 1) xs ≡ rest
then_next xs i rest e = rw add-one e

-- A chunk has as many rows as the call returned.
pub rows_seen : (xs : List AnyArray) → rows_given (Ok xs) ≡ rows_of (chunk_seen xs)
rows_seen [] = refl
rows_seen (x ∷ xs) = sym (length-slots_from _ 0 (len_of (layout_of x)))

-- ---- what is returned for each block

module _ (m : Meaning) (ds : Dictionaries) (source : List ℕ) (p : Option (List ℕ)) where
  abbrev By : Limit → List Block → Option (List Chunk)
  By limit bs = chunks_by m ds source p limit bs

  -- A block, and those after it.
  abbrev Behind : Limit → List Block → Chunk → Option (List Chunk)
  Behind limit bs c = option_map (λ cs. c ∷ cs) (By (less limit (rows_of c)) bs)

  pub found_at : (i : ℕ) (b : Block) (limit : Limit) (o : Option Chunk) → slice_get m.blocks i ≡ Some b
      → option_and_then (λ c. chunk_at m ds source c p limit) (slice_get m.blocks i) ≡ o → chunk_at m ds source b p limit ≡ o
  found_at i b limit o at e = sym (ap (option_and_then (λ c. chunk_at m ds source c p limit)) at) ∙ e

  first_then : (b : Block) (bs : List Block) (limit : Limit) (c : Chunk) (o : Option (List Chunk)) → chunk_at m ds source b p limit ≡ Some c → By (less limit (rows_of c)) bs ≡ o
      → By limit (b ∷ bs) ≡ option_map (λ cs. c ∷ cs) o
  first_then b bs limit c o here rest = ap (λ (x : Option Chunk). given x (Behind limit bs)) here ∙ ap (option_map (λ cs. c ∷ cs)) rest

  none_first : (b : Block) (bs : List Block) (limit : Limit) → chunk_at m ds source b p limit ≡ None → By limit (b ∷ bs) ≡ None
  none_first b bs limit none = ap (λ (x : Option Chunk). given x (Behind limit bs)) none

  -- the rows that are left
  left_then : (bs : List Block) (limit : Limit) (xs : List AnyArray) (o : Option (List Chunk)) → By (less limit (rows_given (Ok xs))) bs ≡ o → By (less limit (rows_of (chunk_seen xs))) bs ≡ o
  left_then bs limit xs o e = ap (λ (n : ℕ). By (less limit n) bs) (sym (rows_seen xs)) ∙ e

  -- A chunk was returned for each block, and then None.
  pub all_items : (bs : List Block) (n i : ℕ) (limit : Limit) (xs : List (List AnyArray)) → drop i m.blocks ≡ bs → length bs ≡ n
      → AreItems m ds source p limit i n (answers_of xs ++ None ∷ []) → By limit bs ≡ Some (chunks_seen xs)
  all_items [] zero i limit [] at long items = refl
  all_items [] zero i limit (x ∷ xs) at long items = let no = items.0 in absurd cc
  all_items [] (suc n) i limit xs at long items = absurd (omega (arith, long))
  all_items (b ∷ bs) zero i limit xs at long items = absurd (omega (arith, long))
  all_items (b ∷ bs) (suc n) i limit [] at long items = absurd items
  all_items (b ∷ bs) (suc n) i limit (x ∷ xs) at long items =
      let front = at_front m.blocks i b bs at in
      let rest = all_items bs n (i + 1) (less limit (rows_given (Ok x))) xs (then_next m.blocks i bs front.1) (omega (arith, long)) items.1 in
      first_then b bs limit (chunk_seen x) (Some (chunks_seen xs)) (found_at i b limit (Some (chunk_seen x)) front.0 items.0) (left_then bs limit x (Some (chunks_seen xs)) rest)

  -- A chunk was returned for some blocks, and then an error.
  pub some_items : (bs : List Block) (n i : ℕ) (limit : Limit) (xs : List (List AnyArray)) (e : Fault) → drop i m.blocks ≡ bs → length bs ≡ n
      → AreItems m ds source p limit i n (answers_of xs ++ Some (Err e) ∷ []) → OwnFault e (By limit bs ≡ None)
  some_items [] zero i limit [] e at long items = let no = items.0 in absurd cc
  some_items [] zero i limit (x ∷ xs) e at long items = let no = items.0 in absurd cc
  some_items [] (suc n) i limit xs e at long items = absurd (omega (arith, long))
  some_items (b ∷ bs) zero i limit xs e at long items = absurd (omega (arith, long))
  some_items (b ∷ bs) (suc n) i limit [] e at long items =
      let front = at_front m.blocks i b bs at in
      claims_through e _ _ (λ none. none_first b bs limit (found_at i b limit None front.0 none)) items.0
  some_items (b ∷ bs) (suc n) i limit (x ∷ xs) e at long items =
      let front = at_front m.blocks i b bs at in
      let rest = some_items bs n (i + 1) (less limit (rows_given (Ok x))) xs e (then_next m.blocks i bs front.1) (omega (arith, long)) items.1 in
      claims_through e _ _ (λ none.
      first_then b bs limit (chunk_seen x) None (found_at i b limit (Some (chunk_seen x)) front.0 items.0) (left_then bs limit x None none)) rest

-- ---- blocks that have a meaning

module _ (m : Meaning) (ds : Dictionaries) (source : List ℕ) where
  -- The chunks as a whole.
  pub whole_blocks : (bs : List Block) (cs : List Chunk) → map (λ b. chunk_at m ds source b None None) bs ≡ map Some cs → chunks_by m ds source None None bs ≡ Some cs
  whole_blocks [] [] e = refl
  whole_blocks [] (c ∷ cs) e = absurd cc
  whole_blocks (b ∷ bs) [] e = absurd cc
  whole_blocks (b ∷ bs) (c ∷ cs) e =
      let here : chunk_at m ds source b None None ≡ Some c = cc in
      let rest : map (λ b. chunk_at m ds source b None None) bs ≡ map Some cs = cc in
      first_then m ds source None b bs None c (Some cs) here (whole_blocks bs cs rest)

  -- the chunk of block i
  pub block_of_each : (bs : List Block) (cs : List Chunk) (i : ℕ) (c : Chunk) → map (λ b. chunk_at m ds source b None None) bs ≡ map Some cs → slice_get cs i ≡ Some c
      → option_and_then (λ b. chunk_at m ds source b None None) (slice_get bs i) ≡ Some c
  block_of_each [] [] i c e at = absurd cc
  block_of_each [] (d ∷ cs) i c e at = absurd cc
  block_of_each (b ∷ bs) [] i c e at = absurd cc
  block_of_each (b ∷ bs) (d ∷ cs) zero c e at = let here : chunk_at m ds source b None None ≡ Some d = cc in here ∙ at
  block_of_each (b ∷ bs) (d ∷ cs) (suc i) c e at = let rest : map (λ b. chunk_at m ds source b None None) bs ≡ map Some cs = cc in block_of_each bs cs i c rest at

-- there are as many chunks as blocks
pub as_many : (m : Meaning) (ds : Dictionaries) (source : List ℕ) (bs : List Block) (cs : List Chunk) → map (λ b. chunk_at m ds source b None None) bs ≡ map Some cs → length bs ≡ length cs
as_many m ds source [] [] e = refl
as_many m ds source [] (c ∷ cs) e = absurd cc
as_many m ds source (b ∷ bs) [] e = absurd cc
as_many m ds source (b ∷ bs) (c ∷ cs) e = let rest : map (λ b. chunk_at m ds source b None None) bs ≡ map Some cs = cc in ap suc (as_many m ds source bs cs rest)

-- ---- by columns and a limit

module _ (m : Meaning) (ds : Dictionaries) (source : List ℕ) (p : Option (List ℕ)) (is : IsProjection p (count (kinds m.schema))) where
  pub pruned_blocks : (bs : List Block) (cs : List Chunk) (limit : Limit) → map (λ b. chunk_at m ds source b None None) bs ≡ map Some cs → chunks_by m ds source p limit bs ≡ Some (all_pruned p limit cs)
  pruned_blocks [] [] limit e = refl
  pruned_blocks [] (c ∷ cs) limit e = absurd cc
  pruned_blocks (b ∷ bs) [] limit e = absurd cc
  pruned_blocks (b ∷ bs) (c ∷ cs) limit e =
      let here : chunk_at m ds source b None None ≡ Some c = cc in
      let rest : map (λ b. chunk_at m ds source b None None) bs ≡ map Some cs = cc in
      let d = pruned p limit c in
      first_then m ds source p b bs limit d (Some (all_pruned p (less limit (rows_of d)) cs)) (block_pruned m ds source p is limit c b here) (pruned_blocks bs cs (less limit (rows_of d)) rest)
