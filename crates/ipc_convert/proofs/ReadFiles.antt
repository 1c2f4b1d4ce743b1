-- The chunks of a file that are read, block by block, are those of the file.
use Rattle.std.proofs.Common.{◌≡◌, ℕ, ◌+◌, ◌<◌, ◌≤◌, List, [], ◌∷◌, ◌++◌, length, map, take, None, Some, Option, Ok, Err, Bool, true, false, IsTrue, inl, inr, refl, sym, ap, subst, ◌∙◌, take_all, get_or, arith}
use Rattle.std.specs.Prelude.{◌⊎◌, IsSome, pos, slice_get, vec_len}
use Rattle.std.specs.Option.{option_and_then}
use Rattle.std.proofs.lemmas.List.{map-append, take_more}
use Rattle.std.proofs.lemmas.Option.{slice_get-get_or, slice_get_cases}
use Rattle.ipc_devices.specs.Faults.{OwnFault}
use Rattle.ipc_devices.specs.declared.fault.Fault.{Fault}
use Rattle.ipc_base.specs.IdTrees.{all_ids_view}
use Rattle.lower_arrays.specs.declared.array.AnyArray.{AnyArray}
use Rattle.ipc_stream_lemmas.specs.Agreement.{AreAlike, KnowAlike}
use Rattle.ipc_model.specs.Batches.{Chunk, chosen, kinds}
use Rattle.ipc_model.specs.Entries.{Dictionaries, Limit}
use Rattle.ipc_model.specs.Files.{FileMetadata, all_of, chunk_at, chunks_at, file_chunk, file_dictionaries, metadata_of as metadata_in}
use Rattle.ipc_model.specs.Kinds.{count}
use Rattle.ipc_table_views.specs.declared.file.Block.{Block}
use Rattle.ipc_read.proofs.Fields.{field_count}
use Rattle.ipc_read.specs.Chunks.{chunk_seen}
use Rattle.ipc_files.specs.Batches.{RecordReason}
use Rattle.ipc_files.specs.Footers.{file_seen}
use Rattle.ipc_file_readers.specs.Readers.{Answer, AreKnown, IsUnread, NextStep, WasNext, WereRefused, asked_of, block_of, file_of, is_over, known_of, less, metadata_of, remaining_of, rows_given}
use Rattle.ipc_files.specs.declared.read.file.metadata.FileMetadata as files
use Rattle.ipc_file_readers.specs.declared.read.reader.state.FileReader.{FileReader}
use Rattle.ipc_convert.proofs.Own.{own}
use Rattle.ipc_convert.specs.Copies.{CopiesFile, HasBlockChunks}
use Rattle.ipc_convert.specs.Refusals.{AreFirstBlocks}
use Rattle.ipc_convert.specs.Sources.{AreOfFile, NextOfFileCause, FileCame, FirstAre, GaveBlocks, FileChunkCause, FilePartCause, ReadsWhole, bytes_of}
use Rattle.ipc_devices.specs.Device.{Device}

-- ---- one block

at_block : (m : FileMetadata) (known : Dictionaries) (bytes : List ℕ) (i : ℕ) (d : Block) (c : Chunk) → i < length m.blocks → file_chunk m known bytes None None i ≡ Some c
    → chunk_at m known bytes (get_or m.blocks i d) None None ≡ Some c
at_block m known bytes i d c within read = sym (ap (λ (o : Option Block). option_and_then (λ b. chunk_at m known bytes b None None) o) (slice_get-get_or m.blocks i d within)) ∙ read

next_block : (m : FileMetadata) (known : Dictionaries) (bytes : List ℕ) (i : ℕ) (d : Block) (c : Chunk) (cs : List Chunk) → i < length m.blocks
    → FirstAre m known bytes i cs → file_chunk m known bytes None None i ≡ Some c → FirstAre m known bytes (i + 1) (cs ++ c ∷ [])
next_block m known bytes i d c cs within first read =
    ap (λ (bs : List Block). chunks_at m known (all_of bytes) None None bs) (take_more m.blocks i d within)
    ∙ map-append (λ (b : Block). chunk_at m known bytes b None None) (take i m.blocks) (get_or m.blocks i d ∷ [])
    ∙ (λ j. first j ++ at_block m known bytes i d c within read j ∷ [])
    ∙ sym (map-append Some cs (c ∷ []))

-- A block, if any will do.
no_block : Block
no_block = record { offset = pos 0; meta_data_length = pos 0; body_length = pos 0 }

no_chunk : (m : FileMetadata) (known : Dictionaries) (bytes : List ℕ) (o : Option Block) (c : Chunk) → o ≡ None → option_and_then (λ b. chunk_at m known bytes b None None) o ≡ Some c → ⊥
no_chunk m known bytes None c e f = cc
no_chunk m known bytes (Some b) c e f = cc

-- If there is a chunk, there is a block.
is_inside : (m : FileMetadata) (known : Dictionaries) (bytes : List ℕ) (i : ℕ) (c : Chunk) → file_chunk m known bytes None None i ≡ Some c → i < length m.blocks
is_inside m known bytes i c read = elim (slice_get_cases m.blocks i).1 [
  | inl there ↦ there.1
  | inr past ↦ absurd (no_chunk m known bytes (slice_get m.blocks i) c past.1 read)
]

-- ---- what is known

known_alike : (known : Bool) (o file : Option Dictionaries) (ds : Dictionaries) → IsTrue known → AreOfFile o file → AreKnown known o file ds → AreAlike file (Some ds)
known_alike known None file ds k before are = are k
known_alike known (Some es) file ds k before are = subst (λ (x : Dictionaries). AreAlike file (Some x)) are before

alike_some : (file : Option Dictionaries) (ds : Dictionaries) → AreAlike file (Some ds) → IsSome file
alike_some None ds h = absurd h
alike_some (Some es) ds h = refl

alike_to : (file : Option Dictionaries) (ds es : Dictionaries) → file ≡ Some es → AreAlike file (Some ds) → KnowAlike ds es
alike_to file ds es e h =
    let both : AreAlike (Some es) (Some ds) = subst (λ (o : Option Dictionaries). AreAlike o (Some ds)) e h in
    record { each = λ id. sym (both.each id) }

-- ---- one chunk

unfinished : {A : Type 0} (b : Bool) (x : A) → (b ≡ true → Some x ≡ None) → b ≡ false
unfinished true x h = (let no : Some x ≡ None = h refl in absurd cc)
unfinished false x h = refl

module _ {R : Type 0} (d : Device R) (stays : IsTrue d.is_memory → IsTrue d.is_read_only) where
  abbrev Step : FileReader R → Answer → FileReader R → Type 0
  Step a r b = NextStep d a r b

  -- What a whole chunk that was read says.
  chunk_is : (a b : FileReader R) (xs : List AnyArray) (ds es : Dictionaries) → IsTrue d.is_memory → ReadsWhole d a → (w : WasNext d a (Ok xs) b) → KnowAlike w.dictionaries es
      → file_chunk (file_of a) es (bytes_of d a) None None (block_of a) ≡ Some (chunk_seen xs)
  chunk_is a b xs ds es k whole w alike =
      let said : file_chunk (file_of a) es (bytes_of d a) (asked_of a) (remaining_of a) (block_of a) ≡ Some (chunk_seen xs) = w.meaning k es alike in
      sym (λ i. file_chunk (file_of a) es (bytes_of d a) (whole.columns i) (whole.rows i) (block_of a)) ∙ said

  step_on : (a b : FileReader R) (xs : List AnyArray) → IsTrue d.is_memory → ReadsWhole d a → Step a (Some (Ok xs)) b → WasNext d a (Ok xs) b → GaveBlocks d a (chunk_seen xs ∷ []) b
  step_on a b xs k whole step w =
      let file : file_of b ≡ file_of a = ap file_seen step.state.file.described in
      let bytes : bytes_of d b ≡ bytes_of d a = step.device.whole (stays k) in
      let alike : AreAlike (file_dictionaries (file_of a) (bytes_of d a)) (Some w.dictionaries) =
      known_alike d.is_memory (known_of a) (file_dictionaries (file_of a) (bytes_of d a)) w.dictionaries k whole.known w.are in
      let then : AreAlike (file_dictionaries (file_of b) (bytes_of d b)) (Some w.dictionaries) =
      subst (λ (o : Option Dictionaries). AreAlike o (Some w.dictionaries)) (λ i. file_dictionaries (sym file i) (sym bytes i)) alike in
      record {
        file = file;
        bytes = bytes;
        whole = record {
          columns = step.state.file.asked ∙ whole.columns;
          rows = w.remaining ∙ ap (λ (l : Limit). less l (rows_given (Ok xs))) whole.rows;
          known = subst (λ (o : Option Dictionaries). AreOfFile o (file_dictionaries (file_of b) (bytes_of d b))) (sym w.held) then;
        };
        block = w.block;
        some = inr (alike_some (file_dictionaries (file_of a) (bytes_of d a)) w.dictionaries alike);
        chunks = λ ds so_far found first.
            let read = chunk_is a b xs ds ds k whole w (alike_to (file_dictionaries (file_of a) (bytes_of d a)) w.dictionaries ds found alike) in
            subst (λ (i : ℕ). FirstAre (file_of a) ds (bytes_of d a) i (so_far ++ chunk_seen xs ∷ [])) (sym w.block)
            (next_block (file_of a) ds (bytes_of d a) (block_of a) no_block (chunk_seen xs) so_far (is_inside (file_of a) ds (bytes_of d a) (block_of a) (chunk_seen xs) read) first read);
      }

  pub block_came : (a b : FileReader R) (xs : List AnyArray) → Step a (Some (Ok xs)) b → FileCame d a (chunk_seen xs ∷ []) b
  block_came a b xs step = record {
    gave = λ k whole. step_on a b xs k whole step (step.next (unfinished (is_over a) (Ok xs) (λ over. (step.over over).0)));
    names = step.device.names;
  }

  over_none : (a b : FileReader R) (o : Bool) → is_over a ≡ o → Step a None b → is_over a ≡ true
  over_none a b true is step = is
  over_none a b false is step = absurd (step.next is)

  pub blocks_over : (a b : FileReader R) → Step a None b → is_over a ≡ true
  blocks_over a b step = over_none a b (is_over a) refl step

  -- ---- one that isn't there

  -- the dictionaries have a meaning, and the next block hasn't
  lacks_chunk : (a b : FileReader R) (e : Fault) (o : Option Dictionaries) → ((P : Type 0) → OwnFault e P → P) → IsTrue d.is_memory → ReadsWhole d a → (w : WasNext d a (Err e) b)
      → file_dictionaries (file_of a) (bytes_of d a) ≡ o → AreAlike o (Some w.dictionaries) → FileChunkCause (file_of a) (bytes_of d a) e
  lacks_chunk a b e None it k whole w is alike = absurd alike
  lacks_chunk a b e (Some es) it k whole w is alike =
      let none : file_chunk (file_of a) es (bytes_of d a) (asked_of a) (remaining_of a) (block_of a) ≡ None = it _ (w.meaning k es (alike_to (Some es) w.dictionaries es refl alike)) in
      let many : count (kinds (file_of a).schema) ≡ length (metadata_of a).schema.fields.items = field_count (metadata_of a).schema.fields.items (all_ids_view (metadata_of a).ipc_schema.fields.items) in
      record {
        block = block_of a;
        known = es;
        dictionaries = is;
        none = sym (λ i. file_chunk (file_of a) es (bytes_of d a) (whole.columns i) (whole.rows i) (block_of a)) ∙ none;
        reason = subst (λ (js : List ℕ). RecordReason (file_of a) js (bytes_of d a) (slice_get (file_of a).blocks (block_of a)) e)
            (λ i. chosen (whole.columns i) (sym many i)) (it _ (w.reason k));
      }

  lacks_part : (a b : FileReader R) (e : Fault) → ((P : Type 0) → OwnFault e P → P) → IsTrue d.is_memory → ReadsWhole d a → WereRefused d a e b ⊎ WasNext d a (Err e) b
      → FilePartCause (file_of a) (bytes_of d a) e
  lacks_part a b e it k whole (inl refused) = inl (record { none = it _ (refused.meaning k); reason = it _ (refused.reason k) })
  lacks_part a b e it k whole (inr was) =
      let file = file_dictionaries (file_of a) (bytes_of d a) in
      inr (lacks_chunk a b e file it k whole was refl (known_alike d.is_memory (known_of a) file was.dictionaries k whole.known was.are))

  pub block_broken : (a b : FileReader R) (e : Fault) → Step a (Some (Err e)) b → OwnFault e (NextOfFileCause d a e)
  block_broken a b e step = own e (NextOfFileCause d a e) (λ it k whole. lacks_part a b e it k whole (step.next (unfinished (is_over a) (Err e) (λ over. (step.over over).0))))

-- ---- the first ones

no_first : (m : FileMetadata) (bytes : List ℕ) (cs : List Chunk) → cs ≡ [] → AreFirstBlocks bytes m cs
no_first m bytes cs none = subst (λ (ds : List Chunk). AreFirstBlocks bytes m ds) (sym none) (record { known = []; dictionaries = inl refl; chunks = refl })

some_first : (m : FileMetadata) (bytes : List ℕ) (cs : List Chunk) (o : Option Dictionaries) → file_dictionaries m bytes ≡ o → IsSome o
    → ((known : Dictionaries) → file_dictionaries m bytes ≡ Some known → FirstAre m known bytes (length cs) cs) → AreFirstBlocks bytes m cs
some_first m bytes cs None is some chunks = absurd (cc some)
some_first m bytes cs (Some ds) is some chunks = record { known = ds; dictionaries = inr is; chunks = chunks ds is }

-- What a reader read from the first block on.
pub first_blocks : {R : Type 0} (d : Device R) (a b : FileReader R) (cs : List Chunk) → block_of a ≡ 0 → GaveBlocks d a cs b → AreFirstBlocks (bytes_of d a) (file_of a) cs
first_blocks d a b cs front gave =
    let behind : block_of b ≡ length cs = omega (arith, gave.block, front) in
    elim gave.some [
      | inl none ↦ no_first (file_of a) (bytes_of d a) cs none
      | inr some ↦ some_first (file_of a) (bytes_of d a) cs (file_dictionaries (file_of a) (bytes_of d a)) refl some
          (λ ds found. subst (λ (i : ℕ). FirstAre (file_of a) ds (bytes_of d a) i cs) behind
          (gave.chunks ds [] found (subst (λ (j : ℕ). FirstAre (file_of a) ds (bytes_of d a) j []) (sym front) refl)))
    ]

-- ---- all of them

-- A new reader that reads all of each chunk.
pub new_whole : {R : Type 0} (d : Device R) (device : R) (m : files.FileMetadata) (r : FileReader R) → IsUnread device m None None r → ReadsWhole d r
new_whole d device m r begins = record {
  columns = begins.asked_for;
  rows = begins.remaining;
  known = subst (λ (o : Option Dictionaries). AreOfFile o (file_dictionaries (file_of r) (bytes_of d r))) (sym begins.unread) tt;
}

no_items : (bs : List Block) → length bs ≤ 0 → bs ≡ []
no_items [] e = refl
no_items (b ∷ bs) e = absurd (omega (arith, e))

with_known : (m : FileMetadata) (bytes : List ℕ) (cs : List Chunk) (o : Option Dictionaries) → file_dictionaries m bytes ≡ o → IsSome o
    → ((known : Dictionaries) → file_dictionaries m bytes ≡ Some known → chunks_at m known (all_of bytes) None None m.blocks ≡ map Some cs) → HasBlockChunks bytes m cs
with_known m bytes cs None is some chunks = absurd (cc some)
with_known m bytes cs (Some ds) is some chunks = record { known = ds; dictionaries = inr is; chunks = chunks ds is }

without : (m : FileMetadata) (bytes : List ℕ) (cs : List Chunk) → cs ≡ [] → m.blocks ≡ [] → HasBlockChunks bytes m cs
without m bytes cs none empty = record {
  known = [];
  dictionaries = inl empty;
  chunks = ap (λ (bs : List Block). chunks_at m [] (all_of bytes) None None bs) empty ∙ ap (λ (l : List Chunk). map Some l) (sym none);
}

-- The chunks that were read up to the end of a file are all of its chunks.
pub all_blocks : {R : Type 0} (d : Device R) (device : R) (m : files.FileMetadata) (a b : FileReader R) (cs : List Chunk) → IsUnread device m None None a → GaveBlocks d a cs b → is_over b ≡ true
    → HasBlockChunks (d.memory device).whole (file_seen m) cs
all_blocks {R = R} d device m a b cs begins gave over =
    let past : vec_len b.metadata.blocks ≤ block_of b = search arith in
    let long : length (file_of a).blocks ≡ length (file_of b).blocks = ap (λ (x : FileMetadata). length x.blocks) (sym gave.file) in
    let behind : length (file_of a).blocks ≤ block_of b = omega (arith, past, long, b.metadata.blocks.ok) in
    let has : HasBlockChunks (bytes_of d a) (file_of a) cs = elim gave.some [
      | inl none ↦
          (let size = ap (λ (l : List Chunk). length l) none in
          without (file_of a) (bytes_of d a) cs none (no_items (file_of a).blocks (omega (arith, behind, gave.block, begins.block, size))))
      | inr some ↦ with_known (file_of a) (bytes_of d a) cs (file_dictionaries (file_of a) (bytes_of d a)) refl some
          (λ ds found. all_at (file_of a) ds (bytes_of d a) (block_of b) cs behind
          (gave.chunks ds [] found (none_at (file_of a) ds (bytes_of d a) (block_of a) begins.block)))
    ] in
    subst (λ (x : files.FileMetadata). HasBlockChunks (d.memory device).whole (file_seen x) cs) begins.described
    (subst (λ (x : R). HasBlockChunks (d.memory x).whole (file_of a) cs) begins.device has)
  where
    all_at : (m : FileMetadata) (ds : Dictionaries) (bytes : List ℕ) (i : ℕ) (cs : List Chunk) → length m.blocks ≤ i → FirstAre m ds bytes i cs → chunks_at m ds (all_of bytes) None None m.blocks ≡ map Some cs
    all_at m ds bytes i cs past first = ap (λ (bs : List Block). chunks_at m ds (all_of bytes) None None bs) (sym (take_all i m.blocks past)) ∙ first

    none_at : (m : FileMetadata) (ds : Dictionaries) (bytes : List ℕ) (i : ℕ) → i ≡ 0 → FirstAre m ds bytes i []
    none_at m ds bytes i e = subst (λ (j : ℕ). FirstAre m ds bytes j []) (sym e) refl

pub file_copied : (bytes : List ℕ) (m : FileMetadata) (cs : List Chunk) (Writes : _ → _ → List Chunk → Type 0) → metadata_in bytes ≡ Some m → HasBlockChunks bytes m cs → Writes m.schema m.pairs cs
    → CopiesFile bytes Writes
file_copied bytes m cs Writes read has writes = record { metadata = m; read = read; chunks = cs; has = has; written = writes }
