-- What is read of a file that a session left, and that it can be appended to.
use Rattle.std.proofs.Common.{◌≡◌, ℕ, ◌+◌, ◌-◌, ◌<◌, ◌≤◌, max, Bool, true, List, [], ◌∷◌, ◌++◌, length, take, Some, refl, sym, ap, ap₂, ◌∙◌, subst, arith, length-append, length-take-le}
use Rattle.std.proofs.lemmas.List.{length-map}
use Rattle.std.proofs.Math.Seq.{take-append-add}
use Rattle.lower.specs.TypeTrees.{FieldTrees, Pairs}
use Rattle.lower_types.specs.declared.Endianness.{Endianness}
use Rattle.ipc_base.specs.IdTrees.{IdTrees}
use Rattle.ipc_table_views.specs.declared.file.Block.{Block}
use Rattle.ipc_table_views.specs.declared.schema.MetadataVersion.TheVariants.{V5}
use Rattle.ipc_model.specs.Batches.{Chunk, Schema}
use Rattle.ipc_model.specs.Entries.{Dictionaries}
use Rattle.ipc_model.specs.FileFollowLaws.{BlocksMean}
use Rattle.ipc_model.specs.Files.{FileMetadata, all_of, metadata_of}
use Rattle.ipc_model.proofs.Given.{some-same}
use Rattle.ipc_schema_write.specs.WriterAnswers.{written_as}
use Rattle.ipc_file_lemmas.specs.Appending.{MeansBefore, goes_on, greatest_end}
use Rattle.ipc_file_lemmas.specs.FileBytes.{EndsStreamBehind, IsFile, file_so_far}
use Rattle.ipc_file_lemmas.proofs.FileSteps.{grow_law, size_law}
use Rattle.ipc_file_write.specs.Appends.{MayGoOn}
use Rattle.ipc_file_write.specs.Calls.{IsWrittenFile}
use Rattle.ipc_file_write.specs.FileWriters.{FileSeen, IsOpenFile, IsWholeFile, head_of_file}
use Rattle.ipc_file_write.proofs.Appends.{inside_file, may_go_on, some-block}
use Rattle.ipc_file_write.proofs.FileHeads.{is_headed}
use Rattle.ipc_sessions.specs.Sessions.{BeforeLaw, EndedLaw, IsEndedFile, MayLaw}

-- ---- what is read

module _ (bytes : List ℕ) (ds bs : List Block) (cs : List Chunk) where
  file-of : (s t : Schema) (ps qs : Pairs) → s ≡ t → ps ≡ qs → IsFile bytes (file_so_far s ps ds bs (length bytes)) cs → IsFile bytes (file_so_far t qs ds bs (length bytes)) cs
  file-of s t ps qs e f h =
      subst (λ (x : Pairs). IsFile bytes (file_so_far t x ds bs (length bytes)) cs) f (subst (λ (x : Schema). IsFile bytes (file_so_far x ps ds bs (length bytes)) cs) e h)

stream-of : (bytes : List ℕ) (cs : List Chunk) (s t : Schema) → s ≡ t → EndsStreamBehind bytes (record { schema = s; version = V5 }) cs → EndsStreamBehind bytes (record { schema = t; version = V5 }) cs
stream-of bytes cs s t e h = subst (λ (x : Schema). EndsStreamBehind bytes (record { schema = x; version = V5 }) cs) e h

pub ended_law : EndedLaw
ended_law is_stream bytes schema pairs cs h = record {
  dictionaries = h.writer.dictionaries;
  blocks = h.writer.blocks;
  file = file-of bytes h.writer.dictionaries h.writer.blocks cs (head_of_file h.writer).schema schema h.writer.pairs pairs h.schema_is h.pairs_are h.whole.file;
  stream = λ is_one. stream-of bytes cs (head_of_file h.writer).schema schema h.schema_is (h.whole.stream is_one);
}

pub written_file : (bytes : List ℕ) (order : Endianness) (fs : FieldTrees) (es : Pairs) (is : IdTrees) (pairs : Pairs) (cs : List Chunk) → IsEndedFile true bytes (written_as order fs es is) pairs cs
    → IsWrittenFile bytes order fs es is pairs cs
written_file bytes order fs es is pairs cs h =
    let read = ended_law true bytes (written_as order fs es is) pairs cs h in
    record { dictionaries = read.dictionaries; blocks = read.blocks; file = read.file; stream = read.stream refl }

-- ---- that it can be appended to

module _ (a : FileSeen (Unit {0})) (m : FileMetadata) (is_stream : Bool) (bytes : List ℕ) (cs : List Chunk) (is : metadata_of bytes ≡ Some m) (h : IsWholeFile is_stream a bytes cs) where
  metadata-is : file_so_far (head_of_file a).schema a.pairs a.dictionaries a.blocks (length bytes) ≡ m
  metadata-is = some-same _ m (sym h.file.means.metadata ∙ is)

  same-blocks : m.blocks ≡ a.blocks
  same-blocks = sym (ap (λ (x : FileMetadata). x.blocks) metadata-is)

  same-ends : greatest_end (m.dictionaries ++ m.blocks) ≡ greatest_end (a.dictionaries ++ a.blocks)
  same-ends = ap₂ (λ (ds bs : List Block). greatest_end (ds ++ bs)) (sym (ap (λ (x : FileMetadata). x.dictionaries) metadata-is)) same-blocks

  pub size_is : m.size ≡ length bytes
  size_is = sym (ap (λ (x : FileMetadata). x.size) metadata-is)

  -- as many chunks as blocks
  pub some_blocks : (c : Chunk) (rest : List Chunk) → cs ≡ c ∷ rest → m.blocks ≡ [] → ⊥
  some_blocks c rest e none =
      let chunks = h.file.means.chunks in
      let empty : a.blocks ≡ [] = sym same-blocks ∙ none in
      let lengths : length a.blocks ≡ length cs = sym (length-map a.blocks _) ∙ ap length chunks ∙ length-map cs Some in
      absurd (omega (arith, lengths, ap length e, ap length empty))

  -- The bytes before its append position.
  module _ (may : MayGoOn m) where
    open_front : IsOpenFile is_stream a h.front cs
    open_front = h.open_front

    longer : length bytes ≡ length h.front + length h.behind
    longer = ap length h.bytes_are ∙ length-append h.front h.behind

    far : length h.front ≤ goes_on m
    far =
        let some : 0 < length a.blocks = subst (λ (bs : List Block). 0 < length bs) same-blocks (some-block m.blocks may.some_blocks) in
        omega (arith, open_front.reached some, same-ends, open_front.place, open_front.long, size_is, longer)

    inside-bytes : goes_on m ≤ length bytes
    inside-bytes = inside_file m bytes (is_headed bytes m is)

    abbrev more : List ℕ
    more = take (goes_on m - length h.front) h.behind

    front-then : take (goes_on m) bytes ≡ h.front ++ more
    front-then =
        let at : goes_on m ≡ length h.front + (goes_on m - length h.front) = omega (arith, far) in
        ap (take (goes_on m)) h.bytes_are ∙ ap (λ (k : ℕ). take k (h.front ++ h.behind)) at ∙ take-append-add h.front h.behind (goes_on m - length h.front)

    pub means_before : (known : Dictionaries) × MeansBefore m bytes known cs
    means_before =
        let schema = (head_of_file a).schema in
        let grown = grow_law schema a.size h.front more a.dictionaries a.blocks a.remembers cs open_front.file in
        let sized = size_law schema a.size (length bytes) (h.front ++ more) a.dictionaries a.blocks a.remembers cs h.long grown in
        let has = sized.chunks a.pairs in
        let long : length (h.front ++ more) ≤ length bytes = omega (arith, ap length front-then, inside-bytes, length-take-le (goes_on m) bytes inside-bytes) in
        let size : max (length bytes) (length (h.front ++ more)) ≡ length bytes = omega (arith, long) in
        let sized_so : BlocksMean (file_so_far schema a.pairs a.dictionaries a.blocks (length bytes)) (all_of (h.front ++ more)) has.known cs =
        subst (λ (n : ℕ). BlocksMean (file_so_far schema a.pairs a.dictionaries a.blocks n) (all_of (h.front ++ more)) has.known cs) size has.blocks in
        let seen_so : BlocksMean (file_so_far schema a.pairs a.dictionaries a.blocks (length bytes)) (all_of (take (goes_on m) bytes)) has.known cs =
        subst (λ (xs : List ℕ). BlocksMean (file_so_far schema a.pairs a.dictionaries a.blocks (length bytes)) (all_of xs) has.known cs) (sym front-then) sized_so in
        (has.known, subst (λ (x : FileMetadata). BlocksMean x (all_of (take (goes_on m) bytes)) has.known cs) metadata-is seen_so)

pub before_law : BeforeLaw
before_law is_stream bytes schema pairs cs m h is may = means_before h.writer m is_stream bytes cs is h.whole may

pub may_law : MayLaw
may_law is_stream bytes schema pairs c cs m h is short =
    may_go_on m h.writer is_stream bytes (c ∷ cs) is h.whole (some_blocks h.writer m is_stream bytes (c ∷ cs) is h.whole c cs refl)
    (omega (arith, size_is h.writer m is_stream bytes (c ∷ cs) is h.whole, short))
