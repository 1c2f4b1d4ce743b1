-- Files that were written, and any others that have a meaning, are read back.
use Rattle.std.proofs.Common.{◌≡◌, ℕ, List, [], ◌∷◌, ◌++◌, length, drop, Option, None, Some, sym, ap, ◌∙◌, subst}
use Rattle.lower.specs.TypeTrees.{FieldTrees, Pairs}
use Rattle.lower_types.specs.declared.Endianness.{Endianness}
use Rattle.ipc_base.specs.IdTrees.{IdTrees}
use Rattle.ipc_table_views.specs.declared.file.Block.{Block}
use Rattle.ipc_model.specs.Batches.{Chunk}
use Rattle.ipc_model.specs.Entries.{Dictionaries, Limit}
use Rattle.ipc_model.specs.Files.{FileMetadata as Meaning, file_chunk, file_dictionaries}
use Rattle.ipc_model.specs.Schemas.{given}
use Rattle.ipc_model.specs.Writers.{IsFinished}
use Rattle.ipc_stream_lemmas.specs.Agreement.{AreAlike, KnowAlike}
use Rattle.ipc_schema_write.specs.WriterAnswers.{written_head_as}
use Rattle.ipc_footer_write.specs.Footers.{file_written}
use Rattle.ipc_file_lemmas.specs.FileBytes.{file_head}
use Rattle.ipc_file_readers.proofs.Chunks.{chunk_alike}
use Rattle.ipc_file_readers.proofs.Rows.{chunk_pruned}
use Rattle.ipc_file_write.specs.Calls.{IsWrittenFile}
use Rattle.ipc_round_trip.proofs.Streams.{finished_law, readable_law}
use Rattle.ipc_file_round_trip.proofs.Blocks.{as_many, block_of_each, pruned_blocks, whole_blocks}
use Rattle.ipc_file_round_trip.proofs.Files.{meant_with}
use Rattle.ipc_file_round_trip.specs.Laws.{BatchesLaw, ChosenLaw, ReadableStreamLaw, StreamLaw, WholeFileLaw, WrittenLaw}
use Rattle.ipc_file_round_trip.specs.Reading.{FileMeant, all_pruned, chunks_by, dictionaries_for, file_read}

-- ---- files that have a meaning

in_blocks : (p : Option (List ℕ)) (limit : Limit) (m : Meaning) (ds : Dictionaries) (source : List ℕ) (bs : List Block) (o : Option (List Chunk)) → file_dictionaries m source ≡ Some ds
    → chunks_by m ds source p limit bs ≡ o → given (dictionaries_for bs m source) (λ es. chunks_by m es source p limit bs) ≡ o
in_blocks p limit m ds source [] o file e = e
in_blocks p limit m ds source (b ∷ bs) o file e = ap (λ (x : Option Dictionaries). given x (λ es. chunks_by m es source p limit (b ∷ bs))) file ∙ e

pub whole_law : WholeFileLaw
whole_law bytes m cs h =
    meant_with None None bytes m (Some cs) h.means.metadata
    (in_blocks None None m h.known bytes m.blocks (Some cs) h.means.dictionaries (whole_blocks m h.known bytes m.blocks cs h.means.chunks))

pub chosen_law : ChosenLaw
chosen_law p limit bytes m cs is h =
    let gs = all_pruned p limit cs in
    meant_with p limit bytes m (Some gs) h.means.metadata
    (in_blocks p limit m h.known bytes m.blocks (Some gs) h.means.dictionaries (pruned_blocks m h.known bytes p is m.blocks cs limit h.means.chunks))

pub written_law : WrittenLaw
written_law bytes order fields metadata ids pairs cs f w read =
    let m = file_written order fields metadata ids pairs w.dictionaries w.blocks (length bytes) in
    let x : FileMeant = record { metadata = m; chunks = cs } in
    let both : Some x ≡ Some (file_read f) = sym (whole_law bytes m cs w.file) ∙ read in
    let same : x ≡ file_read f = cc in
    record {
      schema = ap (λ (y : FileMeant). y.metadata.schema) (sym same);
      pairs_are = ap (λ (y : FileMeant). y.metadata.pairs) (sym same);
      records = ap (λ (y : FileMeant). length y.metadata.blocks) (sym same) ∙ as_many m w.file.known bytes w.blocks cs w.file.means.chunks;
      chunks = ap (λ (y : FileMeant). y.chunks) (sym same);
    }

-- Readers with the dictionaries of a file.
alike_known : (o : Option Dictionaries) (ds es : Dictionaries) → o ≡ Some ds → AreAlike o (Some es) → KnowAlike ds es
alike_known None ds es e h = absurd h
alike_known (Some d) ds es e h = let same : d ≡ ds = cc in subst (λ (x : Dictionaries). KnowAlike x es) same h

pub batches_law : BatchesLaw
batches_law bytes m cs known i c h knows at =
    let alike = alike_known (file_dictionaries m bytes) h.known known h.means.dictionaries knows in
    let here : file_chunk m h.known bytes None None i ≡ Some c = block_of_each m h.known bytes m.blocks cs i c h.means.chunks at in
    record {
      whole = sym (chunk_alike m h.known known alike None None bytes i) ∙ here;
      chosen = λ p limit is.
          sym (chunk_alike m h.known known alike p limit bytes i)
          ∙ chunk_pruned m h.known bytes p is limit c i here;
    }

-- ---- without the first eight bytes

behind_head : (bytes stream : List ℕ) → bytes ≡ file_head ++ stream → drop 8 bytes ≡ stream
behind_head bytes stream e = ap (drop 8) e

module _ (bytes : List ℕ) (order : Endianness) (fields : FieldTrees) (metadata : Pairs) (ids : IdTrees) (pairs : Pairs) (cs : List Chunk) (w : IsWrittenFile bytes order fields metadata ids pairs cs) where
  is_stream : IsFinished (drop 8 bytes) (written_head_as order fields metadata ids) cs
  is_stream =
      subst (λ (xs : List ℕ). IsFinished xs (written_head_as order fields metadata ids) cs) (sym (behind_head bytes w.stream.stream w.stream.bytes_are)) w.stream.finished

pub stream_law : StreamLaw
stream_law bytes order fields metadata ids pairs cs s w whole =
    finished_law (drop 8 bytes) (written_head_as order fields metadata ids) cs s (is_stream bytes order fields metadata ids pairs cs w) whole

pub readable_stream_law : ReadableStreamLaw
readable_stream_law bytes order fields metadata ids pairs cs w =
    readable_law (drop 8 bytes) (written_head_as order fields metadata ids) cs (record { stream = is_stream bytes order fields metadata ids pairs cs w })
