-- The messages of a chunk: how they are in a stream, and what they mean.
use Rattle.std.proofs.Common.{◌≡◌, ℕ, ◌+◌, List, [], ◌∷◌, ◌++◌, map, refl, sym, ap, ◌∙◌, subst, append_assoc, append-nil}
use Rattle.lower.specs.TypeTrees.{FieldTrees, Pairs}
use Rattle.lower_types.specs.declared.Endianness.{Endianness}
use Rattle.lower_arrays.specs.Layouts.{Layout, layouts, len_of}
use Rattle.ipc_base.specs.Chunks.{row_count}
use Rattle.ipc_base.specs.IdTrees.{IdTrees}
use Rattle.ipc_chunks.proofs.Meanings.{columns_message, sent_of, values_message}
use Rattle.ipc_chunks.proofs.MessageLists.{encoded_ends, encoded_whole}
use Rattle.ipc_encode.specs.Encoding.{IsEncoded}
use Rattle.ipc_encode.specs.declared.batches.BatchKind.{BatchKind}
use Rattle.ipc_encode.specs.declared.batches.BatchKind.TheVariants.{Record, Dictionary}
use Rattle.ipc_stream_lemmas.proofs.Chunks.{listed_law, written_chunk_law}
use Rattle.ipc_stream_lemmas.proofs.Fitting.{filled_law}
use Rattle.ipc_stream_lemmas.specs.Chunks.{HasMessages}
use Rattle.ipc_stream_lemmas.specs.Messages.{chunk_written as layouts_written, message_bytes as stream_bytes}
use Rattle.ipc_stream_lemmas.specs.Moves.{MeansChunk}
use Rattle.ipc_stream_lemmas.specs.Places.{head_written}
use Rattle.ipc_stream_lemmas.specs.Remembered.{filled_of, filled_place}
use Rattle.ipc_model.specs.Offers.{FilledPlace, IsAcceptedChunk}
use Rattle.ipc_model.specs.Writable.{IsWritable}
use Rattle.ipc_tracker.specs.Listings.{ListsUnwritten, ListsAll, remembering_all}
use Rattle.ipc_tracker.specs.Trackers.{IsSameMemory, Remembered}
use Rattle.ipc_write.proofs.Messages.{message_whole}
use Rattle.ipc_write.specs.Framing.{message_bytes}
use Rattle.ipc_write.specs.Messages.{messages_bytes}
use Rattle.ipc_chunks.specs.Messages.{AreAllValues, AreMessages, Message}

-- ---- one message

-- A message as it is in a stream.
pub in_stream : (kind : BatchKind) (order : Endianness) (ls : List Layout) (n : ℕ) (m : Message) → IsEncoded kind order ls n m.metadata m.body → message_bytes m.metadata m.body ≡ stream_bytes m.metadata m.body
in_stream kind order ls n m h = message_whole m.metadata m.body (encoded_whole kind order ls n m.metadata m.body h) (encoded_ends kind order ls n m.metadata m.body h)

-- ---- one after another

pub bytes_both : (xs ys : List Message) → messages_bytes (xs ++ ys) ≡ messages_bytes xs ++ messages_bytes ys
bytes_both [] ys = refl
bytes_both (m ∷ ms) ys =
    ap (λ (zs : List ℕ). message_bytes m.metadata m.body ++ zs) (bytes_both ms ys) ∙ sym (append_assoc (message_bytes m.metadata m.body) (messages_bytes ms) (messages_bytes ys))

pub bytes_last : (xs : List Message) (m : Message) → messages_bytes (xs ++ m ∷ []) ≡ messages_bytes xs ++ message_bytes m.metadata m.body
bytes_last xs m = bytes_both xs (m ∷ []) ∙ ap (λ (zs : List ℕ). messages_bytes xs ++ zs) (append-nil (message_bytes m.metadata m.body))

-- ---- what they mean

encodes_all : (order : Endianness) (ps : List FilledPlace) (ms : List Message) → AreAllValues order ps ms → HasMessages order ps (messages_bytes ms)
unfolding values_message
encodes_all order [] [] h = refl
encodes_all order [] (m ∷ ms) h = absurd h
encodes_all order (p ∷ ps) [] h = absurd h
encodes_all order (p ∷ ps) (m ∷ ms) h = (
  values_message order p m.metadata m.body h.0,
  messages_bytes ms,
  ap (λ (xs : List ℕ). xs ++ messages_bytes ms) (in_stream (Dictionary p.id) order (p.values ∷ []) (len_of p.values) m h.0),
  encodes_all order ps ms h.1,
)

own_last : (order : Endianness) (columns : List Layout) (list : List FilledPlace) (ds : List Message) (own : Message) → AreMessages order columns list ds own
    → messages_bytes (ds ++ own ∷ []) ≡ messages_bytes ds ++ stream_bytes own.metadata own.body
own_last order columns list ds own all =
    bytes_last ds own ∙ ap (λ (zs : List ℕ). messages_bytes ds ++ zs) (in_stream Record order columns (row_count len_of columns) own all.record_is)

-- The messages of an accepted chunk mean it.
pub chunk_means : (order : Endianness) (fs : FieldTrees) (metadata : Pairs) (is : IdTrees) (columns : List Layout) (m after : Remembered) (fixed : _) (list : List FilledPlace) (ds : List Message) (own : Message)
    → IsWritable fs metadata is → IsAcceptedChunk fs is columns → ListsAll m fixed columns is list → IsSameMemory (remembering_all list m) after → AreMessages order columns list ds own
    → MeansChunk (head_written order fs metadata is) (messages_bytes (ds ++ own ∷ [])) m after (layouts_written columns)
unfolding columns_message
chunk_means order fs metadata is columns m after fixed list ds own w accepted lists same all =
    let ps = filled_of (layouts columns) is in
    let found : ListsUnwritten m (map filled_place ps) list = subst (λ (qs : List FilledPlace). ListsUnwritten m qs list) (sym (filled_law (layouts columns) is)) lists.lists in
    written_chunk_law order fs metadata is columns m after (messages_bytes (ds ++ own ∷ [])) w all.record_is.arrays accepted (record {
      dictionaries = messages_bytes ds;
      sent = listed_law order m ps list after (messages_bytes ds) (sent_of m ps list after found same) (encodes_all order list ds all.values);
      own = columns_message order columns own.metadata own.body all.rows all.record_is;
      bytes_are = own_last order columns list ds own all;
    })
