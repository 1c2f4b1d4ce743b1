-- Without its first eight bytes a file is a stream.
use Rattle.std.proofs.Common.{◌≡◌, ℕ, List, [], ◌∷◌, ◌++◌, length, Some, refl, sym, ap, subst, ◌∙◌, append_assoc, append-nil}
use Rattle.lower_types.specs.declared.Endianness.{Endianness}
use Rattle.lower_arrays.specs.Layouts.{layouts}
use Rattle.ipc_model.proofs.Growing.{grow_law}
use Rattle.ipc_model.proofs.Meanings.{meaning_done}
use Rattle.ipc_model.proofs.Written.{written_mark}
use Rattle.ipc_model.proofs.WriterSteps.{start_law}
use Rattle.ipc_model.specs.Batches.{Chunk}
use Rattle.ipc_model.specs.Offers.{FilledPlace}
use Rattle.ipc_model.specs.Streams.{Head, Known, Meant, done, frame_item, item, marked, waits, with_chunks}
use Rattle.ipc_model.specs.Writers.{IsFinished}
use Rattle.ipc_model.specs.WrittenLaws.{prefix}
use Rattle.ipc_stream_lemmas.proofs.Chunks.{listed_law, written_chunk_law}
use Rattle.ipc_stream_lemmas.proofs.Running.{open_start, open_write}
use Rattle.ipc_stream_lemmas.specs.Chunks.{HasMessages}
use Rattle.ipc_stream_lemmas.specs.Messages.{message_bytes}
use Rattle.ipc_stream_lemmas.specs.Places.{head_written}
use Rattle.ipc_stream_lemmas.specs.Remembered.{Remembered, filled_of, nothing_remembered}
use Rattle.ipc_stream_lemmas.specs.Runs.{IsOpen}
use Rattle.ipc_file_lemmas.specs.FileBytes.{AreValueMessages, Sent, StreamEndLaw, StreamStartLaw, StreamWriteLaw, all_bytes, chunk_bytes, file_head, sent_bytes}

pub stream_start_law : StreamStartLaw
stream_start_law metadata h some short e = record {
  stream = message_bytes metadata [];
  bytes_are = refl;
  goes_on =
      subst (λ (xs : List ℕ). IsOpen (prefix (length metadata) ++ xs) h nothing_remembered []) (sym (append-nil metadata))
      (open_start (prefix (length metadata) ++ metadata) h (start_law metadata h some short e));
}

-- ---- a chunk

same-bytes : (metadata body : List ℕ) (w : Sent) → metadata ≡ w.metadata → body ≡ w.body → sent_bytes w ≡ message_bytes metadata body
same-bytes metadata body w e f = ap (λ (xs : List ℕ). message_bytes xs w.body) (sym e) ∙ ap (λ (xs : List ℕ). message_bytes metadata xs) (sym f)

encodes : (order : Endianness) (ps : List FilledPlace) (ws : List Sent) → AreValueMessages order ps ws → HasMessages order ps (all_bytes ws)
encodes order [] [] v = refl
encodes order [] (w ∷ ws) v = absurd v
encodes order (p ∷ ps) [] v = absurd v
encodes order (p ∷ ps) (w ∷ ws) v = (
  v.0.message,
  all_bytes ws,
  ap (λ (xs : List ℕ). xs ++ all_bytes ws) (same-bytes v.0.message.metadata v.0.message.body w v.0.metadata_is v.0.body_is),
  encodes order ps ws v.1,
)

pub stream_write_law : StreamWriteLaw
stream_write_law order fs metadata is bytes before after cs columns ws own writable held sent =
    let h = head_written order fs metadata is in
    let v = sent.own_is in
    let own_bytes = same-bytes v.message.metadata v.message.body own v.metadata_is v.body_is in
    let means = written_chunk_law order fs metadata is columns before after (chunk_bytes ws own) writable sent.arrays sent.accepted (record {
      dictionaries = all_bytes ws;
      sent = listed_law order before (filled_of (layouts columns) is) sent.list after (all_bytes ws) sent.lists (encodes order sent.list ws sent.values);
      own = v.message;
      bytes_are = ap (λ (xs : List ℕ). all_bytes ws ++ xs) own_bytes;
    }) in
    record {
      stream = held.stream ++ chunk_bytes ws own;
      bytes_are = ap (λ (xs : List ℕ). xs ++ chunk_bytes ws own) held.bytes_are ∙ append_assoc file_head held.stream (chunk_bytes ws own);
      goes_on = open_write held.stream (chunk_bytes ws own) h before after cs _ held.goes_on means;
    }

-- ---- the end

item_mark : (h : Head) (s : Known) (rest : List ℕ) → item h s (prefix 0 ++ rest) ≡ done marked
unfolding item
item_mark h s rest = ap (frame_item h s) (written_mark rest)

with_none : (cs : List Chunk) → with_chunks cs (record { chunks = []; end = marked }) ≡ record { chunks = cs; end = marked }
with_none cs = ap (λ (xs : List Chunk). record { chunks = xs; end = marked }) (append-nil cs)

finished : (stream rest : List ℕ) (h : Head) (r : Remembered) (cs : List Chunk) → IsOpen stream h r cs → IsFinished (stream ++ (prefix 0 ++ rest)) h cs
finished stream rest h r cs o = record {
  stream =
      grow_law stream (record { head = h; meant = record { chunks = cs; end = waits o.known [] } }) o.known [] (prefix 0 ++ rest) o.stream.stream refl
      ∙ ap (λ (m : Meant). Some (record { head = h; meant = with_chunks cs m })) (meaning_done h o.known (prefix 0 ++ rest) marked (item_mark h o.known rest))
      ∙ ap (λ (m : Meant). Some (record { head = h; meant = m })) (with_none cs);
}

pub stream_end_law : StreamEndLaw
stream_end_law bytes rest h r cs held = record {
  stream = held.stream ++ (prefix 0 ++ rest);
  bytes_are = ap (λ (xs : List ℕ). xs ++ (prefix 0 ++ rest)) held.bytes_are ∙ append_assoc file_head held.stream (prefix 0 ++ rest);
  finished = finished held.stream rest h r cs held.goes_on;
}
