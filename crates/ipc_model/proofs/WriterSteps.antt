-- How each call of a stream writer changes its stream.
use Rattle.std.proofs.Common.{◌≡◌, ℕ, List, [], ◌∷◌, ◌++◌, length, Some, option_map, refl, sym, ap, ◌∙◌, append-nil}
use Rattle.ipc_model.proofs.Growing.{grow_law}
use Rattle.ipc_model.proofs.Meanings.{meaning_more, meaning_done}
use Rattle.ipc_model.proofs.Written.{written_frame, written_mark, written_record}
use Rattle.ipc_model.specs.Batches.{Chunk}
use Rattle.ipc_model.specs.Frame.{frame}
use Rattle.ipc_model.specs.Streams.{Head, Known, nothing_known, marked, waits, done, frame_item, item, Meant, with_chunks, meaning}
use Rattle.ipc_model.specs.WholeStreams.{stream_from, stream_of}
use Rattle.ipc_model.specs.Writers.{IsStarted, StartLaw, after_record, WriteLaw, FinishLaw}
use Rattle.ipc_model.specs.WrittenLaws.{prefix, BeginsWithRecord}

pub item_none : (h : Head) (s : Known) → item h s [] ≡ done (waits s [])
unfolding item frame
item_none h s = refl

-- A stream without any more bytes waits, without a partial prefix.
meaning_none : (h : Head) (s : Known) → meaning h s [] ≡ record { chunks = []; end = waits s [] }
meaning_none h s = meaning_done h s [] (waits s []) (item_none h s)

pub item_mark : (h : Head) (s : Known) → item h s (prefix 0) ≡ done marked
unfolding item
item_mark h s = ap (λ bytes. frame_item h s (frame bytes)) (sym (append-nil (prefix 0))) ∙ ap (frame_item h s) (written_mark [])

meaning_record : (h : Head) (s : Known) (metadata body : List ℕ) (c : Chunk) → BeginsWithRecord h s metadata body c
    → meaning h s (prefix (length metadata) ++ (metadata ++ body)) ≡ record { chunks = c ∷ []; end = waits (after_record s) [] }
meaning_record h s metadata body c w =
    ap (λ b. meaning h s (prefix (length metadata) ++ (metadata ++ b))) (sym (append-nil body))
    ∙ meaning_more h s (prefix (length metadata) ++ (metadata ++ (body ++ []))) (Some c) (after_record s) [] (written_record h s metadata body [] c w)
    ∙ ap (with_chunks (c ∷ [])) (meaning_none h (after_record s))

-- what is added to a started stream
goes_on : (bytes : List ℕ) (h : Head) (s : Known) (cs : List Chunk) (added : List ℕ) (m : Meant) → IsStarted bytes h s cs → meaning h s added ≡ m
    → stream_of (bytes ++ added) ≡ Some (record { head = h; meant = with_chunks cs m })
goes_on bytes h s cs added m v e =
    grow_law bytes (record { head = h; meant = record { chunks = cs; end = waits s [] } }) s [] added v.stream refl
    ∙ ap (λ (x : Meant). Some (record { head = h; meant = with_chunks cs x })) e

pub start_law : StartLaw
unfolding stream_of
start_law metadata h some short e = record {
  stream =
      ap (λ bytes. stream_from (frame (prefix (length metadata) ++ bytes))) (sym (append-nil metadata))
      ∙ ap stream_from (written_frame metadata [] some short)
      ∙ ap (option_map (λ g. record { head = g; meant = meaning g nothing_known [] })) e
      ∙ ap (λ (m : Meant). Some (record { head = h; meant = m })) (meaning_none h nothing_known);
}

pub write_law : WriteLaw
write_law bytes h s cs metadata body c v w = record {
  stream = goes_on bytes h s cs (prefix (length metadata) ++ (metadata ++ body)) _ v (meaning_record h s metadata body c w);
}

with_none : (cs : List Chunk) → with_chunks cs (record { chunks = []; end = marked }) ≡ record { chunks = cs; end = marked }
with_none cs = ap (λ (xs : List Chunk). record { chunks = xs; end = marked }) (append-nil cs)

pub finish_law : FinishLaw
finish_law bytes h s cs v = record {
  stream =
      goes_on bytes h s cs (prefix 0) (record { chunks = []; end = marked }) v (meaning_done h s (prefix 0) marked (item_mark h s))
      ∙ ap (λ (m : Meant). Some (record { head = h; meant = m })) (with_none cs);
}
