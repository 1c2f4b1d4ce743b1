-- What messages mean that were written.
use Rattle.std.proofs.Common.{◌≡◌, ℕ, ◌^◌, ◌<◌, ◌≤◌, ◌==◌, nat_lt, true, false, List, ◌++◌, length, take, drop, Option, None, refl, sym, ap, ◌∙◌, arith, length-append}
use Rattle.std.specs.Int.{w32, to_le_bytes, from_le_bytes}
use Rattle.std.proofs.lemmas.Bool.{le-ltb, eq-eqb}
use Rattle.std.proofs.lemmas.List.{take_at, drop_at}
use Rattle.std.proofs.lemmas.Nat.{from_le_bytes-to_le_bytes_4}
use Rattle.ipc_model.proofs.Frames.{frame_newer, marked_is, message_same, sized_is}
use Rattle.ipc_model.specs.Batches.{Chunk, record_meaning, extra_of}
use Rattle.ipc_model.specs.Frame.{frame, sized, word}
use Rattle.ipc_model.specs.Streams.{Header, whole, with_chunk, body_item, message_item, frame_item, item}
use Rattle.ipc_model.specs.WrittenLaws.{prefix, WrittenFrameLaw, WrittenMarkLaw, WrittenRecordLaw}

length_bytes : (n : ℕ) → length (to_le_bytes w32 n) ≡ 4
length_bytes n = refl

prefix_word : (n : ℕ) (rest : List ℕ) → n < 2 ^ 32 → word (to_le_bytes w32 n ++ rest) ≡ n
prefix_word n rest h = ap (from_le_bytes w32) (take_at (to_le_bytes w32 n) rest 4 (length_bytes n)) ∙ from_le_bytes-to_le_bytes_4 n h

prefix_rest : (n : ℕ) (rest : List ℕ) → drop 4 (to_le_bytes w32 n ++ rest) ≡ rest
prefix_rest n rest = drop_at (to_le_bytes w32 n) rest 4 (length_bytes n)

-- The continuation marker, and a length after it.
marker_then : (n : ℕ) (rest : List ℕ) → n < 2 ^ 32 → frame (prefix n ++ rest) ≡ sized n rest
marker_then n rest h =
    let long : 4 ≤ length (to_le_bytes w32 n ++ rest) = omega (arith, length-append (to_le_bytes w32 n) rest, length_bytes n) in
    frame_newer (prefix n ++ rest) (omega arith) refl
    ∙ marked_is (to_le_bytes w32 n ++ rest) long
    ∙ ap (λ m. sized m (drop 4 (to_le_bytes w32 n ++ rest))) (prefix_word n rest h)
    ∙ ap (sized n) (prefix_rest n rest)

pub written_frame : WrittenFrameLaw
written_frame metadata rest some short =
    let inside : length metadata ≤ length (metadata ++ rest) = omega (arith, length-append metadata rest) in
    marker_then (length metadata) (metadata ++ rest) (omega arith)
    ∙ sized_is (length metadata) (metadata ++ rest) inside some short
    ∙ message_same _ _ _ _ (take_at metadata rest (length metadata) refl) (drop_at metadata rest (length metadata) refl)

pub written_mark : WrittenMarkLaw
unfolding sized
written_mark rest = marker_then 0 rest (omega arith)

pub written_record : WrittenRecordLaw
unfolding item body_item
written_record h s metadata body rest c w =
    let n = w.header.body in
    let all : length body ≤ length (body ++ rest) = omega (arith, length-append body rest) in
    let inside : n ≤ length (body ++ rest) = omega (arith, w.long, all) in
    let there : nat_lt (length (body ++ rest)) n ≡ false = le-ltb (length (body ++ rest)) n inside in
    let own : take n (body ++ rest) ≡ body = take_at body rest n (sym w.long) in
    let left : drop n (body ++ rest) ≡ rest = drop_at body rest n (sym w.long) in
    let tagged : (w.header.tag == 3) ≡ true = eq-eqb w.header.tag 3 w.tag in
    ap (frame_item h s) (written_frame metadata (body ++ rest) w.some w.short)
    ∙ ap (λ (o : Option Header). message_item h s o (body ++ rest)) w.headed
    ∙ rw (there, tagged) (
    ap (λ bs. with_chunk (record_meaning h.schema (extra_of h.version) s.dictionaries (whole bs) w.header.table None None) s (drop n (body ++ rest))) own
    ∙ ap (λ r. with_chunk (record_meaning h.schema (extra_of h.version) s.dictionaries (whole body) w.header.table None None) s r) left
    ∙ ap (λ (o : Option Chunk). with_chunk o s rest) w.means
    )
