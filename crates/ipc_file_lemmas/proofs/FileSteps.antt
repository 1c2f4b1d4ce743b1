-- What a file means, one step after the other.
use Rattle.std.proofs.Common.{◌≡◌, ℕ, pos, ◌+◌, ◌≤◌, max, List, [], ◌∷◌, ◌++◌, length, refl, sym, ap, subst, ◌∙◌, arith, append_assoc, append-nil, length-append}
use Rattle.lower_types.specs.declared.Endianness.{Endianness}
use Rattle.lower_arrays.specs.Layouts.{Layout, layouts}
use Rattle.ipc_model.proofs.FileFollowing.{blocks_follow_law}
use Rattle.ipc_model.specs.Files.{FileMetadata, all_of}
use Rattle.ipc_model.specs.FileFollowLaws.{SeesMore}
use Rattle.ipc_model.specs.Offers.{FilledPlace}
use Rattle.ipc_model.specs.WrittenLaws.{prefix}
use Rattle.ipc_stream_lemmas.proofs.FileChunks.{file_chunk_law, listed_blocks_law}
use Rattle.ipc_stream_lemmas.specs.Blocks.{StandsAt}
use Rattle.ipc_stream_lemmas.specs.FileChunks.{ColumnsAt, HasChunks, StandInOrder}
use Rattle.ipc_stream_lemmas.specs.Messages.{message_bytes}
use Rattle.ipc_stream_lemmas.specs.Places.{head_written}
use Rattle.ipc_stream_lemmas.specs.Remembered.{filled_of}
use Rattle.ipc_footer_write.proofs.FileTails.{law}
use Rattle.ipc_file_lemmas.specs.FileBytes.{AreValueMessages, FileEndLaw, FileGrowLaw, FileSizeLaw, FileStartLaw, FileWriteLaw, IsColumns, Sent, all_bytes, block_at, blocks_at, chunk_bytes, file_so_far, sent_bytes}

pub start_law : FileStartLaw
start_law schema size bytes = record { chunks = λ pairs. record { known = []; agrees = record { each = λ i. refl }; blocks = record { dictionaries = refl; chunks = refl } } }

pub grow_law : FileGrowLaw
grow_law schema size bytes more ds bs r cs held = record {
  chunks = λ pairs.
      let h = held.chunks pairs in
      let sees : SeesMore (all_of bytes) (all_of (bytes ++ more)) = record { added = λ b. more; behind = λ b. refl } in
      record {
        known = h.known;
        agrees = h.agrees;
        blocks =
            blocks_follow_law (file_so_far schema pairs ds bs (max size (length bytes))) (max size (length (bytes ++ more))) (all_of bytes) (all_of (bytes ++ more)) h.known cs sees (omega (arith, length-append bytes more)) h.blocks;
      };
}

pub size_law : FileSizeLaw
size_law schema size more bytes ds bs r cs le held = record {
  chunks = λ pairs.
      let h = held.chunks pairs in
      let sees : SeesMore (all_of bytes) (all_of bytes) = record { added = λ b. []; behind = λ b. sym (append-nil bytes) } in
      record {
        known = h.known;
        agrees = h.agrees;
        blocks = blocks_follow_law (file_so_far schema pairs ds bs (max size (length bytes))) (max more (length bytes)) (all_of bytes) (all_of bytes) h.known cs sees (omega (arith, le)) h.blocks;
      };
}

-- ---- blocks

length-sent : (w : Sent) → length (sent_bytes w) ≡ 8 + length w.metadata + length w.body
length-sent w = omega (arith, length-append w.metadata w.body)

head-length : (xs : List ℕ) → 8 + length xs ≡ length (prefix (length xs) ++ xs)
head-length xs = omega arith

-- A message that was sent is at its block.
stands-at : (m : FileMetadata) (front behind : List ℕ) (w : Sent) (metadata body : List ℕ) → metadata ≡ w.metadata → body ≡ w.body → length w.body ≤ m.size
    → StandsAt m (front ++ (sent_bytes w ++ behind)) (block_at (length front) w) metadata body
stands-at m front behind w metadata body e f room = record {
  before = front;
  behind = behind;
  source_is = ap (λ (xs : List ℕ). front ++ (message_bytes xs w.body ++ behind)) (sym e) ∙ ap (λ (xs : List ℕ). front ++ (message_bytes metadata xs ++ behind)) (sym f);
  offset_is = refl;
  metadata_is = ap pos (head-length w.metadata) ∙ ap (λ (xs : List ℕ). pos (length (prefix (length xs) ++ xs))) (sym e);
  room = omega (arith, ap length f, room);
}

stand-in-order : (order : Endianness) (m : FileMetadata) (front back : List ℕ) (ps : List FilledPlace) (ws : List Sent) → AreValueMessages order ps ws → length (all_bytes ws) ≤ m.size
    → StandInOrder m (all_of (front ++ (all_bytes ws ++ back))) order ps (blocks_at (length front) ws)
stand-in-order order m front back [] [] v room = refl
stand-in-order order m front back [] (w ∷ ws) v room = absurd v
stand-in-order order m front back (p ∷ ps) [] v room = absurd v
stand-in-order order m front back (p ∷ ps) (w ∷ ws) v room =
    let source : List ℕ = front ++ ((sent_bytes w ++ all_bytes ws) ++ back) in
    let here : front ++ (sent_bytes w ++ (all_bytes ws ++ back)) ≡ source = ap (λ (xs : List ℕ). front ++ xs) (sym (append_assoc (sent_bytes w) (all_bytes ws) back)) in
    let there : (front ++ sent_bytes w) ++ (all_bytes ws ++ back) ≡ source = append_assoc front (sent_bytes w) (all_bytes ws ++ back) ∙ here in
    let whole = length-append (sent_bytes w) (all_bytes ws) in
    let own = length-sent w in
    let stands = stands-at m front (all_bytes ws ++ back) w v.0.message.metadata v.0.message.body v.0.metadata_is v.0.body_is (omega (arith, whole, own, room)) in
    let rest = stand-in-order order m (front ++ sent_bytes w) back ps ws v.1 (omega (arith, whole, room)) in
    let on = length-append front (sent_bytes w) in (
      block_at (length front) w,
      blocks_at (length front + length (sent_bytes w)) ws,
      record {
        message = v.0.message;
        stands = subst (λ (xs : List ℕ). StandsAt m xs (block_at (length front) w) v.0.message.metadata v.0.message.body) here stands;
        version = v.0.version;
      },
      refl,
      subst (λ (k : ℕ). StandInOrder m (all_of source) order ps (blocks_at k ws)) on
          (subst (λ (xs : List ℕ). StandInOrder m (all_of xs) order ps (blocks_at (length (front ++ sent_bytes w)) ws)) there rest),
    )

columns-at : (order : Endianness) (m : FileMetadata) (front : List ℕ) (columns : List Layout) (own : Sent) → IsColumns order columns own → length (sent_bytes own) ≤ m.size
    → ColumnsAt m (all_of (front ++ sent_bytes own)) order columns (block_at (length front) own)
columns-at order m front columns own v room =
    let long = length-sent own in
    let stands = stands-at m front [] own v.message.metadata v.message.body v.metadata_is v.body_is (omega (arith, long, room)) in
    record {
      message = v.message;
      stands = subst (λ (xs : List ℕ). StandsAt m (front ++ xs) (block_at (length front) own) v.message.metadata v.message.body) (append-nil (sent_bytes own)) stands;
      version = v.version;
    }

pub write_law : FileWriteLaw
write_law order fs metadata is size bytes ds bs before after cs columns ws own writable held sent = record {
  chunks = λ pairs.
      let schema = (head_written order fs metadata is).schema in
      let all : List ℕ = bytes ++ chunk_bytes ws own in
      let so_far = file_so_far schema pairs ds bs (max size (length bytes)) in
      let longest : ℕ = max size (length all) in
      let m = file_so_far schema pairs ds bs longest in
      let h = held.chunks pairs in
      let longer = length-append bytes (chunk_bytes ws own) in
      let messages = length-append (all_bytes ws) (sent_bytes own) in
      let sees : SeesMore (all_of bytes) (all_of all) = record { added = λ b. chunk_bytes ws own; behind = λ b. refl } in
      let grown : HasChunks m (all_of all) before cs = record {
        known = h.known;
        agrees = h.agrees;
        blocks = blocks_follow_law so_far longest (all_of bytes) (all_of all) h.known cs sees (omega (arith, longer)) h.blocks;
      } in
      let order_is = stand-in-order order m bytes (sent_bytes own) sent.list ws sent.values (omega (arith, longer, messages)) in
      let stand = listed_blocks_law m (all_of all) order before (filled_of (layouts columns) is) sent.list after (blocks_at (length bytes) ws) sent.lists order_is in
      let apart : (bytes ++ all_bytes ws) ++ sent_bytes own ≡ all = append_assoc bytes (all_bytes ws) (sent_bytes own) in
      let place : length (bytes ++ all_bytes ws) ≡ length bytes + length (all_bytes ws) = length-append bytes (all_bytes ws) in
      let column = subst (λ (k : ℕ). ColumnsAt m (all_of all) order columns (block_at k own)) place
      (subst (λ (xs : List ℕ). ColumnsAt m (all_of xs) order columns (block_at (length (bytes ++ all_bytes ws)) own)) apart
      (columns-at order m (bytes ++ all_bytes ws) columns own sent.own_is (omega (arith, longer, messages)))) in
      file_chunk_law order fs metadata is m (all_of all) before after cs columns (blocks_at (length bytes) ws) (block_at (length bytes + length (all_bytes ws)) own) refl grown writable sent.arrays sent.accepted sent.kept stand column;
}

-- ---- the end

pub end_law : FileEndLaw
end_law order fs metadata is pairs size bytes rest whole footer ds bs r cs held more long has short means =
    let schema = (head_written order fs metadata is).schema in
    let h = held.chunks pairs in
    let longer = length-append bytes rest in
    let sees : SeesMore (all_of bytes) (all_of whole) = record { added = λ b. rest; behind = λ b. more } in
    let blocks = blocks_follow_law (file_so_far schema pairs ds bs (max size (length bytes))) (length whole) (all_of bytes) (all_of whole) h.known cs sees (omega (arith, ap length more, longer, long)) h.blocks in
    record { known = h.known; means = record { metadata = law whole footer _ has short means; dictionaries = blocks.dictionaries; chunks = blocks.chunks } }
