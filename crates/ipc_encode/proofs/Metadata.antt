-- The metadata of a batch: how many bytes they have, and what they say to a reader.
use Rattle.std.proofs.Common.{arith, ◌≡◌, ℕ, ℤ, pos, ◌+◌, ◌*◌, ◌^◌, ◌<◌, List, length, map, Some, None, Ok, Option, All, SFits, refl, sym, ap, ap₂, ◌∙◌, subst}
use Rattle.std.specs.Int.{w64}
use Rattle.std.specs.Prelude.{option_map}
use Rattle.ipc_table_bytes.specs.Encodes.{IsEncoding}
use Rattle.ipc_table_bytes.specs.Readers.{optional}
use Rattle.ipc_table_bytes.specs.Sizes.{message_size, size_of}
use Rattle.ipc_table_bytes.specs.Tree.{no_slots, number, offset, table}
use Rattle.ipc_tables.specs.ElementLaws.{length-buffer, length-node}
use Rattle.ipc_tables.specs.Elements.{elements_of}
use Rattle.ipc_tables.specs.Messages.{buffer_bytes, buffers_part, compression_slots, header_tag, message_slots, node_bytes, nodes_part, record_batch_slots}
use Rattle.ipc_tables.specs.Reads.{HaveRoot, IsCompression, IsHeader, IsMessage, IsRecordBatch, kept_buffer, kept_node}
use Rattle.ipc_tables.specs.Slots.{bits64}
use Rattle.ipc_tables.specs.declared.message.BodyCompression.{BodyCompression}
use Rattle.ipc_tables.specs.declared.message.Message.{Message}
use Rattle.ipc_tables.specs.declared.message.RecordBatch.{RecordBatch}
use Rattle.ipc_tables.proofs.Kept.{BufferFits, NodeFits, kept-buffers, kept-nodes, kept64-is}
use Rattle.ipc_tables.proofs.Lengths.{length-elements}
use Rattle.ipc_table_views.specs.Spot.{Spot}
use Rattle.ipc_table_views.specs.declared.schema.MetadataVersion.TheVariants.{V5}
use Rattle.ipc_model.specs.Batches.{Lists, lists_of}
use Rattle.ipc_model.specs.Streams.{header_of}
use Rattle.ipc_encode.specs.Encoding.{IdFits, IsBatchMetadata, SaysBatch, SaysKind, header_in, metadata_length}
use Rattle.ipc_encode.specs.declared.batches.BatchKind.{BatchKind}
use Rattle.ipc_encode.specs.declared.batches.BatchKind.TheVariants.{Record, Dictionary}
use Rattle.ipc_encode.proofs.Entries.{fits_long}

-- the message of a batch
abbrev pub message_in : BatchKind → RecordBatch → ℤ → Message
message_in kind b end = record { version = V5; header = header_in kind b; body_length = end; custom_metadata = None }

-- ---- how many bytes

-- a vector of structs of 16 bytes
structs_size : {S : Type 0} (spelt : S → List ℕ) → ((x : S) → length (spelt x) ≡ 16) → (xs : List S) → size_of (elements_of 8 16 spelt xs) ≡ 8 + 16 * length xs
structs_size spelt sized xs = omega (arith, length-elements spelt 16 sized xs)

batch_size : (b : RecordBatch) → b.compression ≡ None → size_of (table (record_batch_slots b)) ≡ 72 + 16 * (length b.nodes.items + length b.buffers.items)
batch_size b none =
    ap (λ (c : Option BodyCompression). size_of (table (number 8 (bits64 b.length) (offset (nodes_part b.nodes.items) (offset (buffers_part b.buffers.items)
    (optional (option_map (λ d. table (compression_slots d)) c) no_slots)))))) none
    ∙ omega (arith, structs_size node_bytes length-node b.nodes.items, structs_size buffer_bytes length-buffer b.buffers.items)

pub batch_message_size : (kind : BatchKind) (b : RecordBatch) (end : ℤ) → b.compression ≡ None
    → message_size (message_slots (message_in kind b end)) ≡ metadata_length kind (length b.nodes.items) (length b.buffers.items)
batch_message_size Record b end none = omega (arith, batch_size b none)
batch_message_size (Dictionary id) b end none = omega (arith, batch_size b none)

-- ---- what a reader finds

says_batch : (t : Spot) (b : RecordBatch) (rows : ℕ) (listed : Lists) → IsRecordBatch t b → b.compression ≡ None → b.length ≡ pos rows → rows < 2 ^ 63 → b.nodes.items ≡ listed.nodes → b.buffers.items ≡ listed.buffers
    → All NodeFits listed.nodes → All BufferFits listed.buffers → SaysBatch t rows listed
unfolding lists_of
says_batch t b rows listed is none long few nodes buffers nodes_fit_so buffers_fit_so =
    let fits : SFits w64 b.length = subst (λ z. SFits w64 z) (sym long) (fits_long rows few) in
    let listed_nodes = is.nodes ∙ ap (λ ns. Ok (Some ns)) (ap (λ ns. map kept_node ns) nodes ∙ kept-nodes listed.nodes nodes_fit_so) in
    let listed_buffers = is.buffers ∙ ap (λ bs. Ok (Some bs)) (ap (λ bs. map kept_buffer bs) buffers ∙ kept-buffers listed.buffers buffers_fit_so) in
    let uncompressed = subst (IsCompression t) none is.compression in
    record { rows_are = is.rows ∙ ap Ok (kept64-is b.length fits ∙ long); lists_are = rw (uncompressed, listed_nodes, listed_buffers) refl }

says_kind : (kind : BatchKind) (t : Spot) (b : RecordBatch) (rows size : ℕ) (listed : Lists) → IdFits kind → IsHeader 0 t (header_in kind b) → ((s : Spot) → IsRecordBatch s b → SaysBatch s rows listed)
    → SaysKind kind (record { tag = header_tag (header_in kind b); table = t; body = size }) rows listed
says_kind Record t b rows size listed fits is says = (refl, says t is)
says_kind (Dictionary id) t b rows size listed fits is says = (
  refl,
  record {
    id_is = is.id ∙ ap Ok fits;
    no_delta = is.delta;
    values = is.values.0;
    values_are = is.values.1;
    says = says is.values.0 is.values.2;
  },
)

pub metadata_say : (kind : BatchKind) (metadata : List ℕ) (b : RecordBatch) (end : ℤ) (rows count : ℕ) (listed : Lists)
    → IdFits kind → HaveRoot metadata (IsMessage 0) (message_in kind b end) → IsEncoding metadata (message_slots (message_in kind b end))
    → b.compression ≡ None → b.length ≡ pos rows → rows < 2 ^ 63 → b.nodes.items ≡ listed.nodes → b.buffers.items ≡ listed.buffers → end ≡ pos count → count < 2 ^ 63
    → All NodeFits listed.nodes → All BufferFits listed.buffers → IsBatchMetadata kind rows listed count metadata
unfolding header_of
metadata_say kind metadata b end rows count listed id_fits root encodes none long few nodes buffers ends small nodes_fit_so buffers_fit_so =
    let message = root.reads in
    let table = message.header.0 in
    let fits : SFits w64 end = subst (λ z. SFits w64 z) (sym ends) (fits_long count small) in
    let body_length = message.body_length ∙ ap Ok (kept64-is end fits ∙ ends) in
    let opened = root.opened in
    let header = message.header.1 in
    let says : (s : Spot) → IsRecordBatch s b → SaysBatch s rows listed = λ s is. says_batch s b rows listed is none long few nodes buffers nodes_fit_so buffers_fit_so in
    record {
      root = root.root;
      opened = opened;
      version = message.version;
      bare = message.pairs;
      header = record { tag = header_tag (header_in kind b); table = table; body = count };
      headed = rw (opened, header, body_length) refl;
      says = says_kind kind table b rows count listed id_fits message.header.2 says;
      body_is = refl;
      written = record { message = message_in kind b end; version = refl; bare = refl; encoding = encodes };
      long = encodes.size ∙ batch_message_size kind b end none ∙ ap₂ (λ (x y : ℕ). metadata_length kind x y) (ap length nodes) (ap length buffers);
      small = encodes.small;
    }
