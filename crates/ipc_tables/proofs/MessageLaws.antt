-- The tables of messages and footers that are built read as these.
use Rattle.std.proofs.Common.{◌≡◌, ℕ, ◌<◌, ◌≤◌, List, Option, None, Some, Result, Ok, Err, IfOk, ap, ◌∙◌, arith, Vec, Global, map}
use Rattle.std.specs.Prelude.{option_map}
use Rattle.ipc_devices.specs.declared.fault.Fault.{Fault}
use Rattle.ipc_table_views.specs.Enumerations.{version_of}
use Rattle.ipc_table_views.specs.Structs.{block_of, buffer_of, node_of, structs_slot}
use Rattle.ipc_table_views.specs.Tables.{and_then, number_at, root_at, spot_at, table_slot}
use Rattle.ipc_table_views.specs.Spot.{Spot}
use Rattle.ipc_table_views.specs.declared.file.Block.{Block}
use Rattle.ipc_tables.specs.Slots.{bit}
use Rattle.ipc_table_bytes.specs.Encodes.{Encodes}
use Rattle.ipc_table_bytes.specs.Holds.{HoldsPart, HoldsRoot, spot}
use Rattle.ipc_table_bytes.specs.Readers.{HoldsOptional, optional}
use Rattle.ipc_table_bytes.specs.Tree.{Slots, no_slots, number, table}
use Rattle.ipc_table_bytes.proofs.ReaderLaws.{absent-read, number-read, optional-read, spot-read, structs-read, table-read, union-read}
use Rattle.ipc_tables.specs.declared.file.Footer.{Footer}
use Rattle.ipc_tables.specs.declared.message.BodyCompression.{BodyCompression}
use Rattle.ipc_tables.specs.declared.message.DictionaryBatch.{DictionaryBatch}
use Rattle.ipc_tables.specs.declared.message.Message.{Message}
use Rattle.ipc_tables.specs.declared.message.MessageHeader.{MessageHeader}
use Rattle.ipc_tables.specs.declared.message.MessageHeader.TheVariants.{Schema as a_schema, DictionaryBatch as a_dictionary_batch, RecordBatch as a_record_batch}
use Rattle.ipc_tables.specs.declared.message.RecordBatch.{RecordBatch}
use Rattle.ipc_tables.specs.Files.{block_bytes, blocks_part, footer_slots}
use Rattle.ipc_tables.specs.Messages.{buffer_bytes, compression_slots, dictionary_batch_slots, header_slots, header_tag, message_slots, node_bytes, record_batch_slots}
use Rattle.ipc_tables.specs.Reads.{HaveRoot, IsCompression, IsOptionalTable, IsSchema, IsDictionaryBatch, IsFooter, IsHeader, IsMessage, IsRecordBatch, kept_block, kept_buffer, kept_node}
use Rattle.ipc_tables.specs.Schemas.{pairs_vector, schema_slots, version_number}
use Rattle.ipc_tables.specs.ElementLaws.{length-block, length-buffer, length-node}
use Rattle.ipc_tables.proofs.Numbers.{long-read, flag-read, unit-read, version-back, node-is, buffer-is, block-is}
use Rattle.ipc_tables.proofs.SchemaLaws.{AreOptionalPairs-holds, IsSchema-holds}

IsCompression-holds : (m : List ℕ) (p : ℕ) (c : Option BodyCompression) → HoldsOptional m p 3 (option_map (λ c. table (compression_slots c)) c) → IsCompression (spot m p) c
IsCompression-holds m p None e = absent-read m p 3 _ e
IsCompression-holds m p (Some c) (q, t, e, f, h) = (spot m t, table-read m p 3 q t (compression_slots c) e f h)

pub IsRecordBatch-holds : (m : List ℕ) (p : ℕ) (b : RecordBatch) → HoldsPart m p (table (record_batch_slots b)) → IsRecordBatch (spot m p) b
IsRecordBatch-holds m p b (v, size, e, f, ((q0, e0, f0, g0), ((q1, t1, e1, f1, g1, h1), ((q2, t2, e2, f2, g2, h2), rest)))) = record {
  rows = long-read m p 0 q0 b.length e0 f0;
  nodes = structs-read node_of 8 16 node_bytes kept_node length-node node-is m p 1 q1 t1 b.nodes.items e1 f1 h1;
  buffers = structs-read buffer_of 8 16 buffer_bytes kept_buffer length-buffer buffer-is m p 2 q2 t2 b.buffers.items e2 f2 h2;
  compression = IsCompression-holds m p b.compression (optional-read m p size 3 (option_map (λ c. table (compression_slots c)) b.compression) no_slots rest).0;
}

-- a table that may be absent
table-optional : {V : Type 0} (slots_of : V → Slots) (IsValue : Spot → V → Type 0) → ((m : List ℕ) (t : ℕ) (x : V) → HoldsPart m t (table (slots_of x)) → IsValue (spot m t) x)
    → (m : List ℕ) (p i : ℕ) (o : Option V) → HoldsOptional m p i (option_map (λ x. table (slots_of x)) o) → IsOptionalTable (table_slot m p i) IsValue o
table-optional slots_of IsValue law m p i None e = absent-read m p i _ e
table-optional slots_of IsValue law m p i (Some x) (q, t, e, f, h) = (spot m t, table-read m p i q t (slots_of x) e f h, law m t x h)

blocks-optional : (m : List ℕ) (p i : ℕ) (o : Option (Vec Block Global)) → HoldsOptional m p i (option_map (λ v. blocks_part v.items) o)
    → structs_slot block_of 24 m p i ≡ Ok (option_map (λ v. map kept_block v.items) o)
blocks-optional m p i None e = absent-read m p i _ e
blocks-optional m p i (Some v) (q, t, e, f, h) = structs-read block_of 8 24 block_bytes kept_block length-block block-is m p i q t v.items e f h

pub IsDictionaryBatch-holds : (m : List ℕ) (p : ℕ) (b : DictionaryBatch) → HoldsPart m p (table (dictionary_batch_slots b)) → IsDictionaryBatch (spot m p) b
IsDictionaryBatch-holds m p b (v, size, e, f, ((q0, e0, f0, g0), rest)) =
    let values = optional-read m p size 1 (option_map (λ d. table (record_batch_slots d)) b.data_) (number 1 (bit b.is_delta) no_slots) rest in
    let (q2, e2, f2, g2) = values.1.0 in
    record {
      id = long-read m p 0 q0 b.id e0 f0;
      values = table-optional record_batch_slots IsRecordBatch (λ m t x. IsRecordBatch-holds m t x) m p 1 b.data_ values.0;
      delta = flag-read m p 2 q2 b.is_delta e2 f2;
    }

IsHeader-holds : (levels : ℕ) (m : List ℕ) (p : ℕ) (h : MessageHeader) → HoldsPart m p (table (header_slots h)) → IsHeader levels (spot m p) h
IsHeader-holds levels m p (a_schema s) h = IsSchema-holds levels m p s h
IsHeader-holds levels m p (a_dictionary_batch b) h = IsDictionaryBatch-holds m p b h
IsHeader-holds levels m p (a_record_batch b) h = IsRecordBatch-holds m p b h

header-low : (h : MessageHeader) → (0 < header_tag h) × (header_tag h ≤ 5)
header-low (a_schema s) = (omega arith, omega arith)
header-low (a_dictionary_batch b) = (omega arith, omega arith)
header-low (a_record_batch b) = (omega arith, omega arith)

IsMessage-holds : (levels : ℕ) (m : List ℕ) (p : ℕ) (x : Message) → HoldsPart m p (table (message_slots x)) → IsMessage levels (spot m p) x
IsMessage-holds levels m p x (v, size, e, f, ((q0, e0, f0, g0), ((q1, e1, f1, g1), ((q2, t2, e2, f2, g2, h2), ((q3, e3, f3, g3), rest))))) = record {
  version = unit-read version_number version_of version-back 0 m p 0 q0 x.version e0 f0;
  header = (
    spot m t2,
    union-read 5 m p 1 (header_tag x.header) (spot m t2) (number-read 1 0 m p 1 q1 (header_tag x.header) e1 f1) (header-low x.header).0 (header-low x.header).1
        (table-read m p 2 q2 t2 (header_slots x.header) e2 f2 h2),
    IsHeader-holds levels m t2 x.header h2,
  );
  body_length = long-read m p 3 q3 x.body_length e3 f3;
  pairs = AreOptionalPairs-holds m p 4 x.custom_metadata (optional-read m p size 4 (option_map (λ v. pairs_vector v.items) x.custom_metadata) no_slots rest).0;
}

IsFooter-holds : (levels : ℕ) (m : List ℕ) (p : ℕ) (x : Footer) → HoldsPart m p (table (footer_slots x)) → IsFooter levels (spot m p) x
IsFooter-holds levels m p x (v, size, e, f, ((q0, e0, f0, g0), rest)) =
    let schema = option_map (λ s. table (schema_slots s)) x.schema in
    let dictionaries = option_map (λ v. blocks_part v.items) x.dictionaries in
    let batches = option_map (λ v. blocks_part v.items) x.record_batches in
    let pairs = option_map (λ v. pairs_vector v.items) x.custom_metadata in
    let first = optional-read m p size 1 schema (optional dictionaries (optional batches (optional pairs no_slots))) rest in
    let second = optional-read m p size 2 dictionaries (optional batches (optional pairs no_slots)) first.1 in
    let third = optional-read m p size 3 batches (optional pairs no_slots) second.1 in
    let last = optional-read m p size 4 pairs no_slots third.1 in
    record {
      version = unit-read version_number version_of version-back 0 m p 0 q0 x.version e0 f0;
      schema = table-optional schema_slots (IsSchema levels) (λ m t s. IsSchema-holds levels m t s) m p 1 x.schema first.0;
      dictionaries = blocks-optional m p 2 x.dictionaries second.0;
      record_batches = blocks-optional m p 3 x.record_batches third.0;
      pairs = AreOptionalPairs-holds m p 4 x.custom_metadata last.0;
    }

root-opened : (m : List ℕ) (p : ℕ) (slots : Slots) → number_at 4 m 0 ≡ Ok p → HoldsPart m p (table slots) → root_at m ≡ Ok (spot m p)
root-opened m p slots e h = ap (λ r. and_then r (spot_at m)) e ∙ spot-read m p slots h

-- the bytes of a message read as it
pub message-read : (levels : ℕ) (bytes : List ℕ) (x : Message) → HoldsRoot bytes (message_slots x) → HaveRoot bytes (IsMessage levels) x
message-read levels bytes x (p, e, h) = record { root = spot bytes p; opened = root-opened bytes p (message_slots x) e h; reads = IsMessage-holds levels bytes p x h }

-- the bytes of a footer read as it
pub footer-read : (levels : ℕ) (bytes : List ℕ) (x : Footer) → HoldsRoot bytes (footer_slots x) → HaveRoot bytes (IsFooter levels) x
footer-read levels bytes x (p, e, h) = record { root = spot bytes p; opened = root-opened bytes p (footer_slots x) e h; reads = IsFooter-holds levels bytes p x h }

pub message-read-from : {A : Type 0} (result : Result (Vec ℕ A) Fault) (x : Message) → Encodes result (message_slots x) → (levels : ℕ) → IfOk result (λ bytes. HaveRoot bytes.items (IsMessage levels) x)
message-read-from (Ok bytes) x is levels = message-read levels bytes.items x is.holds
message-read-from (Err e) x is levels = tt

pub footer-read-from : {A : Type 0} (result : Result (Vec ℕ A) Fault) (x : Footer) → Encodes result (footer_slots x) → (levels : ℕ) → IfOk result (λ bytes. HaveRoot bytes.items (IsFooter levels) x)
footer-read-from (Ok bytes) x is levels = footer-read levels bytes.items x is.holds
footer-read-from (Err e) x is levels = tt
