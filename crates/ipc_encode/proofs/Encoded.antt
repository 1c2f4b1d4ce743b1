-- The message of a batch is that of its columns, and why there is none.
use Rattle.std.proofs.Common.{arith, ◌≡◌, ℕ, ℤ, pos, ◌⊎◌, inl, inr, ◌*◌, ◌^◌, ◌<◌, ◌≤◌, List, length, All, refl, sym, ap, ap₂, ◌∙◌, subst}
use Rattle.std.specs.Prelude.{None, Vec}
use Rattle.std.specs.declared.alloc.Global.{Global}
use Rattle.lower_types.specs.declared.Endianness.{Endianness}
use Rattle.lower_arrays.specs.Layouts.{Layout, Level, layouts}
use Rattle.lower_arrays.specs.Slots.{AreArrays}
use Rattle.ipc_devices.specs.declared.fault.ArgFault.TheVariants.{TooLarge}
use Rattle.ipc_devices.specs.declared.fault.Fault.{Fault}
use Rattle.ipc_devices.specs.declared.fault.Fault.TheVariants.{Argument, Memory}
use Rattle.ipc_table_bytes.specs.Encodes.{IsEncoding}
use Rattle.ipc_table_bytes.specs.Sizes.{message_size}
use Rattle.ipc_tables.specs.Messages.{message_slots}
use Rattle.ipc_tables.specs.Reads.{HaveRoot, IsMessage}
use Rattle.ipc_tables.specs.declared.message.Message.{Message}
use Rattle.ipc_tables.specs.declared.message.MessageHeader.{MessageHeader}
use Rattle.ipc_table_views.specs.declared.schema.MetadataVersion.TheVariants.{V5}
use Rattle.ipc_tables.proofs.Kept.{BufferFits, NodeFits}
use Rattle.ipc_table_views.specs.declared.message.FieldNode.{FieldNode}
use Rattle.ipc_table_views.specs.declared.schema.Buffer.{Buffer}
use Rattle.ipc_model.specs.Accepted.{body_length}
use Rattle.ipc_model.specs.Offers.{body_lengths}
use Rattle.ipc_plan.specs.Batches.{body_of_plan, lists_of_plan}
use Rattle.ipc_plan.specs.Bodies.{PlansColumns}
use Rattle.ipc_plan.specs.Levels.{joined_buffers}
use Rattle.ipc_plan.specs.Pieces.{pieces_bytes}
use Rattle.ipc_plan.specs.Taking.{AreShort}
use Rattle.ipc_plan.specs.declared.plan.Plan.{Plan}
use Rattle.ipc_encode.specs.Encoding.{IdFits, IsEncoded, IsMessageOfPlan, RefusesBatch, header_in, levels_of, metadata_length}
use Rattle.ipc_encode.specs.declared.batches.BatchKind.{BatchKind}
use Rattle.ipc_encode.proofs.Entries.{buffers_fit, nodes_fit}
use Rattle.ipc_encode.proofs.Metadata.{batch_message_size, metadata_say}

-- a plan's bytes
planned : (order : Endianness) (ls : List Layout) (p : Plan) (h : PlansColumns order ls p) → body_of_plan p ≡ pieces_bytes order p.pieces.items
planned order ls p h = ap (λ (o : Endianness). pieces_bytes o p.pieces.items) h.order_is

pub planned_end : (order : Endianness) (ls : List Layout) (p : Plan) (h : PlansColumns order ls p) → p.end ≡ length (pieces_bytes order p.pieces.items)
planned_end order ls p h = h.end_is ∙ ap length (sym h.body_is)

-- What is left of a plan whose nodes and buffers were moved.
pub kept_end : (order : Endianness) (ls : List Layout) (p q : Plan) → PlansColumns order ls p → q.pieces.items ≡ p.pieces.items → q.end ≡ p.end → q.end ≡ length (pieces_bytes order q.pieces.items)
kept_end order ls p q h pieces end = rw pieces (end ∙ planned_end order ls p h)

pub kept_few : (order : Endianness) (ls : List Layout) (p q : Plan) → PlansColumns order ls p → q.pieces.items ≡ p.pieces.items → length q.pieces.items ≤ length (body_lengths (levels_of ls))
kept_few order ls p q h pieces = omega (arith, ap length pieces, h.piece_count, h.buffer_count)

pub encoded : (kind : BatchKind) (order : Endianness) (ls : List Layout) (rows : ℕ) (p q : Plan) (m : Message) (given : ℤ) (metadata : List ℕ)
    → AreArrays (layouts ls) → PlansColumns order ls p → AreShort (levels_of ls) → p.end ≡ body_length (body_lengths (levels_of ls)) → p.end < 2 ^ 63 → IsMessageOfPlan m kind given p → IdFits kind → given ≡ pos rows → rows < 2 ^ 63
    → IsEncoding metadata (message_slots m) → HaveRoot metadata (IsMessage 0) m → q.pieces.items ≡ p.pieces.items → IsEncoded kind order ls rows metadata (pieces_bytes order q.pieces.items)
encoded kind order ls rows p q m given metadata arrays plans short room small is id_fits same few encodes root left =
    let bs = joined_buffers plans.buffers in
    let sent = pieces_bytes order q.pieces.items in
    let bytes : sent ≡ body_of_plan p = ap (λ ps. pieces_bytes order ps) left ∙ sym (planned order ls p plans) in
    let long : p.end ≡ length sent = planned_end order ls p plans ∙ ap (λ ps. length (pieces_bytes order ps)) (sym left) in
    let fit_nodes : All NodeFits p.nodes.items = subst (λ (ns : List FieldNode). All NodeFits ns) (sym plans.nodes_are) (nodes_fit ls short) in
    let fit_buffers : All BufferFits p.buffers.items =
    subst (λ (es : List Buffer). All BufferFits es) (sym plans.entries_are) (buffers_fit 0 bs (omega (arith, plans.end_is, small))) in
    record {
      plan = p;
      arrays = arrays;
      plans = plans;
      metadata_are =
          metadata_say kind metadata is.batch is.end rows (length sent) (lists_of_plan p) id_fits
          (subst (λ (n : Message). HaveRoot metadata (IsMessage 0) n) is.value root) (subst (λ (n : Message). IsEncoding metadata (message_slots n)) is.value encodes)
          is.uncompressed (is.rows_are ∙ same) few is.nodes_are is.buffers_are (is.end_is ∙ ap (λ n. pos n) long) (omega (arith, long, small)) fit_nodes fit_buffers;
      body_is = bytes;
      long = sym long ∙ room;
    }

-- A batch with the nodes and buffers of a plan.
pub plan_message : (kind : BatchKind) (p : Plan) (given end : ℤ) (nodes : Vec FieldNode Global) (buffers : Vec Buffer Global) (h : MessageHeader)
    → h ≡ header_in kind (record { length = given; nodes = nodes; buffers = buffers; compression = None }) → nodes.items ≡ p.nodes.items → buffers.items ≡ p.buffers.items → end ≡ pos p.end
    → IsMessageOfPlan (record { version = V5; header = h; body_length = end; custom_metadata = None }) kind given p
plan_message kind p given end nodes buffers h value ns bs es = record {
  batch = record { length = given; nodes = nodes; buffers = buffers; compression = None };
  end = end;
  value = ap (λ (k : MessageHeader). record { version = V5; header = k; body_length = end; custom_metadata = None }) value;
  uncompressed = refl;
  rows_are = refl;
  nodes_are = ns;
  buffers_are = bs;
  end_is = es;
}

-- How many bytes the metadata of the batch have.
pub message_length : (kind : BatchKind) (order : Endianness) (ls : List Layout) (p : Plan) (m : Message) (given : ℤ) → PlansColumns order ls p → IsMessageOfPlan m kind given p
    → message_size (message_slots m) ≡ metadata_length kind (length (levels_of ls)) (length (body_lengths (levels_of ls)))
message_length kind order ls p m given plans is =
    ap (λ (n : Message). message_size (message_slots n)) is.value ∙ batch_message_size kind is.batch is.end is.uncompressed
    ∙ ap₂ (λ (x y : ℕ). metadata_length kind x y) (ap length is.nodes_are ∙ plans.node_count) (ap length is.buffers_are ∙ plans.buffer_count)

pub short_metadata : (n size k : ℕ) → n ≡ size → n < 2 ^ 31 → size ≡ k → k < 2 ^ 31
short_metadata n size k e h f = omega (arith, e, h, f)

-- ---- why there is none

pub refused_message : (kind : BatchKind) (rows size : ℕ) (hs : List Level) (e : Fault) → size ≡ metadata_length kind (length hs) (length (body_lengths hs))
    → (e ≡ Memory) ⊎ ((e ≡ Argument TooLarge) × (2 ^ 31 ≤ size)) → RefusesBatch kind rows hs e
refused_message kind rows size hs e same (inl none) = subst (λ (f : Fault). RefusesBatch kind rows hs f) (sym none) tt
refused_message kind rows size hs e same (inr far) =
    subst (λ (f : Fault). RefusesBatch kind rows hs f) (sym far.0) (inr (subst (λ (n : ℕ). 2 ^ 31 ≤ n) same far.1))
