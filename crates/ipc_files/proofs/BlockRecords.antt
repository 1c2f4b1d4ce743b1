-- The record batch at a block.
use Rattle.std.proofs.Common.{◌≡◌, ℕ, List, [], drop, Option, None, Some, Result, Ok, Err, OnOk, refl, sym, ap, subst, ◌∙◌}
use Rattle.std.specs.Prelude.{slice_get}
use Rattle.std.specs.Option.{option_and_then}
use Rattle.lower.specs.declared.datatypes.Field.{Field}
use Rattle.lower_arrays.specs.declared.array.AnyArray.{AnyArray}
use Rattle.ipc_devices.proofs.Claims.{claims_through}
use Rattle.ipc_devices.specs.Faults.{OwnFault}
use Rattle.ipc_devices.specs.declared.fault.Fault.{Fault}
use Rattle.ipc_table_views.specs.Spot.{Spot}
use Rattle.ipc_table_views.specs.Unions.{header_parts}
use Rattle.ipc_table_views.specs.declared.file.Block.{Block}
use Rattle.ipc_table_views.specs.declared.message.MessageHeaderRef.{MessageHeaderRef}
use Rattle.ipc_table_views.specs.declared.message.MessageHeaderRef.TheVariants as headers
use Rattle.ipc_model.specs.Batches.{Schema, Body, Chunk, record_meaning, batch, extra_of}
use Rattle.ipc_model.specs.Entries.{Dictionaries, Limit}
use Rattle.ipc_model.specs.Files.{Placed, BlockHeader, placed, block_header, body_at, front_metadata, metadata_at, record_with, chunk_at, file_chunk}
use Rattle.ipc_model.specs.Frame.{Frame, message, mark, waiting, broken, frame}
use Rattle.ipc_files.specs.declared.read.file.block.BlockMessage.{BlockMessage}
use Rattle.ipc_files.specs.declared.read.file.block.BlockPlace.{BlockPlace}
use Rattle.ipc_files.specs.declared.read.file.metadata.FileMetadata.{FileMetadata}
use Rattle.ipc_model.specs.Schemas.{given}
use Rattle.ipc_files.specs.Batches.{block_metadata, needed_record}
use Rattle.ipc_files.specs.Blocks.{message_seen, place_seen, stated_metadata}
use Rattle.ipc_files.specs.Footers.{GivesPart, file_seen}
use Rattle.ipc_read.specs.Chunks.{GivesBatch, batch_schema, chunk_seen}
use Rattle.ipc_files.proofs.BlockHeaders.{no-header}
use Rattle.ipc_files.proofs.BlockMeanings.{at-block, refused-place, refused-message, refused-header, opened-is, gives-part}

-- the metadata of a schema say nothing of a batch
same-meaning : (s : Schema) (extra : ℕ) (known : Dictionaries) (b : Body) (t : Spot) (projection : Option (List ℕ)) (limit : Limit)
    → record_meaning (record { fields = s.fields; metadata = []; ids = s.ids; order = s.order }) extra known b t projection limit
    ≡ record_meaning s extra known b t projection limit
unfolding record_meaning batch
same-meaning s extra known b t projection limit = refl

-- what was read by the fields and the ids of a file
pub record-given : (m : FileMetadata) (extra : ℕ) (known : Dictionaries) (b : Body) (t : Spot) (projection : Option (List ℕ)) (limit : Limit) (fs : List Field) (r : Result (List AnyArray) Fault)
    → fs ≡ m.schema.fields.items → GivesBatch (batch_schema fs m.ipc_schema) extra known b t projection limit r
    → GivesPart chunk_seen r (record_meaning (file_seen m).schema extra known b t projection limit)
record-given m extra known b t projection limit fs r same h =
    subst (λ (o : Option Chunk). GivesPart chunk_seen r o)
    (ap (λ (f : List Field). record_meaning (batch_schema f m.ipc_schema) extra known b t projection limit) same ∙ same-meaning (file_seen m).schema extra known b t projection limit)
    (gives-part chunk_seen r _ h)

module _ (m : FileMetadata) (known : Dictionaries) (source : List ℕ) (projection : Option (List ℕ)) (limit : Limit) where
  abbrev record-at : Placed → BlockHeader → Option Chunk
  record-at p h = record_with (file_seen m) known (body_at (file_seen m) source p) projection limit h

  chunk-is : (b : Block) → chunk_at (file_seen m) known source b projection limit ≡ at-block record-at source b
  unfolding chunk_at
  chunk-is b = refl

  -- by the kind of the message
  other-record : (p : Placed) (header : MessageHeaderRef) (extra : ℕ) (e : Fault) → Err e ≡ needed_record header
      → record-at p (record { tag = (header_parts header).0; table = (header_parts header).1; extra = extra }) ≡ None
  other-record p (headers.Schema t) extra e is = refl
  other-record p (headers.DictionaryBatch t) extra e is = refl
  other-record p (headers.RecordBatch t) extra e is = cc
  other-record p (headers.Tensor t) extra e is = refl
  other-record p (headers.SparseTensor t) extra e is = refl

  this-record : (p : Placed) (header : MessageHeaderRef) (extra : ℕ) (t : Spot) → Ok t ≡ needed_record header
      → record-at p (record { tag = (header_parts header).0; table = (header_parts header).1; extra = extra })
      ≡ record_meaning (file_seen m).schema extra known (body_at (file_seen m) source p) t projection limit
  this-record p (headers.Schema s) extra t is = cc
  this-record p (headers.DictionaryBatch s) extra t is = cc
  this-record p (headers.RecordBatch s) extra t is =
      let same : s ≡ t = cc in ap (λ (x : Spot). record_meaning (file_seen m).schema extra known (body_at (file_seen m) source p) x projection limit) same
  this-record p (headers.Tensor s) extra t is = cc
  this-record p (headers.SparseTensor s) extra t is = cc

  module _ (i : ℕ) (b : Block) (listed : slice_get m.blocks.items i ≡ Some b) where
    block-is : file_chunk (file_seen m) known source projection limit i ≡ at-block record-at source b
    block-is = ap (λ (o : Option Block). option_and_then (λ x. chunk_at (file_seen m) known source x projection limit) o) listed ∙ chunk-is b

    block-none : (e : Fault) → OwnFault e (at-block record-at source b ≡ None) → OwnFault e (file_chunk (file_seen m) known source projection limit i ≡ None)
    block-none e h = claims_through e _ _ (λ none. block-is ∙ none) h

    pub refused-record-place : (e : Fault) → OwnFault e (placed b ≡ None) → OwnFault e (file_chunk (file_seen m) known source projection limit i ≡ None)
    refused-record-place e h = block-none e (refused-place record-at source b e h)

    module _ (p : BlockPlace) (stands : placed b ≡ Some (place_seen p)) where
      pub refused-record-message : (e : Fault) → OwnFault e (stated_metadata (frame (drop p.message source)) ≡ None)
          → OwnFault e (file_chunk (file_seen m) known source projection limit i ≡ None)
      refused-record-message e h = block-none e (refused-message record-at source b (place_seen p) stands e h)

      module _ (metadata : List ℕ) (framed : stated_metadata (frame (drop p.message source)) ≡ Some metadata) where
        pub refused-record-header : (e : Fault) → OwnFault e (block_header metadata ≡ None)
            → OwnFault e (file_chunk (file_seen m) known source projection limit i ≡ None)
        refused-record-header e h = block-none e (refused-header record-at source b (place_seen p) stands metadata framed e h)

        module _ (x : BlockMessage) (opened : block_header metadata ≡ Some (message_seen x)) where
          message-is : file_chunk (file_seen m) known source projection limit i ≡ record-at (place_seen p) (message_seen x)
          message-is = block-is ∙ opened-is record-at source b (place_seen p) stands metadata framed (message_seen x) opened

          pub refused-record-kind : (e : Fault) → Err e ≡ needed_record x.header → file_chunk (file_seen m) known source projection limit i ≡ None
          refused-record-kind e other = message-is ∙ other-record (place_seen p) x.header (extra_of x.version) e other

          pub read-record : (t : Spot) (bytes : List ℕ) (r : Result (List AnyArray) Fault) → Ok t ≡ needed_record x.header → bytes ≡ source
              → GivesPart chunk_seen r (record_meaning (file_seen m).schema (extra_of x.version) known (record { source = bytes; base = p.body; size = m.size }) t projection limit)
              → GivesPart chunk_seen r (file_chunk (file_seen m) known source projection limit i)
          read-record t bytes r is still h =
              subst (λ (o : Option Chunk). GivesPart chunk_seen r o)
              (ap (λ (s : List ℕ). record_meaning (file_seen m).schema (extra_of x.version) known (record { source = s; base = p.body; size = m.size }) t projection limit) still
              ∙ sym (message-is ∙ this-record (place_seen p) x.header (extra_of x.version) t is)) h

-- ---- the message at a block

record-tag : (metadata : List ℕ) (f : Frame) (x : BlockMessage) → stated_metadata f ≡ Some metadata → block_header metadata ≡ Some (message_seen x) → front_metadata f ≡ Some metadata
record-tag metadata (message m rest) x framed opened = framed
record-tag metadata (mark rest) x framed opened =
    let same : [] ≡ metadata = let e : Some [] ≡ Some metadata = framed in cc in
    let none : None ≡ Some (message_seen x) = sym no-header ∙ ap block_header same ∙ opened in
    absurd cc
record-tag metadata (waiting begun) x framed opened = let no : None ≡ Some metadata = framed in absurd cc
record-tag metadata broken x framed opened = let no : None ≡ Some metadata = framed in absurd cc

pub on-ok : {X : Type 0} (r : Result X Fault) (P : Type 0) → P → OnOk r P
on-ok (Ok x) P p = p
on-ok (Err e) P p = tt

module _ (blocks : List Block) (i : ℕ) (b : Block) (listed : slice_get blocks i ≡ Some b) where
  pub message-read : (source : List ℕ) (p : BlockPlace) (metadata : List ℕ) (x : BlockMessage) → placed b ≡ Some (place_seen p)
      → stated_metadata (frame (drop p.message source)) ≡ Some metadata → block_header metadata ≡ Some (message_seen x) → block_metadata source (slice_get blocks i) ≡ Some metadata
  message-read source p metadata x stands framed opened =
      ap (block_metadata source) listed
      ∙ ap (λ (o : Option Placed). given o (metadata_at source)) stands
      ∙ record-tag metadata (frame (drop p.message source)) x framed opened

  pub has-place : {P : Type 0} (p : BlockPlace) → placed b ≡ Some (place_seen p) → option_and_then placed (slice_get blocks i) ≡ None → P
  has-place p stands none = let no : Some (place_seen p) ≡ None = sym stands ∙ sym (ap (option_and_then placed) listed) ∙ none in absurd cc
