-- The dictionary batch at a block.
use Rattle.std.proofs.Common.{◌≡◌, ℕ, ℤ, List, [], drop, Option, None, Some, Result, Ok, Err, IfErr, refl, sym, ap, subst, ◌∙◌}
use Rattle.lower.specs.declared.datatypes.Field.{Field}
use Rattle.ipc_devices.proofs.Claims.{claims_through}
use Rattle.ipc_devices.specs.Faults.{OwnFault}
use Rattle.ipc_devices.specs.declared.fault.Fault.{Fault}
use Rattle.ipc_table_views.specs.Spot.{Spot}
use Rattle.ipc_table_views.specs.Unions.{header_parts}
use Rattle.ipc_table_views.specs.declared.file.Block.{Block}
use Rattle.ipc_table_views.specs.declared.message.MessageHeaderRef.{MessageHeaderRef}
use Rattle.ipc_table_views.specs.declared.message.MessageHeaderRef.TheVariants as headers
use Rattle.ipc_model.specs.Batches.{Schema, Body, dictionary_meaning, extra_of}
use Rattle.ipc_model.specs.Entries.{Dictionaries}
use Rattle.ipc_model.specs.Files.{Placed, BlockHeader, placed, block_header, body_at, dictionaries_with, dictionaries_at}
use Rattle.ipc_model.specs.Frame.{frame}
use Rattle.ipc_files.specs.declared.read.file.block.BlockMessage.{BlockMessage}
use Rattle.ipc_files.specs.declared.read.file.block.BlockPlace.{BlockPlace}
use Rattle.ipc_files.specs.declared.read.file.metadata.FileMetadata.{FileMetadata}
use Rattle.ipc_files.specs.Blocks.{message_seen, place_seen, stated_metadata}
use Rattle.ipc_files.specs.Dictionaries.{GivesKnown, needed_dictionary}
use Rattle.ipc_files.specs.Footers.{file_seen}
use Rattle.ipc_read.specs.Chunks.{batch_schema}
use Rattle.ipc_read.specs.DictionaryBatches.{BlamesDictionary, BlamesHead, GivesDictionary, TellsHead, TellsValues, dictionary_head}
use Rattle.ipc_files.proofs.BlockMeanings.{at-block, refused-place, refused-message, refused-header, opened-is}
use Rattle.ipc_files.proofs.KnownAlike.{gives-known}

if_err : {X : Type 0} (r : Result X Fault) {P Q : Fault → Type 0} → ((e : Fault) → P e → Q e) → IfErr r P → IfErr r Q
if_err (Ok x) f h = tt
if_err (Err e) f h = f e h

-- The metadata of a schema say nothing of a dictionary.
same-dictionary : (s : Schema) (extra : ℕ) (known : Dictionaries) (b : Body) (t : Spot)
    → dictionary_meaning (record { fields = s.fields; metadata = []; ids = s.ids; order = s.order }) extra known b t ≡ dictionary_meaning s extra known b t
unfolding dictionary_meaning
same-dictionary s extra known b t = refl

-- what was read by the fields and the ids of a file
pub dictionary-given : {X : Type 0} (m : FileMetadata) (extra : ℕ) (known after : Dictionaries) (b : Body) (t : Spot) (fs : List Field) (r : Result X Fault)
    → fs ≡ m.schema.fields.items → GivesDictionary (batch_schema fs m.ipc_schema) extra known b t r after
    → GivesKnown (λ (x : X). after) r (dictionary_meaning (file_seen m).schema extra known b t)
dictionary-given {X} m extra known after b t fs r same h =
    subst (λ (o : Option Dictionaries). GivesKnown (λ (x : X). after) r o)
    (ap (λ (f : List Field). dictionary_meaning (batch_schema f m.ipc_schema) extra known b t) same ∙ same-dictionary (file_seen m).schema extra known b t)
    (gives-known r _ after h)

-- Nor do they say anything of its errors.
same-head : (s : Schema) (t : Spot) (o : Option (ℤ × Spot)) (e : Fault) → BlamesHead (record { fields = s.fields; metadata = []; ids = s.ids; order = s.order }) t o e → BlamesHead s t o e
same-head s t None e f = f
same-head s t (Some h) e f = f

same-lists : (s : Schema) (extra size : ℕ) (o : Option (ℤ × Spot)) (e : Fault) → TellsHead (record { fields = s.fields; metadata = []; ids = s.ids; order = s.order }) extra size o e
    → TellsHead s extra size o e
same-lists s extra size None e f = f
same-lists s extra size (Some h) e f = f

module _ {X : Type 0} (m : FileMetadata) (t : Spot) (fs : List Field) (r : Result X Fault) (same : fs ≡ m.schema.fields.items) where
  pub dictionary-blames : IfErr r (λ e. OwnFault e (BlamesDictionary (batch_schema fs m.ipc_schema) t e)) → IfErr r (λ e. OwnFault e (BlamesDictionary (file_seen m).schema t e))
  dictionary-blames h = if_err r (λ e. claims_through e _ _ (same-head (file_seen m).schema t (dictionary_head t) e)) (subst (λ (f : List Field). IfErr r (λ e. OwnFault e (BlamesDictionary (batch_schema f m.ipc_schema) t e))) same h)

  pub dictionary-tells : (extra size : ℕ) → IfErr r (TellsValues (batch_schema fs m.ipc_schema) extra t size) → IfErr r (TellsValues (file_seen m).schema extra t size)
  dictionary-tells extra size h =
      if_err r (same-lists (file_seen m).schema extra size (dictionary_head t)) (subst (λ (f : List Field). IfErr r (TellsValues (batch_schema f m.ipc_schema) extra t size)) same h)

module _ (m : FileMetadata) (known : Dictionaries) (source : List ℕ) where
  abbrev dictionary-at : Placed → BlockHeader → Option Dictionaries
  dictionary-at p h = dictionaries_with (file_seen m) known (body_at (file_seen m) source p) h

  block-is : (b : Block) → dictionaries_at (file_seen m) known source b ≡ at-block dictionary-at source b
  unfolding dictionaries_at
  block-is b = refl

  -- by the kind of the message
  other-dictionary : (p : Placed) (header : MessageHeaderRef) (extra : ℕ) (e : Fault) → Err e ≡ needed_dictionary header
      → dictionary-at p (record { tag = (header_parts header).0; table = (header_parts header).1; extra = extra }) ≡ None
  other-dictionary p (headers.Schema t) extra e is = refl
  other-dictionary p (headers.DictionaryBatch t) extra e is = cc
  other-dictionary p (headers.RecordBatch t) extra e is = refl
  other-dictionary p (headers.Tensor t) extra e is = refl
  other-dictionary p (headers.SparseTensor t) extra e is = refl

  this-dictionary : (p : Placed) (header : MessageHeaderRef) (extra : ℕ) (t : Spot) → Ok t ≡ needed_dictionary header
      → dictionary-at p (record { tag = (header_parts header).0; table = (header_parts header).1; extra = extra })
      ≡ dictionary_meaning (file_seen m).schema extra known (body_at (file_seen m) source p) t
  this-dictionary p (headers.Schema s) extra t is = cc
  this-dictionary p (headers.DictionaryBatch s) extra t is =
      let same : s ≡ t = cc in ap (λ (x : Spot). dictionary_meaning (file_seen m).schema extra known (body_at (file_seen m) source p) x) same
  this-dictionary p (headers.RecordBatch s) extra t is = cc
  this-dictionary p (headers.Tensor s) extra t is = cc
  this-dictionary p (headers.SparseTensor s) extra t is = cc

  module _ (b : Block) where
    block-none : (e : Fault) → OwnFault e (at-block dictionary-at source b ≡ None) → OwnFault e (dictionaries_at (file_seen m) known source b ≡ None)
    block-none e h = claims_through e _ _ (λ none. block-is b ∙ none) h

    pub refused-dictionary-place : (e : Fault) → OwnFault e (placed b ≡ None) → OwnFault e (dictionaries_at (file_seen m) known source b ≡ None)
    refused-dictionary-place e h = block-none e (refused-place dictionary-at source b e h)

    module _ (p : BlockPlace) (stands : placed b ≡ Some (place_seen p)) where
      pub refused-dictionary-message : (e : Fault) → OwnFault e (stated_metadata (frame (drop p.message source)) ≡ None)
          → OwnFault e (dictionaries_at (file_seen m) known source b ≡ None)
      refused-dictionary-message e h = block-none e (refused-message dictionary-at source b (place_seen p) stands e h)

      module _ (metadata : List ℕ) (framed : stated_metadata (frame (drop p.message source)) ≡ Some metadata) where
        pub refused-dictionary-header : (e : Fault) → OwnFault e (block_header metadata ≡ None) → OwnFault e (dictionaries_at (file_seen m) known source b ≡ None)
        refused-dictionary-header e h = block-none e (refused-header dictionary-at source b (place_seen p) stands metadata framed e h)

        module _ (x : BlockMessage) (opened : block_header metadata ≡ Some (message_seen x)) where
          message-is : dictionaries_at (file_seen m) known source b ≡ dictionary-at (place_seen p) (message_seen x)
          message-is = block-is b ∙ opened-is dictionary-at source b (place_seen p) stands metadata framed (message_seen x) opened

          pub refused-dictionary-kind : (e : Fault) → Err e ≡ needed_dictionary x.header → dictionaries_at (file_seen m) known source b ≡ None
          refused-dictionary-kind e other = message-is ∙ other-dictionary (place_seen p) x.header (extra_of x.version) e other

          pub read-dictionary : {X : Type 0} (t : Spot) (bytes : List ℕ) (r : Result X Fault) (after : Dictionaries) → Ok t ≡ needed_dictionary x.header → bytes ≡ source
              → GivesKnown (λ (y : X). after) r (dictionary_meaning (file_seen m).schema (extra_of x.version) known (record { source = bytes; base = p.body; size = m.size }) t)
              → GivesKnown (λ (y : X). after) r (dictionaries_at (file_seen m) known source b)
          read-dictionary {X} t bytes r after is still h =
              subst (λ (o : Option Dictionaries). GivesKnown (λ (y : X). after) r o)
              (ap (λ (s : List ℕ). dictionary_meaning (file_seen m).schema (extra_of x.version) known (record { source = s; base = p.body; size = m.size }) t) still
              ∙ sym (message-is ∙ this-dictionary (place_seen p) x.header (extra_of x.version) t is)) h
