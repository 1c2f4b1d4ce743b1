-- Which chunks a writer accepts. They have as many columns as fields, of their types in the normal
-- form, and one list of values for each dictionary id. The lengths of nodes and bodies are below
-- 2 ^ 63. The error of a refused write is stated by `RefusesWrite` of `ipc_write`.
-- (Arrow columnar format, "RecordBatch message", "Dictionary messages" and "IPC File Format". The
-- limits are those of signed 64-bit integers.)
use Rattle.std.specs.Prelude.{◌≡◌, ℕ, ℤ, pos, ◌+◌, ◌^◌, ◌<◌, ◌≤◌, true, is_some, if◌then◌else◌, List, [], ◌∷◌, length, map, Option, None, Some}
use Rattle.std.specs.Int.{next_multiple_of}
use Rattle.std.specs.List.{AllByRecursion, sum_by}
use Rattle.lower.specs.Normal.{norm}
use Rattle.lower.specs.TypeTrees.{TypeTree, field, FieldTrees, no_fields, more_fields}
use Rattle.ipc_base.specs.IdTrees.{IdTrees}
use Rattle.ipc_table_views.specs.declared.file.Block.{Block}
use Rattle.ipc_model.specs.Batches.{Chunk, field_type}
use Rattle.ipc_model.specs.Entries.{IsSize, size, Dictionary, Dictionaries, dictionary_at}
use Rattle.ipc_model.specs.Writable.{IsWritable}

-- The values that a chunk has at one dictionary field, with the field's dictionary id.
pub record Brought : Type 0 where
  pub id : ℤ
  pub values : Dictionary

-- What a chunk brings to a writer: its columns and the values at its dictionary fields. `nodes` and
-- `bodies` are the lengths of nodes and buffers of its messages, those of dictionaries first.
pub record Offer : Type 0 where
  pub columns : Chunk
  pub dictionaries : List Brought
  pub nodes : List ℕ
  pub bodies : List (List ℕ)

-- The length of a body: each buffer is padded to a multiple of 64 bytes.
abbrev pub body_length : List ℕ → ℕ
body_length lengths = sum_by (λ n. next_multiple_of n 64) lengths

-- n fits in a signed 64-bit integer.
abbrev pub IsSayable : ℕ → Type 0
IsSayable n = n < 2 ^ 63

-- The types of some fields, in their order.
abbrev pub types_of : FieldTrees → List TypeTree
types_of no_fields = []
types_of (more_fields f fs) = field_type f ∷ types_of fs

-- If two dictionary fields have one id, their values have the same slots.
abbrev pub HaveSameValues : Brought → Brought → Type 0
HaveSameValues p q = p.id ≡ q.id → p.values.slots ≡ q.values.slots

-- Dictionary fields of one id have the same values.
abbrev pub AreShared : List Brought → Type 0
AreShared [] = Unit {0}
AreShared (p ∷ ps) = AllByRecursion (HaveSameValues p) ps × AreShared ps

-- A writer of a schema with these fields accepts the chunk: there are as many columns as
-- fields, of their types in the normal form. Dictionary fields of one id have the same values,
-- and all lengths fit in the messages.
pub record IsAccepted (fs : FieldTrees) (o : Offer) : Type 0 where
  pub count : length o.columns ≡ length (types_of fs)
  pub types : map (λ c. norm c.type) o.columns ≡ map norm (types_of fs)
  pub shared : AreShared o.dictionaries
  pub nodes : AllByRecursion IsSayable o.nodes
  pub bodies : AllByRecursion (λ lengths. IsSayable (body_length lengths)) o.bodies

-- ---- files

-- If an id already has values, the new ones are the same, with the same type in its normal form.
abbrev pub AreKept : Option Dictionary → Dictionary → Type 0
AreKept None values = Unit {0}
AreKept (Some d) values = (d.slots ≡ values.slots) × (d.type ≡ norm values.type)

-- The largest number of blocks in the footer of a file.
abbrev pub most_blocks : ℕ
most_blocks = 2 ^ 25

-- The buffer lengths of the messages that are written: of each dictionary whose id isn't
-- known yet, and last of the record.
abbrev pub written_bodies : Dictionaries → List Brought → List (List ℕ) → List (List ℕ)
written_bodies known [] bodies = bodies
written_bodies known (p ∷ ps) [] = []
written_bodies known (p ∷ ps) (b ∷ bodies) =
    if is_some (dictionary_at known p.id) then written_bodies known ps bodies
    else (b ∷ written_bodies ((p.id, p.values) ∷ known) ps bodies)

-- The offset at which the message of a block ends, after its metadata and its body.
abbrev pub block_end : Block → ℕ
block_end b = size b.offset + size b.meta_data_length + size b.body_length

-- These are the blocks of messages with these buffer lengths, one after the other from an offset
-- on. The end of each fits in a signed 64-bit integer.
abbrev pub AreBlocks : ℕ → List Block → List (List ℕ) → Type 0
AreBlocks place [] [] = Unit {0}
AreBlocks place (b ∷ bs) (lengths ∷ bodies) =
    (b.offset ≡ pos place) × IsSize b.meta_data_length × (b.body_length ≡ pos (body_length lengths)) × IsSayable (block_end b)
    × AreBlocks (block_end b) bs bodies
AreBlocks place _ _ = ⊥

-- The writer of a file with so many blocks accepts the chunk at an offset, with these known
-- dictionaries. No dictionary is replaced; the added blocks, one for each message that is written,
-- fit in the file and its footer.
pub record IsAcceptedByFile (fs : FieldTrees) (known : Dictionaries) (blocks place : ℕ) (added : List Block) (o : Offer) : Type 0 where
  pub accepted : IsAccepted fs o
  pub kept : AllByRecursion (λ p. AreKept (dictionary_at known p.id) p.values) o.dictionaries
  pub few : blocks + length added ≤ most_blocks
  pub places : AreBlocks place added (written_bodies known o.dictionaries o.bodies)

-- ---- without a schema

-- Fields for columns that have no schema: their types, without names and metadata.
abbrev pub fields_of : List TypeTree → FieldTrees
fields_of [] = no_fields
fields_of (t ∷ ts) = more_fields (field [] t true []) (fields_of ts)

-- Columns without a schema can be encoded with these ids: their fields can be written with the
-- ids, and the chunk is accepted.
pub record MayBeEncoded (is : IdTrees) (o : Offer) : Type 0 where
  pub writable : IsWritable (fields_of (map (λ c. c.type) o.columns)) [] is
  pub accepted : IsAccepted (fields_of (map (λ c. c.type) o.columns)) o
