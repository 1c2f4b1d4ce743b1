-- What `write` does and returns.
-- (Arrow columnar format, "IPC File Format"; File.fbs.)
use Rattle.std.specs.Prelude.{◌≡◌, ◌⊎◌, ℕ, ◌+◌, ◌<◌, ◌≤◌, Bool, true, IsTrue, List, [], ◌∷◌, ◌++◌, length, map, Option, IfSome, Result, Ok, Err, IfOk, IfErr, OnOk, OnErr}
use Rattle.std.specs.List.{AllByRecursion}
use Rattle.lower.specs.Normal.{norm}
use Rattle.lower.specs.TypeTrees.{TypeTree}
use Rattle.lower.specs.TypeViews.{type_view}
use Rattle.lower.specs.declared.datatypes.Field.{Field}
use Rattle.lower_types.specs.declared.Endianness.{Endianness}
use Rattle.lower_arrays.specs.AnyLayouts.{layout_of}
use Rattle.lower_arrays.specs.Layouts.{Layout, layouts, len_of}
use Rattle.lower_arrays.specs.declared.array.AnyArray.{AnyArray}
use Rattle.ipc_base.specs.Chunks.{row_count}
use Rattle.ipc_base.specs.IdTrees.{IdTrees}
use Rattle.ipc_devices.specs.Faults.{IsIo, OnIo, OnRefused, OwnFault}
use Rattle.ipc_devices.specs.declared.fault.ArgFault.TheVariants.{DictionaryReplaced, SharedDictionary, TooLarge}
use Rattle.ipc_devices.specs.declared.fault.Fault.{Fault}
use Rattle.ipc_devices.specs.declared.fault.Fault.TheVariants.{Argument, Io, Memory as NoMemory}
use Rattle.ipc_encode.specs.Encoding.{IsEncodable, levels_of}
use Rattle.ipc_encode.specs.declared.batches.BatchKind.TheVariants.{Record}
use Rattle.ipc_table_views.specs.declared.file.Block.{Block}
use Rattle.ipc_model.specs.Accepted.{AreBlocks, AreKept, IsAcceptedByFile, IsSayable, body_length, most_blocks, written_bodies}
use Rattle.ipc_model.specs.Batches.{Chunk}
use Rattle.ipc_model.specs.Entries.{Dictionaries, dictionary_at}
use Rattle.ipc_model.specs.Offers.{FilledPlace, offer_of, values_of}
use Rattle.ipc_stream_lemmas.specs.Remembered.{KnowsRemembered}
use Rattle.ipc_tracker.specs.Listings.{ListsUnwritten, ListsAll, RefusesAll, remembering_all}
use Rattle.ipc_tracker.specs.Trackers.{IsSameMemory}
use Rattle.ipc_chunks.specs.Lengths.{HaveLengths}
use Rattle.ipc_write.specs.Meaning.{normal_types}
use Rattle.ipc_chunks.specs.Messages.{AreMessages, Message, RefusesMessages}
use Rattle.ipc_devices.specs.Device.{Device}
use Rattle.ipc_write.specs.Sending.{Delivers}
use Rattle.ipc_write.specs.Writers.{FitTypes, MissesWrite as StreamMisses, RefusesChunk as StreamRefuses, WriterSeen}
use Rattle.ipc_write.specs.declared.stream.WriterState.{WriterState}
use Rattle.ipc_write.specs.declared.stream.WriterState.TheVariants.{Failed, Started}
use Rattle.ipc_file_lemmas.specs.FileBytes.{Sent, all_bytes, block_at, blocks_at, chunk_bytes}
use Rattle.ipc_file_write.specs.Blocks.{HasBlocksFrom, RefusesBlockRoom, sent}
use Rattle.ipc_file_write.specs.FileWriters.{FileSeen, FileStep, HoldsBytes}
use Rattle.ipc_file_write.specs.declared.blocks.Placed.{Placed}

-- ---- calls

-- P holds if bytes were sent, all or some of them.
abbrev pub WhereSent : {X : Type 0} → Result X Fault → Type 0 → Type 0
WhereSent (Ok x) P = P
WhereSent (Err (Io e)) P = P
WhereSent (Err _) P = Unit {0}

-- A chunk was written: its dictionaries are remembered, and the blocks of its messages are
-- recorded.
pub record TakesChunk {W : Type 0} (a b : FileSeen W) (list : List FilledPlace) (ws : List Sent) (own : Sent) : Type 0 where
  pub was : a.state ≡ Started
  pub is : b.state ≡ Started
  pub ids : b.ids ≡ a.ids
  pub pairs : b.pairs ≡ a.pairs
  pub remembers : IsSameMemory (remembering_all list a.remembers) b.remembers
  pub dictionaries : b.dictionaries ≡ a.dictionaries ++ blocks_at a.place ws
  pub blocks : b.blocks ≡ a.blocks ++ block_at (a.place + length (all_bytes ws)) own ∷ []
  pub place : b.place ≡ a.place + length (chunk_bytes ws own)

-- If a call sends anything, it sends the messages of these columns. They are those of the
-- dictionaries that the writer doesn't remember, inner before outer, and that of the columns.
pub record SendsColumns {W : Type 0} (d : Device W) (a : FileSeen W) (r : Result Unit Fault) (b : FileSeen W) (columns : List AnyArray) : Type 0 where
  pub list : List FilledPlace
  pub dictionaries : List Message
  pub own : Message
  pub lists : WhereSent r (ListsAll a.remembers true (map layout_of columns) a.ids list)
  pub are : WhereSent r (AreMessages a.order (map layout_of columns) list dictionaries own)
  pub takes : OnOk r (TakesChunk a b list (map sent dictionaries) (sent own))
  pub step : FileStep d a r b (chunk_bytes (map sent dictionaries) (sent own))

-- The effect of `write` on the file: if it returns Ok, the file has one
-- chunk more, else it is as it was.
pub record Appends {W : Type 0} (d : Device W) (a : FileSeen W) (r : Result Unit Fault) (b : FileSeen W) (chunk : Chunk) : Type 0 where
  pub appended : IsTrue d.is_memory → (is_stream : Bool) (base : List ℕ) (cs : List Chunk) → HoldsBytes is_stream (d.memory a.device) a base cs
      → OnOk r (HoldsBytes is_stream (d.memory b.device) b base (cs ++ chunk ∷ []))
  pub kept : IsTrue d.is_memory → (is_stream : Bool) (base : List ℕ) (cs : List Chunk) → HoldsBytes is_stream (d.memory a.device) a base cs
      → OnErr r (HoldsBytes is_stream (d.memory b.device) b base cs)

-- ---- which chunks are accepted

-- The writer of the stream that the file contains.
abbrev pub as_stream : {W : Type 0} → FileSeen W → WriterSeen W
as_stream w = record { device = w.device; state = w.state; order = w.order; types = normal_types w.fields; ids = w.ids; dictionaries = w.remembers }

-- How many blocks the file has.
abbrev pub block_count : {W : Type 0} → FileSeen W → ℕ
block_count w = length w.dictionaries + length w.blocks

-- The messages that are written for some columns: those of the dictionaries that aren't
-- remembered, and that of the columns.
pub record Written {W : Type 0} (w : FileSeen W) (columns : List AnyArray) : Type 0 where
  pub list : List FilledPlace
  pub dictionaries : List Message
  pub own : Message
  pub lists : ListsUnwritten w.remembers (values_of (layouts (map layout_of columns)) w.ids) list
  pub are : AreMessages w.order (map layout_of columns) list dictionaries own

-- The blocks of these messages.
abbrev pub added_by : {W : Type 0} (w : FileSeen W) (columns : List AnyArray) → Written w columns → List Block
added_by w columns m = blocks_at w.place (map sent m.dictionaries ++ sent m.own ∷ [])

-- A started writer accepts the columns with these ids: there are none, or those of the
-- start. The columns are a chunk that the file accepts, with the blocks of their messages,
-- given these known dictionaries.
pub record MayBeWritten {W : Type 0} (w : FileSeen W) (known : Dictionaries) (columns : List AnyArray) (ids : Option IdTrees) : Type 0 where
  pub started : w.state ≡ Started
  pub same_ids : IfSome ids (λ given. given ≡ w.ids)
  pub messages : Written w columns
  pub accepted : IsAcceptedByFile w.fields known (block_count w) w.place (added_by w columns messages) (offer_of (map layout_of columns) w.ids)

-- The messages of the columns have blocks, which fit in the file and in its footer.
pub record HaveBlocks {W : Type 0} (w : FileSeen W) (known : Dictionaries) (columns : List AnyArray) : Type 0 where
  pub messages : Written w columns
  pub few : block_count w + length (added_by w columns messages) ≤ most_blocks
  pub places : AreBlocks w.place (added_by w columns messages) (written_bodies known (offer_of (map layout_of columns) w.ids).dictionaries (offer_of (map layout_of columns) w.ids).bodies)

-- By each error of `write`, the condition that isn't met.
abbrev pub MissesWrite : {W : Type 0} → FileSeen W → Dictionaries → List AnyArray → Option IdTrees → Fault → Type 0
MissesWrite w known columns ids (Argument (DictionaryReplaced j)) =
    ¬ AllByRecursion (λ p. AreKept (dictionary_at known p.id) p.values) (offer_of (map layout_of columns) w.ids).dictionaries
MissesWrite w known columns ids (Argument TooLarge) =
    ¬ (AllByRecursion (λ lengths. IsSayable (body_length lengths)) (offer_of (map layout_of columns) w.ids).bodies × HaveBlocks w known columns)
MissesWrite w known columns ids e = StreamMisses (as_stream w) w.fields columns ids e

-- `write` returns Ok exactly if the writer accepts the columns, unless an allocation or the device
-- fails. An error names a condition that isn't met.
abbrev pub AnswersWrite : {W : Type 0} → FileSeen W → Dictionaries → List AnyArray → Option IdTrees → Result Unit Fault → Type 0
AnswersWrite w known columns ids (Ok x) = MayBeWritten w known columns ids
AnswersWrite w known columns ids (Err e) = MissesWrite w known columns ids e × OwnFault e (¬ MayBeWritten w known columns ids)

-- `AnswersWrite` holds for each list of the dictionaries that the
-- writer remembers, and there is one.
pub record WritesExactly {W : Type 0} (w : FileSeen W) (columns : List AnyArray) (ids : Option IdTrees) (r : Result Unit Fault) : Type 0 where
  pub known : Dictionaries
  pub agrees : KnowsRemembered w.remembers known
  pub exact : (ds : Dictionaries) → KnowsRemembered w.remembers ds → AnswersWrite w ds columns ids r

-- If an error names a dictionary, that one is refused: fields of its id have different values, or
-- the values of one differ from those that the writer remembers.
abbrev pub NamesOne : {W : Type 0} → FileSeen W → List AnyArray → Fault → Type 0
NamesOne w columns (Argument (SharedDictionary j)) = RefusesAll w.remembers true (map layout_of columns) w.ids (Argument (SharedDictionary j))
NamesOne w columns (Argument (DictionaryReplaced j)) = RefusesAll w.remembers true (map layout_of columns) w.ids (Argument (DictionaryReplaced j))
NamesOne w columns _ = Unit {0}

-- ---- parts of `write`

-- The type of a field in its normal form.
abbrev pub field_normal : Field → TypeTree
field_normal f = norm (type_view f.data_type)

-- A started writer may write the columns, apart from their lengths and the offsets of their
-- messages. No ids are passed, or those of the start; the types are those of its fields, and `list`
-- has the dictionaries to write. The lengths of all dictionaries fit in their messages.
pub record MayList {W : Type 0} (w : FileSeen W) (columns : List AnyArray) (ids : Option IdTrees) (list : List FilledPlace) : Type 0 where
  pub was : w.state ≡ Started
  pub ids_same : IfSome ids (λ given. given ≡ w.ids)
  pub fits : FitTypes (as_stream w) columns
  pub lists : ListsAll w.remembers true (map layout_of columns) w.ids list
  pub lengths : HaveLengths (values_of (layouts (map layout_of columns)) w.ids)

-- The columns have other values under an id than the writer remembers.
abbrev pub ReplacesSome : {W : Type 0} → FileSeen W → List AnyArray → Fault → Type 0
ReplacesSome w columns (Argument (DictionaryReplaced j)) =
    FitTypes (as_stream w) columns × RefusesAll w.remembers true (map layout_of columns) w.ids (Argument (DictionaryReplaced j))
ReplacesSome w columns _ = ⊥

-- Why a chunk with these ids is refused before its messages are made.
abbrev pub RefusesChunk : {W : Type 0} → FileSeen W → List AnyArray → Option IdTrees → Fault → Type 0
RefusesChunk w columns ids e = StreamRefuses (as_stream w) columns ids e ⊎ ReplacesSome w columns e

-- Why there is no room for the blocks of a record and of `added` dictionaries after `count` blocks.
abbrev pub RefusesBlocks : ℕ → ℕ → Fault → Type 0
RefusesBlocks count added (Argument TooLarge) = most_blocks < count + added + 1
RefusesBlocks count added NoMemory = Unit {0}
RefusesBlocks count added _ = ⊥

-- The messages of some columns are made, and one of them has no block.
pub record HasNoPlace (order : Endianness) (columns : List Layout) (list : List FilledPlace) (place : ℕ) (e : Fault) : Type 0 where
  pub dictionaries : List Message
  pub own : Message
  pub are : AreMessages order columns list dictionaries own
  pub refused : RefusesBlockRoom place (map sent dictionaries ++ sent own ∷ []) e

-- Why the messages of some columns and of the dictionaries on this list
-- aren't sent from an offset on.
abbrev pub RefusesSending : Endianness → List Layout → List FilledPlace → ℕ → Fault → Type 0
RefusesSending order columns list place e = RefusesMessages list columns e ⊎ HasNoPlace order columns list place e

-- A call that sends the messages of a chunk, or refuses before anything is sent.
pub record HandsChunk {W : Type 0} (d : Device W) (order : Endianness) (columns : List Layout) (list : List FilledPlace) (place : ℕ) (w : W) (s : WriterState) (r : Result Placed Fault) (w' : W) (s' : WriterState) : Type 0 where
  pub dictionaries : List Message
  pub own : Message
  pub are : WhereSent r (AreMessages order columns list dictionaries own)
  pub said : OnOk r (IsEncodable Record (row_count len_of columns) (levels_of columns))
  pub placed : IfOk r (HasBlocksFrom place (map sent dictionaries) (sent own))
  pub refuses : IfErr r (λ e. IsIo e ⊎ RefusesSending order columns list place e)
  pub unsent : OnRefused r ((w' ≡ w) × (s' ≡ s))
  pub stays : OnOk r (s' ≡ s)
  pub failed : OnIo r (s' ≡ Failed)
  pub sends : WhereSent r (Delivers d (chunk_bytes (map sent dictionaries) (sent own)) w r w')
