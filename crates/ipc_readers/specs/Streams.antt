-- What the calls of a stream reader do.
-- (Arrow columnar format, "IPC Streaming Format".)
use Rattle.std.specs.Prelude.{◌≡◌, ◌≢◌, ◌⊎◌, ℕ, zero, suc, ◌+◌, ◌<◌, ◌≤◌, List, [], ◌∷◌, ◌++◌, length, take, Option, None, Some, option_map, Result, Ok, Err, IfErr, IfOk, OnErr, map, Bool, true, false, IsTrue}
use Rattle.lower.specs.TypeViews.{fields_view, pairs_of}
use Rattle.lower.specs.declared.datatypes.schema.Schema as schemas
use Rattle.lower_arrays.specs.AnyLayouts.{layout_of}
use Rattle.lower_arrays.specs.declared.array.AnyArray.{AnyArray}
use Rattle.ipc_base.specs.IdTrees.{all_ids_view}
use Rattle.ipc_read_flat.specs.Bodies.{known_dictionaries}
use Rattle.ipc_devices.specs.Device.{Device, IsAnswered, after}
use Rattle.ipc_devices.specs.Faults.{IfIo, OwnFault}
use Rattle.ipc_devices.specs.Gives.{Stop, going, ended, FaultStop, AnswerStop, Gives, GaveTo}
use Rattle.ipc_devices.specs.declared.fault.Fault.{Fault}
use Rattle.ipc_devices.specs.declared.fault.Fault.TheVariants.{Ended, OutOfSpec}
use Rattle.ipc_devices.specs.declared.fault.OutOfSpecKind.TheVariants.{UnexpectedMessageType}
use Rattle.ipc_stream_lemmas.specs.Agreement.{AreAt}
use Rattle.ipc_table_views.specs.Spot.{Spot}
use Rattle.ipc_model.specs.Batches.{chosen, extra_of, kinds, lists_of}
use Rattle.ipc_model.specs.Kinds.{count}
use Rattle.ipc_model.specs.ReadChunks.{HaveMeaning}
use Rattle.ipc_model.specs.Frame.{Frame, broken, frame, message, mark}
use Rattle.ipc_model.specs.Streams.{Head, Header, Known, header_of, more, done, faulty, marked, most_dictionaries, with_chunks, nothing_known, waits, whole}
use Rattle.ipc_projection.specs.ChosenColumns.{asked_by, shown_by}
use Rattle.ipc_projection.specs.declared.read.chosen.ChosenColumns.{ChosenColumns}
use Rattle.ipc_read.specs.Chunks.{chunk_seen, order_of}
use Rattle.ipc_read.specs.DictionaryBatches.{TellsValues, TellsOfValues}
use Rattle.ipc_read.specs.HeldChunks.{HoldChosen}
use Rattle.ipc_read.specs.Refusals.{TellsBatch, TellsColumns}
use Rattle.ipc_readers.specs.ChosenStreams.{Request, chosen_body, chosen_item, chosen_meaning}
use Rattle.ipc_readers.specs.Frames.{begun_bytes, due, frame_fault}
use Rattle.ipc_readers.specs.KeptValues.{KeepsValues, values_of}
use Rattle.ipc_readers.specs.Messages.{opened}
use Rattle.ipc_readers.specs.Refusals.{IsDictionaryMessageFault, IsRecordFault, IsStreamFault}
use Rattle.ipc_readers.specs.declared.read.stream.metadata.StreamMetadata.{StreamMetadata}
use Rattle.ipc_readers.specs.declared.read.stream.reader.Batches.{Batches}
use Rattle.ipc_readers.specs.declared.read.stream.reader.Found.{Found}
use Rattle.ipc_readers.specs.declared.read.stream.reader.Found.TheVariants as fronts
use Rattle.ipc_readers.specs.declared.read.stream.reader.StreamReader.{StreamReader}
use Rattle.ipc_readers.specs.declared.read.stream.reader.StreamState.{StreamState}
use Rattle.ipc_readers.specs.declared.read.stream.reader.StreamState.TheVariants as states

-- The stream waits for more bytes.
abbrev pub IsWaiting : StreamState → Type 0
IsWaiting states.Waiting = Unit {0}
IsWaiting (states.Some chunk) = ⊥

-- A call returned this chunk.
abbrev pub HasChunk : StreamState → List AnyArray → Type 0
HasChunk states.Waiting chunk = ⊥
HasChunk (states.Some held) chunk = chunk ≡ held

-- ---- the state of a reader

-- The device of a reader.

abbrev pub device_of : {R : Type 0} → StreamReader R → R
device_of r = r.reader

-- What the schema message of a reader's stream said.
abbrev pub metadata_of : {R : Type 0} → StreamReader R → StreamMetadata
metadata_of r = r.batches.metadata

-- The requested columns, prepared; none if all are read.
abbrev pub chosen_of : {R : Type 0} → StreamReader R → Option ChosenColumns
chosen_of r = r.batches.projection

-- The indices of the requested columns; none if all are read.
abbrev pub projection_of : {R : Type 0} → StreamReader R → Option (List ℕ)
projection_of r = asked_by (chosen_of r)

-- The schema of the chunks that `next` returns.
abbrev pub schema_of : {R : Type 0} → StreamReader R → schemas.Schema
schema_of r = shown_by (metadata_of r).schema (chosen_of r)

-- The partial prefix that an earlier call read.
abbrev pub begun_of : {R : Type 0} → StreamReader R → List ℕ
begun_of r = begun_bytes r.begun

-- Whether the reader has ended: `next` returns None from now on.
abbrev pub is_over : {R : Type 0} → StreamReader R → Bool
is_over r = r.finished

-- The dictionaries that were read, and how many dictionary messages came since the last record.
abbrev pub known_in : Batches → Known
known_in b = record { dictionaries = known_dictionaries b.dictionaries; count = b.count }

-- What a reader knows: its dictionaries, and how many dictionary
-- messages came since the last record.
abbrev pub known_of : {R : Type 0} → StreamReader R → Known
known_of r = known_in r.batches

-- A reader knows what s says: the same values under each id, and as many dictionary
-- messages since the last record.
abbrev pub Knows : {R : Type 0} → StreamReader R → Known → Type 0
Knows r s = AreAt s (known_of r)

-- A new reader of this device, which has read nothing yet.
pub record IsUnread {R : Type 0} (device : R) (metadata : StreamMetadata) (r : StreamReader R) : Type 0 where
  pub reader : device_of r ≡ device
  pub described : metadata_of r ≡ metadata
  pub begun : begun_of r ≡ []
  pub knows : Knows r nothing_known
  pub unfinished : is_over r ≡ false

-- ---- the request to a reader

-- The schema and the version of a stream, from what its schema message said.

abbrev pub head_of : StreamMetadata → Head
head_of m = record {
  schema = record {
    fields = fields_view m.schema.fields.items;
    metadata = pairs_of m.schema.metadata.entries;
    ids = all_ids_view m.ipc_schema.fields.items;
    order = order_of m.ipc_schema.is_little_endian;
  };
  version = m.version;
}

-- What is requested of a stream: its schema message and the requested columns.
abbrev pub request_in : Batches → Request
request_in b = record { head = head_of b.metadata; projection = asked_by b.projection }

-- What a reader is requested to read: its schema message and the requested columns.
abbrev pub request_of : {R : Type 0} → StreamReader R → Request
request_of r = request_in r.batches

-- ---- the values of dictionaries

-- At the dictionary fields of a chunk that aren't inside other values, the arrays
-- have the values that are known.
abbrev pub HasKnownValues : Batches → List AnyArray → Type 0
HasKnownValues b chunk =
    HaveMeaning (known_in b).dictionaries (all_ids_view b.metadata.ipc_schema.fields.items) (chosen (asked_by b.projection) (length b.metadata.schema.fields.items)) (chunk_seen chunk) (map layout_of chunk)

-- At the dictionary fields of a record that was read, the arrays have
-- the values that the reader knows.
abbrev pub BodyHasValues : Batches → Option (List AnyArray) → Type 0
BodyHasValues b None = Unit {0}
BodyHasValues b (Some chunk) = HasKnownValues b chunk

-- At the dictionary fields of a message that is a record, the arrays have
-- the values that the reader knows.
abbrev pub FrontHasValues : Batches → Found → Type 0
FrontHasValues b (fronts.Chunk chunk) = HasKnownValues b chunk
FrontHasValues b _ = Unit {0}

-- At the dictionary fields of a chunk that `next` returned, the arrays have
-- the values that the reader knows.
abbrev pub StateHasValues : Batches → Option StreamState → Type 0
StateHasValues b (Some (states.Some chunk)) = HasKnownValues b chunk
StateHasValues b _ = Unit {0}

-- ---- how many bytes are retained

-- The arrays of a record batch with this table retain at most the encoded length of the
-- requested columns' buffers, and at most the length of its body. One offset for each empty
-- buffer of offsets comes on top.
abbrev pub HoldsRecord : Request → Spot → (body : ℕ) → List AnyArray → Type 0
HoldsRecord h t body chunk = let ts = kinds h.head.schema in HoldChosen body (lists_of t) (extra_of h.head.version) ts (chosen h.projection (count ts)) chunk

-- The arrays of a message that is a record retain at most what its table and
-- its body allow (`HoldsRecord`).
abbrev pub BodyHolds : Request → Header → Option (List AnyArray) → Type 0
BodyHolds h m None = Unit {0}
BodyHolds h m (Some chunk) = HoldsRecord h m.table m.body chunk

-- The arrays of the record with this header retain at most what its table and
-- its body allow (`HoldsRecord`).
abbrev pub HeaderHolds : Request → Option Header → List AnyArray → Type 0
HeaderHolds h None chunk = ⊥
HeaderHolds h (Some m) chunk = HoldsRecord h m.table m.body chunk

-- The arrays of the record that comes first retain at most what its table and
-- its body allow (`HoldsRecord`).
abbrev pub FrontHolds : Request → Frame → List AnyArray → Type 0
FrontHolds h (message metadata behind) chunk = HeaderHolds h (header_of metadata) chunk
FrontHolds h _ chunk = ⊥

-- ---- one message

-- A message of this tag may be read: a record, or a dictionary if fewer than the
-- most came since the last record.
pub record IsAdmitted (n tag : ℕ) : Type 0 where
  pub kind : (tag ≡ 3) ⊎ (tag ≡ 2)
  pub room : tag ≡ 2 → n < most_dictionaries

-- By the header of a message, the errors that the message can have; `s` is what is known before it.
-- If its body may be read and has more bytes than `ahead`, the error is `Ended`. What an error says
-- of the lists of a batch is true of its table. If the whole body is ahead, what it says of the
-- entries there, and of the known dictionaries, is true as well.
pub record BlamesBody (h : Request) (s : Known) (m : Header) (ahead : List ℕ) (e : Fault) : Type 0 where
  pub record_batch : m.tag ≡ 3 → IsRecordFault h e
  pub dictionary_batch : m.tag ≡ 2 → IsDictionaryMessageFault h.head.schema s.count m.table e
  pub other : m.tag ≢ 2 → m.tag ≢ 3 → e ≡ OutOfSpec UnexpectedMessageType
  pub cut : length ahead < m.body → IsAdmitted s.count m.tag → e ≡ Ended
  pub record_lists : m.tag ≡ 3 → TellsBatch h.head.schema (extra_of h.head.version) m.table m.body e
  pub dictionary_lists : m.tag ≡ 2 → TellsValues h.head.schema (extra_of h.head.version) m.table m.body e
  pub record_entries : m.tag ≡ 3 → m.body ≤ length ahead
      → TellsColumns true h.head.schema.order (extra_of h.head.version) s.dictionaries (whole (take m.body ahead)) m.table e
  pub dictionary_entries : m.tag ≡ 2 → m.body ≤ length ahead
      → TellsOfValues true h.head.schema (extra_of h.head.version) s.dictionaries (whole (take m.body ahead)) m.table e

-- The errors of a message after its metadata were read: by its header; or, if the metadata
-- are invalid, the error in them.
abbrev pub BlamesOpened : Request → Known → Result Header Fault → (ahead : List ℕ) → Fault → Type 0
BlamesOpened h s (Ok m) ahead e = BlamesBody h s m ahead e
BlamesOpened h s (Err f) ahead e = e ≡ f

-- The errors that the first message of xs can have: that of the frame, that of
-- its metadata, or one of its kind.
abbrev pub BlamesFront : Request → Known → (xs : List ℕ) → Frame → Fault → Type 0
BlamesFront h s xs (message metadata behind) e = BlamesOpened h s (opened metadata) behind e
BlamesFront h s xs broken e = e ≡ frame_fault xs
BlamesFront h s xs _ e = ⊥

-- How many dictionary messages came since the last record: none after a
-- chunk, one more after a dictionary.
abbrev pub Counted : Option (List AnyArray) → (old new : ℕ) → Type 0
Counted (Some chunk) old new = new ≡ 0
Counted None old new = new ≡ old + 1

-- The result of a record batch as that of a message.
abbrev pub of_record : Result (List AnyArray) Fault → Result (Option (List AnyArray)) Fault
of_record (Ok chunk) = Ok (Some chunk)
of_record (Err e) = Err e

-- The result of a dictionary batch as that of a message.
abbrev pub of_dictionary : Result Unit Fault → Result (Option (List AnyArray)) Fault
of_dictionary (Ok _) = Ok None
of_dictionary (Err e) = Err e

-- The body of a message was read from xs, and ys is left. By what `s` says the message means its
-- chunk, if it is a record, and `l` is known then. The chunk retains no more than its message
-- allows. An error, unless it is one of allocation or of the device, says that the message means
-- nothing, and is one of its kind.
abbrev pub ReadsBody : Request → (s : Known) → Header → List ℕ → Result (Option (List AnyArray)) Fault → (l : Known) → List ℕ → Type 0
ReadsBody h s m xs (Ok c) l ys = (t : Known) × AreAt t l × (chosen_body h s m xs ≡ more (option_map chunk_seen c) t ys) × BodyHolds h m c
ReadsBody h s m xs (Err e) l ys = OwnFault e ((chosen_body h s m xs ≡ done faulty) × BlamesBody h s m xs e)

-- `ReadsBody` for any s that agrees with k.
pub record GivesBody (h : Request) (k : Known) (m : Header) (xs : List ℕ) (r : Result (Option (List AnyArray)) Fault) (l : Known) (ys : List ℕ) : Type 0 where
  pub each : (s : Known) → AreAt s k → ReadsBody h s m xs r l ys

-- This body was read as that of a message, whatever bytes follow it.
pub record GivesHeld (h : Request) (k : Known) (tag : ℕ) (t : Spot) (body : List ℕ) (r : Result (Option (List AnyArray)) Fault) (l : Known) : Type 0 where
  pub each : (ys : List ℕ) → GivesBody h k (record { tag = tag; table = t; body = length body }) (body ++ ys) r l ys

-- A message was refused before its body was read, whatever the body is.
pub record RefusesBody (h : Request) (k : Known) (tag : ℕ) (t : Spot) (e : Fault) : Type 0 where
  pub each : (n : ℕ) (xs : List ℕ) → GivesBody h k (record { tag = tag; table = t; body = n }) xs (Err e) k xs

-- What was read is what comes first in xs, for the request h and by what `s` says. Afterwards
-- `begun` is the partial prefix, `l` is known, and ys is ahead: after the mark all bytes that
-- follow it, which another reader can read. A chunk retains no more than its message allows.
abbrev pub ReadsItem : Request → (s : Known) → List ℕ → Result Found Fault → (l : Known) → (begun ys : List ℕ) → Type 0
ReadsItem h s xs (Ok (fronts.Chunk chunk)) l begun ys =
    (t : Known) × AreAt t l × (chosen_item h s xs ≡ more (Some (chunk_seen chunk)) t ys) × FrontHolds h (frame xs) chunk
ReadsItem h s xs (Ok fronts.Dictionary) l begun ys = (t : Known) × AreAt t l × (chosen_item h s xs ≡ more None t ys)
ReadsItem h s xs (Ok fronts.Waiting) l begun ys = AreAt s l × (chosen_item h s xs ≡ done (waits s begun))
ReadsItem h s xs (Ok fronts.Mark) l begun ys = (chosen_item h s xs ≡ done marked) × (frame xs ≡ mark ys)
ReadsItem h s xs (Err e) l begun ys = OwnFault e ((chosen_item h s xs ≡ done faulty) × BlamesFront h s xs (frame xs) e)

-- `ReadsItem` for any s that agrees with k.
pub record GivesItem (h : Request) (k : Known) (xs : List ℕ) (r : Result Found Fault) (l : Known) (begun ys : List ℕ) : Type 0 where
  pub each : (s : Known) → AreAt s k → ReadsItem h s xs r l begun ys

-- A dictionary counts as one more since the last record.
abbrev pub CountsOn : Found → (old new : ℕ) → Type 0
CountsOn fronts.Dictionary old new = new ≡ old + 1
CountsOn _ old new = Unit {0}

-- ---- bytes that a device gave

-- The bytes of a body were read, or the first of them.
abbrev pub BodyGave : {S : Type 0} → Gives S → Request → Known → Header → S → Result (Option (List AnyArray)) Fault → Known → S → Type 0
BodyGave gives h k m a r l b = GaveTo gives (AnswerStop r) (λ xs. length xs ≤ m.body) (λ all rest. GivesBody h k m all r l rest) a b

-- How reading a message stopped: it waits exactly if the device has no more bytes.
abbrev pub ItemStop : Result Found Fault → Stop → Type 0
ItemStop (Ok fronts.Waiting) s = s ≡ ended
ItemStop (Ok _) s = s ≡ going
ItemStop (Err e) s = FaultStop e s

-- The bytes are at most the first message.
pub record IsWithinMessage (bytes : List ℕ) : Type 0 where
  pub within : (length bytes ≤ due bytes) ⊎
      ((m : List ℕ) × (rest : List ℕ) × (h : Header) × (frame bytes ≡ message m rest) × (header_of m ≡ Some h) × (length rest ≤ h.body))

-- After the partial prefix p, at most the rest of a message was read. The result is right
-- whatever bytes follow (`GivesItem`).
abbrev pub ItemGave : {S : Type 0} → Gives S → Request → (k : Known) → (p : List ℕ) → S → Result Found Fault → (l : Known) → (q : List ℕ) → S → Type 0
ItemGave gives h k p a r l q b = GaveTo gives (ItemStop r) (λ xs. IsWithinMessage (p ++ xs)) (λ all rest. GivesItem h k (p ++ all) r l q (q ++ rest)) a b

-- What a call of `next` read last.
abbrev pub last_found : Result (Option StreamState) Fault → Result Found Fault
last_found (Ok (Some (states.Some chunk))) = Ok (fronts.Chunk chunk)
last_found (Ok (Some states.Waiting)) = Ok fronts.Waiting
last_found (Ok None) = Ok fronts.Mark
last_found (Err e) = Err e

-- n dictionary messages were read, one after the other, and then what r says. After an error the
-- reader knows what it knew before the faulty message.
abbrev pub ItemsGave : {S : Type 0} → Gives S → Request → ℕ → (k : Known) → (p : List ℕ) → S → Result (Option StreamState) Fault → (l : Known) → (q : List ℕ) → S → Type 0
ItemsGave gives h zero k p a r l q b = ItemGave gives h k p a (last_found r) l q b × OnErr r (AreAt k l)
ItemsGave {S} gives h (suc n) k p a r l q b = (u : Known) × (v : List ℕ) × (c : S) × ItemGave gives h k p a (Ok fronts.Dictionary) u v c × ItemsGave gives h n u v c r l q b

-- All dictionary messages that come next were read, and then the message after them, or what else
-- comes there. No more bytes were read.
pub record NextGave {S : Type 0} (gives : Gives S) (h : Request) (k : Known) (p : List ℕ) (a : S) (r : Result (Option StreamState) Fault) (l : Known) (q : List ℕ) (b : S) : Type 0 where
  pub passed : ℕ
  pub items : ItemsGave gives h passed k p a r l q b

-- ---- calls of `next`

-- The bytes ahead of a reader: the partial prefix, and then those of the device.
abbrev pub ahead : {R : Type 0} → Device R → StreamReader R → List ℕ
ahead d r = begun_of r ++ after (d.memory (device_of r))

-- What r says of a stream xs, for the request h and by what `s` says; ys is ahead then, and `l` is
-- known. A chunk is the first of the stream, and the rest of the stream means what ys means. Else
-- the stream waits, with the partial prefix kept, or ends. An error, unless it is one of allocation
-- or of the device, says that the stream means nothing from here on.
abbrev pub ReadsNext : Request → (s : Known) → List ℕ → Result (Option StreamState) Fault → (l : Known) → (begun ys : List ℕ) → Type 0
ReadsNext h s xs (Ok (Some (states.Some chunk))) l begun ys =
    (t : Known) × AreAt t l × (chosen_meaning h s xs ≡ with_chunks (chunk_seen chunk ∷ []) (chosen_meaning h t ys))
ReadsNext h s xs (Ok (Some states.Waiting)) l begun ys =
    (t : Known) × AreAt t l × (chosen_meaning h s xs ≡ record { chunks = []; end = waits t begun })
ReadsNext h s xs (Ok None) l begun ys = chosen_meaning h s xs ≡ record { chunks = []; end = marked }
ReadsNext h s xs (Err e) l begun ys = OwnFault e (chosen_meaning h s xs ≡ record { chunks = []; end = faulty })

-- The result of `next` is right for the stream xs that was ahead: its first chunk, a wait,
-- or its end; ys is ahead afterwards. It is so by any dictionaries that agree with those
-- that the reader had (`ReadsNext`).
pub record GivesNext (h : Request) (k : Known) (xs : List ℕ) (r : Result (Option StreamState) Fault) (l : Known) (begun ys : List ℕ) : Type 0 where
  pub each : (s : Known) → AreAt s k → ReadsNext h s xs r l begun ys

-- The result of `next` as a `Result`.
abbrev pub next_result : Option (Result StreamState Fault) → Result (Option StreamState) Fault
next_result None = Ok None
next_result (Some (Ok x)) = Ok (Some x)
next_result (Some (Err e)) = Err e

-- Whether `next` returns None after this result: it is None or an error.
abbrev pub ends : Option (Result StreamState Fault) → Bool
ends None = true
ends (Some (Ok x)) = false
ends (Some (Err e)) = true

-- The reader after a call of `next`.
pub record StreamReaderState {R : Type 0} (a : StreamReader R) (r : Option (Result StreamState Fault)) (b : StreamReader R) : Type 0 where
  -- What the schema message says stays.
  pub described : metadata_of b ≡ metadata_of a
  -- The requested columns stay.
  pub projected : chosen_of b ≡ chosen_of a
  -- After the end or an error it returns None, and the device isn't read.
  pub over : is_over a ≡ true → (r ≡ None) × (is_over b ≡ true) × (device_of b ≡ device_of a)
  -- It is over after None or an error.
  pub finished : is_over a ≡ false → is_over b ≡ ends r

-- What a call of `next` reads and returns, and the reader after it.
pub record NextStep {R : Type 0} (gives : Gives R) (d : Device R) (a : StreamReader R) (r : Option (Result StreamState Fault)) (b : StreamReader R) : Type 0 where
  -- Reading from memory, it is right for the bytes that are ahead.
  pub exact : IsTrue d.is_memory → is_over a ≡ false
      → GivesNext (request_of a) (known_of a) (ahead d a) (next_result r) (known_of b) (begun_of b) (ahead d b)
  -- An error is one of a stream with this schema.
  pub causes : IfErr (next_result r) (λ e. OwnFault e (IsStreamFault (request_of a) e))
  -- An `Io` is an error that the device returned.
  pub answered : IfIo (next_result r) (IsAnswered d)
  -- Which bytes the device returned, and what they mean.
  pub gave : is_over a ≡ false → NextGave gives (request_of a) (known_of a) (begun_of a) (device_of a) (next_result r) (known_of b) (begun_of b) (device_of b)
  -- The arrays of dictionary values are those from before, or were set by messages that were read.
  pub held : KeepsValues gives (request_of a) (begun_of a) (device_of a) (device_of b) (values_of a) (values_of b)
  -- The arrays of a chunk have the values that the reader knows of their dictionaries.
  pub values : IfOk (next_result r) (StateHasValues b.batches)
  -- What became of the reader.
  pub state : StreamReaderState a r b
