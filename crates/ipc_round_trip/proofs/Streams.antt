-- What is read of a whole stream is what its bytes mean.
use Rattle.std.proofs.Common.{arith, inl, inr, ◌≡◌, ◌-◌, ℕ, length, append-nil, take_all, subst, List, [], ◌++◌, Option, None, Some, Result, Ok, Err, Bool, true, false, refl, sym, ap, ◌∙◌}
use Rattle.std.specs.Prelude.{◌⊎◌, option_map, pos, Vec}
use Rattle.std.specs.declared.alloc.Global.{Global}
use Rattle.std.specs.Result.{result_ok}
use Rattle.std.specs.declared.io.Error.{Error}
use Rattle.lower.specs.TypeViews.{schema_view}
use Rattle.ipc_devices.proofs.Claims.{claimed, claims_through}
use Rattle.ipc_base.specs.IdTrees.{IdTrees, ipc_schema_view}
use Rattle.std.specs.Borrow.{Bor}
use Rattle.ipc_devices.specs.Device.{Device, Memory, after, before, memory_device}
use Rattle.ipc_devices.specs.declared.memory.MemFile.{MemFile}
use Rattle.ipc_devices.specs.Faults.{OnIo, OwnFault}
use Rattle.ipc_devices.specs.Gives.{Gives, MemoryGives}
use Rattle.ipc_devices.specs.declared.fault.Fault.{Fault}
use Rattle.ipc_devices.specs.declared.fault.Fault.TheVariants as faults
use Rattle.ipc_devices.specs.declared.fault.StateFault.{StateFault}
use Rattle.ipc_devices.specs.declared.fault.StateFault.TheVariants.{NotStarted, Failed as StateFailed}
use Rattle.ipc_devices.specs.declared.fault.TableFault.{TableFault}
use Rattle.lower_types.specs.declared.Endianness.{Endianness}
use Rattle.lower.specs.TypeTrees.{FieldTrees, Pairs}
use Rattle.ipc_table_views.specs.MessageSlots.{message_version}
use Rattle.ipc_table_views.specs.Spot.{Spot}
use Rattle.ipc_table_views.specs.Tables.{root_at}
use Rattle.ipc_table_views.specs.declared.schema.MetadataVersion.{MetadataVersion}
use Rattle.ipc_model.specs.Batches.{Chunk, Schema}
use Rattle.ipc_model.specs.Frame.{Frame, message, mark, waiting, broken, frame}
use Rattle.ipc_model.specs.Schemas.{given, made, schema_of}
use Rattle.ipc_model.specs.Schemas.{head_of as head_at}
use Rattle.ipc_model.specs.Streams.{End, Head, marked, waits, faulty, Known, Meant, meaning, nothing_known}
use Rattle.ipc_model.specs.WholeStreams.{Stream, stream_from, stream_of}
use Rattle.ipc_read.specs.Chunks.{order_of}
use Rattle.ipc_readers.specs.Metadata.{GivesMetadata, MetadataGave, MetadataSeen, RefusesMetadata, metadata_at, metadata_seen, table_version, version_at, version_slot}
use Rattle.ipc_readers.proofs.OfMemory.{metadata_ahead, metadata_fails, no_failure}
use Rattle.ipc_readers.proofs.ChosenStreams.{whole_law}
use Rattle.ipc_readers.specs.ChosenStreams.{Request, chosen_meaning}
use Rattle.ipc_readers.specs.Refusals.{IsStreamFault}
use Rattle.ipc_readers.specs.Streams.{IsUnread, ahead, request_of, device_of, head_of, projection_of}
use Rattle.ipc_readers.specs.declared.read.stream.metadata.StreamMetadata.{StreamMetadata}
use Rattle.ipc_readers.specs.declared.read.stream.reader.StreamReader.{StreamReader}
use Rattle.ipc_round_trip.specs.Reading.{StreamCause, EndsAs, IsReadable, MeansAhead, ReadsStream, AheadCause, InMemoryCause}
use Rattle.ipc_write.specs.Agreement.{Agrees, HasEnded, Remains, StreamIs}
use Rattle.ipc_write.specs.Framing.{prefix_bytes}
use Rattle.ipc_model.specs.WriterStates.{IsRun}
use Rattle.ipc_write.specs.Calls.{AreMade, ended_as, state_seen, writer_in}
use Rattle.ipc_write.proofs.Vectors.{is_full}
use Rattle.ipc_write.specs.Writers.{RefusesFinish, SendStep, StateComesFirst, WriterSeen, fault_unless_started}
use Rattle.ipc_write.specs.declared.calls.StreamCall.{StreamCall}
use Rattle.ipc_write.specs.declared.stream.WriterState.{WriterState}
use Rattle.ipc_write.specs.declared.stream.WriterState.TheVariants.{Failed, Finished, New, Started}
use Rattle.ipc_write.proofs.CallLists.{made_order, made_run}
use Rattle.ipc_round_trip.specs.RoundTrip.{EndsStream, FinishedLaw, OpenLaw, OpenReadableLaw, ReadableLaw, StreamEndCause, RoundTripCause, RunsOverMemory, RunsToStream, vector}
use Rattle.ipc_round_trip.specs.declared.read.WholeStream.{WholeStream}
use Rattle.ipc_write.specs.Vectors.{vectors}

-- A stream that has a meaning.
abbrev pub stream_or : Option Stream → Stream → Stream
stream_or (Some s) other = s
stream_or None other = other

-- ---- the schema message

abbrev with_version : Schema → MetadataVersion → Option Head
with_version schema version = Some (record { schema = schema; version = version })

slot_head : (schema : Schema) (v : Result MetadataVersion TableFault) (x : MetadataSeen) → option_map (λ version. (schema, version)) (result_ok (version_slot v)) ≡ Some x
    → given (made v) (with_version schema) ≡ Some (record { schema = x.0; version = x.1 })
slot_head schema (Ok v) x e = cc
slot_head schema (Err f) x e = absurd cc

table_head : (schema : Schema) (t : Result Spot TableFault) (x : MetadataSeen) → option_map (λ version. (schema, version)) (result_ok (table_version t)) ≡ Some x
    → given (made t) (λ spot. given (made (message_version spot)) (with_version schema)) ≡ Some (record { schema = x.0; version = x.1 })
table_head schema (Ok t) x e = slot_head schema (message_version t) x e
table_head schema (Err f) x e = absurd cc

schema_head : (o : Option Schema) (t : Result Spot TableFault) (x : MetadataSeen) → given o (λ schema. option_map (λ version. (schema, version)) (result_ok (table_version t))) ≡ Some x
    → given o (λ schema. given (made t) (λ spot. given (made (message_version spot)) (with_version schema))) ≡ Some (record { schema = x.0; version = x.1 })
schema_head None t x e = absurd cc
schema_head (Some schema) t x e = table_head schema t x e

-- the head that a schema message says
pub head_is : (m : List ℕ) (x : StreamMetadata) → metadata_at m ≡ Some (metadata_seen x) → head_at m ≡ Some (head_of x)
unfolding metadata_at head_at version_at
head_is m x e = schema_head (schema_of m) (root_at m) (metadata_seen x) e

stream_at : (xs : List ℕ) (f : Frame) (rest : List ℕ) (x : StreamMetadata) → GivesMetadata xs f (Ok x) rest
    → stream_from f ≡ Some (record { head = head_of x; meant = meaning (head_of x) nothing_known rest })
stream_at xs (message m behind) rest x h = rw (head_is m x h.0, h.1) refl
stream_at xs (mark behind) rest x h = absurd h
stream_at xs (waiting begun) rest x h = absurd h
stream_at xs broken rest x h = absurd h

pub whole_stream : (bytes xs rest : List ℕ) (x : StreamMetadata) → xs ≡ bytes → GivesMetadata xs (frame xs) (Ok x) rest
    → stream_of bytes ≡ Some (record { head = head_of x; meant = meaning (head_of x) nothing_known rest })
unfolding stream_of
whole_stream bytes xs rest x same h =
    stream_at bytes (frame bytes) rest x (subst (λ ys. GivesMetadata ys (frame ys) (Ok x) rest) same h)

-- ---- a schema message that is refused

no_slot : (schema : Schema) (v : Result MetadataVersion TableFault) → option_map {U = MetadataSeen} (λ version. (schema, version)) (result_ok (version_slot v)) ≡ None
    → given (made v) (with_version schema) ≡ None
no_slot schema (Ok v) e = absurd cc
no_slot schema (Err f) e = refl

no_table : (schema : Schema) (t : Result Spot TableFault) → option_map {U = MetadataSeen} (λ version. (schema, version)) (result_ok (table_version t)) ≡ None
    → given (made t) (λ spot. given (made (message_version spot)) (with_version schema)) ≡ None
no_table schema (Ok t) e = no_slot schema (message_version t) e
no_table schema (Err f) e = refl

no_schema : (o : Option Schema) (t : Result Spot TableFault) → given {B = MetadataSeen} o (λ schema. option_map (λ version. (schema, version)) (result_ok (table_version t))) ≡ None
    → given o (λ schema. given (made t) (λ spot. given (made (message_version spot)) (with_version schema))) ≡ None
no_schema None t e = refl
no_schema (Some schema) t e = no_table schema t e

pub no_head : (m : List ℕ) → metadata_at m ≡ None → head_at m ≡ None
unfolding metadata_at head_at version_at
no_head m e = no_schema (schema_of m) (root_at m) e

no_stream : (xs : List ℕ) (f : Frame) (e : Fault) (rest : List ℕ) → GivesMetadata xs f (Err e) rest → OwnFault e (stream_from f ≡ None)
no_stream xs (message m behind) e rest h =
    claims_through e ((metadata_at m ≡ None) × RefusesMetadata e m) _
    (λ none. ap (option_map (λ x. record { head = x; meant = meaning x nothing_known behind })) (no_head m none.0)) h
no_stream xs (mark behind) e rest h = claims_through e _ _ (λ x. refl) h
no_stream xs (waiting begun) e rest h = claims_through e _ _ (λ x. refl) h
no_stream xs broken e rest h = claims_through e _ _ (λ x. refl) h

-- bytes that begin with no schema can't be read
pub unreadable : (bytes xs rest : List ℕ) (e : Fault) → xs ≡ bytes → GivesMetadata xs (frame xs) (Err e) rest → OwnFault e (¬ (IsReadable bytes))
unfolding stream_of
unreadable bytes xs rest e same h =
    claims_through e _ _ (λ none readable. let there = sym none ∙ readable.stream in absurd cc)
    (no_stream bytes (frame bytes) e rest (subst (λ ys. GivesMetadata ys (frame ys) (Err e) rest) same h))

-- The error of the first message.
pub blames_front : (bytes xs rest : List ℕ) (stream : Option Stream) (p : Option (List ℕ)) (e : Fault) → xs ≡ bytes → GivesMetadata xs (frame xs) (Err e) rest → OwnFault e (StreamCause bytes stream p e)
blames_front bytes xs rest stream p e same h =
    claimed e (StreamCause bytes stream p e) (inl (rest, subst (λ ys. GivesMetadata ys (frame ys) (Err e) rest) same h))

-- ---- a new reader

-- Bytes in memory, from the offset on that was reached.
abbrev pub slice_memory : MemFile (Bor (List ℕ)) → Memory
slice_memory f = record { whole = f.inner.now; place = f.position }

-- as a device
abbrev pub slices : Device (MemFile (Bor (List ℕ)))
slices = memory_device slice_memory (λ f. f.given) (λ f. 0 - f.position)

-- The bytes that its reads give.
abbrev pub slice_gives : Gives (MemFile (Bor (List ℕ)))
slice_gives a xs e b = MemoryGives (slice_memory a) a.given xs e (slice_memory b) b.given

pub slice_metadata : (r : Result StreamMetadata Fault) (a b : MemFile (Bor (List ℕ))) → MetadataGave slice_gives a r b
    → GivesMetadata (after (slice_memory a)) (frame (after (slice_memory a))) r (after (slice_memory b))
slice_metadata r a b g = metadata_ahead slice_gives slices (λ a xs e b k g. g.takes) refl r a b g

-- Reading from memory never returns a device's error.
pub refuses_stream : (e : Fault) (P : Type 0) → OnIo {X = WholeStream} (Err e) ⊥ → OwnFault e P → InMemoryCause e P
refuses_stream faults.Memory P own h = tt
refuses_stream (faults.Io e) P own h = own
refuses_stream (faults.OutOfSpec k) P own h = h
refuses_stream faults.Ended P own h = h
refuses_stream (faults.NotYetImplemented n) P own h = h
refuses_stream (faults.Schema s) P own h = h
refuses_stream (faults.Argument a) P own h = h
refuses_stream (faults.State s) P own h = h
refuses_stream faults.TooManyDictionaries P own h = h
refuses_stream (faults.Lower e) P own h = h

pub slice_metadata_own : (Y : Type 0) (e : Fault) (a b : MemFile (Bor (List ℕ))) → MetadataGave slice_gives a (Err e) b → OnIo {X = Y} (Err e) ⊥
slice_metadata_own Y e a b g = no_failure StreamMetadata Y e (metadata_fails slice_gives (λ f. 0) (λ a xs e b g. g.succeeds) (Err e) a b g)

pub head_same : (a b : StreamMetadata) → schema_view a.schema ≡ schema_view b.schema → a.version ≡ b.version → ipc_schema_view a.ipc_schema ≡ ipc_schema_view b.ipc_schema
    → head_of a ≡ head_of b
head_same a b s v d = λ i. record {
  schema = record { fields = (s i).0; metadata = (s i).1; ids = (d i).0; order = order_of (d i).1 };
  version = v i;
}

new_rest : {R : Type 0} (d : Device R) (device : R) (a : StreamMetadata) (r : StreamReader R) → IsUnread device a r → ahead d r ≡ after (d.memory device)
new_rest d device a r h =
    ap (λ xs. xs ++ after (d.memory (device_of r))) h.begun
    ∙ ap (λ x. after (d.memory x)) h.reader

-- The request to a new reader.
asked_new : {R : Type 0} (device : R) (a b : StreamMetadata) (r : StreamReader R) (p : Option (List ℕ)) → IsUnread device a r → head_of a ≡ head_of b → projection_of r ≡ p
    → request_of r ≡ record { head = head_of b; projection = p }
asked_new device a b r p h e asked = let heads = ap head_of h.described ∙ e in λ i. record { head = heads i; projection = asked i }

-- The error of a message after it.
pub blames_message : {R : Type 0} (device : R) (bytes : List ℕ) (stream : Option Stream) (meant : Meant) (a b : StreamMetadata) (r : StreamReader R) (p : Option (List ℕ)) (e : Fault) → IsUnread device a r → head_of a ≡ head_of b
    → projection_of r ≡ p → stream ≡ Some (record { head = head_of b; meant = meant }) → OwnFault e (IsStreamFault (request_of r) e) → OwnFault e (StreamCause bytes stream p e)
blames_message device bytes stream meant a b r p e begins heads asked is own =
    claims_through e _ _ (λ kind. inr (record {
      head = head_of b;
      meant = meant;
      is = is;
      kind = subst (λ (g : Request). IsStreamFault g e) (asked_new device a b r p begins heads asked) kind;
    })) own

-- The bytes ahead of a new reader are those after the schema, by no
-- dictionaries and the requested columns.
pub chosen_ahead : {R : Type 0} (d : Device R) (device : R) (a b : StreamMetadata) (r : StreamReader R) (p : Option (List ℕ)) → IsUnread device a r → head_of a ≡ head_of b
    → projection_of r ≡ p → MeansAhead d r (chosen_meaning (record { head = head_of b; projection = p }) nothing_known (after (d.memory device)))
chosen_ahead d device a b r p h e asked = record {
  known = nothing_known;
  knows = h.knows;
  means =
      ap (λ (g : Request). chosen_meaning g nothing_known (ahead d r)) (asked_new device a b r p h e asked)
      ∙ ap (chosen_meaning (record { head = head_of b; projection = p }) nothing_known) (new_rest d device a r h);
}

-- the same of all columns
pub new_ahead : {R : Type 0} (d : Device R) (device : R) (a b : StreamMetadata) (r : StreamReader R) → IsUnread device a r → head_of a ≡ head_of b → projection_of r ≡ None
    → MeansAhead d r (meaning (head_of b) nothing_known (after (d.memory device)))
new_ahead d device a b r h e asked =
    subst (λ (m : Meant). MeansAhead d r m) (whole_law (head_of b) nothing_known (after (d.memory device))) (chosen_ahead d device a b r None h e asked)

pub ends_same : (x y : Bool) (e : End) → x ≡ y → EndsAs y e → EndsAs x e
ends_same x y e f h = subst (λ (b : Bool). EndsAs b e) (sym f) h

-- ---- chunks that are refused

-- a stream whose chunks are refused can't be read
pub refused_chunks : {R : Type 0} (d : Device R) (device : R) (bytes xs : List ℕ) (a b : StreamMetadata) (r : StreamReader R) (e : Fault) → xs ≡ bytes
    → GivesMetadata xs (frame xs) (Ok b) (after (d.memory device)) → IsUnread device a r → head_of a ≡ head_of b → projection_of r ≡ None → AheadCause d r e → OwnFault e (¬ (IsReadable bytes))
refused_chunks d device bytes xs a b r e same h begins heads asked refused =
    claims_through e _ _ (λ ends readable.
    let rest = after (d.memory device) in
    let meant = meaning (head_of b) nothing_known rest in
    let none : Stream = record { head = head_of b; meant = meant } in
    let there = sym (whole_stream bytes xs rest b same h) ∙ readable.stream in
    let end_is : meant.end ≡ faulty = ends meant (new_ahead d device a b r begins heads asked) in
    readable.sound (sym (ap (λ (o : Option Stream). (stream_or o none).meant.end) there) ∙ end_is)) refused

-- ---- what was written

pub ends_marked : (over : Bool) (e : End) → e ≡ marked → EndsAs over e → over ≡ true
ends_marked true e is h = refl
ends_marked false (waits k begun) is h = absurd cc
ends_marked false marked is h = absurd h
ends_marked false faulty is h = absurd h

pub ends_waiting : (over : Bool) (e : End) (k : Known) → e ≡ waits k [] → EndsAs over e → over ≡ false
ends_waiting true e k is h = absurd cc
ends_waiting false e k is h = refl

abbrev pub seen_stream : WholeStream → Meant → Stream
seen_stream s meant = record { head = head_of s.metadata; meant = meant }

pub finished_law : FinishedLaw
finished_law bytes head chunks s w h =
    let same = sym h.stream ∙ w.stream in
    let x = seen_stream s h.meant in
    record {
      schema = ap (λ (o : Option Stream). (stream_or o x).head) same;
      same = sym h.chunks ∙ ap (λ (o : Option Stream). (stream_or o x).meant.chunks) same;
      ended = ends_marked s.is_finished h.meant.end (ap (λ (o : Option Stream). (stream_or o x).meant.end) same) h.end;
    }

pub readable_law : ReadableLaw
readable_law bytes head chunks w = record { head = head; meant = _; stream = w.stream.stream; sound = λ e. cc }

pub open_readable : OpenReadableLaw
open_readable bytes head known chunks w = record { head = head; meant = _; stream = w.stream; sound = λ e. cc }

pub open_law : OpenLaw
open_law bytes head known chunks s w h =
    let same = sym h.stream ∙ w.stream in
    let x = seen_stream s h.meant in
    record {
      schema = ap (λ (o : Option Stream). (stream_or o x).head) same;
      same = sym h.chunks ∙ ap (λ (o : Option Stream). (stream_or o x).meant.chunks) same;
      ended = ends_waiting s.is_finished h.meant.end known (ap (λ (o : Option Stream). (stream_or o x).meant.end) same) h.end;
    }

-- ---- the bytes of an ended writer

whole_before : (xs : List ℕ) (n : ℕ) → length xs ≡ n → before (record { whole = xs; place = n }) ≡ xs
whole_before xs n h = let none : n - length xs ≡ 0 = omega arith in rw (none, append-nil, take_all n xs (omega arith)) refl

pub vector_before : (v : Vec ℕ Global) → before (vector v) ≡ v.items
vector_before v = whole_before v.items v.len (omega (arith, v.ok))

-- A writer that is finished has written its stream.
pub ends_stream : (a b : WriterSeen (Vec ℕ Global)) (v : Vec ℕ Global) → Remains vectors a b → b.state ≡ Finished → v ≡ b.device → EndsStream a v.items
ends_stream a b v remains over same = record {
  stream = λ head chunks agrees. held head chunks (remains.kept refl [] head chunks agrees);
}
  where
    held : (head : Head) (chunks : List Chunk) → Agrees vectors b [] head chunks → HasEnded v.items head chunks
    held head chunks h =
        let stream : HasEnded h.bytes head chunks = subst (λ s. StreamIs s b h.bytes head chunks) over h.stream in
        let all : v.items ≡ h.bytes = sym (vector_before v) ∙ ap (λ w. before (vector w)) same ∙ h.held in
        subst (λ xs. HasEnded xs head chunks) (sym all) stream

-- ---- what the calls leave

pub runs_over_memory : (o : Endianness) (a b : WriterSeen (Vec ℕ Global)) (fs : FieldTrees) (es : Pairs) (is : IdTrees) (calls : List StreamCall) (answers : List (Result (Unit {0}) Fault)) (state : WriterState) → a.state ≡ New → a.order ≡ o → a.device.items ≡ []
    → AreMade vectors fs es is a calls answers b → b.state ≡ state → RunsOverMemory o fs es is calls answers state
runs_over_memory o a b fs es is calls answers state new ordered empty made left = record {
  first = a;
  last = b;
  new = new;
  order_is = ordered;
  empty = empty;
  made = made;
  left = left;
  run =
      let stays = made_order vectors fs es is a b calls answers made in
      let run = made_run vectors fs es is a b calls answers made in
      subst (λ s. IsRun (writer_in o (state_seen s)) (ended_as calls answers) (writer_in o (state_seen state))) new
      (subst (λ s. IsRun (writer_in o (state_seen a.state)) (ended_as calls answers) (writer_in o (state_seen s))) left
      (subst (λ (q : Endianness). IsRun (writer_in o (state_seen a.state)) (ended_as calls answers) (writer_in q (state_seen b.state))) (stays ∙ ordered)
      (subst (λ (q : Endianness). IsRun (writer_in q (state_seen a.state)) (ended_as calls answers) (writer_in b.order (state_seen b.state))) ordered run)));
}

-- A writer that was finished, or refused to be.
pub runs_to_stream : (o : Endianness) (a b : WriterSeen (Vec ℕ Global)) (fs : FieldTrees) (es : Pairs) (is : IdTrees) (calls : List StreamCall) (answers : List (Result (Unit {0}) Fault)) → a.state ≡ New → a.order ≡ o → a.device.items ≡ []
    → AreMade vectors fs es is a calls answers b → (b.state ≡ Started) ⊎ (b.state ≡ Finished) → RunsToStream o fs es is calls answers
runs_to_stream o a b fs es is calls answers new ordered empty made (inl left) = inl (runs_over_memory o a b fs es is calls answers Started new ordered empty made left)
runs_to_stream o a b fs es is calls answers new ordered empty made (inr left) = inr (runs_over_memory o a b fs es is calls answers Finished new ordered empty made left)

pub refused_end : (o : Endianness) (a b : WriterSeen (Vec ℕ Global)) (fs : FieldTrees) (es : Pairs) (is : IdTrees) (calls : List StreamCall) (answers : List (Result (Unit {0}) Fault)) (e : Fault) → a.state ≡ New → a.order ≡ o → a.device.items ≡ []
    → AreMade vectors fs es is a calls answers b → StreamEndCause b e → RoundTripCause o fs es is calls e
unfolding runs_over_memory
refused_end o a b fs es is calls answers (faults.State NotStarted) new ordered empty made h = record { answers = answers; runs = runs_over_memory o a b fs es is calls answers New new ordered empty made h; holds = tt }
refused_end o a b fs es is calls answers (faults.State StateFailed) new ordered empty made h = record { answers = answers; runs = runs_over_memory o a b fs es is calls answers Failed new ordered empty made h; holds = tt }
refused_end o a b fs es is calls answers (faults.Io x) new ordered empty made h = record { answers = answers; runs = runs_over_memory o a b fs es is calls answers Started new ordered empty made h.started; holds = h }
refused_end o a b fs es is calls answers _ new ordered empty made h = absurd h

-- ---- why a stream isn't ended

-- An error of the device comes only from a started writer.
started_first : (s : WriterState) (a b : WriterSeen (Vec ℕ Global)) (x : Error) → StateComesFirst (fault_unless_started s) a (Err (faults.Io x)) b → s ≡ Started
started_first New a b x h = let other = h.0 in absurd cc
started_first Started a b x h = refl
started_first Finished a b x h = let other = h.0 in absurd cc
started_first Failed a b x h = let other = h.0 in absurd cc

-- The state of a writer that refuses to finish for its state.
refuses_state : (s : WriterState) (x : StateFault) → (s ≡ Finished → ⊥) → fault_unless_started s ≡ Some x → ((s ≡ New) × (x ≡ NotStarted)) ⊎ ((s ≡ Failed) × (x ≡ StateFailed))
refuses_state New x going e = inl (refl, let same : x ≡ NotStarted = cc in same)
refuses_state Started x going e = absurd cc
refuses_state Finished x going e = absurd (going refl)
refuses_state Failed x going e = inr (refl, let same : x ≡ StateFailed = cc in same)

pub refuses_end : (a b : WriterSeen (Vec ℕ Global)) → (a.state ≡ Finished → ⊥) → (e : Fault) → StateComesFirst (fault_unless_started a.state) a (Err e) b
    → SendStep vectors a (Err e) b (prefix_bytes (pos 0)) 8 → RefusesFinish a.state e → StreamEndCause a e
refuses_end a b going (faults.State x) first step only = elim (refuses_state a.state x going only) [
  | inl h ↦ subst (λ (y : StateFault). StreamEndCause a (faults.State y)) (sym h.1) h.0
  | inr h ↦ subst (λ (y : StateFault). StreamEndCause a (faults.State y)) (sym h.1) h.0
]
refuses_end a b going (faults.Io x) first step only = record { started = started_first a.state a b x first; full = is_full _ _ step.io.1 }
refuses_end a b going _ first step only = absurd only

-- ---- what is never refused

-- Reading a readable stream fails only if an allocation fails.
pub never_refused : (o : Endianness) (fs : FieldTrees) (es : Pairs) (is : IdTrees) (calls : List StreamCall) (bytes : List ℕ) (e : Fault) → IsReadable bytes → ReadsStream bytes (Err e) → RoundTripCause o fs es is calls e
never_refused o fs es is calls bytes faults.Memory readable h = tt
never_refused o fs es is calls bytes (faults.Io e) readable h = absurd h
never_refused o fs es is calls bytes _ readable h = absurd (h.0 readable)
