-- How each call of a stream writer changes what its bytes mean.
use Rattle.std.proofs.Common.{arith, ◌≡◌, ℕ, pos, ◌%◌, ◌^◌, ◌<◌, ◌⊎◌, inl, inr, IsTrue, List, [], ◌∷◌, ◌++◌, map, length, take, Some, Option, Result, Ok, Err, refl, sym, ap, ◌∙◌, subst, append_assoc, append-nil}
use Rattle.lower.specs.TypeTrees.{FieldTrees, TypeTree}
use Rattle.lower_types.specs.declared.Endianness.{Endianness}
use Rattle.lower_arrays.specs.AnyLayouts.{layout_of}
use Rattle.lower_arrays.specs.declared.array.AnyArray.{AnyArray}
use Rattle.ipc_base.specs.IdTrees.{IdTrees}
use Rattle.ipc_devices.specs.Device.{Device, Memory, WritesOver, before}
use Rattle.ipc_devices.specs.declared.fault.Fault.{Fault}
use Rattle.ipc_devices.specs.declared.fault.Fault.TheVariants.{Io}
use Rattle.ipc_stream_lemmas.proofs.Running.{open_finish, open_start, open_write}
use Rattle.ipc_stream_lemmas.specs.Moves.{MeansChunk}
use Rattle.ipc_stream_lemmas.specs.Remembered.{nothing_remembered}
use Rattle.ipc_stream_lemmas.specs.Runs.{IsOpen as IsOpenStream}
use Rattle.ipc_model.proofs.WriterSteps.{start_law}
use Rattle.ipc_model.specs.Batches.{Chunk}
use Rattle.ipc_model.specs.Schemas.{head_of, schema_of}
use Rattle.ipc_model.specs.Streams.{Head}
use Rattle.ipc_model.specs.WrittenLaws.{prefix}
use Rattle.ipc_tracker.proofs.PlaceLists.{memory_is}
use Rattle.ipc_tracker.specs.Trackers.{IsSameMemory, Remembered}
use Rattle.ipc_table_views.specs.Tables.{number_at}
use Rattle.ipc_write.specs.Agreement.{Agrees, Appends, BeginsStream, BreaksOff, HasEnded, IsFresh, IsOpen, IsUnwritten, Remains, StreamIs}
use Rattle.ipc_write.specs.Framing.{message_bytes, prefix_bytes}
use Rattle.ipc_write.specs.Meaning.{HeadHas, chunk_written, normal_types}
use Rattle.ipc_write.specs.Messages.{messages_bytes}
use Rattle.ipc_plan.specs.Sending.{WritesSome}
use Rattle.ipc_write.specs.Sending.{Flushes}
use Rattle.ipc_write.specs.Writers.{Kept, LeavesFlushed, LeavesState, MayBeWritten, SendStep, SendsStep, WriterSeen, flushed_from}
use Rattle.ipc_write.specs.declared.stream.WriterState.{WriterState}
use Rattle.ipc_write.specs.declared.stream.WriterState.TheVariants.{New, Started, Finished, Failed}
use Rattle.ipc_write.proofs.MessageLists.{chunk_means}
use Rattle.ipc_write.proofs.Messages.{message_whole}

-- ---- bytes

mark_is : prefix_bytes (pos 0) ≡ prefix 0
unfolding prefix_bytes
mark_is = refl

-- what is added to the bytes of a stream
held_more : (m m' : Memory) (base bytes added : List ℕ) → before m ≡ base ++ bytes → before m' ≡ before m ++ added → before m' ≡ base ++ (bytes ++ added)
held_more m m' base bytes added e f = f ∙ ap (λ bs. bs ++ added) e ∙ append_assoc base bytes added

-- ---- a device that fails

stood_at : {W : Type 0} (state : WriterState) (w : WriterSeen W) (bytes rest : List ℕ) (head : Head) (chunks : List Chunk) → (state ≡ New) ⊎ (state ≡ Started) → StreamIs state w bytes head chunks
    → BreaksOff (bytes ++ rest) head chunks
stood_at New w bytes rest head chunks at h = record { sent = bytes; rest = rest; parts = refl; stood = inl (h.none, h.no_chunks) }
stood_at Started w bytes rest head chunks at h = record { sent = bytes; rest = rest; parts = refl; stood = inr (record { known = h.stream.known; stream = h.stream.stream }) }
stood_at Finished w bytes rest head chunks (inl e) h = absurd cc
stood_at Finished w bytes rest head chunks (inr e) h = absurd cc
stood_at Failed w bytes rest head chunks (inl e) h = absurd cc
stood_at Failed w bytes rest head chunks (inr e) h = absurd cc

-- A call that began to send in a new or a started writer, and failed.
pub broken : {W : Type 0} (d : Device W) (a b : WriterSeen W) (bytes base : List ℕ) (head : Head) (chunks : List Chunk) → (a.state ≡ New) ⊎ (a.state ≡ Started) → b.state ≡ Failed
    → WritesSome (d.memory a.device) (d.memory b.device) bytes → Agrees d a base head chunks → Agrees d b base head chunks
broken d a b bytes base head chunks at failed some h =
    let added = take some.count bytes in
    let off = stood_at a.state a h.bytes added head chunks at h.stream in
    record {
      bytes = h.bytes ++ added;
      held = held_more (d.memory a.device) (d.memory b.device) base h.bytes added h.held some.over.added;
      stream = subst (λ s. StreamIs s b (h.bytes ++ added) head chunks) (sym failed) off;
    }

-- ---- what is kept

-- The same stream of a writer that has the same byte order, types, ids and dictionaries.
has_same : (order order' : Endianness) (head : Head) (types types' : List TypeTree) (ids ids' : IdTrees) → order' ≡ order → types' ≡ types → ids' ≡ ids → HeadHas order head types ids → HeadHas order' head types' ids'
has_same order order' head types types' ids ids' o t i h =
    subst (λ (q : Endianness). HeadHas q head types' ids') (sym o) (subst (λ (ts : List TypeTree). HeadHas order head ts ids') (sym t) (subst (λ (is : IdTrees). HeadHas order head types is) (sym i) h))

open_known : (bytes : List ℕ) (head : Head) (m n : Remembered) (chunks : List Chunk) → IsSameMemory m n → IsOpenStream bytes head m chunks → IsOpenStream bytes head n chunks
open_known bytes head m n chunks same o = subst (λ (k : Remembered). IsOpenStream bytes head k chunks) (sym (memory_is m n same)) o

same_stream : {W : Type 0} (state : WriterState) (a b : WriterSeen W) (bytes : List ℕ) (head : Head) (chunks : List Chunk) → b.order ≡ a.order → b.types ≡ a.types → b.ids ≡ a.ids → IsSameMemory a.dictionaries b.dictionaries
    → StreamIs state a bytes head chunks → StreamIs state b bytes head chunks
same_stream New a b bytes head chunks order types ids same h = record { none = h.none; no_chunks = h.no_chunks; nothing = λ id. same id ∙ h.nothing id }
same_stream Started a b bytes head chunks order types ids same h = record {
  stream = open_known bytes head a.dictionaries b.dictionaries chunks same h.stream;
  has = has_same a.order b.order head a.types b.types a.ids b.ids order types ids h.has;
}
same_stream Finished a b bytes head chunks order types ids same h = h
same_stream Failed a b bytes head chunks order types ids same h = h

-- a call that was refused
pub same_agrees : {W : Type 0} (d : Device W) (a b : WriterSeen W) (base : List ℕ) (head : Head) (chunks : List Chunk) → Kept a b → b.order ≡ a.order → Agrees d a base head chunks
    → Agrees d b base head chunks
same_agrees d a b base head chunks kept order h = record {
  bytes = h.bytes;
  held = ap (λ x. before (d.memory x)) kept.device ∙ h.held;
  stream = subst (λ s. StreamIs s b h.bytes head chunks) (sym kept.state) (same_stream a.state a b h.bytes head chunks order kept.types kept.ids kept.dictionaries h.stream);
}

-- ---- write

-- The messages of a chunk that the writer accepts were sent, and are remembered.
appended : {W : Type 0} (d : Device W) (a b : WriterSeen W) (u : Unit {0}) (columns : List AnyArray) (ids : Option IdTrees) → a.state ≡ Started → b.state ≡ Started → b.types ≡ a.types → b.ids ≡ a.ids
    → ((fs : FieldTrees) → normal_types fs ≡ a.types → MayBeWritten a fs columns ids) → (s : SendsStep d a (Ok u) b columns)
    → WritesOver (d.memory a.device) (d.memory b.device) (messages_bytes (s.dictionaries ++ s.own ∷ []))
    → (base : List ℕ) (head : Head) (chunks : List Chunk) → Agrees d a base head chunks → Agrees d b base head (chunks ++ chunk_written columns ∷ [])
appended d a b u columns ids was is types same_ids taken s over base head chunks h =
    let open_ : IsOpen a h.bytes head chunks = subst (λ t. StreamIs t a h.bytes head chunks) was h.stream in
    let has = open_.has in
    let added = messages_bytes (s.dictionaries ++ s.own ∷ []) in
    let bytes = h.bytes ++ added in
    let after = chunks ++ chunk_written columns ∷ [] in
    let means : MeansChunk head added a.dictionaries b.dictionaries (chunk_written columns) =
    subst (λ (k : Head). MeansChunk k added a.dictionaries b.dictionaries (chunk_written columns)) (sym has.head_is)
    (chunk_means a.order has.fields has.metadata a.ids (map layout_of columns) a.dictionaries b.dictionaries _ s.list s.dictionaries s.own has.writable (taken has.fields has.types_are).accepted s.lists s.remembers s.are) in
    let more : IsOpen b bytes head after = record {
      stream = open_write h.bytes added head a.dictionaries b.dictionaries chunks (chunk_written columns) open_.stream means;
      has = has_same a.order b.order head a.types b.types a.ids b.ids s.step.order types same_ids has;
    } in
    record {
      bytes = bytes;
      held = held_more (d.memory a.device) (d.memory b.device) base h.bytes added h.held over.added;
      stream = subst (λ t. StreamIs t b bytes head after) (sym is) more;
    }

pub chunk_appended : {W : Type 0} (d : Device W) (a b : WriterSeen W) (u : Unit {0}) (columns : List AnyArray) (ids : Option IdTrees) → a.state ≡ Started → b.state ≡ Started → b.types ≡ a.types
    → b.ids ≡ a.ids → ((fs : FieldTrees) → normal_types fs ≡ a.types → MayBeWritten a fs columns ids) → SendsStep d a (Ok u) b columns
    → Appends d a (Ok u) b (chunk_written columns)
chunk_appended d a b u columns ids was is types same_ids taken s = record {
  appended = λ k base head chunks h. appended d a b u columns ids was is types same_ids taken s (s.step.all_sent k) base head chunks h;
  kept = λ k base head chunks h. tt;
}

-- a chunk that wasn't sent whole
pub chunk_not_appended : {W : Type 0} (d : Device W) (a b : WriterSeen W) (e : Fault) (columns : List AnyArray) → a.state ≡ Started
    → SendsStep d a (Err e) b columns → Appends d a (Err e) b (chunk_written columns)
chunk_not_appended d a b (Io x) columns was s = record {
  appended = λ k base head chunks h. tt;
  kept = λ k base head chunks h. broken d a b (messages_bytes (s.dictionaries ++ s.own ∷ [])) base head chunks (inr was) s.step.io.0 (s.step.some_sent k) h;
}
chunk_not_appended d a b _ columns was s = record {
  appended = λ k base head chunks h. tt;
  kept = λ k base head chunks h. same_agrees d a b base head chunks s.step.refused s.step.order h;
}

-- a chunk that was refused, whatever the state
pub chunk_refused : {W : Type 0} (d : Device W) (a b : WriterSeen W) (e : Fault) (columns : List AnyArray) → Kept a b → b.order ≡ a.order → Appends d a (Err e) b (chunk_written columns)
chunk_refused d a b e columns kept order = record {
  appended = λ k base head chunks h. tt;
  kept = λ k base head chunks h. same_agrees d a b base head chunks kept order h;
}

-- ---- start

-- a message that begins a stream has bytes
some_bytes : (metadata : List ℕ) (head : Head) → head_of metadata ≡ Some head → 0 < length metadata
unfolding head_of schema_of number_at
some_bytes [] head e = absurd cc
some_bytes (x ∷ xs) head e = omega arith

begun : {W : Type 0} (d : Device W) (a b : WriterSeen W) (metadata : List ℕ) (head : Head) → a.state ≡ New → b.state ≡ Started → length metadata % 8 ≡ 0 → length metadata < 2 ^ 31
    → head_of metadata ≡ Some head → HeadHas b.order head b.types b.ids → IsSameMemory a.dictionaries b.dictionaries → WritesOver (d.memory a.device) (d.memory b.device) (message_bytes metadata [])
    → (base : List ℕ) (chunks : List Chunk) → Agrees d a base head chunks → Agrees d b base head chunks
begun d a b metadata head was is whole short headed has same over base chunks h =
    let new : IsUnwritten a h.bytes chunks = subst (λ s. StreamIs s a h.bytes head chunks) was h.stream in
    let message : message_bytes metadata [] ≡ prefix (length metadata) ++ metadata =
    message_whole metadata [] whole refl ∙ ap (λ bs. prefix (length metadata) ++ bs) (append-nil metadata) in
    let started = start_law metadata head (some_bytes metadata head headed) short headed in
    let bytes = prefix (length metadata) ++ metadata in
    let all : h.bytes ++ message_bytes metadata [] ≡ bytes = ap (λ bs. bs ++ message_bytes metadata []) new.none ∙ message in
    let open_ : IsOpen b bytes head chunks = record {
      stream =
          open_known bytes head nothing_remembered b.dictionaries chunks (λ id. same id ∙ new.nothing id)
          (subst (λ (cs : List Chunk). IsOpenStream bytes head nothing_remembered cs) (sym new.no_chunks) (open_start bytes head started));
      has = has;
    } in
    record {
      bytes = bytes;
      held = held_more (d.memory a.device) (d.memory b.device) base h.bytes (message_bytes metadata []) h.held over.added ∙ ap (λ bs. base ++ bs) all;
      stream = subst (λ s. StreamIs s b bytes head chunks) (sym is) open_;
    }

-- a schema was sent
pub sent_schema : {W : Type 0} (d : Device W) (a b : WriterSeen W) (metadata : List ℕ) (head : Head) → a.state ≡ New → b.state ≡ Started → length metadata % 8 ≡ 0 → length metadata < 2 ^ 31
    → head_of metadata ≡ Some head → HeadHas b.order head b.types b.ids → IsSameMemory a.dictionaries b.dictionaries → (IsTrue d.is_memory → WritesOver (d.memory a.device) (d.memory b.device) (message_bytes metadata [])) → (x : Unit {0})
    → BeginsStream d a (Ok x) b head
sent_schema d a b metadata head was is whole short headed has same over x = record {
  begun = λ k base chunks h. begun d a b metadata head was is whole short headed has same (over k) base chunks h;
  kept = λ k base other chunks h. tt;
}

-- a schema wasn't sent whole
pub unsent_schema : {W : Type 0} (d : Device W) (a b : WriterSeen W) (e : Fault) (bytes : List ℕ) (count : ℕ) (head : Head) → a.state ≡ New
    → SendStep d a (Err e) b bytes count → BeginsStream d a (Err e) b head
unsent_schema d a b (Io x) bytes count head was step = record {
  begun = λ k base chunks h. tt;
  kept = λ k base other chunks h. broken d a b bytes base other chunks (inl was) step.io.0 (step.some_sent k) h;
}
unsent_schema d a b _ bytes count head was step = record {
  begun = λ k base chunks h. tt;
  kept = λ k base other chunks h. same_agrees d a b base other chunks step.refused step.order h;
}

-- ---- finish

-- the mark was sent
pub sent_mark : {W : Type 0} (d : Device W) (a b : WriterSeen W) → a.state ≡ Started → b.state ≡ Finished → (IsTrue d.is_memory → WritesOver (d.memory a.device) (d.memory b.device) (prefix_bytes (pos 0)))
    → Remains d a b
sent_mark d a b was is over = record {
  kept = λ k base head chunks h.
      let open_ : IsOpen a h.bytes head chunks = subst (λ s. StreamIs s a h.bytes head chunks) was h.stream in
      let bytes = h.bytes ++ prefix 0 in
      let done : HasEnded bytes head chunks = record { stream = open_finish h.bytes head a.dictionaries chunks open_.stream } in
      record {
        bytes = bytes;
        held = held_more (d.memory a.device) (d.memory b.device) base h.bytes (prefix_bytes (pos 0)) h.held (over k).added ∙ ap (λ bs. base ++ (h.bytes ++ bs)) mark_is;
        stream = subst (λ s. StreamIs s b bytes head chunks) (sym is) done;
      };
}

-- The mark was sent in part.
pub begun_mark : {W : Type 0} (d : Device W) (a b : WriterSeen W) → a.state ≡ Started → b.state ≡ Failed → (IsTrue d.is_memory → WritesSome (d.memory a.device) (d.memory b.device) (prefix_bytes (pos 0)))
    → Remains d a b
begun_mark d a b was is some = record {
  kept = λ k base head chunks h. broken d a b (prefix_bytes (pos 0)) base head chunks (inr was) is (some k) h;
}

-- ---- flush

-- A writer whose device has the same bytes, in the state that it had.
flushed_stays : {W : Type 0} (d : Device W) (a : WriterSeen W) (w : W) (base : List ℕ) (head : Head) (chunks : List Chunk) → d.memory w ≡ d.memory a.device
    → Agrees d a base head chunks → Agrees d (flushed_from a w a.state) base head chunks
flushed_stays d a w base head chunks same h = record {
  bytes = h.bytes;
  held = ap before same ∙ h.held;
  stream = at_all a.state h.stream;
}
  where
    at_all : (s : WriterState) → StreamIs s a h.bytes head chunks → StreamIs s (flushed_from a w a.state) h.bytes head chunks
    at_all New x = record { none = x.none; no_chunks = x.no_chunks; nothing = x.nothing }
    at_all Started x = record { stream = x.stream; has = x.has }
    at_all Finished x = x
    at_all Failed x = x

-- A new or a started writer whose device failed, and has the same bytes.
flushed_breaks : {W : Type 0} (d : Device W) (a : WriterSeen W) (w : W) (base : List ℕ) (head : Head) (chunks : List Chunk) → (a.state ≡ New) ⊎ (a.state ≡ Started) → d.memory w ≡ d.memory a.device
    → Agrees d a base head chunks → Agrees d (flushed_from a w Failed) base head chunks
flushed_breaks d a w base head chunks at same h =
    let off = stood_at a.state a h.bytes [] head chunks at h.stream in
    record {
      bytes = h.bytes;
      held = ap before same ∙ h.held;
      stream = subst (λ (bs : List ℕ). BreaksOff bs head chunks) (append-nil h.bytes) off;
    }

-- What a flush leaves of a stream.
pub flush_remains : {W : Type 0} (d : Device W) (a b : WriterSeen W) (r : Result (Unit {0}) Fault) → Flushes d a.device r b.device → LeavesFlushed r a.state b.state
    → b ≡ flushed_from a b.device b.state → Remains d a b
flush_remains {W} d a b r f leaves same = record {
  kept = λ k base head chunks h.
      subst (λ (x : WriterSeen W). Agrees d x base head chunks) (sym same) (at_state a.state refl r b.state leaves (f.memory k) base head chunks h);
}
  where
    stay : (s' : WriterState) → s' ≡ a.state → d.memory b.device ≡ d.memory a.device → (base : List ℕ) (head : Head) (chunks : List Chunk)
        → Agrees d a base head chunks → Agrees d (flushed_from a b.device s') base head chunks
    stay s' e m base head chunks h =
        subst (λ (s : WriterState). Agrees d (flushed_from a b.device s) base head chunks) (sym e) (flushed_stays d a b.device base head chunks m h)

    breaks : (s' : WriterState) → s' ≡ Failed → (a.state ≡ New) ⊎ (a.state ≡ Started) → d.memory b.device ≡ d.memory a.device → (base : List ℕ) (head : Head) (chunks : List Chunk)
        → Agrees d a base head chunks → Agrees d (flushed_from a b.device s') base head chunks
    breaks s' e at m base head chunks h =
        subst (λ (s : WriterState). Agrees d (flushed_from a b.device s) base head chunks) (sym e) (flushed_breaks d a b.device base head chunks at m h)

    left : (s s' : WriterState) → a.state ≡ s → (s ≡ New) ⊎ (s ≡ Started) → (q : Result (Unit {0}) Fault) → LeavesState q s s' → d.memory b.device ≡ d.memory a.device
        → (base : List ℕ) (head : Head) (chunks : List Chunk) → Agrees d a base head chunks → Agrees d (flushed_from a b.device s') base head chunks
    left s s' was at (Ok x) e m base head chunks h = stay s' (e ∙ sym was) m base head chunks h
    left s s' was at (Err (Io x)) e m base head chunks h = breaks s' e (subst (λ (z : WriterState). (z ≡ New) ⊎ (z ≡ Started)) (sym was) at) m base head chunks h
    left s s' was at (Err _) e m base head chunks h = stay s' (e ∙ sym was) m base head chunks h

    failed_stays : (s' : WriterState) → a.state ≡ Failed → (q : Result (Unit {0}) Fault) → LeavesState q Failed s' → s' ≡ a.state
    failed_stays s' was (Ok x) e = e ∙ sym was
    failed_stays s' was (Err (Io x)) e = e ∙ sym was
    failed_stays s' was (Err _) e = e ∙ sym was

    at_state : (s : WriterState) → a.state ≡ s → (q : Result (Unit {0}) Fault) (s' : WriterState) → LeavesFlushed q s s' → d.memory b.device ≡ d.memory a.device
        → (base : List ℕ) (head : Head) (chunks : List Chunk) → Agrees d a base head chunks → Agrees d (flushed_from a b.device s') base head chunks
    at_state New was q s' e m base head chunks h = left New s' was (inl refl) q e m base head chunks h
    at_state Started was q s' e m base head chunks h = left Started s' was (inr refl) q e m base head chunks h
    at_state Finished was q s' e m base head chunks h = stay s' (e ∙ sym was) m base head chunks h
    at_state Failed was q s' e m base head chunks h = stay s' (failed_stays s' was q e) m base head chunks h

-- ---- new

pub fresh : {W : Type 0} (d : Device W) (w : WriterSeen W) → w.state ≡ New → IsSameMemory nothing_remembered w.dictionaries → IsFresh d w
fresh d w is nothing = record {
  agrees = λ head. record {
    bytes = [];
    held = sym (append-nil (before (d.memory w.device)));
    stream = subst (λ s. StreamIs s w [] head []) (sym is) (record { none = refl; no_chunks = refl; nothing = nothing });
  };
}
