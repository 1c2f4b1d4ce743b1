-- The bytes of a file writer after each call.
use Rattle.std.proofs.Common.{◌≡◌, ℕ, ◌+◌, ◌%◌, ◌≤◌, Bool, IsTrue, List, [], ◌∷◌, ◌++◌, length, take, replicate, None, Some, refl, sym, ap, ◌∙◌, subst, append_assoc, append-nil, length-append, arith, Result, Ok, Err}
use Rattle.ipc_devices.proofs.Acts.{none_answered}
use Rattle.ipc_devices.specs.Device.{Device, IsAnswered, Memory, WritesOver, before}
use Rattle.ipc_devices.specs.Faults.{OnIo, OnRefused}
use Rattle.ipc_devices.specs.declared.fault.Fault.{Fault}
use Rattle.ipc_devices.specs.declared.fault.Fault.TheVariants.{Argument, Io, Memory as NoMemory}
use Rattle.ipc_devices.specs.declared.fault.StateFault.TheVariants as faults
use Rattle.lower.specs.TypeTrees.{Pairs}
use Rattle.ipc_table_views.specs.declared.file.Block.{Block}
use Rattle.ipc_model.specs.Batches.{Chunk, Schema}
use Rattle.ipc_model.specs.Files.{magic}
use Rattle.ipc_model.specs.Streams.{Head}
use Rattle.ipc_model.specs.WrittenLaws.{prefix}
use Rattle.ipc_plan.specs.Sending.{WritesSome}
use Rattle.lower_arrays.specs.Layouts.{Layout}
use Rattle.ipc_stream_lemmas.specs.Messages.{chunk_written, message_bytes}
use Rattle.ipc_stream_lemmas.specs.Remembered.{Remembered, nothing_remembered}
use Rattle.ipc_base.specs.IdTrees.{IdTrees, all_ids_view}
use Rattle.ipc_tables.specs.Written.{IsWritten}
use Rattle.ipc_model.specs.Schemas.{head_of}
use Rattle.ipc_model.specs.Writable.{IsWritable, file_weight, weight}
use Rattle.ipc_schema_write.specs.WriterAnswers.{RefusesSchema, max_weight, written_head_as}
use Rattle.ipc_write.specs.declared.stream.WriterState.{WriterState}
use Rattle.ipc_write.specs.declared.stream.WriterState.TheVariants.{New, Started, Finished, Failed}
use Rattle.ipc_write.specs.Sending.{Delivers, Flushes, OnSent}
use Rattle.ipc_write.specs.Writers.{LeavesFlushed, LeavesState}
use Rattle.ipc_footer_write.specs.Footers.{HasFooter, tail_of}
use Rattle.std.proofs.lemmas.List.{length-replicate, take-append-le}
use Rattle.ipc_file_lemmas.proofs.Ends.{chunk_ends, chunk_natural, chunk_reaches, no_ends, none_at_all}
use Rattle.ipc_file_lemmas.specs.FileBytes.{EndsStreamBehind, HoldsFile, HasStreamBehind, SendsChunk, Sent, all_bytes, block_at, blocks_at, chunk_bytes, file_head}
use Rattle.ipc_file_lemmas.proofs.FileSteps.{end_law, grow_law, start_law, write_law}
use Rattle.ipc_file_lemmas.proofs.StreamSteps.{stream_end_law, stream_start_law, stream_write_law}
use Rattle.ipc_file_write.specs.FileWriters.{FileIs, FileSeen, FileStep, HoldsBytes, IsEnding, IsFresh, IsOpenFile, IsSameFile, Kept, MayFinish, MayStart, ReachesEnd, RefusesFinish, RefusesStart, Remains, RemembersSame, SendsBeginning, SendsEnding, TakesPairs, ending_bytes, fault_if_over, head_of_file, flushed_file}
use Rattle.ipc_file_write.specs.declared.sending.Ending.{Ending}
use Rattle.ipc_file_write.specs.declared.writer.Starting.{Starting}

-- ---- refused

writes_none : (m : Memory) → WritesOver m m []
writes_none m = record { added = sym (append-nil (before m)); rest = refl; place = omega arith; reaches = λ h. h }

some_none : (m : Memory) (bytes : List ℕ) → WritesSome m m bytes
some_none m bytes = record { count = 0; most = omega arith; over = writes_none m }

pub on_refused : (e : Fault) (P : Type 0) → P → OnRefused {X = Unit {0}} (Err e) P
on_refused (Io x) P p = tt
on_refused _ P p = p

-- a call that was refused before anything was sent
pub kept_step : {W : Type 0} (d : Device W) (a b : FileSeen W) (e : Fault) (bytes : List ℕ) → Kept a b → IsSameFile a b
    → ((P : Type 0) → OnIo {X = Unit {0}} (Err e) P) → FileStep d a (Err e) b bytes
kept_step d a b e bytes kept same not_io = record {
  same = same;
  monotone = rw kept.device (omega arith);
  io = not_io _;
  answered = none_answered {X = Unit {0}} (Err e) (IsAnswered d) (not_io ⊥);
  refused = on_refused e _ kept;
  done = tt;
  all_sent = λ k. tt;
  some_sent = λ k. rw kept.device (some_none (d.memory a.device) bytes);
  names = ap d.names kept.device;
}

refused_step : {W : Type 0} (d : Device W) (a : FileSeen W) (e : Fault)
    → ((P : Type 0) → OnIo {X = Unit {0}} (Err e) P) → FileStep d a (Err e) a []
refused_step d a e not_io =
    kept_step d a a e [] (record { device = refl; state = refl; ids = refl; pairs = refl; remembers = λ id. refl; dictionaries = refl; blocks = refl; place = refl })
    (record { order = refl; fields = refl; metadata = refl; chosen = refl; pairs = refl; size = refl }) not_io

-- So nothing was sent of a file's beginning, and nothing of its end.
none_sent : (e : Fault) (P : Type 0) → ((Q : Type 0) → OnIo {X = Unit {0}} (Err e) Q) → OnSent (Err e) P
none_sent (Io x) P not_io = not_io _
none_sent _ P not_io = tt

pub refused_beginning : {W : Type 0} (d : Device W) (a : FileSeen W) (e : Fault)
    → ((P : Type 0) → OnIo {X = Unit {0}} (Err e) P) → SendsBeginning d a (Err e) a
refused_beginning d a e not_io = record { bytes = []; is = none_sent e _ not_io; place = tt; step = refused_step d a e not_io }

pub refused_ending : {W : Type 0} (d : Device W) (a : FileSeen W) (e : Fault)
    → ((P : Type 0) → OnIo {X = Unit {0}} (Err e) P) → SendsEnding d a (Err e) a
refused_ending d a e not_io = record { bytes = []; is = none_sent e _ not_io; step = refused_step d a e not_io; flushed = tt }

pub start_not_io : {W : Type 0} (w : FileSeen W) (e : Fault) → RefusesStart w e → (P : Type 0) → OnIo {X = Unit {0}} (Err e) P
start_not_io w (Io x) h P = absurd h
start_not_io w _ h P = tt

pub finish_not_io : {W : Type 0} (w : FileSeen W) (e : Fault) → RefusesFinish w e → (P : Type 0) → OnIo {X = Unit {0}} (Err e) P
finish_not_io w (Io x) h P = absurd h
finish_not_io w _ h P = tt

-- Ids that don't fit the schema refuse the start.
pub ids_refused : {W : Type 0} (w : FileSeen W) (e : Fault) → RefusesSchema e w.fields w.metadata w.chosen → RefusesStart w e
ids_refused w NoMemory h = tt
ids_refused w (Argument _) h = h
ids_refused w _ h = absurd h

-- The parts that are made for the start.
pub may_start : {W : Type 0} (w : FileSeen W) (s : Starting) (message : List ℕ) (is : IdTrees) → w.state ≡ New → is ≡ w.chosen → all_ids_view s.ipc_fields.items ≡ is → file_weight w.fields w.metadata w.pairs ≤ max_weight
    → IsWritable w.fields w.metadata is → length message ≤ weight w.fields w.metadata → head_of message ≡ Some (written_head_as w.order w.fields w.metadata is) → length message % 8 ≡ 0 → IsWritten message
    → s.bytes.items ≡ file_head ++ (prefix (length message) ++ message) → MayStart w s
may_start w s message is was chosen ids light writable long headed aligned written bytes_are = record {
  was = was;
  ids = ids ∙ chosen;
  writable = subst (λ (x : IdTrees). IsWritable w.fields w.metadata x) chosen writable;
  light = light;
  begins = record {
    message = message;
    some = let whole = written.encoding.size in omega (arith, whole);
    short = let most = writable.light in omega (arith, long, most);
    whole = aligned;
    headed = headed ∙ ap (λ (x : IdTrees). Some (written_head_as w.order w.fields w.metadata x)) chosen;
    written = written;
    bytes_are = bytes_are ∙ ap (λ (xs : List ℕ). file_head ++ (prefix (length message) ++ xs)) (sym (append-nil message));
  };
}

-- ---- what stays

-- A writer without its device, its state and its offset.
pub record SameBlocks {W : Type 0} (a b : FileSeen W) : Type 0 where
  pub order : b.order ≡ a.order
  pub fields : b.fields ≡ a.fields
  pub metadata : b.metadata ≡ a.metadata
  pub ids : b.ids ≡ a.ids
  pub pairs : b.pairs ≡ a.pairs
  pub remembers : RemembersSame a b
  pub dictionaries : b.dictionaries ≡ a.dictionaries
  pub blocks : b.blocks ≡ a.blocks
  pub size : b.size ≡ a.size

pub remembers_same : (schema : Schema) (size : ℕ) (bytes : List ℕ) (ds bs : List Block) (r r' : Remembered) (cs : List Chunk) → ((id : _) → r' id ≡ r id) → HoldsFile schema size bytes ds bs r cs
    → HoldsFile schema size bytes ds bs r' cs
remembers_same schema size bytes ds bs r r' cs same held = record {
  chunks = λ pairs.
      let h = held.chunks pairs in
      record { known = h.known; agrees = record { each = λ i. h.agrees.each i ∙ sym (same i) }; blocks = h.blocks };
}

-- Nothing was written, so any file is unchanged.
fresh_file : (schema : Schema) (size : ℕ) (bytes : List ℕ) (ds bs : List Block) (r : Remembered) (cs : List Chunk) → ds ≡ [] → bs ≡ [] → cs ≡ [] → ((id : _) → r id ≡ nothing_remembered id)
    → HoldsFile schema size bytes ds bs r cs
fresh_file schema size bytes ds bs r cs e f g same =
    let none = remembers_same schema size bytes [] [] nothing_remembered r [] same (start_law schema size bytes) in
    rw (e, f, g) none

pub stream_same : (bytes bytes' : List ℕ) (h h' : Head) (r r' : Remembered) (cs cs' : List Chunk) → bytes ≡ bytes' → h ≡ h' → ((id : _) → r' id ≡ r id) → cs ≡ cs' → HasStreamBehind bytes h r cs → HasStreamBehind bytes' h' r' cs'
stream_same bytes bytes' h h' r r' cs cs' e f same g held =
    subst (λ (xs : List ℕ). HasStreamBehind xs h' r' cs') e
    (subst (λ (x : Head). HasStreamBehind bytes x r' cs') f
    (subst (λ (ys : List Chunk). HasStreamBehind bytes h r' ys) g (record {
      stream = held.stream;
      bytes_are = held.bytes_are;
      goes_on = record { known = held.goes_on.known; agrees = record { each = λ i. held.goes_on.agrees.each i ∙ sym (same i) }; none = held.goes_on.none; stream = held.goes_on.stream };
    })))

pub at_state : {W : Type 0} (is_stream : Bool) (s s' : WriterState) (w : FileSeen W) (bytes : List ℕ) (cs : List Chunk) → s ≡ s' → FileIs is_stream s w bytes cs → FileIs is_stream s' w bytes cs
at_state is_stream s s' w bytes cs e h = subst (λ (x : WriterState). FileIs is_stream x w bytes cs) e h

-- There are more bytes after those of a device.
held_more : (m m' : Memory) (base bytes more : List ℕ) → before m ≡ base ++ bytes → WritesOver m m' more → before m' ≡ base ++ (bytes ++ more)
held_more m m' base bytes more held over = over.added ∙ ap (λ (xs : List ℕ). xs ++ more) held ∙ append_assoc base bytes more

-- ---- the start

module _ {W : Type 0} (d : Device W) (a b : FileSeen W) where
  -- a device failed while the first bytes were sent
  pub start_broken : (e : Fault) (bytes : List ℕ) → a.state ≡ New → b.state ≡ Failed → SameBlocks a b
      → Delivers {X = Unit {0}} d bytes a.device (Err e) b.device → Remains d a b
  start_broken e bytes was is same sent = record {
    kept = λ k is_stream base cs h.
        let fresh : IsFresh a h.bytes cs = at_state is_stream a.state New a h.bytes cs was h.file in
        let part = sent.part k in
        let all : List ℕ = h.bytes ++ take part.count bytes in
        record {
          bytes = all;
          held = held_more (d.memory a.device) (d.memory b.device) base h.bytes (take part.count bytes) h.held part.over;
          file = at_state is_stream Failed b.state b all cs (sym is)
              (fresh_file (head_of_file b).schema b.size all b.dictionaries b.blocks b.remembers cs (same.dictionaries ∙ fresh.no_dictionaries) (same.blocks ∙ fresh.no_blocks) fresh.no_chunks
              (λ id. same.remembers id ∙ fresh.nothing id));
        };
  }

  -- the first bytes were sent
  pub started : (s : Starting) (bytes : List ℕ) → MayStart a s → bytes ≡ s.bytes.items → b.state ≡ Started → b.ids ≡ a.chosen → b.order ≡ a.order → b.fields ≡ a.fields → b.metadata ≡ a.metadata → b.pairs ≡ a.pairs
      → b.remembers ≡ a.remembers → b.dictionaries ≡ a.dictionaries → b.blocks ≡ a.blocks → b.place ≡ length bytes
      → Delivers {X = Unit {0}} d bytes a.device (Ok tt) b.device → Remains d a b
  started s bytes may same is ids order fields metadata pairs remembers dictionaries blocks place sent = record {
    kept = λ k is_stream base cs h.
        let fresh : IsFresh a h.bytes cs = at_state is_stream a.state New a h.bytes cs may.was h.file in
        let first : h.bytes ++ bytes ≡ bytes = ap (λ (xs : List ℕ). xs ++ bytes) fresh.none in
        let held = held_more (d.memory a.device) (d.memory b.device) base h.bytes bytes h.held (sent.memory k) ∙ ap (λ (xs : List ℕ). base ++ xs) first in
        let h0 : Head = written_head_as a.order a.fields a.metadata a.chosen in
        let head : h0 ≡ head_of_file b = rw (order, fields, metadata, ids) refl in
        let first_bytes : bytes ≡ file_head ++ message_bytes may.begins.message [] = same ∙ may.begins.bytes_are in
        let none : (id : _) → b.remembers id ≡ nothing_remembered id = λ id. ap (λ (r : Remembered). r id) remembers ∙ fresh.nothing id in
        record {
          bytes = bytes;
          held = held;
          file = at_state is_stream Started b.state b bytes cs (sym is) (record {
            writable = rw (fields, metadata, ids) may.writable;
            light = rw (fields, metadata, pairs) may.light;
            begun = ap (take 6) first_bytes;
            long = omega (arith, ap length first_bytes, length-append file_head (message_bytes may.begins.message []));
            file = fresh_file (head_of_file b).schema b.size bytes b.dictionaries b.blocks b.remembers cs (dictionaries ∙ fresh.no_dictionaries) (blocks ∙ fresh.no_blocks) fresh.no_chunks none;
            stream = λ is_one.
                stream_same (file_head ++ message_bytes may.begins.message []) bytes h0 (head_of_file b) nothing_remembered b.remembers [] cs (sym first_bytes) head none (sym fresh.no_chunks)
                (stream_start_law may.begins.message h0 may.begins.some may.begins.short may.begins.headed);
            place = place;
            natural = none_at_all b.dictionaries b.blocks (dictionaries ∙ fresh.no_dictionaries) (blocks ∙ fresh.no_blocks);
            reached = λ some. absurd (omega (arith, some, ap length (blocks ∙ fresh.no_blocks)));
            last = λ is_one. no_ends b.dictionaries b.blocks b.place (dictionaries ∙ fresh.no_dictionaries) (blocks ∙ fresh.no_blocks);
          });
        };
  }

-- ---- the end

head_same : {W : Type 0} (a b : FileSeen W) → SameBlocks a b → head_of_file a ≡ head_of_file b
head_same a b same = rw (same.order, same.fields, same.metadata, same.ids) refl

-- a file is that of the same blocks
file_same : {W : Type 0} (a b : FileSeen W) (bytes : List ℕ) (cs : List Chunk) → SameBlocks a b → HoldsFile (head_of_file a).schema a.size bytes a.dictionaries a.blocks a.remembers cs
    → HoldsFile (head_of_file b).schema b.size bytes b.dictionaries b.blocks b.remembers cs
file_same a b bytes cs same held =
    remembers_same (head_of_file b).schema b.size bytes b.dictionaries b.blocks a.remembers b.remembers cs same.remembers
    (rw (same.dictionaries, same.blocks, same.size) (subst (λ (h : Head). HoldsFile h.schema a.size bytes a.dictionaries a.blocks a.remembers cs) (head_same a b same) held))

open_same : {W : Type 0} (is_stream : Bool) (a b : FileSeen W) (bytes : List ℕ) (cs : List Chunk) → SameBlocks a b → b.place ≡ a.place → IsOpenFile is_stream a bytes cs → IsOpenFile is_stream b bytes cs
open_same is_stream a b bytes cs same place h = record {
  writable = rw (same.fields, same.metadata, same.ids) h.writable;
  light = rw (same.fields, same.metadata, same.pairs) h.light;
  begun = h.begun;
  long = h.long;
  file = file_same a b bytes cs same h.file;
  stream = λ is_one. stream_same bytes bytes (head_of_file a) (head_of_file b) a.remembers b.remembers cs cs refl (head_same a b same) same.remembers refl (h.stream is_one);
  place = place ∙ h.place;
  natural = rw (same.dictionaries, same.blocks) h.natural;
  reached = rw (same.dictionaries, same.blocks, place) h.reached;
  last = rw (same.dictionaries, same.blocks, place) h.last;
}

-- ---- flush

module _ {W : Type 0} (d : Device W) (a : FileSeen W) (w : W) (same : d.memory w ≡ d.memory a.device) where
  -- The writer with this device, which has the same bytes.
  abbrev there : WriterState → FileSeen W
  there s = flushed_file a w s

  blocks_there : (s : WriterState) → SameBlocks a (there s)
  blocks_there s = record { order = refl; fields = refl; metadata = refl; ids = refl; pairs = refl; remembers = λ id. refl; dictionaries = refl; blocks = refl; size = refl }

  file_stays : (is_stream : Bool) (s s' : WriterState) (bytes : List ℕ) (cs : List Chunk) → FileIs is_stream s a bytes cs → FileIs is_stream s (there s') bytes cs
  file_stays is_stream New s' bytes cs h = record { none = h.none; no_chunks = h.no_chunks; nothing = h.nothing; no_dictionaries = h.no_dictionaries; no_blocks = h.no_blocks }
  file_stays is_stream Started s' bytes cs h = open_same is_stream a (there s') bytes cs (blocks_there s') refl h
  file_stays is_stream Finished s' bytes cs h = record {
    file = h.file;
    stream = h.stream;
    front = h.front;
    behind = h.behind;
    bytes_are = h.bytes_are;
    open_front = open_same is_stream a (there s') h.front cs (blocks_there s') refl h.open_front;
    long = h.long;
  }
  file_stays is_stream Failed s' bytes cs h = h

  -- What a device has that failed before anything was sent.
  file_breaks : (is_stream : Bool) (s s' : WriterState) (bytes : List ℕ) (cs : List Chunk) → (s ≡ Finished → ⊥) → FileIs is_stream s a bytes cs → FileIs is_stream Failed (there s') bytes cs
  file_breaks is_stream New s' bytes cs going h =
      fresh_file (head_of_file a).schema a.size bytes a.dictionaries a.blocks a.remembers cs h.no_dictionaries h.no_blocks h.no_chunks h.nothing
  file_breaks is_stream Started s' bytes cs going h = h.file
  file_breaks is_stream Finished s' bytes cs going h = absurd (going refl)
  file_breaks is_stream Failed s' bytes cs going h = h

  flush_stays : (s' : WriterState) → s' ≡ a.state → (is_stream : Bool) (base : List ℕ) (cs : List Chunk) → HoldsBytes is_stream (d.memory a.device) a base cs → HoldsBytes is_stream (d.memory w) (there s') base cs
  flush_stays s' e is_stream base cs h = record {
    bytes = h.bytes;
    held = ap before same ∙ h.held;
    file = at_state is_stream a.state s' (there s') h.bytes cs (sym e) (file_stays is_stream a.state s' h.bytes cs h.file);
  }

  flush_breaks : (s' : WriterState) → s' ≡ Failed → (a.state ≡ Finished → ⊥) → (is_stream : Bool) (base : List ℕ) (cs : List Chunk) → HoldsBytes is_stream (d.memory a.device) a base cs
      → HoldsBytes is_stream (d.memory w) (there s') base cs
  flush_breaks s' e going is_stream base cs h = record {
    bytes = h.bytes;
    held = ap before same ∙ h.held;
    file = at_state is_stream Failed s' (there s') h.bytes cs (sym e) (file_breaks is_stream a.state s' h.bytes cs going h.file);
  }

  flush_left : (r : Result (Unit {0}) Fault) (s s' : WriterState) → a.state ≡ s → (s ≡ Finished → ⊥) → LeavesState r s s' → (is_stream : Bool) (base : List ℕ) (cs : List Chunk)
      → HoldsBytes is_stream (d.memory a.device) a base cs → HoldsBytes is_stream (d.memory w) (there s') base cs
  flush_left (Ok x) s s' was going e is_stream base cs h = flush_stays s' (e ∙ sym was) is_stream base cs h
  flush_left (Err (Io x)) s s' was going e is_stream base cs h = flush_breaks s' e (λ done. going (sym was ∙ done)) is_stream base cs h
  flush_left (Err _) s s' was going e is_stream base cs h = flush_stays s' (e ∙ sym was) is_stream base cs h

  pub flushed_holds : (r : Result (Unit {0}) Fault) (s s' : WriterState) → a.state ≡ s → LeavesFlushed r s s' → (is_stream : Bool) (base : List ℕ) (cs : List Chunk)
      → HoldsBytes is_stream (d.memory a.device) a base cs → HoldsBytes is_stream (d.memory w) (there s') base cs
  flushed_holds r New s' was e is_stream base cs h = flush_left r New s' was (λ done. cc) e is_stream base cs h
  flushed_holds r Started s' was e is_stream base cs h = flush_left r Started s' was (λ done. cc) e is_stream base cs h
  flushed_holds r Finished s' was e is_stream base cs h = flush_stays s' (e ∙ sym was) is_stream base cs h
  flushed_holds r Failed s' was e is_stream base cs h = flush_left r Failed s' was (λ done. cc) e is_stream base cs h

-- A flush changes no chunk.
pub flush_remains : {W : Type 0} (d : Device W) (a b : FileSeen W) (r : Result (Unit {0}) Fault) → Flushes d a.device r b.device → LeavesFlushed r a.state b.state
    → b ≡ flushed_file a b.device b.state → Remains d a b
flush_remains {W} d a b r f leaves same = record {
  kept = λ k is_stream base cs h.
      subst (λ (x : FileSeen W). HoldsBytes is_stream (d.memory b.device) x base cs) (sym same) (flushed_holds d a b.device (f.memory k) r a.state b.state refl leaves is_stream base cs h);
}

-- ---- other pairs

module _ {W : Type 0} (d : Device W) (a b : FileSeen W) (pairs : Pairs) (t : TakesPairs a b pairs) where
  pairs_head : head_of_file a ≡ head_of_file b
  pairs_head = rw (t.order, t.fields, t.metadata, t.ids) refl

  pairs_file : (is_stream : Bool) (s : WriterState) (bytes : List ℕ) (cs : List Chunk) → fault_if_over s ≡ None → FileIs is_stream s a bytes cs → FileIs is_stream s b bytes cs
  pairs_file is_stream New bytes cs e h = record { none = h.none; no_chunks = h.no_chunks; nothing = λ id. t.remembers id ∙ h.nothing id; no_dictionaries = t.dictionaries ∙ h.no_dictionaries; no_blocks = t.blocks ∙ h.no_blocks }
  pairs_file is_stream Started bytes cs e h = record {
    writable = rw (t.fields, t.metadata, t.ids) h.writable;
    light = rw (t.fields, t.metadata, t.are) t.light;
    begun = h.begun;
    long = h.long;
    file = remembers_same (head_of_file b).schema b.size bytes b.dictionaries b.blocks a.remembers b.remembers cs t.remembers
        (rw (t.dictionaries, t.blocks, t.size) (subst (λ (x : Head). HoldsFile x.schema a.size bytes a.dictionaries a.blocks a.remembers cs) pairs_head h.file));
    stream = λ is_one. stream_same bytes bytes (head_of_file a) (head_of_file b) a.remembers b.remembers cs cs refl pairs_head t.remembers refl (h.stream is_one);
    place = t.place ∙ h.place;
    natural = rw (t.dictionaries, t.blocks) h.natural;
    reached = rw (t.dictionaries, t.blocks, t.place) h.reached;
    last = rw (t.dictionaries, t.blocks, t.place) h.last;
  }
  pairs_file is_stream Finished bytes cs e h = let other : Some faults.Finished ≡ None = e in absurd cc
  pairs_file is_stream Failed bytes cs e h = let other : Some faults.Failed ≡ None = e in absurd cc

  -- Other pairs change no chunk.
  pub pairs_remain : Remains d a b
  pairs_remain = record {
    kept = λ k is_stream base cs h. record {
      bytes = h.bytes;
      held = ap (λ (w : W). before (d.memory w)) t.device ∙ h.held;
      file = at_state is_stream a.state b.state b h.bytes cs (sym t.state) (pairs_file is_stream a.state h.bytes cs t.open_state h.file);
    };
  }

-- how far an ending reaches
ending-length : (zeros : ℕ) (behind : List ℕ) → length (prefix 0 ++ (replicate zeros 0 ++ behind)) ≡ 8 + (zeros + length behind)
ending-length zeros behind = let zero_byte : ℕ = 0 in omega (arith, length-append (replicate zeros zero_byte) behind, length-replicate zeros zero_byte)

pub ending-reaches : {W : Type 0} (w : FileSeen W) (bytes : List ℕ) → IsEnding w bytes → w.size ≤ w.place + length bytes
ending-reaches w bytes ends = omega (arith, ends.zeros_are, ap length ends.bytes_are, ending-length ends.zeros (ends.footer ++ tail_of ends.footer))

module _ {W : Type 0} (d : Device W) (a b : FileSeen W) where
  -- A device failed after a file that was started.
  pub finish_broken : (e : Fault) (bytes : List ℕ) → a.state ≡ Started → b.state ≡ Failed → SameBlocks a b
      → Delivers {X = Unit {0}} d bytes a.device (Err e) b.device → Remains d a b
  finish_broken e bytes was is same sent = record {
    kept = λ k is_stream base cs h.
        let open_file : IsOpenFile is_stream a h.bytes cs = at_state is_stream a.state Started a h.bytes cs was h.file in
        let part = sent.part k in
        let all : List ℕ = h.bytes ++ take part.count bytes in
        record {
          bytes = all;
          held = held_more (d.memory a.device) (d.memory b.device) base h.bytes (take part.count bytes) h.held part.over;
          file = at_state is_stream Failed b.state b all cs (sym is)
              (file_same a b all cs same (grow_law (head_of_file a).schema a.size h.bytes (take part.count bytes) a.dictionaries a.blocks a.remembers cs open_file.file));
        };
  }

  -- the last bytes were sent
  pub finished : (e : Ending) → MayFinish a e → b.state ≡ Finished → SameBlocks a b → b.place ≡ a.place
      → Delivers {X = Unit {0}} d (ending_bytes e) a.device (Ok tt) b.device → Remains d a b
  finished e may is same place sent = record {
    kept = λ k is_stream base cs h.
        let open_file : IsOpenFile is_stream a h.bytes cs = at_state is_stream a.state Started a h.bytes cs may.was h.file in
        let ends = may.ends in
        let footer = ends.footer in
        let gap : List ℕ = replicate ends.zeros 0 in
        let rest : List ℕ = prefix 0 ++ (gap ++ (footer ++ tail_of footer)) in
        let all : List ℕ = h.bytes ++ rest in
        let longer = length-append h.bytes rest in
        let front : List ℕ = (h.bytes ++ prefix 0) ++ gap in
        let begun : take 6 all ≡ magic = take-append-le 6 h.bytes rest (omega (arith, open_file.long)) ∙ open_file.begun in
        let parts : all ≡ front ++ (footer ++ tail_of footer) =
        sym (append_assoc h.bytes (prefix 0) (gap ++ (footer ++ tail_of footer))) ∙ sym (append_assoc (h.bytes ++ prefix 0) gap (footer ++ tail_of footer)) in
        let has : HasFooter all footer = record { head = begun; front = front; bytes_are = parts } in
        let long : a.size ≤ length all = omega (arith, longer, open_file.place, ap length ends.bytes_are, ending-reaches a (ending_bytes e) ends) in
        let whole = end_law a.order a.fields a.metadata a.ids a.pairs a.size h.bytes rest all footer a.dictionaries a.blocks a.remembers cs open_file.file refl long has ends.short ends.writes.means in
        record {
          bytes = all;
          held = held_more (d.memory a.device) (d.memory b.device) base h.bytes rest h.held (subst (λ (xs : List ℕ). WritesOver (d.memory a.device) (d.memory b.device) xs) ends.bytes_are (sent.memory k));
          file = at_state is_stream Finished b.state b all cs (sym is) (record {
            file = rw (same.order, same.fields, same.metadata, same.ids, same.pairs, same.dictionaries, same.blocks) whole;
            stream = λ is_one. subst (λ (h : Head). EndsStreamBehind all h cs) (head_same a b same) (stream_end_law h.bytes (gap ++ (footer ++ tail_of footer)) (head_of_file a) a.remembers cs (open_file.stream is_one));
            front = h.bytes;
            behind = rest;
            bytes_are = refl;
            open_front = open_same is_stream a b h.bytes cs same place open_file;
            long = omega (arith, same.size, long);
          });
        };
  }

  -- The file ends no earlier than the one that is appended to.
  pub reaches_end : (e : Ending) → MayFinish a e → Delivers {X = Unit {0}} d (ending_bytes e) a.device (Ok tt) b.device
      → ReachesEnd d a b
  reaches_end e may sent = record { reaches = λ k at. let moved = (sent.memory k).place in omega (arith, at, moved, ending-reaches a (ending_bytes e) may.ends) }

-- ---- a chunk

module _ {W : Type 0} (d : Device W) (a b : FileSeen W) where
  -- nothing was sent
  pub stays : a.state ≡ Started → b.state ≡ Started → SameBlocks a b → b.place ≡ a.place → b.device ≡ a.device → (is_stream : Bool) (base : List ℕ) (cs : List Chunk) → HoldsBytes is_stream (d.memory a.device) a base cs
      → HoldsBytes is_stream (d.memory b.device) b base cs
  stays was is same place device is_stream base cs h =
      let open_file : IsOpenFile is_stream a h.bytes cs = at_state is_stream a.state Started a h.bytes cs was h.file in
      record {
        bytes = h.bytes;
        held = ap (λ (w : W). before (d.memory w)) device ∙ h.held;
        file = at_state is_stream Started b.state b h.bytes cs (sym is) (open_same is_stream a b h.bytes cs same place open_file);
      }

  -- the messages of a chunk were sent
  pub written : (columns : List Layout) (ws : List Sent) (own : Sent) (given : List ℕ) → a.state ≡ Started → b.state ≡ Started → SendsChunk a.order a.fields a.ids a.remembers b.remembers columns ws own
      → b.order ≡ a.order → b.fields ≡ a.fields → b.metadata ≡ a.metadata → b.ids ≡ a.ids → b.pairs ≡ a.pairs → b.size ≡ a.size
      → b.dictionaries ≡ a.dictionaries ++ blocks_at a.place ws → b.blocks ≡ a.blocks ++ block_at (a.place + length (all_bytes ws)) own ∷ [] → b.place ≡ a.place + length (chunk_bytes ws own)
      → given ≡ chunk_bytes ws own → Delivers {X = Unit {0}} d given a.device (Ok tt) b.device
      → IsTrue d.is_memory → (is_stream : Bool) (base : List ℕ) (cs : List Chunk) → HoldsBytes is_stream (d.memory a.device) a base cs → HoldsBytes is_stream (d.memory b.device) b base (cs ++ chunk_written columns ∷ [])
  written columns ws own given was is sends order fields metadata ids pairs size dictionaries blocks place bytes_are sent k is_stream base cs h =
      let open_file : IsOpenFile is_stream a h.bytes cs = at_state is_stream a.state Started a h.bytes cs was h.file in
      let added = chunk_bytes ws own in
      let all : List ℕ = h.bytes ++ added in
      let then : List Chunk = cs ++ chunk_written columns ∷ [] in
      let head : head_of_file a ≡ head_of_file b = rw (order, fields, metadata, ids) refl in
      let over = subst (λ (xs : List ℕ). WritesOver (d.memory a.device) (d.memory b.device) xs) bytes_are (sent.memory k) in
      let at = open_file.place in
      let longer = length-append h.bytes added in
      let file = write_law a.order a.fields a.metadata a.ids a.size h.bytes a.dictionaries a.blocks a.remembers b.remembers cs columns ws own open_file.writable open_file.file sends in
      let ds : b.dictionaries ≡ a.dictionaries ++ blocks_at (length h.bytes) ws = dictionaries ∙ ap (λ (n : ℕ). a.dictionaries ++ blocks_at n ws) at in
      let bs : b.blocks ≡ a.blocks ++ block_at (length h.bytes + length (all_bytes ws)) own ∷ [] = blocks ∙ ap (λ (n : ℕ). a.blocks ++ block_at (n + length (all_bytes ws)) own ∷ []) at in
      record {
        bytes = all;
        held = held_more (d.memory a.device) (d.memory b.device) base h.bytes added h.held over;
        file = at_state is_stream Started b.state b all then (sym is) (record {
          writable = rw (fields, metadata, ids) open_file.writable;
          light = rw (fields, metadata, pairs) open_file.light;
          begun = take-append-le 6 h.bytes added (omega (arith, open_file.long)) ∙ open_file.begun;
          long = omega (arith, longer, open_file.long);
          file = rw (ds, bs, size) (subst (λ (x : Head). HoldsFile x.schema a.size all (a.dictionaries ++ blocks_at (length h.bytes) ws) (a.blocks ++ block_at (length h.bytes + length (all_bytes ws)) own ∷ []) b.remembers then) head file);
          stream = λ is_one. subst (λ (x : Head). HasStreamBehind all x b.remembers then) head
              (stream_write_law a.order a.fields a.metadata a.ids h.bytes a.remembers b.remembers cs columns ws own open_file.writable (open_file.stream is_one) sends);
          place = omega (arith, place, at, longer);
          natural = rw (dictionaries, blocks) (chunk_natural a.dictionaries a.blocks a.place ws own open_file.natural);
          reached = λ some. let far = chunk_reaches a.dictionaries a.blocks a.place ws own in rw (dictionaries, blocks, place) (omega (arith, far));
          last = λ is_one. rw (dictionaries, blocks, place) (chunk_ends a.dictionaries a.blocks a.place ws own (open_file.last is_one));
        });
      }
