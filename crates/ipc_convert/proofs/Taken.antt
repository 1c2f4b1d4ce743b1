-- What a writer writes has types in the normal form.
use Rattle.std.proofs.Common.{◌≡◌, ℕ, List, [], ◌∷◌, ◌++◌, length, None, Option, Result, Ok, Err, IfErr, OnOk, OnErr, Bool, true, false, not, IsTrue, if◌then◌else◌, refl, sym, ap, subst, ◌∙◌, append-nil}
use Rattle.lower.specs.TypeTrees.{FieldTrees, Pairs}
use Rattle.lower_types.specs.declared.Endianness.{Endianness}
use Rattle.lower_types.specs.declared.Endianness.TheVariants.{Big, Little}
use Rattle.lower_arrays.specs.AnyLayouts.{layout_of}
use Rattle.lower_arrays.specs.declared.array.AnyArray.{AnyArray}
use Rattle.ipc_devices.proofs.Claims.{claimed}
use Rattle.ipc_base.specs.IdTrees.{IdTrees}
use Rattle.ipc_devices.specs.Device.{Device, before}
use Rattle.ipc_devices.specs.Faults.{OnRefused, OwnFault}
use Rattle.ipc_devices.specs.declared.fault.Fault.{Fault}
use Rattle.ipc_stream_lemmas.specs.Messages.{column_written}
use Rattle.ipc_model.specs.Batches.{Chunk, Schema}
use Rattle.ipc_model.specs.Files.{FileMetadata}
use Rattle.ipc_model.specs.Streams.{End, Head, faulty, marked, waits}
use Rattle.ipc_read.specs.Chunks.{chunk_seen}
use Rattle.ipc_schema_write.specs.WriterAnswers.{byte_order, written_head_as}
use Rattle.ipc_write.specs.Agreement as streams
use Rattle.ipc_write.specs.Agreement.{Agrees, BeginsStream, HasEnded, IsFresh, IsOpen, StreamIs}
use Rattle.ipc_write.specs.Meaning.{chunk_written}
use Rattle.ipc_write.specs.Writers.{RefusesWrite, SendsStep, TakesChunk, WriterSeen, WritesExactly}
use Rattle.ipc_write.specs.declared.stream.WriterState.{WriterState}
use Rattle.ipc_write.specs.declared.stream.WriterState.TheVariants.{Started, Finished}
use Rattle.ipc_footer_write.specs.Footers.{file_written}
use Rattle.ipc_file_lemmas.specs.Appending.{normal_chunk}
use Rattle.ipc_file_lemmas.specs.FileBytes.{EndsStreamBehind, IsFile}
use Rattle.ipc_file_write.specs.Calls.{IsWrittenFile}
use Rattle.ipc_file_write.specs.FileWriters as files
use Rattle.ipc_file_write.specs.FileWriters.{FileIs, FileSeen, HoldsBytes, IsWholeFile}
use Rattle.ipc_file_write.specs.Writes as writes
use Rattle.ipc_round_trip.specs.Reading.{EndsAs}
use Rattle.ipc_sessions.specs.Steps.{TakesChunks, WritesNext}
use Rattle.ipc_convert.specs.Copies.{EndsSo, WritesFile, WritesStream, normal_chunks, normal_head}
use Rattle.ipc_convert.specs.Sources.{is_end}
use Rattle.ipc_convert.specs.Steps.{BeginsFile, EndsAsSource, EndsCopy}
use Rattle.ipc_convert.specs.Sinks.{TookBlocks, TookChunks}
use Rattle.ipc_convert.specs.declared.chunks.Ending.{Ending}
use Rattle.ipc_convert.specs.declared.chunks.Ending.TheVariants.{Over, Waits}
use Rattle.ipc_convert.proofs.Handing.{refused_then}

-- ---- one chunk

-- Columns are written as they are, with their types in the normal form.
written_seen : (xs : List AnyArray) → chunk_written xs ≡ normal_chunk (chunk_seen xs)
written_seen [] = refl
written_seen (x ∷ xs) = ap (λ (cs : Chunk). column_written (layout_of x) ∷ cs) (written_seen xs)

one_took : {W : Type 0} (d : Device W) (v w : WriterSeen W) (columns : List AnyArray) (ids : Option IdTrees) (x : Unit {0})
    → streams.Appends d v (Ok x) w (chunk_written columns) → TakesChunk v w columns ids → d.names w.device ≡ d.names v.device → TookChunks d v (chunk_seen columns ∷ []) w
one_took d v w columns ids x appends takes named = record {
  state = takes.is ∙ sym takes.was;
  types = takes.types;
  ids = takes.ids_stay;
  stream = λ k base head so_far agrees.
      subst (λ (c : Chunk). Agrees d w base head (so_far ++ c ∷ [])) (written_seen columns) (appends.appended k base head so_far agrees);
  names = named;
}

pub stream_took : {W : Type 0} (d : Device W) (v w : WriterSeen W) (columns : List AnyArray) (ids : Option IdTrees) (r : Result (Unit {0}) Fault)
    → streams.Appends d v r w (chunk_written columns) → OnOk r (TakesChunk v w columns ids) → d.names w.device ≡ d.names v.device → OnOk r (TookChunks d v (chunk_seen columns ∷ []) w)
stream_took d v w columns ids (Ok x) appends takes named = one_took d v w columns ids x appends takes named
stream_took d v w columns ids (Err e) appends takes named = tt

pub file_took : {W : Type 0} (d : Device W) (v w : FileSeen W) (columns : List AnyArray) (r : Result (Unit {0}) Fault)
    → WritesNext d v columns r w → writes.SendsColumns d v r w columns → OnOk r (TookBlocks d v (chunk_seen columns ∷ []) w)
file_took d v w columns (Ok x) wrote sends = record {
  state = sends.takes.is ∙ sym sends.takes.was;
  takes = subst (λ (c : Chunk). TakesChunks d v w (c ∷ [])) (written_seen columns) wrote.takes;
}
file_took d v w columns (Err e) wrote sends = tt

-- ---- a refused one

if_refused : {P Q : Type 0} (r : Result (Unit {0}) Fault) → ((e : Fault) → r ≡ Err e → P → Q) → OnRefused r P → OnRefused r Q
if_refused (Ok x) f p = tt
if_refused (Err e) f p = refused_then (Unit {0}) (Unit {0}) e (f e refl) p

-- Nothing was written if all that the writer had stays.
none_took : {W : Type 0} (d : Device W) (v w : WriterSeen W) → w.state ≡ v.state → w.types ≡ v.types → w.ids ≡ v.ids
    → (IsTrue d.is_memory → (base : List ℕ) (head : Head) (so_far : List Chunk) → Agrees d v base head so_far → Agrees d w base head so_far) → d.names w.device ≡ d.names v.device → TookChunks d v [] w
none_took d v w state types ids stays named = record {
  state = state;
  types = types;
  ids = ids;
  stream = λ k base head so_far agrees. subst (λ (cs : List Chunk). Agrees d w base head cs) (sym (append-nil so_far)) (stays k base head so_far agrees);
  names = named;
}

pub stream_kept : {W : Type 0} (d : Device W) (v w : WriterSeen W) (columns : List AnyArray) (r : Result (Unit {0}) Fault)
    → streams.Appends d v r w (chunk_written columns) → SendsStep d v r w columns → OnRefused r (TookChunks d v [] w)
stream_kept d v w columns r appends sends =
    if_refused r (λ e is kept.
    none_took d v w kept.state kept.types kept.ids
    (λ k base head so_far agrees. subst (λ (x : Result (Unit {0}) Fault). OnErr x (Agrees d w base head so_far)) is (appends.kept k base head so_far agrees))
    sends.step.names)
    sends.step.refused

took_none : {W : Type 0} (d : Device W) (v w : FileSeen W) (columns : List AnyArray) (e : Fault) → WritesNext d v columns (Err e) w → TakesChunks d v w []
took_none d v w columns e wrote = wrote.takes

pub file_kept : {W : Type 0} (d : Device W) (v w : FileSeen W) (columns : List AnyArray) (r : Result (Unit {0}) Fault)
    → WritesNext d v columns r w → writes.SendsColumns d v r w columns → OnRefused r (TookBlocks d v [] w)
file_kept d v w columns r wrote sends =
    if_refused r (λ e is kept. record {
      state = kept.state;
      takes = took_none d v w columns e (subst (λ (x : Result (Unit {0}) Fault). WritesNext d v columns x w) is wrote);
    }) sends.step.refused

-- Why a chunk is refused, by the call's contract.
pub stream_refuses : {W : Type 0} (v : WriterSeen W) (columns : List AnyArray) (r : Result (Unit {0}) Fault) → WritesExactly v columns None r → IfErr r (RefusesWrite v columns None)
    → IfErr r (λ e. OwnFault e (WritesExactly v columns None (Err e) × RefusesWrite v columns None e))
stream_refuses v columns (Ok x) exact only = tt
stream_refuses v columns (Err e) exact only = claimed e (WritesExactly v columns None (Err e) × RefusesWrite v columns None e) (exact, only)

pub file_refuses : {W : Type 0} (v : FileSeen W) (columns : List AnyArray) (r : Result (Unit {0}) Fault) → writes.WritesExactly v columns None r → IfErr r (writes.NamesOne v columns)
    → IfErr r (λ e. OwnFault e (writes.WritesExactly v columns None (Err e) × writes.NamesOne v columns e))
file_refuses v columns (Ok x) exact named = tt
file_refuses v columns (Err e) exact named = claimed e (writes.WritesExactly v columns None (Err e) × writes.NamesOne v columns e) (exact, named)

-- ---- a stream

-- What was written of a stream that was begun and to which these chunks were written.
abbrev pub Holds : {W : Type 0} → Device W → Endianness → W → Schema → List Chunk → WriterSeen W → Type 0
Holds d order out schema cs w = Agrees d w (before (d.memory out)) (normal_head order schema) (normal_chunks cs)

pub begun_stream : {W : Type 0} (d : Device W) (order : Endianness) (out : W) (schema : Schema) (ids : IdTrees) (u v w : WriterSeen W) (cs : List Chunk) (x : Unit {0})
    → IsTrue d.is_memory → ids ≡ schema.ids → u.device ≡ out → IsFresh d u → BeginsStream d u (Ok x) v (written_head_as order schema.fields schema.metadata ids)
    → TookChunks d v cs w → Holds d order out schema cs w
begun_stream {W = W} d order out schema ids u v w cs x k same at fresh begun took =
    let head_with : IdTrees → Head = λ is. written_head_as order schema.fields schema.metadata is in
    let new : Agrees d u (before (d.memory out)) (head_with ids) [] =
    subst (λ (y : W). Agrees d u (before (d.memory y)) (head_with ids) []) at (fresh.agrees (head_with ids)) in
    let started : Agrees d v (before (d.memory out)) (head_with ids) [] = begun.begun k (before (d.memory out)) [] new in
    took.stream k (before (d.memory out)) (normal_head order schema) [] (subst (λ (is : IdTrees). Agrees d v (before (d.memory out)) (head_with is) []) same started)

-- How a started writer is left if its source ends so.
abbrev pub LeftAt : Bool → WriterState → Type 0
LeftAt true s = s ≡ Finished
LeftAt false s = s ≡ Started

ends_so : {W : Type 0} (over : Bool) (e : End) (w : WriterSeen W) (bytes : List ℕ) (head : Head) (cs : List Chunk) → EndsAs over e → LeftAt over w.state → StreamIs w.state w bytes head cs → EndsSo e bytes head cs
ends_so true marked w bytes head cs is left h = let closed : HasEnded bytes head cs = subst (λ (s : WriterState). StreamIs s w bytes head cs) left h in closed.stream
ends_so true (waits known begun) w bytes head cs is left h = (let no : waits known begun ≡ marked = is in absurd cc)
ends_so true faulty w bytes head cs is left h = (let no : faulty ≡ marked = is in absurd cc)
ends_so false (waits known begun) w bytes head cs is left h =
    let open_ : IsOpen w bytes head cs = subst (λ (s : WriterState). StreamIs s w bytes head cs) left h in
    record { known = open_.stream.known; stream = open_.stream.stream }
ends_so false marked w bytes head cs is left h = absurd is
ends_so false faulty w bytes head cs is left h = absurd is

-- A stream to which its chunks were written and that was ended like its source.
pub ended_stream : {W : Type 0} (d : Device W) (order : Endianness) (out : W) (schema : Schema) (cs : List Chunk) (ending : Ending) (v w x : WriterSeen W) → IsTrue d.is_memory → v.state ≡ Started
    → w.state ≡ v.state → EndsAsSource d ending w x → Holds d order out schema cs w → LeftAt (is_end ending) x.state × Holds d order out schema cs x
ended_stream {W = W} d order out schema cs Waits v w x k started same is holds =
    (ap (λ (y : WriterSeen W). y.state) is ∙ same ∙ started, subst (λ (y : WriterSeen W). Holds d order out schema cs y) (sym is) holds)
ended_stream d order out schema cs Over v w x k started same ends holds =
    (ends.0, ends.1.kept k (before (d.memory out)) (normal_head order schema) (normal_chunks cs) holds)

-- A call of `finish` ends a stream, if it is Ok.
pub ended_over : {W : Type 0} (d : Device W) (a b : WriterSeen W) (r : Result (Unit {0}) Fault) → OnOk r ((a.state ≡ Started) × (b.state ≡ Finished)) → streams.Remains d a b
    → d.names b.device ≡ d.names a.device → OnOk r (IsTrue (d.is_flushed b.device)) → OnOk r (EndsAsSource d Over a b)
ended_over d a b (Ok x) closed remains named done = (closed.1, remains, named, done)
ended_over d a b (Err e) closed remains named done = tt

pub stream_written : {W : Type 0} (d : Device W) (order : Endianness) (out last : W) (schema : Schema) (cs : List Chunk) (w : WriterSeen W) (over : Bool) (e : End) → last ≡ w.device
    → LeftAt over w.state → Holds d order out schema cs w → EndsAs over e → WritesStream order (d.memory out) (d.memory last) schema cs e
stream_written {W = W} d order out last schema cs w over e at left holds is = record {
  bytes = holds.bytes;
  written = subst (λ (y : W). before (d.memory y) ≡ before (d.memory out) ++ holds.bytes) (sym at) holds.held;
  same = ends_so over e w holds.bytes (normal_head order schema) (normal_chunks cs) is left holds.stream;
}

-- ---- a file

-- The byte order that is chosen is that of a file.
pub same_order : (big : Bool) → byte_order (not big) ≡ (if big then Big else Little)
same_order true = refl
same_order false = refl

-- a whole file of a writer is one of what the writer has
whole_file : {W : Type 0} (w : FileSeen W) (order : Endianness) (fields : FieldTrees) (metadata : Pairs) (ids : IdTrees) (pairs : Pairs) (bytes : List ℕ) (cs : List Chunk)
    → w.order ≡ order → w.fields ≡ fields → w.metadata ≡ metadata → w.ids ≡ ids → w.pairs ≡ pairs → IsWholeFile true w bytes cs → IsWrittenFile bytes order fields metadata ids pairs cs
whole_file w order fs es ids pairs bytes cs o f m i p whole =
    let said : file_written w.order w.fields w.metadata w.ids w.pairs w.dictionaries w.blocks (length bytes) ≡ file_written order fs es ids pairs w.dictionaries w.blocks (length bytes) =
    λ j. file_written (o j) (f j) (m j) (i j) (p j) w.dictionaries w.blocks (length bytes) in
    let begun : written_head_as w.order w.fields w.metadata w.ids ≡ written_head_as order fs es ids = λ j. written_head_as (o j) (f j) (m j) (i j) in
    record {
      dictionaries = w.dictionaries;
      blocks = w.blocks;
      file = subst (λ (x : FileMetadata). IsFile bytes x cs) said whole.file;
      stream = subst (λ (x : Head). EndsStreamBehind bytes x cs) begun (whole.stream refl);
    }

-- A writer that was made, whose pairs were set, and that was started.
pub file_begun : {W : Type 0} (d : Device W) (out : W) (big : Bool) (fields : FieldTrees) (metadata : Pairs) (ids : IdTrees) (pairs : Pairs) (u t v : FileSeen W) (x : Unit {0})
    → u.device ≡ out → files.HasNothing d u → files.IsFileOf u fields metadata ids (byte_order (not big)) [] → files.TakesPairs u t pairs → files.Remains d u t
    → files.SendsBeginning d t (Ok x) v → files.StartsWith t v → files.Remains d t v
    → BeginsFile d out (if big then Big else Little) fields metadata ids pairs v
file_begun {W = W} d out big fs es ids pairs u t v x at nothing is takes kept sends starts remains =
    let same = sends.step.same in
    record {
      state = starts.is;
      order_is = same.order ∙ takes.order ∙ is.order_is ∙ same_order big;
      fields_are = same.fields ∙ takes.fields ∙ is.fields_are;
      metadata_are = same.metadata ∙ takes.metadata ∙ is.metadata_are;
      ids_are = starts.ids ∙ takes.chosen ∙ is.chosen_are;
      pairs_are = same.pairs ∙ takes.are;
      agrees = λ k.
          let base = before (d.memory out) in
          let first : HoldsBytes true (d.memory u.device) u base [] = subst (λ (y : W). HoldsBytes true (d.memory u.device) u (before (d.memory y)) []) at nothing.agrees in
          remains.kept k true base [] (kept.kept k true base [] first);
      names = sends.step.names ∙ ap d.names (takes.device ∙ at);
    }

pub file_written_so : {W : Type 0} (d : Device W) (order : Endianness) (out last : W) (schema : Schema) (pairs given : Pairs) (fields : FieldTrees) (metadata : Pairs) (ids : IdTrees)
    (cs : List Chunk) (copied : Result Ending Fault) (ending : Ending) (v w x : FileSeen W)
    → IsTrue d.is_memory → fields ≡ schema.fields → metadata ≡ schema.metadata → ids ≡ schema.ids → given ≡ pairs → last ≡ x.device
    → BeginsFile d out order fields metadata ids given v → TakesChunks d v w (normal_chunks cs) → EndsCopy d copied ending w x
    → WritesFile order (d.memory out) (d.memory last) schema pairs cs
file_written_so {W = W} d order out last schema pairs given fs es ids cs copied ending v w x k f m i p at begins took ends =
    let holds : HoldsBytes true (d.memory x.device) x (before (d.memory out)) (normal_chunks cs) =
    ends.remains.kept k true (before (d.memory out)) (normal_chunks cs) (took.holds k true (before (d.memory out)) [] (begins.agrees k)) in
    let whole : IsWholeFile true x holds.bytes (normal_chunks cs) = subst (λ (s : WriterState). FileIs true s x holds.bytes (normal_chunks cs)) ends.ends.is holds.file in
    record {
      bytes = holds.bytes;
      written = subst (λ (y : W). before (d.memory y) ≡ before (d.memory out) ++ holds.bytes) (sym at) holds.held;
      same = whole_file x order schema.fields schema.metadata schema.ids pairs holds.bytes (normal_chunks cs)
          (ends.sends.step.same.order ∙ took.same.order ∙ begins.order_is)
          (ends.sends.step.same.fields ∙ took.same.fields ∙ begins.fields_are ∙ f)
          (ends.sends.step.same.metadata ∙ took.same.metadata ∙ begins.metadata_are ∙ m)
          (ends.ends.ids ∙ took.ids ends.ends.was ∙ begins.ids_are ∙ i)
          (ends.sends.step.same.pairs ∙ took.same.pairs ∙ begins.pairs_are ∙ p)
          whole;
    }
