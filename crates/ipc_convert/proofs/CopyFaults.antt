-- Why the copies are refused, call by call.
use Rattle.std.proofs.Common.{◌≡◌, ◌⊎◌, ℕ, ◌≤◌, List, map, None, Some, Result, Ok, Err, IfErr, IfOk, IsTrue, inl, inr, refl, sym, ap, subst, ◌∙◌}
use Rattle.lower.specs.TypeTrees.{FieldTrees, Pairs}
use Rattle.lower.specs.TypeViews.{fields_view, pairs_of}
use Rattle.lower_types.specs.declared.Endianness.{Endianness}
use Rattle.lower_arrays.specs.AnyLayouts.{layout_of}
use Rattle.lower_arrays.specs.declared.array.AnyArray.{AnyArray}
use Rattle.ipc_devices.proofs.Claims.{claims_through}
use Rattle.ipc_base.specs.IdTrees.{IdTrees, all_ids_view}
use Rattle.ipc_devices.specs.Device.{Device, Memory}
use Rattle.ipc_devices.specs.Faults.{OwnFault}
use Rattle.ipc_devices.specs.Gives.{Gives, GivesAhead, GivesInOrder}
use Rattle.ipc_devices.specs.declared.fault.ArgFault.TheVariants.{TooLarge}
use Rattle.ipc_devices.specs.declared.fault.Fault.{Fault}
use Rattle.ipc_devices.specs.declared.fault.Fault.TheVariants as faults
use Rattle.ipc_model.specs.Batches.{Chunk, Schema}
use Rattle.ipc_model.specs.Files as model
use Rattle.ipc_model.specs.Writable.{file_weight}
use Rattle.ipc_schema_write.specs.WriterAnswers.{RefusesSchema, max_weight}
use Rattle.ipc_readers.specs.Metadata.{MetadataGave}
use Rattle.ipc_readers.specs.Streams.{IsUnread, head_of, projection_of}
use Rattle.ipc_readers.specs.declared.read.stream.metadata.StreamMetadata.{StreamMetadata}
use Rattle.ipc_readers.specs.declared.read.stream.reader.StreamReader.{StreamReader}
use Rattle.ipc_files.specs.Files.{FileReason}
use Rattle.ipc_files.specs.Footers.{file_seen}
use Rattle.ipc_files.specs.declared.read.file.metadata.FileMetadata.{FileMetadata}
use Rattle.ipc_file_readers.specs.Readers as blocks
use Rattle.ipc_file_readers.specs.declared.read.reader.state.FileReader.{FileReader}
use Rattle.ipc_write.specs.Writers.{RefusesStart, StartsWith, fault_unless_new, seen}
use Rattle.ipc_write.specs.declared.stream.WriterState.{WriterState}
use Rattle.ipc_write.specs.declared.stream.WriterState.TheVariants.{New}
use Rattle.ipc_write.specs.declared.stream.writer.StreamWriter.{StreamWriter}
use Rattle.ipc_file_write.specs.FileWriters as files
use Rattle.ipc_file_write.specs.FileWriters.{AnswersFinish, FileSeen}
use Rattle.ipc_file_write.specs.declared.file.FileWriter.{FileWriter}
use Rattle.ipc_convert.proofs.Own.{own}
use Rattle.ipc_convert.proofs.Refused.{file_schema_refused, file_stopped, first_refused, blocks_refused, schema_refused, start_refused, stream_misses, stream_stopped}
use Rattle.ipc_convert.specs.Chunks.{Copied, StopsCopy}
use Rattle.ipc_convert.specs.Refusals.{FileTakeCause, CopyFileCause, CopyStreamCause, HoldsOfGiven, TakenChunkCause, AsStreamCause, InBlocksCause}
use Rattle.ipc_convert.specs.Sinks.{FileWriterCause, FileTook, StreamTakeCause, StreamTook}
use Rattle.ipc_convert.specs.Sources.{NextOfFileCause, FileCame, FileStopped, NextOfStreamCause, StreamCame, StreamStopped}
use Rattle.ipc_convert.specs.Steps.{BeginsFile, EndsAnyway, WithPairsCause, both}
use Rattle.ipc_convert.specs.declared.chunks.Ending.{Ending}

-- An error of allocation claims nothing.
pub memory_alone : (e : Fault) (Q : Type 0) → e ≡ faults.Memory → OwnFault e Q
memory_alone e Q is = subst (λ (x : Fault). OwnFault x Q) (sym is) tt

-- Metadata of a file that are refused.
pub file_front_refused : (bytes : List ℕ) (e : Fault) (refuses : (List Chunk → Type 0) → Schema → Pairs → Fault → Type 0) → OwnFault e (model.metadata_of bytes ≡ None) → OwnFault e (FileReason 0 bytes e)
    → OwnFault e (CopyFileCause refuses bytes e)
file_front_refused bytes e refuses none reason = own e (CopyFileCause refuses bytes e) (λ it. inl (it (model.metadata_of bytes ≡ None) none, it (FileReason 0 bytes e) reason))

-- ---- as a stream

module _ {W : Type 0} (to : Device W) where
  -- What is left after a schema that the writer refuses.
  started_not : (s : WriterState) (fs given : FieldTrees) (es held : Pairs) (ids are : IdTrees) (e : Fault) → s ≡ New → fs ≡ given → es ≡ held → ids ≡ are → RefusesStart s fs es ids e
      → RefusesStart s given held are e
  started_not s fs given es held ids are e new f m i h =
      subst (λ (js : IdTrees). RefusesStart s given held js e) i (subst (λ (ps : Pairs). RefusesStart s given ps ids e) m (subst (λ (fs : FieldTrees). RefusesStart s fs es ids e) f h))

  -- Columns that the writer refuses.
  columns_missed : (v w : StreamWriter W) (u : StreamWriter W) (fs given : FieldTrees) (es held : Pairs) (ids are : IdTrees) (cs : List Chunk) (columns : List AnyArray) (e : Fault) → ((P : Type 0) → OwnFault e P → P)
      → fs ≡ given → es ≡ held → ids ≡ are → StartsWith (seen u) (seen v) fs es ids → StreamTook to v cs w → StreamTakeCause w columns e → TakenChunkCause given are (map layout_of columns) e
  columns_missed v w u fs given es held ids are cs columns e it f m i starts took refused =
      subst (λ (js : IdTrees). TakenChunkCause given js (map layout_of columns) e) i (subst (λ (fs : FieldTrees). TakenChunkCause fs ids (map layout_of columns) e) f
      (stream_misses to (seen v) (seen w) fs es ids cs columns e it starts.is starts.types starts.ids_are starts.writable took refused))

  module _ {R : Type 0} (gives : Gives R) (d : Device R) (law : GivesInOrder gives) (ahead : GivesAhead d gives)
      (input device : R) (m : StreamMetadata) (r : StreamReader R) (e : Fault) (front : MetadataGave gives input (Ok m) device) (begins : IsUnread device m r) (whole : projection_of r ≡ None)
      (shown : StreamMetadata) (ids : IdTrees) (is : shown ≡ m) (same : ids ≡ all_ids_view m.ipc_schema.fields.items) where
    abbrev WhyStream : Type 0
    WhyStream = HoldsOfGiven gives d input (λ bytes. CopyStreamCause AsStreamCause bytes e)

    pub stream_start_stops : (s : WriterState) → s ≡ New → RefusesStart s (fields_view shown.schema.fields.items) (pairs_of shown.schema.metadata.entries) ids e → OwnFault e WhyStream
    stream_start_stops s new h =
        let schema = (head_of m).schema in
        let refused = started_not s (fields_view shown.schema.fields.items) schema.fields (pairs_of shown.schema.metadata.entries) schema.metadata ids schema.ids e new
        (ap (λ (x : StreamMetadata). fields_view x.schema.fields.items) is) (ap (λ (x : StreamMetadata). pairs_of x.schema.metadata.entries) is) same h in
        claims_through e _ _ (λ no. schema_refused gives d ahead input device m e AsStreamCause front (λ first. inl no))
        (start_refused s schema.fields schema.metadata schema.ids e new refused)

    pub stream_copy_stops : (u v : StreamWriter W) → StartsWith (seen u) (seen v) (fields_view shown.schema.fields.items) (pairs_of shown.schema.metadata.entries) ids
        → OwnFault e (StopsCopy (StreamCame gives) (NextOfStreamCause gives) (StreamTook to) StreamTakeCause r v e) → OwnFault e WhyStream
    stream_copy_stops u v starts stops = own e WhyStream (λ it.
        let schema = (head_of m).schema in
        stream_stopped gives d law ahead input device m r e front begins whole AsStreamCause (StreamTook to) StreamTakeCause v
        (λ before columns. TakenChunkCause schema.fields schema.ids (map layout_of columns) e)
        (λ cs w columns took refused. columns_missed v w u (fields_view shown.schema.fields.items) schema.fields (pairs_of shown.schema.metadata.entries) schema.metadata ids schema.ids cs columns e it
        (ap (λ (x : StreamMetadata). fields_view x.schema.fields.items) is) (ap (λ (x : StreamMetadata). pairs_of x.schema.metadata.entries) is) same starts took refused)
        (λ first no. inr no) (it _ stops))

  module _ {F : Type 0} (d : Device F) (k : IsTrue d.is_memory) (file device : F) (m : FileMetadata) (r : FileReader F) (e : Fault)
      (read : model.metadata_of (d.memory file).whole ≡ Some (file_seen m)) (unchanged : (d.memory device).whole ≡ (d.memory file).whole) (begins : blocks.IsUnread device m None None r)
      (shown : FileMetadata) (ids : IdTrees) (is : shown ≡ m) (same : ids ≡ all_ids_view m.ipc_schema.fields.items) where
    abbrev StreamHeld : (List Chunk → Type 0) → Schema → Pairs → Fault → Type 0
    StreamHeld first schema pairs fault = AsStreamCause first schema fault

    pub file_start_stops : (s : WriterState) → s ≡ New → RefusesStart s (fields_view shown.schema.fields.items) (pairs_of shown.schema.metadata.entries) ids e
        → OwnFault e (CopyFileCause StreamHeld (d.memory file).whole e)
    file_start_stops s new h =
        let schema = (file_seen m).schema in
        let refused = started_not s (fields_view shown.schema.fields.items) schema.fields (pairs_of shown.schema.metadata.entries) schema.metadata ids schema.ids e new
        (ap (λ (x : FileMetadata). fields_view x.schema.fields.items) is) (ap (λ (x : FileMetadata). pairs_of x.schema.metadata.entries) is) same h in
        claims_through e _ _ (λ no. file_schema_refused d k file device m r e read unchanged begins StreamHeld (λ first. inl no)) (start_refused s schema.fields schema.metadata schema.ids e new refused)

    pub file_copy_stops : (u v : StreamWriter W) → StartsWith (seen u) (seen v) (fields_view shown.schema.fields.items) (pairs_of shown.schema.metadata.entries) ids
        → OwnFault e (StopsCopy (FileCame d) (NextOfFileCause d) (StreamTook to) StreamTakeCause r v e) → OwnFault e (CopyFileCause StreamHeld (d.memory file).whole e)
    file_copy_stops u v starts stops = own e (CopyFileCause StreamHeld (d.memory file).whole e) (λ it.
        let schema = (file_seen m).schema in
        file_stopped d k file device m r e read unchanged begins StreamHeld (StreamTook to) StreamTakeCause v
        (λ before columns. TakenChunkCause schema.fields schema.ids (map layout_of columns) e)
        (λ cs w columns took refused. columns_missed v w u (fields_view shown.schema.fields.items) schema.fields (pairs_of shown.schema.metadata.entries) schema.metadata ids schema.ids cs columns e it
        (ap (λ (x : FileMetadata). fields_view x.schema.fields.items) is) (ap (λ (x : FileMetadata). pairs_of x.schema.metadata.entries) is) same starts took refused)
        (λ first no. inr no) (it _ stops))

-- ---- as a file

-- A schema that is refused with its pairs, and the same by other definitions.
pub same_refused : (fs given : FieldTrees) (es held : Pairs) (ids are : IdTrees) (pairs those : Pairs) (e : Fault) → fs ≡ given → es ≡ held → ids ≡ are → pairs ≡ those
    → WithPairsCause fs es ids pairs e → WithPairsCause given held are those e
same_refused fs given es held ids are pairs those e f m i p h =
    subst (λ (ps : Pairs). WithPairsCause given held are ps e) p (subst (λ (js : IdTrees). WithPairsCause given held js pairs e) i
    (subst (λ (ms : Pairs). WithPairsCause given ms ids pairs e) m (subst (λ (fs : FieldTrees). WithPairsCause fs es ids pairs e) f h)))

-- A file that is begun, and the same by other definitions.
pub same_begun : {W : Type 0} (d : Device W) (out : W) (order : Endianness) (fs given : FieldTrees) (es held : Pairs) (ids are : IdTrees) (pairs those : Pairs) (w : FileSeen W)
    → fs ≡ given → es ≡ held → ids ≡ are → pairs ≡ those → BeginsFile d out order fs es ids pairs w → BeginsFile d out order given held are those w
same_begun d out order fs given es held ids are pairs those w f m i p b = record {
  state = b.state;
  order_is = b.order_is;
  fields_are = b.fields_are ∙ f;
  metadata_are = b.metadata_are ∙ m;
  ids_are = b.ids_are ∙ i;
  pairs_are = b.pairs_are ∙ p;
  agrees = b.agrees;
  names = b.names;
}

-- pairs that a new writer refuses
pub pairs_refused : {W : Type 0} (w : FileSeen W) (fs : FieldTrees) (es : Pairs) (ids : IdTrees) (pairs : Pairs) (e : Fault) → w.state ≡ New → w.fields ≡ fs → w.metadata ≡ es → files.TakesNoPairs w pairs e
    → OwnFault e (WithPairsCause fs es ids pairs e)
pairs_refused w fs es ids pairs (faults.State x) new f m h = (let none : None ≡ Some x = subst (λ (s : WriterState). files.fault_if_over s ≡ Some x) new h in absurd cc)
pairs_refused w fs es ids pairs (faults.Argument TooLarge) new f m h =
    inr (refl, subst (λ (ms : Pairs). ¬ (file_weight fs ms pairs ≤ max_weight)) m (subst (λ (fs : FieldTrees). ¬ (file_weight fs w.metadata pairs ≤ max_weight)) f h))
pairs_refused w fs es ids pairs _ new f m h = absurd h

-- a schema that it refuses
pub begin_refused : {W : Type 0} (w : FileSeen W) (fs : FieldTrees) (es : Pairs) (ids : IdTrees) (pairs : Pairs) (e : Fault) → w.state ≡ New → w.fields ≡ fs → w.metadata ≡ es → w.chosen ≡ ids
    → files.OrFails (files.RefusesStart w) e → OwnFault e (WithPairsCause fs es ids pairs e)
begin_refused w fs es ids pairs (faults.State x) new f m i h = (let none : None ≡ Some x = subst (λ (s : WriterState). fault_unless_new s ≡ Some x) new h in absurd cc)
begin_refused w fs es ids pairs (faults.Argument a) new f m i h =
    inl (subst (λ (js : IdTrees). RefusesSchema (faults.Argument a) fs es js) i (subst (λ (ms : Pairs). RefusesSchema (faults.Argument a) fs ms w.chosen) m
    (subst (λ (fs : FieldTrees). RefusesSchema (faults.Argument a) fs w.metadata w.chosen) f h)))
begin_refused w fs es ids pairs faults.Memory new f m i h = tt
begin_refused w fs es ids pairs (faults.Io x) new f m i h = tt
begin_refused w fs es ids pairs _ new f m i h = absurd h

-- A file that is finished whatever the copy returned: the refusal is
-- that of the copy, or of the end.
pub ended_by : {W : Type 0} (d : Device W) (copied : Result Ending Fault) (e : Fault) (a b : FileSeen W) → EndsAnyway d copied (Err e) a b
    → (copied ≡ Err e) ⊎ ((ending : Ending) × (copied ≡ Ok ending) × AnswersFinish a (Err e))
ended_by d copied e a b anyway = by copied anyway.finished (sym anyway.is) anyway.answers
  where
    fault_or : Result Ending Fault → Fault
    fault_or (Ok x) = e
    fault_or (Err x) = x

    by : (copied : Result Ending Fault) (finished : Result (Unit {0}) Fault) → both copied finished ≡ Err e → AnswersFinish a finished → (copied ≡ Err e) ⊎ ((ending : Ending) × (copied ≡ Ok ending) × AnswersFinish a (Err e))
    by (Err x) finished is answers = inl is
    by (Ok ending) (Err x) is answers = inr (ending, refl, subst (λ (y : Fault). AnswersFinish a (Err y)) (ap fault_or is) answers)
    by (Ok ending) (Ok x) is answers = absurd cc

-- A file writer that was opened so, writes what is read, and is finished then.
module _ {W : Type 0} (to : Device W) (opened : FileSeen W → Type 0) (v w x : FileWriter W) (e : Fault) (is : opened (files.seen v)) where
  -- Columns that the writer refuses.
  not_taken : (cs : List Chunk) (u : FileWriter W) (columns : List AnyArray) → FileTook to v cs u → FileWriterCause u columns e → FileTakeCause to opened e cs columns
  not_taken cs u columns took refused = record { begun = files.seen v; is = is; writer = files.seen u; took = took; refused = refused.0; named = refused.1 }

  module _ {R : Type 0} (gives : Gives R) (d : Device R) (law : GivesInOrder gives) (ahead : GivesAhead d gives)
      (input device : R) (m : StreamMetadata) (r c : StreamReader R) (front : MetadataGave gives input (Ok m) device) (begins : IsUnread device m r) (whole : projection_of r ≡ None)
      (refuses : (List Chunk → Type 0) → Schema → Fault → Type 0) (told : (first : List Chunk → Type 0) → InBlocksCause to opened first e → refuses first (head_of m).schema e) where
    pub stream_blocks_stop : (copied : Result Ending Fault) → IfErr copied (λ y. OwnFault y (StopsCopy (StreamCame gives) (NextOfStreamCause gives) (FileTook to) FileWriterCause r v y))
        → IfOk copied (λ ending. Copied (StreamCame gives) (StreamStopped gives) (FileTook to) r v ending c w) → EndsAnyway to copied (Err e) (files.seen w) (files.seen x)
        → OwnFault e (HoldsOfGiven gives d input (λ bytes. CopyStreamCause refuses bytes e))
    stream_blocks_stop copied stops all anyway = own e (HoldsOfGiven gives d input (λ bytes. CopyStreamCause refuses bytes e)) (λ it.
        elim (ended_by to copied e (files.seen w) (files.seen x) anyway) [
          | inl refused ↦
              let stopped = it _ (subst (λ (o : Result Ending Fault). IfErr o (λ y. OwnFault y (StopsCopy (StreamCame gives) (NextOfStreamCause gives) (FileTook to) FileWriterCause r v y))) refused stops) in
              stream_stopped gives d law ahead input device m r e front begins whole refuses (FileTook to) FileWriterCause v (FileTakeCause to opened e) not_taken (λ first no. told first (inl no)) stopped
          | inr ended ↦
              let done = subst (λ (o : Result Ending Fault). IfOk o (λ ending. Copied (StreamCame gives) (StreamStopped gives) (FileTook to) r v ending c w)) ended.1 all in
              first_refused gives d law ahead input device m r e front begins whole refuses done.handed.chunks done.last done.handed.came_all (λ first are. told first (inr (record {
                chunks = done.handed.chunks;
                are_first = are;
                begun = files.seen v;
                is = is;
                writer = files.seen w;
                took = done.handed.took_all;
                refused = ended.2;
              })))
        ])

  module _ {F : Type 0} (d : Device F) (k : IsTrue d.is_memory) (file device : F) (m : FileMetadata) (r c : FileReader F)
      (read : model.metadata_of (d.memory file).whole ≡ Some (file_seen m)) (unchanged : (d.memory device).whole ≡ (d.memory file).whole) (begins : blocks.IsUnread device m None None r)
      (refuses : (List Chunk → Type 0) → Schema → Pairs → Fault → Type 0) (told : (first : List Chunk → Type 0) → InBlocksCause to opened first e → refuses first (file_seen m).schema (file_seen m).pairs e) where
    pub file_blocks_stop : (copied : Result Ending Fault) → IfErr copied (λ y. OwnFault y (StopsCopy (FileCame d) (NextOfFileCause d) (FileTook to) FileWriterCause r v y))
        → IfOk copied (λ ending. Copied (FileCame d) (FileStopped d) (FileTook to) r v ending c w) → EndsAnyway to copied (Err e) (files.seen w) (files.seen x)
        → OwnFault e (CopyFileCause refuses (d.memory file).whole e)
    file_blocks_stop copied stops all anyway = own e (CopyFileCause refuses (d.memory file).whole e) (λ it.
        elim (ended_by to copied e (files.seen w) (files.seen x) anyway) [
          | inl refused ↦
              let stopped = it _ (subst (λ (o : Result Ending Fault). IfErr o (λ y. OwnFault y (StopsCopy (FileCame d) (NextOfFileCause d) (FileTook to) FileWriterCause r v y))) refused stops) in
              file_stopped d k file device m r e read unchanged begins refuses (FileTook to) FileWriterCause v (FileTakeCause to opened e) not_taken (λ first no. told first (inl no)) stopped
          | inr ended ↦
              let done = subst (λ (o : Result Ending Fault). IfOk o (λ ending. Copied (FileCame d) (FileStopped d) (FileTook to) r v ending c w)) ended.1 all in
              blocks_refused d k file device m r e read unchanged begins refuses done.handed.chunks done.last done.handed.came_all (λ first are. told first (inr (record {
                chunks = done.handed.chunks;
                are_first = are;
                begun = files.seen v;
                is = is;
                writer = files.seen w;
                took = done.handed.took_all;
                refused = ended.2;
              })))
        ])
