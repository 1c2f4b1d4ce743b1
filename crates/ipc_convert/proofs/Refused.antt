-- Why what was read isn't copied.
use Rattle.std.proofs.Common.{◌≡◌, ◌⊎◌, ℕ, List, [], ◌∷◌, ◌++◌, length, drop, map, Option, None, Some, Ok, Err, IsTrue, inl, inr, refl, sym, ap, subst, ◌∙◌, append-nil, append_assoc}
use Rattle.std.proofs.lemmas.List.{take-append-drop}
use Rattle.lower.specs.TypeTrees.{FieldTrees, Pairs}
use Rattle.lower_arrays.specs.AnyLayouts.{layout_of}
use Rattle.lower_arrays.specs.declared.array.AnyArray.{AnyArray}
use Rattle.ipc_base.specs.IdTrees.{IdTrees}
use Rattle.ipc_devices.specs.Device.{Device, Memory, after}
use Rattle.ipc_devices.specs.Faults.{OwnFault}
use Rattle.ipc_devices.specs.Gives.{Follows, Gives, GivesAhead, GivesInOrder, Stop, Takes, ended, failed, going}
use Rattle.ipc_devices.specs.declared.fault.ArgFault.TheVariants.{ColumnCount, ColumnType, FieldsDiffer, SharedDictionary, TooLarge, TooLong}
use Rattle.ipc_devices.specs.declared.fault.Fault.{Fault}
use Rattle.ipc_devices.specs.declared.fault.Fault.TheVariants as faults
use Rattle.ipc_model.specs.Batches.{Chunk, Schema}
use Rattle.ipc_model.specs.Files as model
use Rattle.ipc_model.specs.Frame.{frame}
use Rattle.ipc_model.specs.Streams.{Head, Meant, faulty, meaning, nothing_known, with_chunks}
use Rattle.ipc_model.specs.WholeStreams.{Stream, stream_of}
use Rattle.ipc_model.specs.Writable.{IsWritable}
use Rattle.ipc_read.specs.Chunks.{chunk_seen}
use Rattle.ipc_readers.specs.ChosenStreams.{Request}
use Rattle.ipc_readers.specs.Metadata.{GivesMetadata, MetadataGave}
use Rattle.ipc_readers.specs.Refusals.{IsStreamFault}
use Rattle.ipc_readers.specs.Streams.{IsUnread, device_of, head_of, projection_of}
use Rattle.ipc_readers.specs.declared.read.stream.metadata.StreamMetadata.{StreamMetadata}
use Rattle.ipc_readers.specs.declared.read.stream.reader.StreamReader.{StreamReader}
use Rattle.ipc_files.specs.Footers.{file_seen}
use Rattle.ipc_files.specs.declared.read.file.metadata.FileMetadata.{FileMetadata}
use Rattle.ipc_file_readers.specs.Readers as blocks
use Rattle.ipc_file_readers.specs.declared.read.reader.state.FileReader.{FileReader}
use Rattle.ipc_round_trip.proofs.Streams.{blames_front, stream_or, unreadable, whole_stream}
use Rattle.ipc_round_trip.specs.Reading.{StreamCause, IsReadable}
use Rattle.ipc_write.specs.Meaning.{normal_types}
use Rattle.ipc_schema_write.specs.WriterAnswers.{RefusesSchema}
use Rattle.ipc_write.specs.Writers.{MissesWrite, RefusesFinish, RefusesStart, RefusesWrite, WriterSeen, WritesExactly, fault_unless_new, fault_unless_started}
use Rattle.ipc_write.specs.declared.stream.WriterState.{WriterState}
use Rattle.ipc_write.specs.declared.stream.WriterState.TheVariants.{New, Started}
use Rattle.ipc_convert.proofs.Own.{own}
use Rattle.ipc_convert.proofs.ReadFiles.{first_blocks, new_whole}
use Rattle.ipc_convert.proofs.ReadStreams.{follows_going, new_meant, new_request}
use Rattle.ipc_convert.specs.Chunks.{Moved, RefusesAt, StopsCopy}
use Rattle.ipc_convert.specs.Refusals.{AreFirst, AreFirstBlocks, CopyFileCause, CopyStreamCause, HoldsOfGiven, TakenChunkCause, CopiedChunksCause}
use Rattle.ipc_convert.specs.Sinks.{TookChunks}
use Rattle.ipc_convert.specs.SourceLaws.{file_came_in_order, stream_came_in_order}
use Rattle.ipc_convert.specs.Sources.{NextOfFileCause, FileCame, FilePartCause, NextOfStreamCause, StreamCame, bytes_of, meant_by}

-- ---- what a device gave

by_stop : (stop : Stop) (bytes all left : List ℕ) (P : List ℕ → Type 0) → Takes stop bytes all left → ((ys : List ℕ) → Follows stop ys → P (bytes ++ ys)) → P all
by_stop going bytes all left P takes holds = subst P (sym takes) (holds left tt)
by_stop ended bytes all left P takes holds = subst P (append-nil bytes ∙ sym takes) (holds [] refl)
by_stop failed bytes all left P takes holds =
    let rest = drop (length bytes) all in
    subst P (ap (λ (xs : List ℕ). xs ++ rest) (sym takes) ∙ take-append-drop (length bytes) all) (holds rest tt)

pub given_so : {R : Type 0} (gives : Gives R) (d : Device R) → GivesAhead d gives → (a left : R) (stop : Stop) (bytes : List ℕ) (P : List ℕ → Type 0) → gives a bytes stop left
    → ((ys : List ℕ) → Follows stop ys → P (bytes ++ ys)) → HoldsOfGiven gives d a P
given_so gives d law a left stop bytes P gave holds = record {
  bytes = bytes;
  stop = stop;
  left = left;
  gave = gave;
  holds = holds;
  ahead = λ k. by_stop stop bytes (after (d.memory a)) (after (d.memory left)) P (law a bytes stop left k gave) holds;
}

-- ---- a stream

abbrev Held : Type 1
Held = (List Chunk → Type 0) → Schema → Fault → Type 0

-- a schema message that is refused
pub front_refused : {R : Type 0} (gives : Gives R) (d : Device R) → GivesAhead d gives → (input device : R) (e : Fault) (refuses : Held) → MetadataGave gives input (Err e) device
    → OwnFault e (HoldsOfGiven gives d input (λ bytes. CopyStreamCause refuses bytes e))
front_refused gives d ahead input device e refuses front = own e (HoldsOfGiven gives d input (λ bytes. CopyStreamCause refuses bytes e)) (λ it.
    given_so gives d ahead input device front.stop front.run.bytes (λ bytes. CopyStreamCause refuses bytes e) front.run.gave (λ ys f.
    let all = front.run.bytes ++ ys in
    let said : GivesMetadata all (frame all) (Err e) ys = front.run.holds ys f in
    inl (it (¬ (IsReadable all)) (unreadable all all ys e refl said), it (StreamCause all (stream_of all) None e) (blames_front all all ys (stream_of all) None e refl said))))

not_readable : (bytes : List ℕ) (head : Head) (meant : Meant) → stream_of bytes ≡ Some (record { head = head; meant = meant }) → meant.end ≡ faulty → ¬ (IsReadable bytes)
not_readable bytes head meant is ends readable =
    let none : Stream = record { head = head; meant = meant } in
    let there = sym is ∙ readable.stream in
    readable.sound (sym (ap (λ (o : Option Stream). (stream_or o none).meant.end) there) ∙ ends)

-- the schema of a stream that is refused
pub schema_refused : {R : Type 0} (gives : Gives R) (d : Device R) → GivesAhead d gives → (input device : R) (m : StreamMetadata) (e : Fault) (refuses : Held)
    → MetadataGave gives input (Ok m) device → ((first : List Chunk → Type 0) → refuses first (head_of m).schema e) → HoldsOfGiven gives d input (λ bytes. CopyStreamCause refuses bytes e)
schema_refused gives d ahead input device m e refuses front refused =
    given_so gives d ahead input device front.stop front.run.bytes (λ bytes. CopyStreamCause refuses bytes e) front.run.gave (λ ys f.
    let all = front.run.bytes ++ ys in
    let meant = meaning (head_of m) nothing_known ys in
    inr (record {
      stream = record { head = head_of m; meant = meant };
      is = whole_stream all all ys m refl (front.run.holds ys f);
      refused = refused (λ cs. AreFirst cs meant.chunks);
    }))

-- A stream whose schema message was read, by a reader that is new then.
module _ {R : Type 0} (gives : Gives R) (d : Device R) (law : GivesInOrder gives) (ahead : GivesAhead d gives) (input device : R) (m : StreamMetadata) (r : StreamReader R) (e : Fault)
    (front : MetadataGave gives input (Ok m) device) (begins : IsUnread device m r) (whole : projection_of r ≡ None) (refuses : Held) where
  abbrev Why : Type 0
  Why = HoldsOfGiven gives d input (λ bytes. CopyStreamCause refuses bytes e)

  -- The bytes that were read after the schema message.
  behind_front : (bytes : List ℕ) (stop : Stop) (left : R) → gives (device_of r) bytes stop left
      → ((all ys : List ℕ) → Follows stop ys → stream_of all ≡ Some (record { head = head_of m; meant = meant_by r nothing_known (bytes ++ ys) }) → CopyStreamCause refuses all e) → Why
  behind_front bytes stop left gave says =
      let from = front.run.bytes in
      let first : gives input from going (device_of r) =
      subst (λ (x : R). gives input from going x) (sym begins.reader) (subst (λ (y : Stop). gives input from y device) front.stops front.run.gave) in
      given_so gives d ahead input left stop (from ++ bytes) (λ all. CopyStreamCause refuses all e) (law input from (device_of r) bytes stop left first gave) (λ ys f.
      let behind = bytes ++ ys in
      let said : GivesMetadata (from ++ behind) (frame (from ++ behind)) (Ok m) behind = front.run.holds behind (follows_going front.stop behind front.stops) in
      let is : stream_of (from ++ behind) ≡ Some (record { head = head_of m; meant = meant_by r nothing_known behind }) =
      whole_stream (from ++ behind) (from ++ behind) behind m refl said ∙ ap (λ (x : Meant). Some (record { head = head_of m; meant = x })) (sym (new_meant device m r behind begins whole)) in
      subst (λ (all : List ℕ). CopyStreamCause refuses all e) (sym (append_assoc from bytes ys)) (says (from ++ behind) ys f is))

  -- These chunks were read, and the stream is refused for any chunks that begin with these.
  pub first_refused : (cs : List Chunk) (c : StreamReader R) → StreamCame gives r cs c → ((first : List Chunk → Type 0) → first cs → refuses first (head_of m).schema e) → Why
  first_refused cs c came refused =
      let one = came.gave begins.unfinished in
      behind_front one.bytes going (device_of c) one.gave (λ all ys f is.
      let meant = meant_by r nothing_known (one.bytes ++ ys) in
      let p = one.rest nothing_known ys begins.knows in
      inr (record {
        stream = record { head = head_of m; meant = meant };
        is = is;
        refused = refused (λ ds. AreFirst ds meant.chunks) ((meant_by c p.0 ys).chunks, ap (λ (x : Meant). x.chunks) p.2);
      }))

  -- After these chunks an error came.
  fault_came : (cs : List Chunk) (b : StreamReader R) → StreamCame gives r cs b → NextOfStreamCause gives b e → Why
  fault_came cs b came breaks =
      let one = came.gave begins.unfinished in
      let fault = breaks.1 in
      behind_front (one.bytes ++ fault.bytes) fault.stop fault.left (law (device_of r) one.bytes (device_of b) fault.bytes fault.stop fault.left one.gave fault.gave) (λ all ys f is.
      let meant = meant_by r nothing_known ((one.bytes ++ fault.bytes) ++ ys) in
      let p = one.rest nothing_known (fault.bytes ++ ys) begins.knows in
      let then : meant ≡ with_chunks cs (record { chunks = []; end = faulty }) =
      ap (meant_by r nothing_known) (append_assoc one.bytes fault.bytes ys) ∙ p.2 ∙ ap (with_chunks cs) (fault.means p.0 ys p.1 f) in
      inl (
        not_readable all (head_of m) meant is (ap (λ (x : Meant). x.end) then),
        inr (record { head = head_of m; meant = meant; is = is; kind = subst (λ (h : Request). IsStreamFault h e) (one.asked ∙ new_request device m r begins whole) fault.kind }),
      ))

  -- not all were copied
  pub stream_stopped : {T : Type 0} (took : Moved T) (sink : RefusesAt T) (v : T) (misses : List Chunk → List AnyArray → Type 0)
      → ((cs : List Chunk) (w : T) (columns : List AnyArray) → took v cs w → sink w columns e → misses cs columns)
      → ((first : List Chunk → Type 0) → CopiedChunksCause first misses e → refuses first (head_of m).schema e)
      → StopsCopy (StreamCame gives) (NextOfStreamCause gives) took sink r v e → Why
  stream_stopped {T = T} took sink v misses missed told stops = elim stops.why [
    | inr many ↦ first_refused stops.handed.chunks stops.last stops.handed.came_all
        (λ first are. told first (inr (record { chunks = stops.handed.chunks; are_first = are; many = many })))
    | inl one ↦ elim one [
      | inl breaks ↦ fault_came stops.handed.chunks stops.last stops.handed.came_all breaks
      | inr comes ↦ first_refused (stops.handed.chunks ++ chunk_seen comes.columns ∷ []) comes.next
          (stream_came_in_order gives law r stops.handed.chunks stops.last (chunk_seen comes.columns ∷ []) comes.next stops.handed.came_all comes.came_one)
          (λ first are. told first (inl (record {
            before = stops.handed.chunks;
            columns = comes.columns;
            is_next = are;
            missed = missed stops.handed.chunks stops.left comes.columns stops.handed.took_all comes.refused;
          })))
    ]
  ]

-- ---- a file

abbrev FileHeld : Type 1
FileHeld = (List Chunk → Type 0) → Schema → Pairs → Fault → Type 0

-- A file in memory whose metadata were read, by a reader that is new then.
module _ {F : Type 0} (d : Device F) (k : IsTrue d.is_memory) (file device : F) (m : FileMetadata) (r : FileReader F) (e : Fault)
    (read : model.metadata_of (d.memory file).whole ≡ Some (file_seen m)) (same : (d.memory device).whole ≡ (d.memory file).whole) (begins : blocks.IsUnread device m None None r) (refuses : FileHeld) where
  abbrev WhyFile : Type 0
  WhyFile = CopyFileCause refuses (d.memory file).whole e

  of_file : (P : List ℕ → model.FileMetadata → Type 0) → P (bytes_of d r) (blocks.file_of r) → P (d.memory file).whole (file_seen m)
  of_file P h =
      let bytes : bytes_of d r ≡ (d.memory file).whole = ap (λ (x : F). (d.memory x).whole) begins.device ∙ same in
      let said : blocks.file_of r ≡ file_seen m = ap file_seen begins.described in
      subst (λ (xs : List ℕ). P xs (file_seen m)) bytes (subst (λ (f : model.FileMetadata). P (bytes_of d r) f) said h)

  held_back : FilePartCause (file_seen m) (d.memory file).whole e ⊎ refuses (AreFirstBlocks (d.memory file).whole (file_seen m)) (file_seen m).schema (file_seen m).pairs e → WhyFile
  held_back refused = inr (record { metadata = file_seen m; is = read; refused = refused })

  -- the schema is refused
  pub file_schema_refused : ((first : List Chunk → Type 0) → refuses first (file_seen m).schema (file_seen m).pairs e) → WhyFile
  file_schema_refused refused = held_back (inr (refused (AreFirstBlocks (d.memory file).whole (file_seen m))))

  pub blocks_refused : (cs : List Chunk) (c : FileReader F) → FileCame d r cs c → ((first : List Chunk → Type 0) → first cs → refuses first (file_seen m).schema (file_seen m).pairs e) → WhyFile
  blocks_refused cs c came refused =
      held_back (inr (refused (AreFirstBlocks (d.memory file).whole (file_seen m))
      (of_file (λ bytes f. AreFirstBlocks bytes f cs) (first_blocks d r c cs begins.block (came.gave k (new_whole d device m r begins))))))

  -- After these chunks a part of the file has no meaning.
  part_lacks : (cs : List Chunk) (b : FileReader F) → FileCame d r cs b → NextOfFileCause d b e → WhyFile
  part_lacks cs b came breaks =
      let gave = came.gave k (new_whole d device m r begins) in
      held_back (inl (of_file (λ bytes f. FilePartCause f bytes e)
      (subst (λ (xs : List ℕ). FilePartCause (blocks.file_of r) xs e) gave.bytes (subst (λ (f : model.FileMetadata). FilePartCause f (bytes_of d b) e) gave.file (breaks k gave.whole)))))

  -- not all were copied
  pub file_stopped : {T : Type 0} (took : Moved T) (sink : RefusesAt T) (v : T) (misses : List Chunk → List AnyArray → Type 0)
      → ((cs : List Chunk) (w : T) (columns : List AnyArray) → took v cs w → sink w columns e → misses cs columns)
      → ((first : List Chunk → Type 0) → CopiedChunksCause first misses e → refuses first (file_seen m).schema (file_seen m).pairs e)
      → StopsCopy (FileCame d) (NextOfFileCause d) took sink r v e → WhyFile
  file_stopped {T = T} took sink v misses missed told stops = elim stops.why [
    | inr many ↦ blocks_refused stops.handed.chunks stops.last stops.handed.came_all
        (λ first are. told first (inr (record { chunks = stops.handed.chunks; are_first = are; many = many })))
    | inl one ↦ elim one [
      | inl breaks ↦ part_lacks stops.handed.chunks stops.last stops.handed.came_all breaks
      | inr comes ↦ blocks_refused (stops.handed.chunks ++ chunk_seen comes.columns ∷ []) comes.next
          (file_came_in_order d r stops.handed.chunks stops.last (chunk_seen comes.columns ∷ []) comes.next stops.handed.came_all comes.came_one)
          (λ first are. told first (inl (record {
            before = stops.handed.chunks;
            columns = comes.columns;
            is_next = are;
            missed = missed stops.handed.chunks stops.left comes.columns stops.handed.took_all comes.refused;
          })))
    ]
  ]

-- ---- what the writer of a stream misses

misses : {W : Type 0} (w : WriterSeen W) (fs : FieldTrees) (columns : List AnyArray) (e : Fault) → w.state ≡ Started → MissesWrite w fs columns None e → RefusesWrite w columns None e
    → OwnFault e (TakenChunkCause fs w.ids (map layout_of columns) e)
misses w fs columns (faults.State x) started h why = absurd (h started)
misses w fs columns (faults.Argument FieldsDiffer) started h why = absurd (h tt)
misses w fs columns (faults.Argument ColumnCount) started h why = h
misses w fs columns (faults.Argument ColumnType) started h why = h
misses w fs columns (faults.Argument (SharedDictionary j)) started h why = (h, why.1)
misses w fs columns (faults.Argument TooLong) started h why = h
misses w fs columns (faults.Argument TooLarge) started h why = h
misses w fs columns faults.Memory started h why = tt
misses w fs columns (faults.Io x) started h why = tt
misses w fs columns _ started h why = absurd h

-- Columns that are refused by a writer that was started with a schema and wrote some chunks.
pub stream_misses : {W : Type 0} (d : Device W) (v w : WriterSeen W) (fields : FieldTrees) (metadata : Pairs) (ids : IdTrees) (cs : List Chunk) (columns : List AnyArray) (e : Fault)
    → ((P : Type 0) → OwnFault e P → P) → v.state ≡ Started → v.types ≡ normal_types fields → v.ids ≡ ids → IsWritable fields metadata ids → TookChunks d v cs w
    → WritesExactly w columns None (Err e) × RefusesWrite w columns None e → TakenChunkCause fields ids (map layout_of columns) e
stream_misses d v w fields metadata ids cs columns e it started types same writable took refused =
    let ids_are : w.ids ≡ ids = took.ids ∙ same in
    let answer = refused.0.exact fields metadata (subst (λ (is : IdTrees). IsWritable fields metadata is) (sym ids_are) writable) (sym types ∙ sym took.types) in
    subst (λ (is : IdTrees). TakenChunkCause fields is (map layout_of columns) e) ids_are
    (it (TakenChunkCause fields w.ids (map layout_of columns) e) (misses w fields columns e (took.state ∙ started) answer.0 refused.1))

-- ---- calls that come between

-- a schema that a new writer refuses
pub start_refused : (s : WriterState) (fs : FieldTrees) (es : Pairs) (ids : IdTrees) (e : Fault) → s ≡ New → RefusesStart s fs es ids e → OwnFault e (RefusesSchema e fs es ids)
start_refused s fs es ids (faults.State x) new h = (let none : None ≡ Some x = subst (λ (y : WriterState). fault_unless_new y ≡ Some x) new h in absurd cc)
start_refused s fs es ids (faults.Argument a) new h = h
start_refused s fs es ids faults.Memory new h = tt
start_refused s fs es ids (faults.Io x) new h = tt
start_refused s fs es ids _ new h = absurd h

-- The mark is refused only by an error of allocation or of the device.
pub mark_refused : (s : WriterState) (e : Fault) (Q : Type 0) → s ≡ Started → RefusesFinish s e → OwnFault e Q
mark_refused s (faults.State x) Q started h = (let none : None ≡ Some x = subst (λ (y : WriterState). fault_unless_started y ≡ Some x) started h in absurd cc)
mark_refused s (faults.Io x) Q started h = tt
mark_refused s _ Q started h = absurd h
