-- What is written of a stream, and of a file, from the first byte to the last.
use Rattle.std.proofs.Common.{◌≡◌, ℕ, List, [], None, Some, Result, Ok, IfOk, true, IsTrue, refl, ap, subst}
use Rattle.lower.specs.TypeTrees.{FieldTrees, Pairs}
use Rattle.lower.specs.TypeViews.{fields_view, pairs_of}
use Rattle.lower_types.specs.declared.Endianness.{Endianness}
use Rattle.ipc_base.specs.IdTrees.{IdTrees, all_ids_view}
use Rattle.ipc_devices.specs.Gives.{Gives, GivesInOrder}
use Rattle.ipc_devices.specs.declared.fault.Fault.{Fault}
use Rattle.ipc_model.specs.Batches.{Schema}
use Rattle.ipc_model.specs.Files.{metadata_of}
use Rattle.ipc_model.specs.Streams.{marked}
use Rattle.ipc_readers.specs.Metadata.{MetadataGave}
use Rattle.ipc_readers.specs.Streams.{IsUnread, device_of, head_of, projection_of}
use Rattle.ipc_readers.specs.declared.read.stream.metadata.StreamMetadata.{StreamMetadata}
use Rattle.ipc_readers.specs.declared.read.stream.reader.StreamReader.{StreamReader}
use Rattle.ipc_files.specs.Footers.{file_seen}
use Rattle.ipc_files.specs.declared.read.file.metadata.FileMetadata.{FileMetadata}
use Rattle.ipc_file_readers.specs.Readers as blocks
use Rattle.ipc_file_readers.specs.declared.read.reader.state.FileReader.{FileReader}
use Rattle.ipc_schema_write.specs.WriterAnswers.{written_head_as}
use Rattle.ipc_write.specs.Agreement as streams
use Rattle.ipc_write.specs.Writers.{seen}
use Rattle.ipc_write.specs.declared.stream.writer.StreamWriter.{StreamWriter}
use Rattle.ipc_write.specs.declared.stream.WriterState.TheVariants.{Started}
use Rattle.ipc_file_write.specs.FileWriters as files
use Rattle.ipc_file_write.specs.declared.file.FileWriter.{FileWriter}
use Rattle.ipc_convert.proofs.ReadFiles.{all_blocks, file_copied, new_whole}
use Rattle.ipc_convert.proofs.Taken.{Holds, LeftAt, begun_stream, ended_stream, file_written_so, stream_written}
use Rattle.ipc_convert.proofs.ReadStreams.{was_copied, was_read, was_taken}
use Rattle.ipc_convert.specs.Chunks.{Copied, Moved}
use Rattle.ipc_convert.specs.Copies.{CopiesFile, CopiesStream, HasBlockChunks, TakesStream, WritesFile, WritesStream}
use Rattle.ipc_convert.specs.Sinks.{FileTook, StreamTook}
use Rattle.ipc_convert.specs.Sources.{FileCame, FileStopped, StreamCame, StreamStopped, is_end}
use Rattle.ipc_convert.specs.Steps.{BeginsFile, EndsAsSource, EndsCopy}
use Rattle.ipc_convert.specs.declared.chunks.Ending.{Ending}
use Rattle.ipc_devices.specs.Device.{Device}

-- ---- what is read

-- A stream whose chunks were copied was read whole, whatever the sink.
pub stream_taken : {R T : Type 0} (gives : Gives R) (took : Moved T) → GivesInOrder gives → (input device last : R) (m : StreamMetadata) (r c : StreamReader R) (v w : T) (ending : Ending)
    → MetadataGave gives input (Ok m) device → IsUnread device m r → projection_of r ≡ None → Copied (StreamCame gives) (StreamStopped gives) took r v ending c w → last ≡ device_of c
    → TakesStream gives input last
stream_taken gives took law input device last m r c v w ending front begins whole copied same =
    was_taken gives input (device_of c) last m copied.handed.chunks (is_end ending) same
    (was_read gives law input device m r copied.last c copied.handed.chunks ending front begins whole copied.handed.came_all copied.stops)

-- The same of a stream whose chunks were written to a file that was finished.
pub stream_taken_so : {R W : Type 0} (gives : Gives R) (d : Device W) → GivesInOrder gives
    → (input device last : R) (m : StreamMetadata) (r c : StreamReader R) (v w x : FileWriter W) (result : Result Ending Fault) (ending : Ending)
    → MetadataGave gives input (Ok m) device → IsUnread device m r → projection_of r ≡ None → IfOk result (λ e. Copied (StreamCame gives) (StreamStopped gives) (FileTook d) r v e c w)
    → EndsCopy d result ending (files.seen w) (files.seen x) → last ≡ device_of c → TakesStream gives input last
stream_taken_so gives d law input device last m r c v w x result ending front begins whole all ends same =
    stream_taken gives (FileTook d) law input device last m r c v w ending front begins whole
    (subst (λ (o : Result Ending Fault). IfOk o (λ e. Copied (StreamCame gives) (StreamStopped gives) (FileTook d) r v e c w)) ends.all all) same

-- ---- as a stream

-- What a stream writer has written once it was ended like its source.
module _ {W : Type 0} (d : Device W) (order : Endianness) (out : W) (schema : Schema) where
  pub to_stream : {S : Type 0} (came : Moved S) (stopped : S → Ending → S → Type 0) (a c : S) (fields : FieldTrees) (metadata : Pairs) (ids : IdTrees) (u v w x : StreamWriter W) (ending : Ending) (y : Unit {0})
      → IsTrue d.is_memory → fields ≡ schema.fields → metadata ≡ schema.metadata → ids ≡ schema.ids → (seen u).device ≡ out → (seen u).order ≡ order → streams.IsFresh d (seen u)
      → streams.BeginsStream d (seen u) (Ok y) (seen v) (written_head_as (seen u).order fields metadata ids) → (seen v).state ≡ Started
      → (copied : Copied came stopped (StreamTook d) a v ending c w) → EndsAsSource d ending (seen w) (seen x)
      → LeftAt (is_end ending) (seen x).state × Holds d order out schema copied.handed.chunks (seen x)
  to_stream came stopped a c fs es ids u v w x ending y k f m i at ordered fresh begun started copied ends =
      let took = copied.handed.took_all in
      let cs = copied.handed.chunks in
      let head : written_head_as (seen u).order fs es ids ≡ written_head_as order schema.fields schema.metadata ids = λ j. written_head_as (ordered j) (f j) (m j) ids in
      let starts = subst (λ (h : _). streams.BeginsStream d (seen u) (Ok y) (seen v) h) head begun in
      let holds = begun_stream d order out schema ids (seen u) (seen v) (seen w) cs y k i at fresh starts took in
      ended_stream d order out schema cs ending (seen v) (seen w) (seen x) k started took.state ends holds

pub stream_streamed : {R W : Type 0} (gives : Gives R) (d : Device W) (order : Endianness) → GivesInOrder gives
    → (input device last : R) (out end : W) (m shown : StreamMetadata) (r c : StreamReader R) (ids : IdTrees) (u v w x : StreamWriter W) (ending : Ending) (y : Unit {0})
    → IsTrue d.is_memory → MetadataGave gives input (Ok m) device → IsUnread device m r → projection_of r ≡ None → shown ≡ m → ids ≡ all_ids_view m.ipc_schema.fields.items
    → (seen u).device ≡ out → (seen u).order ≡ order → streams.IsFresh d (seen u)
    → streams.BeginsStream d (seen u) (Ok y) (seen v) (written_head_as (seen u).order (fields_view shown.schema.fields.items) (pairs_of shown.schema.metadata.entries) ids)
    → (seen v).state ≡ Started → Copied (StreamCame gives) (StreamStopped gives) (StreamTook d) r v ending c w
    → EndsAsSource d ending (seen w) (seen x) → last ≡ device_of c → end ≡ (seen x).device
    → CopiesStream gives input last (WritesStream order (d.memory out) (d.memory end))
stream_streamed gives d order law input device last out end m shown r c ids u v w x ending y k front begins whole is i at ordered fresh begun started copied ends same_last same_end =
    let schema = (head_of m).schema in
    let cs = copied.handed.chunks in
    let done = to_stream d order out schema (StreamCame gives) (StreamStopped gives) r c (fields_view shown.schema.fields.items) (pairs_of shown.schema.metadata.entries) ids u v w x ending y
    k (ap (λ (s : StreamMetadata). fields_view s.schema.fields.items) is) (ap (λ (s : StreamMetadata). pairs_of s.schema.metadata.entries) is) i at ordered fresh begun started copied ends in
    was_copied gives input (device_of c) last m cs (is_end ending) (WritesStream order (d.memory out) (d.memory end)) same_last
    (was_read gives law input device m r copied.last c cs ending front begins whole copied.handed.came_all copied.stops)
    (λ e so. stream_written d order out end schema cs (seen x) (is_end ending) e same_end done.0 done.1 so)

-- The chunks that were read of a file are all of it.
chunks_of : {F T : Type 0} (d : Device F) (took : Moved T) (file device : F) (m : FileMetadata) (r c : FileReader F) (v w : T) (ending : Ending)
    → IsTrue d.is_memory → (d.memory device).whole ≡ (d.memory file).whole → blocks.IsUnread device m None None r → (copied : Copied (FileCame d) (FileStopped d) took r v ending c w)
    → HasBlockChunks (d.memory file).whole (file_seen m) copied.handed.chunks
chunks_of d took file device m r c v w ending k same begins copied =
    subst (λ (bytes : List ℕ). HasBlockChunks bytes (file_seen m) copied.handed.chunks) same
    (all_blocks d device m r copied.last copied.handed.chunks begins (copied.handed.came_all.gave k (new_whole d device m r begins)) copied.stops.1)

pub file_streamed : {F W : Type 0} (held : Device F) (d : Device W) (order : Endianness)
    → (file device : F) (out end : W) (m shown : FileMetadata) (r c : FileReader F) (ids : IdTrees) (u v w x : StreamWriter W) (ending : Ending) (y : Unit {0})
    → IsTrue held.is_memory → IsTrue d.is_memory → metadata_of (held.memory file).whole ≡ Some (file_seen m) → (held.memory device).whole ≡ (held.memory file).whole → blocks.IsUnread device m None None r → shown ≡ m → ids ≡ all_ids_view m.ipc_schema.fields.items
    → (seen u).device ≡ out → (seen u).order ≡ order → streams.IsFresh d (seen u)
    → streams.BeginsStream d (seen u) (Ok y) (seen v) (written_head_as (seen u).order (fields_view shown.schema.fields.items) (pairs_of shown.schema.metadata.entries) ids)
    → (seen v).state ≡ Started → Copied (FileCame held) (FileStopped held) (StreamTook d) r v ending c w
    → EndsAsSource d ending (seen w) (seen x) → end ≡ (seen x).device
    → CopiesFile (held.memory file).whole (λ schema pairs chunks. WritesStream order (d.memory out) (d.memory end) schema chunks marked)
file_streamed held d order file device out end m shown r c ids u v w x ending y t k read same begins is i at ordered fresh begun started copied ends same_end =
    let schema = (file_seen m).schema in
    let cs = copied.handed.chunks in
    let done = to_stream d order out schema (FileCame held) (FileStopped held) r c (fields_view shown.schema.fields.items) (pairs_of shown.schema.metadata.entries) ids u v w x ending y
    k (ap (λ (s : FileMetadata). fields_view s.schema.fields.items) is) (ap (λ (s : FileMetadata). pairs_of s.schema.metadata.entries) is) i at ordered fresh begun started copied ends in
    let left : LeftAt true (seen x).state = subst (λ (e : Ending). LeftAt (is_end e) (seen x).state) copied.stops.0 done.0 in
    file_copied (held.memory file).whole (file_seen m) cs (λ schema pairs chunks. WritesStream order (d.memory out) (d.memory end) schema chunks marked) read
    (chunks_of held (StreamTook d) file device m r c v w ending t same begins copied)
    (stream_written d order out end schema cs (seen x) true marked same_end left done.1 refl)

-- ---- as a file

pub stream_filed : {R W : Type 0} (gives : Gives R) (d : Device W) (order : Endianness) → GivesInOrder gives
    → (input device last : R) (out end : W) (m : StreamMetadata) (r c : StreamReader R) (fields : FieldTrees) (metadata : Pairs) (ids : IdTrees) (given : Pairs) (v w x : FileWriter W) (result : Result Ending Fault) (ending : Ending)
    → IsTrue d.is_memory → MetadataGave gives input (Ok m) device → IsUnread device m r → projection_of r ≡ None → fields ≡ fields_view m.schema.fields.items → metadata ≡ pairs_of m.schema.metadata.entries
    → ids ≡ all_ids_view m.ipc_schema.fields.items → given ≡ [] → BeginsFile d out order fields metadata ids given (files.seen v)
    → IfOk result (λ e. Copied (StreamCame gives) (StreamStopped gives) (FileTook d) r v e c w) → EndsCopy d result ending (files.seen w) (files.seen x)
    → last ≡ device_of c → end ≡ (files.seen x).device → CopiesStream gives input last (λ schema chunks e. WritesFile order (d.memory out) (d.memory end) schema [] chunks)
stream_filed gives d order law input device last out end m r c fs es ids given v w x result ending k front begins whole f s i none begun all ends same_last same_end =
    let copied : Copied (StreamCame gives) (StreamStopped gives) (FileTook d) r v ending c w =
    subst (λ (o : Result Ending Fault). IfOk o (λ e. Copied (StreamCame gives) (StreamStopped gives) (FileTook d) r v e c w)) ends.all all in
    let schema = (head_of m).schema in
    let cs = copied.handed.chunks in
    was_copied gives input (device_of c) last m cs (is_end ending) (λ schema chunks e. WritesFile order (d.memory out) (d.memory end) schema [] chunks) same_last
    (was_read gives law input device m r copied.last c cs ending front begins whole copied.handed.came_all copied.stops)
    (λ e so. file_written_so d order out end schema [] given fs es ids cs result ending (files.seen v) (files.seen w) (files.seen x) k f s i none same_end begun copied.handed.took_all.takes ends)

pub file_filed : {F W : Type 0} (held : Device F) (d : Device W) (order : Endianness)
    → (file device : F) (out end : W) (m : FileMetadata) (r c : FileReader F) (fields : FieldTrees) (metadata : Pairs) (ids : IdTrees) (given : Pairs) (v w x : FileWriter W) (result : Result Ending Fault) (ending : Ending)
    → IsTrue held.is_memory → IsTrue d.is_memory → metadata_of (held.memory file).whole ≡ Some (file_seen m) → (held.memory device).whole ≡ (held.memory file).whole → blocks.IsUnread device m None None r
    → fields ≡ fields_view m.schema.fields.items → metadata ≡ pairs_of m.schema.metadata.entries → ids ≡ all_ids_view m.ipc_schema.fields.items → given ≡ pairs_of m.custom_metadata.entries
    → BeginsFile d out order fields metadata ids given (files.seen v)
    → IfOk result (λ e. Copied (FileCame held) (FileStopped held) (FileTook d) r v e c w) → EndsCopy d result ending (files.seen w) (files.seen x)
    → end ≡ (files.seen x).device → CopiesFile (held.memory file).whole (WritesFile order (d.memory out) (d.memory end))
file_filed held d order file device out end m r c fs es ids given v w x result ending t k read same begins f s i p begun all ends same_end =
    let copied : Copied (FileCame held) (FileStopped held) (FileTook d) r v ending c w =
    subst (λ (o : Result Ending Fault). IfOk o (λ e. Copied (FileCame held) (FileStopped held) (FileTook d) r v e c w)) ends.all all in
    let schema = (file_seen m).schema in
    let cs = copied.handed.chunks in
    file_copied (held.memory file).whole (file_seen m) cs (WritesFile order (d.memory out) (d.memory end)) read
    (chunks_of held (FileTook d) file device m r c v w ending t same begins copied)
    (file_written_so d order out end schema (file_seen m).pairs given fs es ids cs result ending (files.seen v) (files.seen w) (files.seen x) k f s i p same_end begun copied.handed.took_all.takes ends)
