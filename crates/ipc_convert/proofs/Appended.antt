-- What of a stream is appended to a file.
use Rattle.std.proofs.Common.{◌≡◌, ℕ, List, None, Some, Result, Ok, IfOk, IsTrue, sym, ap, ◌∙◌, subst}
use Rattle.ipc_devices.specs.Gives.{Gives, GivesInOrder}
use Rattle.ipc_devices.specs.declared.fault.Fault.{Fault}
use Rattle.ipc_model.specs.Batches.{Chunk, Schema}
use Rattle.ipc_model.specs.Files.{FileMetadata, metadata_of}
use Rattle.ipc_readers.specs.Metadata.{MetadataGave}
use Rattle.ipc_readers.specs.Streams.{IsUnread, device_of, head_of, projection_of}
use Rattle.ipc_readers.specs.declared.read.stream.metadata.StreamMetadata.{StreamMetadata}
use Rattle.ipc_readers.specs.declared.read.stream.reader.StreamReader.{StreamReader}
use Rattle.ipc_file_write.specs.Appends.{GoesOn, GoesOnAgain, GoesOnWith}
use Rattle.ipc_file_write.specs.FileWriters.{seen}
use Rattle.ipc_file_write.specs.declared.file.FileWriter.{FileWriter}
use Rattle.ipc_sessions.specs.Sessions.{GainsChunks, KeepsOld}
use Rattle.ipc_sessions.specs.Steps.{Leaves}
use Rattle.ipc_sessions.proofs.Ends.{session_leaves}
use Rattle.ipc_sessions.proofs.Going.{adds_ok, keeps_old}
use Rattle.ipc_convert.specs.Chunks.{Copied}
use Rattle.ipc_convert.specs.Copies.{AppendsTo, AreSame, CopiesStream, normal_chunks}
use Rattle.ipc_convert.specs.Sinks.{FileTook}
use Rattle.ipc_convert.specs.Sources.{StreamCame, StreamStopped, is_end}
use Rattle.ipc_convert.specs.Steps.{EndsCopy}
use Rattle.ipc_convert.specs.declared.chunks.Ending.{Ending}
use Rattle.ipc_convert.proofs.ReadStreams.{was_copied, was_read}
use Rattle.ipc_devices.specs.Device.{Device}

-- A file to which a writer appended these chunks, and which it finished.
appends_to : {F : Type 0} (d : Device F) (file device end : F) (m : FileMetadata) (schema : Schema) (cs : List Chunk) (v w x : FileWriter F) (result : Result Ending Fault) (ending : Ending)
    → IsTrue d.is_memory → metadata_of (d.memory file).whole ≡ Some m → (d.memory device).whole ≡ (d.memory file).whole
    → GoesOn d m device (seen v) → GoesOnWith d m device (seen v) → GoesOnAgain d m device (seen v)
    → AreSame (schema.fields, schema.metadata) schema.ids (m.schema.fields, m.schema.metadata) m.schema.ids
    → FileTook d v cs w → EndsCopy d result ending (seen w) (seen x) → end ≡ (seen x).device
    → AppendsTo (d.memory file).whole (d.memory end).whole schema cs
appends_to {F = F} d file device end m schema cs v w x result ending k is same goes means again alike took ends same_end =
    let ds = normal_chunks cs in
    let read : metadata_of (d.memory device).whole ≡ Some m = ap metadata_of same ∙ is in
    let leaves : Leaves d (seen v) (seen x).device (Ok tt) ds =
    session_leaves d (seen v) (seen w) (seen x) ds took.takes (Ok tt) ends.sends ends.ends ends.reaches ends.remains in
    let adds : GainsChunks (d.memory device).whole (d.memory (seen x).device).whole ds = adds_ok d m device (seen v) (seen x).device ds goes k read (Ok tt) leaves again means in
    let keeps : KeepsOld m (d.memory device).whole (d.memory (seen x).device).whole = keeps_old d m device (seen v) (seen x).device ds goes k read (Ok tt) leaves in
    record {
      metadata = m;
      read = is;
      same = alike;
      adds = subst (λ (y : F). GainsChunks (d.memory file).whole (d.memory y).whole ds) (sym same_end) (subst (λ (xs : List ℕ). GainsChunks xs (d.memory (seen x).device).whole ds) same adds);
      keeps = subst (λ (y : F). KeepsOld m (d.memory file).whole (d.memory y).whole) (sym same_end) (subst (λ (xs : List ℕ). KeepsOld m xs (d.memory (seen x).device).whole) same keeps);
    }

pub stream_appended : {F R : Type 0} (gives : Gives R) (d : Device F) → GivesInOrder gives
    → (file device end : F) (input begun last : R) (m : FileMetadata) (s : StreamMetadata) (r c : StreamReader R) (v w x : FileWriter F) (result : Result Ending Fault) (ending : Ending)
    → IsTrue d.is_memory → metadata_of (d.memory file).whole ≡ Some m → (d.memory device).whole ≡ (d.memory file).whole
    → GoesOn d m device (seen v) → GoesOnWith d m device (seen v) → GoesOnAgain d m device (seen v)
    → MetadataGave gives input (Ok s) begun → IsUnread begun s r → projection_of r ≡ None
    → AreSame ((head_of s).schema.fields, (head_of s).schema.metadata) (head_of s).schema.ids (m.schema.fields, m.schema.metadata) m.schema.ids
    → IfOk result (λ e. Copied (StreamCame gives) (StreamStopped gives) (FileTook d) r v e c w) → EndsCopy d result ending (seen w) (seen x)
    → last ≡ device_of c → end ≡ (seen x).device
    → CopiesStream gives input last (λ schema chunks e. AppendsTo (d.memory file).whole (d.memory end).whole schema chunks)
stream_appended gives d law file device end input begun last m s r c v w x result ending k is same goes means again front begins whole alike all ends same_last same_end =
    let copied : Copied (StreamCame gives) (StreamStopped gives) (FileTook d) r v ending c w =
    subst (λ (o : Result Ending Fault). IfOk o (λ e. Copied (StreamCame gives) (StreamStopped gives) (FileTook d) r v e c w)) ends.all all in
    let cs = copied.handed.chunks in
    was_copied gives input (device_of c) last s cs (is_end ending) (λ schema chunks e. AppendsTo (d.memory file).whole (d.memory end).whole schema chunks) same_last
    (was_read gives law input begun s r copied.last c cs ending front begins whole copied.handed.came_all copied.stops)
    (λ e so. appends_to d file device end m (head_of s).schema cs v w x result ending k is same goes means again alike copied.handed.took_all ends same_end)
