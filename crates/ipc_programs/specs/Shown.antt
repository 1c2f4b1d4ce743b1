-- What `ipcat` showed can be read.
-- (Arrow columnar format, "IPC Streaming Format" and "IPC File Format".)
use Rattle.std.specs.Prelude.{◌≡◌, ℕ, IsTrue, List, Option, None, Some}
use Rattle.lower_arrays.specs.declared.array.AnyArray.{AnyArray}
use Rattle.ipc_convert.specs.Chunks.{Copied, CopiedOne, Moved, RefusesAt, StopsCopy}
use Rattle.ipc_convert.specs.Sources.{NextOfStreamCause, StreamCame, StreamStopped}
use Rattle.ipc_convert.specs.declared.chunks.Ending.{Ending}
use Rattle.ipc_devices.specs.Device.{Device}
use Rattle.ipc_devices.specs.Gives.{Gives, Stop}
use Rattle.ipc_devices.specs.declared.fault.Fault.{Fault}
use Rattle.ipc_model.specs.Batches.{IsProjection, kinds}
use Rattle.ipc_model.specs.Kinds.{count}
use Rattle.ipc_file_readers.specs.declared.read.reader.state.FileReader.{FileReader}
use Rattle.ipc_readers.specs.declared.read.stream.reader.StreamReader.{StreamReader}
use Rattle.ipc_round_trip.specs.Choosing.{IsReadableBy}
use Rattle.ipc_file_round_trip.specs.Reading.{FileMeant, file_by}
use Rattle.ipc_file_round_trip.specs.Steps.{GivesAll}
use Rattle.ipc_programs.specs.CatWords.{Wanted, demo, stream, file}

-- The bytes that were read of an input are a stream that can be read by the requested columns.
pub record GivesReadable {R : Type 0} (gives : Gives R) (input : R) (asked : Option (List ℕ)) : Type 0 where
  pub bytes : List ℕ
  pub stop : Stop
  pub left : R
  pub gave : gives input bytes stop left
  pub readable : IsReadableBy asked bytes

-- A sink of which nothing is known: it takes all chunks.
abbrev pub anything : Moved (Unit {0})
anything a chunks b = Unit {0}

-- A sink that refuses no chunk.
abbrev pub nothing_refused : RefusesAt (Unit {0})
nothing_refused a columns e = ⊥

module _ {R : Type 0} (gives : Gives R) where
  -- A stream reader read the next chunk; or there is none, and the stream ended so.
  abbrev pub OneCame : StreamReader R → Option Ending → StreamReader R → Type 0
  OneCame a ending b = CopiedOne (StreamCame gives) (StreamStopped gives) anything a tt ending b tt

  -- A stream reader read all chunks, and the stream ended so.
  abbrev pub AllCame : StreamReader R → Ending → StreamReader R → Type 0
  AllCame a ending b = Copied (StreamCame gives) (StreamStopped gives) anything a tt ending b tt

  -- After some of the chunks this error comes, or there are too many.
  abbrev pub StopsComing : StreamReader R → Fault → Type 0
  StopsComing a e = StopsCopy (StreamCame gives) (NextOfStreamCause gives) anything nothing_refused a tt e

-- A file has a meaning by the requested columns, which it has, and up to the limit.
pub record IsReadableFile (asked : Option (List ℕ)) (limit : Option ℕ) (bytes : List ℕ) : Type 0 where
  pub meant : FileMeant
  pub is : file_by asked limit bytes ≡ Some meant
  pub columns : IsProjection asked (count (kinds meant.metadata.schema))

-- The file at offset 0 of a device that is memory has a meaning by the requested columns,
-- which it has, and up to the limit.
abbrev pub ReadsFile : {F : Type 0} → Device F → F → Option (List ℕ) → Option ℕ → Type 0
ReadsFile contents device asked limit = IsTrue contents.is_memory → (contents.memory device).place ≡ 0 → IsReadableFile asked limit (contents.memory device).whole

-- A file reader returned some chunks, and then None.
pub record GaveBlocks {F : Type 0} (d : Device F) (a : FileReader F) : Type 0 where
  pub chunks : List (List AnyArray)
  pub all : GivesAll d a chunks

-- `gives` says which bytes the input gives, `contents` what is known of an opened file.
module _ {R F : Type 0} (gives : Gives R) (contents : Device F) where
  -- What was shown can be read, by what was requested; a requested file was opened.
  abbrev pub Shows : Wanted → R → Option F → Type 0
  Shows demo input device = Unit {0}
  Shows (stream asked) input device = GivesReadable gives input asked
  Shows (file path asked limit) input (Some device) = ReadsFile contents device asked limit
  Shows (file path asked limit) input None = ⊥
