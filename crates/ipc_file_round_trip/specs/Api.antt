-- What the calls on whole files do.
-- (Arrow columnar format, "IPC File Format".)
use Rattle.std.specs.Prelude.{ℕ, IfErr, IfOk, List, Option, Result}
use Rattle.lower.specs.TypeTrees.{FieldTrees, Pairs}
use Rattle.lower_types.specs.declared.Endianness.{Endianness}
use Rattle.ipc_base.specs.IdTrees.{IdTrees}
use Rattle.ipc_devices.specs.Faults.{OnIo, OwnFault}
use Rattle.ipc_devices.specs.declared.fault.Fault.{Fault}
use Rattle.ipc_model.specs.Entries.{Limit}
use Rattle.ipc_model.specs.WriterStates.{answered}
use Rattle.ipc_model.specs.Writers.{taken}
use Rattle.ipc_write.specs.Calls.{ended_as}
use Rattle.ipc_write.specs.declared.calls.StreamCall.{StreamCall}
use Rattle.ipc_file_write.specs.WrittenFiles.{RefusesWholeFile, RunsToFile}
use Rattle.ipc_file_round_trip.specs.Laws.{ReadableStreamLaw, StreamLaw}
use Rattle.ipc_file_round_trip.specs.Reading.{HaveFirstRows, ReadingCause, ReadsColumns}
use Rattle.ipc_file_round_trip.specs.RoundTrip.{ComesBack, ReadsWritten}
use Rattle.ipc_file_round_trip.specs.declared.read.WholeFile.{WholeFile}
use Rattle.ipc_file_round_trip.specs.declared.round_trip.FileRoundTrip.{FileRoundTrip}

-- `read_file_columns`: these columns of a file in memory were read, and at most so many rows.
pub record ReadsFileColumns (p : Option (List ℕ)) (limit : Limit) (bytes : List ℕ) (r : Result (Option WholeFile) Fault) : Type 0 where
  -- It is `Ok` exactly if the file can be read so, and gives what the file means.
  pub exact : ReadsColumns p limit bytes r
  -- Why there is an error.
  pub causes : IfErr r (λ e. OwnFault e (ReadingCause p limit bytes e))
  -- `Io` never comes.
  pub device : OnIo r ⊥
  -- The joined rows of the chunks are the first rows of the columns.
  pub rows : IfOk r (HaveFirstRows p limit bytes)

-- `file_round_trip`: what these calls of a file writer wrote to memory was read back.
pub record MakesFileRoundTrip (order : Endianness) (fields : FieldTrees) (metadata : Pairs) (ids : IdTrees) (pairs : Pairs) (calls : List StreamCall) (r : Result FileRoundTrip Fault) : Type 0 where
  -- On `Ok` the file has the schema, the pairs and the chunks whose `write` returned `Ok`.
  pub exact : IfOk r (λ t. ComesBack t.file order fields metadata ids pairs (taken (answered (ended_as calls t.answers.items))))
  -- Why there is an error.
  pub causes : IfErr r (RefusesWholeFile order fields metadata ids pairs calls)
  -- What was read is all that the written bytes mean.
  pub means : IfOk r (λ t. ReadsWritten t.file order fields metadata ids pairs (taken (answered (ended_as calls t.answers.items))))
  -- The results are those of the calls, and the file was finished.
  pub run : IfOk r (λ t. RunsToFile order fields metadata ids pairs calls t.answers.items)

-- Without its first eight bytes, a written file is a stream of the same schema and chunks.
pub record FilesAreStreams : Type 0 where
  -- What is read of it is what was written.
  pub means : StreamLaw
  -- It can be read.
  pub readable : ReadableStreamLaw
