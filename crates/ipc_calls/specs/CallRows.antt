-- Lists of calls, what they leave, and what they don't.
-- (Arrow columnar format, "IPC Streaming Format" and "IPC File Format".)
use Rattle.std.specs.Prelude.{◌≡◌, List, [], ◌∷◌, Option, Ok, Err, String, Vec}
use Rattle.std.specs.BTreeMap.{BTreeMap}
use Rattle.std.specs.Borrow.{Bor}
use Rattle.std.specs.declared.alloc.Global.{Global}
use Rattle.lower.specs.TypeTrees.{Pairs}
use Rattle.lower.specs.TypeViews.{pairs_of}
use Rattle.lower.specs.declared.datatypes.schema.Schema.{Schema}
use Rattle.lower_arrays.specs.declared.array.AnyArray.{AnyArray}
use Rattle.lower_types.specs.declared.Endianness.{Endianness}
use Rattle.ipc_base.specs.declared.ipc.IpcField.{IpcField}
use Rattle.ipc_devices.specs.declared.fault.Fault.{Fault}
use Rattle.ipc_devices.specs.declared.fault.Fault.TheVariants.{Argument}
use Rattle.ipc_devices.specs.declared.fault.ArgFault.TheVariants.{FieldsDiffer}
use Rattle.ipc_model.specs.Streams.{Head}
use Rattle.ipc_model.specs.WriterStates.{IsRun, answered, finished_writer, is_taken, new_writer, started_writer}
use Rattle.ipc_model.specs.Writers.{start_call, taken}
use Rattle.ipc_write.specs.Calls.{writer_in}
use Rattle.ipc_write.specs.Meaning.{chunk_written}
use Rattle.ipc_calls.specs.StreamCalls as streams
use Rattle.ipc_calls.specs.FileCalls as files
use Rattle.ipc_calls.specs.declared.streams.WriterCall.TheVariants as stream
use Rattle.ipc_calls.specs.declared.files.FileCall.TheVariants as file

-- Streams: s and t are two schemas, i and j ids of each, and h is the earlier head.
pub record BegunRows (o : Endianness) (s t : Bor Schema) (i j : Option (Bor (Vec IpcField Global))) (h : Head) (chunk : Bor (List AnyArray)) (ids : Option (Bor (List IpcField))) (e : Fault) : Type 0 where
  -- A refused `start` of another schema precedes the one that is Ok.
  pub refused_first : streams.head_left o (stream.Start s i ∷ stream.Start t j ∷ []) (Err e ∷ Ok tt ∷ []) h ≡ streams.head_begun o t j
  -- A second `start` is refused.
  pub second_refused : streams.head_left o (stream.Start s i ∷ stream.Start t j ∷ []) (Ok tt ∷ Err e ∷ []) h ≡ streams.head_begun o s i
  pub none_started : streams.head_left o (stream.Start s i ∷ stream.Finish ∷ []) (Err e ∷ Err e ∷ []) h ≡ h
  pub others_keep : streams.head_left o (stream.Start s i ∷ stream.Write chunk ids ∷ stream.Finish ∷ []) (Ok tt ∷ Ok tt ∷ Ok tt ∷ []) h ≡ streams.head_begun o s i
  -- A stream can't be started twice.
  pub second_start : ¬ IsRun (writer_in o new_writer) (streams.ended_as (stream.Start s i ∷ stream.Start t j ∷ []) (Ok tt ∷ Ok tt ∷ [])) (writer_in o started_writer)
  -- Other ids than those of `start` are refused, and the same chunk is
  -- accepted with those of `start`.
  pub other_ids : taken (answered (streams.ended_as (stream.Write chunk ids ∷ stream.Write chunk ids ∷ []) (Err (Argument FieldsDiffer) ∷ Ok tt ∷ []))) ≡ chunk_written chunk.now ∷ []

-- The cases of streams.
abbrev pub BegunRowsLaw : Type 0
BegunRowsLaw = (o : Endianness) (s t : Bor Schema) (i j : Option (Bor (Vec IpcField Global))) (h : Head) (chunk : Bor (List AnyArray)) (ids : Option (Bor (List IpcField))) (e : Fault) → BegunRows o s t i j h chunk ids e

-- Files: p and q are two maps of pairs, and ps are the earlier pairs.
pub record PairRows (o : Endianness) (p q : Bor (BTreeMap (String Global) (String Global))) (ps : Pairs) (chunk : Bor (List AnyArray)) (ids : Option (Bor (List IpcField))) (e : Fault) : Type 0 where
  pub set_twice : files.last_pairs (file.SetCustomMetadata p ∷ file.Start ∷ file.SetCustomMetadata q ∷ []) (Ok tt ∷ Ok tt ∷ Ok tt ∷ []) ps ≡ pairs_of q.now.entries
  pub second_refused : files.last_pairs (file.SetCustomMetadata p ∷ file.SetCustomMetadata q ∷ []) (Ok tt ∷ Err e ∷ []) ps ≡ pairs_of p.now.entries
  -- Pairs that are set after the end are refused.
  pub behind_the_end : files.last_pairs (file.SetCustomMetadata p ∷ file.Finish ∷ file.SetCustomMetadata q ∷ []) (Ok tt ∷ Ok tt ∷ Err e ∷ []) ps ≡ pairs_of p.now.entries
  pub none_set : files.last_pairs (file.Start ∷ file.Write chunk ids ∷ file.Finish ∷ []) (Ok tt ∷ Ok tt ∷ Ok tt ∷ []) ps ≡ ps
  -- Setting pairs doesn't change the state of the writer.
  pub stays_new : files.ended_as (file.SetCustomMetadata p ∷ file.Start ∷ []) (Ok tt ∷ Ok tt ∷ []) ≡ (start_call, is_taken) ∷ []
  pub no_start : ¬ IsRun (writer_in o new_writer) (files.ended_as (file.SetCustomMetadata p ∷ file.Finish ∷ []) (Ok tt ∷ Ok tt ∷ [])) (writer_in o finished_writer)
  pub other_ids : taken (answered (files.ended_as (file.Write chunk ids ∷ file.SetCustomMetadata p ∷ file.Write chunk ids ∷ []) (Err (Argument FieldsDiffer) ∷ Ok tt ∷ Ok tt ∷ []))) ≡ chunk_written chunk.now ∷ []

-- The cases of files.
abbrev pub PairRowsLaw : Type 0
PairRowsLaw = (o : Endianness) (p q : Bor (BTreeMap (String Global) (String Global))) (ps : Pairs) (chunk : Bor (List AnyArray)) (ids : Option (Bor (List IpcField))) (e : Fault) → PairRows o p q ps chunk ids e
