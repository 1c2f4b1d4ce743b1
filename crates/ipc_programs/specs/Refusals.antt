-- Why `ipconvert` doesn't do what is requested: an error names a condition that holds.
use Rattle.std.specs.Prelude.{◌≡◌, ◌⊎◌, IsTrue, List, [], Option, None, Some}
use Rattle.lower.specs.TypeTrees.{Pairs}
use Rattle.ipc_devices.specs.Gives.{Gives}
use Rattle.ipc_devices.specs.declared.fault.Fault.{Fault}
use Rattle.ipc_encode.specs.declared.common.WriteOptions.{WriteOptions}
use Rattle.ipc_model.specs.Batches.{Chunk, Schema}
use Rattle.ipc_write.specs.Writers.{order_of}
use Rattle.ipc_convert.specs.Refusals.{CopyFileCause, CopyStreamCause, AppendedFileCause, HoldsOfGiven, AppendedStreamCause, AsFileCause, AsStreamCause}
use Rattle.ipc_devices.specs.Device.{Device}
use Rattle.ipc_programs.specs.ConvertWords.{Wanted, copy, append}
use Rattle.ipc_programs.specs.declared.convert.forms.Target.{Target}
use Rattle.ipc_programs.specs.declared.convert.forms.Target.TheVariants.{Stream, File as FileTarget}

-- Why an output isn't written: for a stream the schema or a chunk can't be written; for a file
-- these with its pairs, or its end.
abbrev pub TargetCause : {O : Type 0} → Device O → O → Target → WriteOptions → (List Chunk → Type 0) → Schema → Pairs → Fault → Type 0
TargetCause d out Stream options first schema pairs e = AsStreamCause first schema e
TargetCause d out FileTarget options first schema pairs e = AsFileCause d out (order_of options) pairs first schema e

-- Why the stream of an input isn't written to the target: what was read can't be read as a stream,
-- or what it means can't be written, without pairs.
abbrev pub CopyInputCause : {R O : Type 0} → Gives R → Device R → R → Device O → O → Target → WriteOptions → Fault → Type 0
CopyInputCause gives source input d out target options e =
    HoldsOfGiven gives source input (λ bytes. CopyStreamCause (λ first schema fault. TargetCause d out target options first schema [] fault) bytes e)

-- Why the file at offset 0 of a device that is memory isn't written to the target, with its pairs.
abbrev pub CopyOpenedCause : {F O : Type 0} → Device F → F → Device O → O → Target → WriteOptions → Fault → Type 0
CopyOpenedCause contents file d out target options e =
    IsTrue contents.is_memory → (contents.memory file).place ≡ 0 → CopyFileCause (TargetCause d out target options) (contents.memory file).whole e

-- Why the stream isn't appended to such a file: that can't be appended to, or the stream is
-- refused.
abbrev pub AppendInputCause : {R F : Type 0} → Gives R → Device R → R → Device F → F → Fault → Type 0
AppendInputCause gives source input contents file e =
    IsTrue contents.is_memory → (contents.memory file).place ≡ 0 → AppendedFileCause contents.is_memory (contents.memory file).whole e ⊎ AppendedStreamCause contents file gives source input e

-- `gives` and `source` say what is known of the input, `contents` of the file to read, `kept` of
-- the file to append to, and `d` of the output.
module _ {R F A O : Type 0} (gives : Gives R) (source : Device R) (contents : Device F) (kept : Device A) (d : Device O) where
  -- Why what is requested isn't done. If the file couldn't be opened, the only errors are
  -- those of a device or of allocation.
  abbrev pub AskedCause : Wanted → R → Option F → Option A → O → Fault → Type 0
  AskedCause (copy None target options) input file appended out e = CopyInputCause gives source input d out target options e
  AskedCause (copy (Some path) target options) input (Some device) appended out e = CopyOpenedCause contents device d out target options e
  AskedCause (copy (Some path) target options) input None appended out e = ⊥
  AskedCause (append path) input file (Some device) out e = AppendInputCause gives source input kept device e
  AskedCause (append path) input file None out e = ⊥
