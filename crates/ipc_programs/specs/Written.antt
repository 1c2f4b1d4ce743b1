-- What `ipconvert` has written if it succeeds.
use Rattle.std.specs.Prelude.{◌≡◌, IsTrue, [], Option, None, Some}
use Rattle.ipc_devices.specs.Device.{Device, Memory}
use Rattle.ipc_devices.specs.Gives.{Gives}
use Rattle.ipc_encode.specs.declared.common.WriteOptions.{WriteOptions}
use Rattle.ipc_model.specs.Streams.{marked}
use Rattle.ipc_write.specs.Writers.{order_of}
use Rattle.ipc_convert.specs.Copies.{AppendsTo, CopiesFileOf, CopiesStream, WritesFile, WritesStream}
use Rattle.ipc_programs.specs.ConvertWords.{Wanted, copy, append}
use Rattle.ipc_programs.specs.declared.convert.forms.Target.{Target}
use Rattle.ipc_programs.specs.declared.convert.forms.Target.TheVariants.{Stream, File as FileTarget}

-- The stream that was read of an input was written to the target: as a stream with the same
-- end, or as a file without pairs.
abbrev pub CopiesInput : {R : Type 0} → Gives R → (a b : R) → Target → WriteOptions → (old new : Memory) → Type 0
CopiesInput gives a b Stream options old new = CopiesStream gives a b (WritesStream (order_of options) old new)
CopiesInput gives a b FileTarget options old new = CopiesStream gives a b (λ schema cs _. WritesFile (order_of options) old new schema [] cs)

-- The file at offset 0 of a device that is memory was written to the target. It is a stream that
-- ends with the mark, or a file with its pairs.
abbrev pub CopiesOpened : {F : Type 0} → Device F → F → Target → WriteOptions → (old new : Memory) → Type 0
CopiesOpened d file Stream options old new = CopiesFileOf d file (λ schema _ cs. WritesStream (order_of options) old new schema cs marked)
CopiesOpened d file FileTarget options old new = CopiesFileOf d file (WritesFile (order_of options) old new)

-- `gives` says which bytes the input gives, `d` what is known of the device of a file.
module _ {R F : Type 0} (gives : Gives R) (d : Device F) where
  -- If a copy was requested, it was written after the earlier bytes of the output: of the input,
  -- or of the file that was opened.
  abbrev pub CopiesAsAsked : Wanted → (a b : R) → Option F → (old new : Memory) → Type 0
  CopiesAsAsked (copy None target options) a b file old new = CopiesInput gives a b target options old new
  CopiesAsAsked (copy (Some path) target options) a b (Some device) old new = CopiesOpened d device target options old new
  CopiesAsAsked (copy (Some path) target options) a b None old new = ⊥
  CopiesAsAsked (append path) a b file old new = Unit {0}

  -- If appending was requested, the file was opened, and the stream of the input was appended to it
  -- in a state of its device, which keeps nothing back then. Up to that state no call of the device
  -- failed.
  abbrev pub Appended : Wanted → (a b : R) → Option F → Type 0
  Appended (copy from target options) a b file = Unit {0}
  Appended (append path) a b None = ⊥
  Appended (append path) a b (Some device) = (last : F) × (d.failures last ≡ d.failures device) × IsTrue (d.is_flushed last)
      × (IsTrue d.is_memory → (d.memory device).place ≡ 0 → CopiesStream gives a b (λ schema cs _. AppendsTo (d.memory device).whole (d.memory last).whole schema cs))
