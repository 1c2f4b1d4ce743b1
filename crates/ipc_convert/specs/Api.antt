-- What each copy of streams and files does.
-- (Arrow columnar format, "IPC Streaming Format" and "IPC File Format".)
use Rattle.std.specs.Prelude.{◌≡◌, ◌⊎◌, [], IfErr, IfOk, IsTrue, Result}
use Rattle.lower_types.specs.declared.Endianness.{Endianness}
use Rattle.ipc_devices.specs.Device.{Device, IsAnswered}
use Rattle.ipc_devices.specs.Faults.{IfIo, OnIo, OwnFault}
use Rattle.ipc_devices.specs.Gives.{Gives}
use Rattle.ipc_devices.specs.declared.fault.Fault.{Fault}
use Rattle.ipc_model.specs.Streams.{marked}
use Rattle.ipc_file_write.specs.Appends.{DeviceFails}
use Rattle.ipc_convert.specs.Chunks.{NoneFailed}
use Rattle.ipc_convert.specs.Copies.{AppendsTo, CopiesFileOf, CopiesStream, TakesStream, WritesFile, WritesStream}
use Rattle.ipc_convert.specs.Failures.{OutputFails}
use Rattle.ipc_convert.specs.Refusals.{CopyFileCause, CopyStreamCause, AppendedFileCause, HoldsOfGiven, AppendedStreamCause, AsFileCause, AsStreamCause}

-- What a copy from device a to device v says of the two.
pub record CopyDevices {S T : Type 0} (from : Device S) (to : Device T) (a : S) (v : T) (r : Result (S × T) Fault) : Type 0 where
  -- On `Ok` no call of either failed.
  pub done : IfOk r (λ devices. NoneFailed from.failures to.failures a v devices.0 devices.1)
  -- On `Ok` the two that are returned are the same devices.
  pub names : IfOk r (λ devices. (from.names devices.0 ≡ from.names a) × (to.names devices.1 ≡ to.names v))
  -- `Io` is returned only if a call of one of them failed, or memory couldn't grow.
  pub failed : OnIo r (DeviceFails from.failures a ⊎ OutputFails to v)
  -- An `Io` is an error that one of them returned.
  pub answered : IfIo r (λ e. IsAnswered from e ⊎ IsAnswered to e)

-- `stream_to_stream`: a copy of the stream `input` as a stream to `out`.
pub record CopiesStreamToStream {R W : Type 0} (gives : Gives R) (from : Device R) (to : Device W) (order : Endianness) (input : R) (out : W) (r : Result (R × W) Fault) : Type 0 where
  -- Writing to memory, on `Ok`: the schema, the chunks and the end of the stream were written.
  pub exact : IsTrue to.is_memory → IfOk r (λ devices. CopiesStream gives input devices.0 (WritesStream order (to.memory out) (to.memory devices.1)))
  -- Why there is an error: the stream is invalid, or can't be written.
  pub causes : IfErr r (λ e. OwnFault e (HoldsOfGiven gives from input (λ bytes. CopyStreamCause AsStreamCause bytes e)))
  -- What is known of the two devices.
  pub device : CopyDevices from to input out r
  -- On `Ok` the bytes that were read are a valid stream, and no byte more.
  pub takes : IfOk r (λ devices. TakesStream gives input devices.0)

-- `stream_to_file`: a copy of the stream `input` as a file to `out`.
pub record CopiesStreamToFile {R W : Type 0} (gives : Gives R) (from : Device R) (to : Device W) (order : Endianness) (input : R) (out : W) (r : Result (R × W) Fault) : Type 0 where
  -- Writing to memory, on `Ok`: a file of the schema and the chunks of the stream was written.
  pub exact : IsTrue to.is_memory → IfOk r (λ devices. CopiesStream gives input devices.0 (λ schema chunks _. WritesFile order (to.memory out) (to.memory devices.1) schema [] chunks))
  -- On `Ok` the output keeps nothing back.
  pub flushed : IfOk r (λ devices. IsTrue (to.is_flushed devices.1))
  -- Why there is an error: the stream is invalid, or can't be written.
  pub causes : IfErr r (λ e. OwnFault e (HoldsOfGiven gives from input (λ bytes. CopyStreamCause (AsFileCause to out order []) bytes e)))
  -- What is known of the two devices.
  pub device : CopyDevices from to input out r
  -- On `Ok` the bytes that were read are a valid stream, and no byte more.
  pub takes : IfOk r (λ devices. TakesStream gives input devices.0)

-- `file_to_stream`: a copy of the file `file` as a stream to `out`.
pub record CopiesFileToStream {F W : Type 0} (from : Device F) (to : Device W) (order : Endianness) (file : F) (out : W) (r : Result (F × W) Fault) : Type 0 where
  -- Writing to memory, on `Ok`: a finished stream of the schema and the chunks was written.
  pub exact : IsTrue to.is_memory → IfOk r (λ devices. CopiesFileOf from file (λ schema _ chunks. WritesStream order (to.memory out) (to.memory devices.1) schema chunks marked))
  -- On `Ok` the output keeps nothing back.
  pub flushed : IfOk r (λ devices. IsTrue (to.is_flushed devices.1))
  -- Why there is an error, if the file is in memory: it is invalid, or can't be written.
  pub causes : IsTrue from.is_memory → (from.memory file).place ≡ 0
      → IfErr r (λ e. OwnFault e (CopyFileCause (λ first schema _ fault. AsStreamCause first schema fault) (from.memory file).whole e))
  -- What is known of the two devices.
  pub device : CopyDevices from to file out r

-- `file_to_file`: a copy of the file `file` as a file to `out`.
pub record CopiesFileToFile {F W : Type 0} (from : Device F) (to : Device W) (order : Endianness) (file : F) (out : W) (r : Result (F × W) Fault) : Type 0 where
  -- Writing to memory, on `Ok`: a file of the schema, the pairs and the chunks was written.
  pub exact : IsTrue to.is_memory → IfOk r (λ devices. CopiesFileOf from file (WritesFile order (to.memory out) (to.memory devices.1)))
  -- On `Ok` the output keeps nothing back.
  pub flushed : IfOk r (λ devices. IsTrue (to.is_flushed devices.1))
  -- Why there is an error, if the file is in memory: it is invalid, or can't be written.
  pub causes : IsTrue from.is_memory → (from.memory file).place ≡ 0
      → IfErr r (λ e. OwnFault e (CopyFileCause (λ first schema pairs. AsFileCause to out order pairs first schema) (from.memory file).whole e))
  -- What is known of the two devices.
  pub device : CopyDevices from to file out r

-- What `append_stream` says of the device of the file and that of the stream.
pub record AppendDevices {F R : Type 0} (to : Device F) (from : Device R) (v : F) (a : R) (r : Result (F × R) Fault) : Type 0 where
  -- On `Ok` no call of either failed.
  pub done : IfOk r (λ devices. NoneFailed to.failures from.failures v a devices.0 devices.1)
  -- On `Ok` the two that are returned are the same devices.
  pub names : IfOk r (λ devices. (to.names devices.0 ≡ to.names v) × (from.names devices.1 ≡ from.names a))
  -- `Io` is returned only if a call of one of them failed, or memory couldn't grow.
  pub failed : OnIo r (DeviceFails from.failures a ⊎ OutputFails to v)
  -- An `Io` is an error that one of them returned.
  pub answered : IfIo r (λ e. IsAnswered from e ⊎ IsAnswered to e)

-- `append_stream`: the chunks of the stream `input` were appended to the file `file`.
pub record AppendsStream {F R : Type 0} (gives : Gives R) (to : Device F) (from : Device R) (file : F) (input : R) (r : Result (F × R) Fault) : Type 0 where
  -- If the file is in memory, on `Ok`: it has the chunks of the stream more, and keeps its own.
  pub exact : IsTrue to.is_memory → (to.memory file).place ≡ 0
      → IfOk r (λ devices. CopiesStream gives input devices.1 (λ schema chunks _. AppendsTo (to.memory file).whole (to.memory devices.0).whole schema chunks))
  -- On `Ok` the file's device keeps nothing back.
  pub flushed : IfOk r (λ devices. IsTrue (to.is_flushed devices.0))
  -- Why there is an error, if the file is in memory: it can't be appended to, the stream is
  -- invalid, or its schema or a chunk can't be written.
  pub causes : IsTrue to.is_memory → (to.memory file).place ≡ 0
      → IfErr r (λ e. OwnFault e (AppendedFileCause to.is_memory (to.memory file).whole e ⊎ AppendedStreamCause to file gives from input e))
  -- What is known of the two devices.
  pub device : AppendDevices to from file input r
  -- On `Ok` the bytes that were read are a valid stream, and no byte more.
  pub takes : IfOk r (λ devices. TakesStream gives input devices.1)
