-- The errors that a stream reader can return for its input.
-- (Arrow columnar format, "IPC Streaming Format".)
use Rattle.std.specs.Prelude.{◌≡◌, ◌⊎◌, ℕ, ◌≤◌}
use Rattle.ipc_devices.specs.declared.fault.Fault.{Fault}
use Rattle.ipc_devices.specs.declared.fault.Fault.TheVariants.{Ended, OutOfSpec, TooManyDictionaries}
use Rattle.ipc_devices.specs.declared.fault.OutOfSpecKind.TheVariants.{InvalidFlatbufferMessage, MissingMessageHeader, InvalidFlatbufferHeader, InvalidFlatbufferBodyLength, UnexpectedNegativeInteger, UnexpectedMessageType}
use Rattle.ipc_table_views.specs.Spot.{Spot}
use Rattle.ipc_model.specs.Batches.{Schema, chosen, kinds}
use Rattle.ipc_model.specs.Kinds.{count}
use Rattle.ipc_model.specs.Streams.{most_dictionaries}
use Rattle.ipc_read.specs.DictionaryBatches.{BlamesDictionary, IsDictionaryFault}
use Rattle.ipc_read.specs.Refusals.{IsFaultOfBatch}
use Rattle.ipc_readers.specs.ChosenStreams.{Request}
use Rattle.ipc_readers.specs.Frames.{IsFramingFault}

-- The errors of a message: its header or the length of its body is absent, invalid or
-- negative, or it is of another kind.
abbrev pub IsMessageFault : Fault → Type 0
IsMessageFault (OutOfSpec (InvalidFlatbufferMessage e)) = Unit {0}
IsMessageFault (OutOfSpec MissingMessageHeader) = Unit {0}
IsMessageFault (OutOfSpec (InvalidFlatbufferHeader e)) = Unit {0}
IsMessageFault (OutOfSpec (InvalidFlatbufferBodyLength e)) = Unit {0}
IsMessageFault (OutOfSpec UnexpectedNegativeInteger) = Unit {0}
IsMessageFault (OutOfSpec UnexpectedMessageType) = Unit {0}
IsMessageFault _ = ⊥

-- The errors of a record message: those of the requested columns and of the batch's
-- lists, and a body that isn't there.
abbrev pub IsRecordFault : Request → Fault → Type 0
IsRecordFault h e = let ts = kinds h.head.schema in IsFaultOfBatch ts (chosen h.projection (count ts)) e ⊎ (e ≡ Ended)

-- The errors of a dictionary message, if n came since the last record: those of its batch, a body
-- that isn't there, and that no more may come.
abbrev pub IsDictionaryMessageFault : Schema → ℕ → Spot → Fault → Type 0
IsDictionaryMessageFault schema n t e = BlamesDictionary schema t e ⊎ ((e ≡ Ended) ⊎ ((e ≡ TooManyDictionaries) × (most_dictionaries ≤ n)))

-- The errors of a stream with this request: those of a frame, a message, a
-- record batch or a dictionary batch.
abbrev pub IsStreamFault : Request → Fault → Type 0
IsStreamFault h e = IsFramingFault e ⊎ (IsMessageFault e ⊎ (IsRecordFault h e ⊎ (IsDictionaryFault e ⊎ (e ≡ TooManyDictionaries))))
