-- The messages of a chunk, as they are in a stream.
-- (Arrow columnar format, "Encapsulated message format".)
use Rattle.std.specs.Prelude.{ℕ, List, [], ◌∷◌, ◌++◌}
use Rattle.lower_arrays.specs.Layouts.{Layout}
use Rattle.ipc_chunks.specs.Messages.{Message, RefusesMessages, dictionaries_seen, message_seen}
use Rattle.ipc_chunks.specs.declared.messages.Messages.{Messages}
use Rattle.ipc_devices.specs.declared.fault.Fault.{Fault}
use Rattle.ipc_devices.specs.declared.fault.Fault.TheVariants.{Io}
use Rattle.ipc_model.specs.Offers.{FilledPlace}
use Rattle.ipc_write.specs.Framing.{message_bytes}

-- The messages of a chunk, in their order.
abbrev pub all_seen : Messages → List Message
all_seen ms = dictionaries_seen ms ++ message_seen ms.record_batch ∷ []

-- Messages as they are in a stream, one after the other.
abbrev pub messages_bytes : List Message → List ℕ
messages_bytes [] = []
messages_bytes (m ∷ ms) = message_bytes m.metadata m.body ++ messages_bytes ms

-- Why the messages of a chunk aren't sent, or the device fails.
abbrev pub RefusesHanding : List FilledPlace → List Layout → Fault → Type 0
RefusesHanding list columns (Io e) = Unit {0}
RefusesHanding list columns e = RefusesMessages list columns e
