-- Messages as they are written.
-- (Arrow columnar format, "Encapsulated message format"; Flatbuffers, "Internals".)
use Rattle.std.specs.Prelude.{◌≡◌, ℕ, List, None}
use Rattle.ipc_table_bytes.specs.Encodes.{IsEncoding}
use Rattle.ipc_table_views.specs.declared.schema.MetadataVersion.TheVariants.{V5}
use Rattle.ipc_tables.specs.Messages.{message_slots}
use Rattle.ipc_tables.specs.declared.message.Message.{Message}

-- The bytes are a message of version V5 without metadata of its own: its fields and
-- nothing else. Texts end in a zero byte, sizes in vtables are right, and the parts
-- are aligned and don't overlap.
pub record IsWritten (bytes : List ℕ) : Type 0 where
  pub message : Message
  pub version : message.version ≡ V5
  pub bare : message.custom_metadata ≡ None
  pub encoding : IsEncoding bytes (message_slots message)
