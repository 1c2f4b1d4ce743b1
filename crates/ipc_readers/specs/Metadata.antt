-- What the schema message says with which a stream begins.
-- (Arrow columnar format, "Schema message".)
use Rattle.std.specs.Prelude.{◌≡◌, ◌⊎◌, ◌≤◌, ℕ, length, List, Option, Some, None, option_map, Result, Ok, Err}
use Rattle.std.specs.Result.{result_ok}
use Rattle.ipc_devices.specs.Faults.{OwnFault}
use Rattle.ipc_devices.specs.Gives.{AnswerStop, Gives, GaveTo}
use Rattle.ipc_devices.specs.declared.fault.Fault.{Fault}
use Rattle.ipc_devices.specs.declared.fault.Fault.TheVariants.{Ended, OutOfSpec, Schema as BadSchema}
use Rattle.ipc_devices.specs.declared.fault.OutOfSpecKind.TheVariants.{InvalidFlatbufferVersion}
use Rattle.ipc_devices.specs.declared.fault.SchemaFault.TheVariants.{NotASchema, Table}
use Rattle.ipc_devices.specs.declared.fault.TableFault.{TableFault}
use Rattle.ipc_table_views.specs.declared.schema.MetadataVersion.{MetadataVersion}
use Rattle.ipc_table_views.specs.MessageSlots.{message_version}
use Rattle.ipc_table_views.specs.Spot.{Spot}
use Rattle.ipc_table_views.specs.Tables.{root_at}
use Rattle.ipc_schema.specs.Reading.{RefusesMessage}
use Rattle.ipc_schema.specs.Views.{schema_seen}
use Rattle.ipc_model.specs.Batches.{Schema}
use Rattle.ipc_model.specs.Schemas.{given, schema_of}
use Rattle.ipc_model.specs.Frame.{Frame, message, mark, waiting, broken, frame}
use Rattle.ipc_readers.specs.declared.read.stream.metadata.StreamMetadata.{StreamMetadata}
use Rattle.ipc_readers.specs.Frames.{due, frame_fault}

-- The version of a message, or the error in it.
abbrev pub version_slot : Result MetadataVersion TableFault → Result MetadataVersion Fault
version_slot (Ok v) = Ok v
version_slot (Err e) = Err (OutOfSpec (InvalidFlatbufferVersion e))

-- The version of a message, by its table, or the error in it.
abbrev pub table_version : Result Spot TableFault → Result MetadataVersion Fault
table_version (Ok t) = version_slot (message_version t)
table_version (Err e) = Err (BadSchema (Table e))

-- The version that a message states.
unfoldable pub version_at : List ℕ → Result MetadataVersion Fault
version_at m = table_version (root_at m)

-- A schema with its ids and byte order, and the version of the metadata.
abbrev pub MetadataSeen : Type 0
MetadataSeen = Schema × MetadataVersion

-- What was read of a schema message, as its meaning has it.
abbrev pub metadata_seen : StreamMetadata → MetadataSeen
metadata_seen m = (schema_seen (m.schema, m.ipc_schema), m.version)

-- What a schema message says.
unfoldable pub metadata_at : List ℕ → Option MetadataSeen
metadata_at m = given (schema_of m) (λ schema. option_map (λ version. (schema, version)) (result_ok (version_at m)))

-- A schema message is refused for its schema, or for its version.
abbrev pub RefusesMetadata : Fault → List ℕ → Type 0
RefusesMetadata e m = RefusesMessage e m ⊎ (version_at m ≡ Err e)

-- The result is what the first message of xs says, and `rest` is left. If the message is
-- refused, it says nothing, for the reason that the error names. The error of a broken frame
-- goes by the length that it states.
abbrev pub GivesMetadata : (xs : List ℕ) → Frame → Result StreamMetadata Fault → (rest : List ℕ) → Type 0
GivesMetadata xs (message m behind) (Ok x) rest = (metadata_at m ≡ Some (metadata_seen x)) × (rest ≡ behind)
GivesMetadata xs (message m behind) (Err e) rest = OwnFault e ((metadata_at m ≡ None) × RefusesMetadata e m)
GivesMetadata xs (mark behind) (Err e) rest = OwnFault e (e ≡ BadSchema NotASchema)
GivesMetadata xs (waiting begun) (Err e) rest = OwnFault e (e ≡ Ended)
GivesMetadata xs broken (Err e) rest = OwnFault e (e ≡ frame_fault xs)
GivesMetadata xs _ (Ok x) rest = ⊥

-- Of any device at most one frame was read, and all of it if the result is Ok. The result is right
-- whatever bytes follow (`GivesMetadata`).
abbrev pub MetadataGave : {S : Type 0} → Gives S → S → Result StreamMetadata Fault → S → Type 0
MetadataGave gives a r b = GaveTo gives (AnswerStop r) (λ xs. length xs ≤ due xs) (λ all rest. GivesMetadata all (frame all) r rest) a b
