-- What reading a footer returns: what it says, or which part of it is invalid.
-- (Arrow columnar format, "IPC File Format"; File.fbs.)
use Rattle.std.specs.Prelude.{◌≡◌, Vec, List, Option, Some, None, IsSomeAnd, option_map, Result, Ok, Err}
use Rattle.std.specs.declared.alloc.Global.{Global}
use Rattle.ipc_devices.specs.Faults.{OwnFault}
use Rattle.ipc_devices.specs.declared.fault.Fault.{Fault}
use Rattle.ipc_devices.specs.declared.fault.Fault.TheVariants.{Memory, OutOfSpec, Schema as BadSchema}
use Rattle.ipc_devices.specs.declared.fault.OutOfSpecKind.TheVariants.{InvalidFlatbufferFooter, MissingRecordBatches, InvalidFlatbufferRecordBatches, MissingSchema, InvalidFlatbufferSchema, MissingFields, InvalidFlatbufferDictionaries}
use Rattle.ipc_devices.specs.declared.fault.SchemaFault.TheVariants.{NotASchema}
use Rattle.ipc_devices.specs.declared.fault.TableFault.{TableFault}
use Rattle.lower.specs.TypeViews.{pairs_of}
use Rattle.ipc_table_views.specs.FileSlots.{footer_schema, footer_dictionaries, footer_record_batches, footer_custom_metadata}
use Rattle.ipc_table_views.specs.SchemaSlots.{schema_fields}
use Rattle.ipc_table_views.specs.Spot.{Spot}
use Rattle.ipc_table_views.specs.declared.file.Block.{Block}
use Rattle.ipc_schema.specs.Views.{schema_seen}
use Rattle.ipc_model.specs.Files.{FileMetadata as Meaning, or_no_blocks}
use Rattle.ipc_model.specs.Schemas.{made, present, given, pairs_at, schema_at}
use Rattle.ipc_files.specs.declared.read.file.metadata.FileMetadata.{FileMetadata}

-- ---- what is read, as the meaning of a file has it

-- The blocks of a list that may be absent.

abbrev pub optional_blocks : Option (Vec Block Global) → Option (List Block)
optional_blocks o = option_map (λ blocks. blocks.items) o

-- The metadata that were read, as the meaning of a file has them.
abbrev pub file_seen : FileMetadata → Meaning
file_seen m = record {
  schema = schema_seen (m.schema, m.ipc_schema);
  pairs = pairs_of m.custom_metadata.entries;
  dictionaries = or_no_blocks (optional_blocks m.dictionaries);
  blocks = m.blocks.items;
  size = m.size;
}

-- ---- results

-- The result is Ok exactly if there is a meaning, unless an allocation or the device fails;
-- its value is then that meaning.
abbrev pub GivesPart : {X Y : Type 0} → (X → Y) → Result X Fault → Option Y → Type 0
GivesPart view (Ok x) meaning = meaning ≡ Some (view x)
GivesPart view (Err e) meaning = OwnFault e (meaning ≡ None)

-- A field of the footer that has no error of its own: an invalid one is
-- reported as an invalid footer.
abbrev pub in_footer : {A : Type 0} → Result A TableFault → Result A Fault
in_footer (Ok x) = Ok x
in_footer (Err e) = Err (OutOfSpec (InvalidFlatbufferFooter e))

-- An allocation failed, or a pair is invalid and P holds; no other error comes.
abbrev pub RefusesPairs : Fault → Type 0 → Type 0
RefusesPairs Memory P = Unit {0}
RefusesPairs (OutOfSpec (InvalidFlatbufferFooter e)) P = P
RefusesPairs _ P = ⊥

-- The result is Ok exactly if the pairs have a meaning, unless an allocation fails.
abbrev pub GivesPairs : {X Y : Type 0} → (X → Y) → Result X Fault → Option Y → Type 0
GivesPairs view (Ok x) meaning = meaning ≡ Some (view x)
GivesPairs view (Err e) meaning = RefusesPairs e (meaning ≡ None)

-- ---- which error refuses a footer

-- A schema without a vector of fields.
abbrev pub LacksFields : Option Spot → Type 0
LacksFields (Some s) = schema_fields s ≡ Ok None
LacksFields None = ⊥

-- Each error says something about the field of the footer's table that it names. An error of the
-- schema says that there is a schema without a meaning.
abbrev pub FooterFault : Fault → Spot → Type 0
FooterFault Memory t = Unit {0}
FooterFault (OutOfSpec (InvalidFlatbufferFooter e)) t = given (made (footer_custom_metadata t)) pairs_at ≡ None
FooterFault (OutOfSpec MissingRecordBatches) t = footer_record_batches t ≡ Ok None
FooterFault (OutOfSpec (InvalidFlatbufferRecordBatches e)) t = footer_record_batches t ≡ Err e
FooterFault (OutOfSpec MissingSchema) t = footer_schema t ≡ Ok None
FooterFault (OutOfSpec (InvalidFlatbufferSchema e)) t = footer_schema t ≡ Err e
FooterFault (OutOfSpec MissingFields) t = LacksFields (present (footer_schema t))
FooterFault (OutOfSpec (InvalidFlatbufferDictionaries e)) t = footer_dictionaries t ≡ Err e
FooterFault (BadSchema NotASchema) t = ⊥
FooterFault (BadSchema e) t = IsSomeAnd (present (footer_schema t)) (λ s. schema_at s ≡ None)
FooterFault _ t = ⊥

-- By each error, what is wrong with a footer whose root may be invalid.
abbrev pub RootFault : Fault → Result Spot TableFault → Type 0
RootFault e (Ok t) = FooterFault e t
RootFault e (Err f) = e ≡ OutOfSpec (InvalidFlatbufferFooter f)
