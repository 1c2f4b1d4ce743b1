-- The result of reading a schema.
-- (Arrow columnar format, "Schema message"; Schema.fbs and Message.fbs.)
use Rattle.std.specs.Prelude.{◌≡◌, ℕ, ◌+◌, ◌<◌, ◌≤◌, nat_eq, Bool, false, if◌then◌else◌, List, option_map, Option, Some, None, IfSome, Result, Ok, Err}
use Rattle.ipc_devices.specs.Faults.{OwnFault}
use Rattle.ipc_devices.specs.declared.fault.TableFault.{TableFault}
use Rattle.ipc_devices.specs.declared.fault.SchemaFault.TheVariants.{NotASchema, Table}
use Rattle.ipc_devices.specs.declared.fault.Fault.{Fault}
use Rattle.ipc_devices.specs.declared.fault.Fault.TheVariants.{Memory, OutOfSpec, Schema as BadSchema}
use Rattle.ipc_devices.specs.declared.fault.OutOfSpecKind.TheVariants.{MissingFields}
use Rattle.ipc_table_views.specs.MessageSlots.{message_header}
use Rattle.ipc_table_views.specs.SchemaSlots.{schema_custom_metadata, schema_endianness, schema_fields}
use Rattle.ipc_table_views.specs.Spot.{Spot, Vector}
use Rattle.ipc_table_views.specs.Tables.{root_at}
use Rattle.ipc_model.specs.Batches.{Schema as Meaning}
use Rattle.ipc_model.specs.Schemas.{given, made, pairs_at, present, schema_at, schema_of}

-- An allocation failed, or P holds of an error of a type, a field or their
-- metadata; no other error comes.
abbrev pub RefusesWith : Fault → Type 0 → Type 0
RefusesWith Memory P = Unit {0}
RefusesWith (BadSchema NotASchema) P = ⊥
RefusesWith (BadSchema e) P = P
RefusesWith _ P = ⊥

-- The result is Ok exactly if the bytes have a meaning, unless an allocation fails;
-- its value is then that meaning.
abbrev pub AnswersMeaning : {X Y : Type 0} → (X → Y) → Result X Fault → Option Y → Type 0
AnswersMeaning view (Ok x) meaning = meaning ≡ Some (view x)
AnswersMeaning view (Err e) meaning = RefusesWith e (meaning ≡ None)

-- With a count of visited field tables, which may go up to `most`: an Ok value is the meaning, and
-- took as many visits as `count` says. An error says that there is no meaning, or one with more
-- visits than are left, unless an allocation fails.
abbrev pub GivesWithin : {X Y : Type 0} → (X → Y) → (Y → ℕ) → (most before after : ℕ) → Result X Fault → Option Y → Type 0
GivesWithin view count most before after (Ok x) meaning = (meaning ≡ Some (view x)) × (after ≡ before + count (view x))
GivesWithin view count most before after (Err e) meaning = RefusesWith e (IfSome meaning (λ y. most < before + count y))

-- A count of visits doesn't decrease, and is at most `most` afterwards.
abbrev pub IsWithin : (before after most : ℕ) → Type 0
IsWithin before after most = (before ≤ after) × (after ≤ most)

-- A field of a schema's table: an invalid one is an error of the schema.
abbrev pub in_schema : {A : Type 0} → Result A TableFault → Result A Fault
in_schema (Ok x) = Ok x
in_schema (Err e) = Err (BadSchema (Table e))

-- ---- which error refuses a schema

-- By each error, what is wrong with a schema's table. Only an absent vector of
-- fields is reported as missing.
abbrev pub RefusesTable : Fault → Spot → Type 0
RefusesTable (OutOfSpec MissingFields) t = (schema_fields t ≡ Ok None) × (schema_at t ≡ None)
RefusesTable e t = RefusesWith e (schema_at t ≡ None)

-- The result is Ok exactly if the schema's table has a meaning, unless an allocation fails.
abbrev pub GivesTable : {X : Type 0} → (X → Meaning) → Result X Fault → Spot → Type 0
GivesTable view (Ok x) t = schema_at t ≡ Some (view x)
GivesTable view (Err e) t = RefusesTable e t

-- The header of a message is a schema.
abbrev pub is_schema : Option (ℕ × Spot) → Bool
is_schema None = false
is_schema (Some h) = nat_eq h.0 1

-- Whether the header of a message is a schema, if it is valid.
abbrev pub has_schema : List ℕ → Option Bool
has_schema m = given (made (root_at m)) (λ t. option_map is_schema (made (message_header t)))

-- The vector of fields of the schema that is a message's header.
abbrev pub fields_slot : ℕ × Spot → Option (Option Vector)
fields_slot h = if nat_eq h.0 1 then made (schema_fields h.1) else None

-- The vector of fields of a schema message.
abbrev pub fields_of_message : List ℕ → Option (Option Vector)
fields_of_message m = given (made (root_at m)) (λ t. given (present (message_header t)) fields_slot)

-- By each error, what is wrong with a schema message. Only a header that is absent or of another
-- kind is reported as no schema.
abbrev pub RefusesMessage : Fault → List ℕ → Type 0
RefusesMessage (BadSchema NotASchema) m = (has_schema m ≡ Some false) × (schema_of m ≡ None)
RefusesMessage (OutOfSpec MissingFields) m = (fields_of_message m ≡ Some None) × (schema_of m ≡ None)
RefusesMessage e m = RefusesWith e (schema_of m ≡ None)

-- The result is Ok exactly if the schema message has a meaning, unless an allocation fails.
abbrev pub GivesMessage : {X : Type 0} → (X → Meaning) → Result X Fault → List ℕ → Type 0
GivesMessage view (Ok x) m = schema_of m ≡ Some (view x)
GivesMessage view (Err e) m = RefusesMessage e m

-- ---- what a refusal counts

-- The vector of fields of a schema's table, if its byte order, its pairs and the vector are valid.
unfoldable pub fields_vector : Spot → Option Vector
fields_vector t = given (made (schema_endianness t)) (λ order.
    given (made (schema_custom_metadata t)) (λ v. given (pairs_at v) (λ es. present (schema_fields t))))

-- The vector of fields of a header that is a schema.
abbrev pub header_vector : ℕ × Spot → Option Vector
header_vector h = if nat_eq h.0 1 then fields_vector h.1 else None

-- The vector of fields of a message whose header is a schema.
unfoldable pub message_vector : List ℕ → Option Vector
message_vector m = given (made (root_at m)) (λ t. given (present (message_header t)) header_vector)

-- A refusal for one of the fields counts at least one table that was opened.
abbrev pub CountsRefused : Fault → Option Vector → (before after : ℕ) → Type 0
CountsRefused e fields before after = OwnFault e (IfSome fields (λ _. before < after))
