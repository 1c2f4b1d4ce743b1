-- What reading a schema or a footer costs. It is one for each table of a field or of a pair that is
-- opened, one for each id of a union, and the bytes of each text. Shared tables count each time
-- they are used. What is invalid costs nothing.
-- (Arrow columnar format, "Schema message" and "IPC File Format"; Schema.fbs, File.fbs. The
-- measure is this project's own.)
use Rattle.std.specs.Prelude.{◌≡◌, ℕ, zero, suc, ◌+◌, ◌<◌, ◌≤◌, nat_eq, Bool, false, if◌then◌else◌, List, Option, Some, None, Result, Ok, Err}
use Rattle.lower.specs.Normal.{is_extension_key}
use Rattle.ipc_devices.specs.declared.fault.TableFault.{TableFault}
use Rattle.ipc_table_views.specs.Spot.{Spot, Vector}
use Rattle.ipc_table_views.specs.Tables.{root_at, table_in}
use Rattle.ipc_table_views.specs.FileSlots.{footer_custom_metadata, footer_schema}
use Rattle.ipc_table_views.specs.MessageSlots.{message_header}
use Rattle.ipc_table_views.specs.SchemaSlots.{field_children, field_custom_metadata, field_name, field_type, key_value_key, key_value_value, schema_custom_metadata, schema_fields}
use Rattle.ipc_table_views.specs.TypeSlots.{timestamp_timezone, union_type_ids}
use Rattle.ipc_model.specs.Schemas.{given, is_group_tag, is_single_tag, made, most_levels, present}
use Rattle.ipc_costs.specs.Sizes.{ids_size, text_size}

-- ---- vectors of tables

-- The cost of a table: one, and what is read of it if it is valid.
abbrev pub table_cost : (Spot → ℕ) → Result Spot TableFault → ℕ
table_cost cost (Ok t) = 1 + cost t
table_cost cost (Err e) = 1

-- The cost of n tables of a vector from index k on.
abbrev pub tables_cost : (Spot → ℕ) → Vector → ℕ → ℕ → ℕ
tables_cost cost v k zero = 0
tables_cost cost v k (suc n) = table_cost cost (table_in v k) + tables_cost cost v (k + 1) n

-- The cost of all tables of a vector, which may be absent.
abbrev pub vector_cost : (Spot → ℕ) → Option Vector → ℕ
vector_cost cost None = 0
vector_cost cost (Some v) = tables_cost cost v 0 v.count

-- ---- pairs

-- A key is one of an extension.

abbrev pub is_extension : Option (List ℕ) → Bool
is_extension None = false
is_extension (Some key) = is_extension_key key

-- The texts of a pair. The value of an extension key counts twice, since the
-- type of a field has a copy of it.
abbrev pub pair_texts : (key value : Option (List ℕ)) → ℕ
pair_texts key value =
    text_size key + text_size value + (if is_extension key then text_size value else 0)

-- The cost of a pair's table: the texts of the pair.
abbrev pub pair_cost : Spot → ℕ
pair_cost t = pair_texts (present (key_value_key t)) (present (key_value_value t))

-- ---- fields

-- The cost of a type: the ids of a union, the time zone of a timestamp.
abbrev pub type_cost : ℕ × Spot → ℕ
type_cost type_ =
    if nat_eq type_.0 14 then ids_size (present (union_type_ids type_.1))
    else if nat_eq type_.0 10 then text_size (present (timestamp_timezone type_.1))
    else 0

-- How many children are read: the first of a list or a map, all of a struct or a union, no others.
abbrev pub children_read : ℕ → ℕ → ℕ
children_read tag count =
    if is_single_tag tag then (if nat_eq count 0 then 0 else 1)
    else if is_group_tag tag then count
    else 0

-- The cost of a field's children that are read.
abbrev pub children_cost : (Spot → ℕ) → ℕ → Option Vector → ℕ
children_cost cost tag None = 0
children_cost cost tag (Some v) = tables_cost cost v 0 (children_read tag v.count)

-- The cost of a field without its type: its name and its pairs.
abbrev pub own_cost : Spot → ℕ
own_cost t = text_size (present (field_name t)) + vector_cost pair_cost (present (field_custom_metadata t))

-- The cost of a field's type and of its children.
abbrev pub typed_cost : (Spot → ℕ) → Spot → Option (ℕ × Spot) → ℕ
typed_cost cost t None = 0
typed_cost cost t (Some type_) = type_cost type_ + children_cost cost type_.0 (present (field_children t))

-- The cost of a field, up to n levels.
unfoldable pub field_cost : ℕ → Spot → ℕ
field_cost zero t = 0
field_cost (suc n) t = own_cost t + typed_cost (λ s. field_cost n s) t (present (field_type t))

-- ---- schemas

-- The cost of a schema's table: its pairs and its fields.

abbrev pub schema_table_cost : Spot → ℕ
schema_table_cost t =
    vector_cost pair_cost (present (schema_custom_metadata t))
    + vector_cost (λ s. field_cost most_levels s) (present (schema_fields t))

-- The cost of a message's header, if it is a schema.
abbrev pub header_cost : Option (ℕ × Spot) → ℕ
header_cost None = 0
header_cost (Some h) = if nat_eq h.0 1 then schema_table_cost h.1 else 0

-- The cost of a schema message; any other message costs nothing.
unfoldable pub schema_cost : List ℕ → ℕ
schema_cost m = header_cost (given (made (root_at m)) (λ t. present (message_header t)))

-- ---- footers

-- The cost of a table that may be absent.
abbrev pub optional_cost : (Spot → ℕ) → Option Spot → ℕ
optional_cost cost None = 0
optional_cost cost (Some t) = cost t

-- The cost of a footer's table: the pairs of the file, and its schema.
abbrev pub footer_table_cost : Spot → ℕ
footer_table_cost t =
    vector_cost pair_cost (present (footer_custom_metadata t))
    + optional_cost schema_table_cost (present (footer_schema t))

-- The cost of a footer, with the pairs of the file; one whose root is invalid costs nothing.
unfoldable pub footer_cost : List ℕ → ℕ
footer_cost bytes = optional_cost footer_table_cost (made (root_at bytes))

-- ---- results

-- What is left of an amount after a cost, if it suffices.
abbrev pub Leaves : (amount cost : ℕ) → Option ℕ → Type 0
Leaves amount cost None = amount < cost
Leaves amount cost (Some rest) = rest + cost ≡ amount

-- The cost, if it is at most the limit.
abbrev pub IsCostWithin : (limit cost : ℕ) → Option ℕ → Type 0
IsCostWithin limit cost None = limit < cost
IsCostWithin limit cost (Some n) = (n ≡ cost) × (cost ≤ limit)
