-- A bound on how many bytes the message of a schema takes, by the schema
-- alone. It is this project's own.
use Rattle.std.specs.Prelude.{ℕ, ℤ, String, Vec, ◌+◌, ◌*◌, List, [], ◌∷◌, Option, Some, None, length, map, string_bytes}
use Rattle.ipc_tables.specs.declared.schema.Feature.{Feature}
use Rattle.ipc_tables.specs.declared.schema.Field.{Field}
use Rattle.ipc_tables.specs.declared.schema.Field.TheOpen.{Field-F}
use Rattle.ipc_tables.specs.declared.schema.Field.TheFolds.{fold-Field}
use Rattle.ipc_tables.specs.declared.schema.KeyValue.{KeyValue}
use Rattle.ipc_tables.specs.declared.schema.Schema.{Schema}
use Rattle.ipc_tables.specs.declared.types.FieldType.{FieldType}
use Rattle.ipc_tables.specs.declared.types.FieldType.TheVariants.{Timestamp, Union}

-- The sum of some numbers.
abbrev pub total : List ℕ → ℕ
total [] = 0
total (n ∷ ns) = n + total ns

-- The weight of pairs.
abbrev pub pairs_weight : List KeyValue → ℕ
pairs_weight [] = 0
pairs_weight (p ∷ ps) = 64 + length (string_bytes p.key) + length (string_bytes p.value) + pairs_weight ps

-- The weight of a time zone.
abbrev pub zone_weight : {A : Type 0} → Option (String A) → ℕ
zone_weight None = 0
zone_weight (Some zone) = length (string_bytes zone)

-- The weight of a union's type ids.
abbrev pub ids_weight : {A : Type 0} → Option (Vec ℤ A) → ℕ
ids_weight None = 0
ids_weight (Some ids) = 8 * length ids.items

-- The weight of a type: the bytes of a time zone, or eight for each id of a union.
abbrev pub type_weight : FieldType → ℕ
type_weight (Timestamp t) = zone_weight t.timezone
type_weight (Union u) = ids_weight u.type_ids
type_weight _ = 0

-- One level of a field's weight, given the weights of its children.
abbrev pub weight_step : Field-F ℕ → ℕ
weight_step f = 512 + length (string_bytes f.name) + type_weight f.type_ + pairs_weight f.custom_metadata.items + total f.children.items

-- The weight of a field with its children.
unfoldable pub field_weight : Field → ℕ
field_weight = fold-Field ℕ weight_step

-- The weight of features.
abbrev pub features_weight : {A : Type 0} → Option (Vec Feature A) → ℕ
features_weight None = 0
features_weight (Some features) = 8 * length features.items

-- The weight of a schema.
abbrev pub schema_weight : Schema → ℕ
schema_weight s = 1024 + pairs_weight s.custom_metadata.items + total (map field_weight s.fields.items) + features_weight s.features
