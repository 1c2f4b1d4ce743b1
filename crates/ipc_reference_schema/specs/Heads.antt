-- What a field's table says apart from its type.
-- (Arrow columnar format, "Schema message"; Field of Schema.fbs.)
use Rattle.std.specs.Prelude.{◌≡◌, ℕ, Bool, List, Option, Some, is_some, string_bytes}
use Rattle.lower.specs.TypeTrees.{Pairs}
use Rattle.lower.specs.TypeViews.{pairs_of}
use Rattle.ipc_table_views.specs.SchemaSlots.{field_name, field_nullable, field_dictionary, field_custom_metadata}
use Rattle.ipc_table_views.specs.Spot.{Spot}
use Rattle.ipc_model.specs.Schemas.{Encoding, given, made, present, pairs_at, optional_encoding}
use Rattle.ipc_reference_schema.specs.declared.head.Head.{Head as PlainHead}

-- The name, whether the field is nullable, its metadata, and its
-- dictionary encoding if there is one.
pub record FieldHead : Type 0 where
  pub name : List ℕ
  pub nullable : Bool
  pub metadata : Pairs
  pub encoding : Option Encoding

-- The head of a field's table, if it is valid.
unfoldable pub head_at : Spot → Option FieldHead
head_at t =
    given (present (field_name t)) (λ name. given (made (field_nullable t)) (λ nullable.
    given (given (made (field_custom_metadata t)) pairs_at) (λ metadata.
    given (given (made (field_dictionary t)) optional_encoding)
    (λ encoding. Some (record { name = name; nullable = nullable; metadata = metadata; encoding = encoding })))))

-- The program's head is this one; of a dictionary it has only that there is one.
pub record IsHead (p : PlainHead) (h : FieldHead) : Type 0 where
  pub name : h.name ≡ string_bytes p.name
  pub nullable : h.nullable ≡ p.is_nullable
  pub metadata : h.metadata ≡ pairs_of p.metadata.entries
  pub encoding : is_some h.encoding ≡ p.is_encoded
