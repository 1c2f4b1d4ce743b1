-- What the program's fields mean; none has a dictionary id.
-- (Arrow columnar format, "Data Types" and "Extension Types".)
use Rattle.std.specs.Prelude.{List, [], ◌∷◌, map, None, string_bytes}
use Rattle.lower.specs.TypeTrees.{utf8, list, structure, plain, no_fields, more_fields}
use Rattle.lower.specs.TypeViews.{pairs_of}
use Rattle.ipc_base.specs.IdTrees.{no_ids, more_ids}
use Rattle.ipc_model.specs.Schemas.{Read, ReadAll, ReadType, integers, single_with, group_with, field_with}
use Rattle.ipc_reference_schema.specs.declared.types.PlainField.{PlainField, fold-PlainField}
use Rattle.ipc_reference_schema.specs.declared.types.PlainType.{PlainType, fold-PlainType}
use Rattle.ipc_reference_schema.specs.declared.types.PlainType.TheOpen.{PlainType-F, PlainField-F}

-- Some fields and their ids as one value.
abbrev pub reads_of : List Read → ReadAll
reads_of [] = (no_fields, no_ids)
reads_of (x ∷ xs) = (more_fields x.0 (reads_of xs).0, more_ids x.1 (reads_of xs).1)

-- One level of a type, given its children.
abbrev pub type_step : PlainType-F ReadType Read → ReadType
type_step (PlainType-F.Int form) = (plain (integers form), no_ids)
type_step PlainType-F.Utf8 = (plain utf8, no_ids)
type_step (PlainType-F.List item) = single_with list item.value
type_step (PlainType-F.Struct fields) = group_with structure (reads_of fields.items)

-- One level of a field, given its type. The metadata may name an extension of the type.
abbrev pub field_step : PlainField-F ReadType Read → Read
field_step f = field_with (string_bytes f.name) f.is_nullable (pairs_of f.metadata.entries) None f.data_type

-- What one of the program's types means.
abbrev pub type_view : PlainType → ReadType
type_view = fold-PlainType ReadType Read type_step field_step

-- What one of the program's fields means.
abbrev pub field_view : PlainField → Read
field_view = fold-PlainField ReadType Read type_step field_step

-- What some of the program's fields mean.
abbrev pub fields_view : List PlainField → ReadAll
fields_view fs = reads_of (map field_view fs)
