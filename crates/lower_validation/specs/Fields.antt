-- What a type says of the children of its arrays.
-- (Arrow columnar format, "Variable-size List Layout", "Fixed-Size List Layout",
-- "Struct Layout", "Map Layout".)
use Rattle.std.specs.Prelude.{◌≡◌, ℕ, ◌+◌, List, [], ◌∷◌}
use Rattle.lower.specs.TypeTrees.{structure, TypeTree, plain, single, group, dictionary, extension, FieldTree, field, FieldTrees, no_fields, more_fields}

-- The fields of a type's children; an extension has those of the type that it is stored as.
abbrev pub child_fields : TypeTree → FieldTrees
child_fields (plain p) = no_fields
child_fields (single s f) = more_fields f no_fields
child_fields (group g fs) = fs
child_fields (dictionary keys t ordered) = no_fields
child_fields (extension name t text) = child_fields t

-- The type of a field.
abbrev pub field_type : FieldTree → TypeTree
field_type (field _ t _ _) = t

-- How many fields there are.
abbrev pub field_count : FieldTrees → ℕ
field_count no_fields = 0
field_count (more_fields f fs) = field_count fs + 1

-- There is a type for each field, the field's own.
abbrev pub FieldTypes : FieldTrees → List TypeTree → Type 0
FieldTypes no_fields [] = Unit {0}
FieldTypes (more_fields f fs) (t ∷ ts) = (t ≡ field_type f) × FieldTypes fs ts
FieldTypes _ _ = ⊥

-- A type is a struct of two fields, a key and a value, and no extension.
abbrev pub IsPair : TypeTree → Type 0
IsPair (group structure fs) = field_count fs ≡ 2
IsPair _ = ⊥
