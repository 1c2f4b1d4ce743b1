-- How many nodes and buffers a column of a type takes in a batch, how many levels of fields a type
-- has, and which dictionary fields.
-- (Arrow columnar format, "RecordBatch message" and "Buffer Listing for Each Layout".)
use Rattle.std.specs.Prelude.{ℕ, ◌+◌, max, Bool, true, false, List, [], ◌∷◌, ◌++◌}
use Rattle.lower.specs.declared.datatypes.UnionMode.{UnionMode}
use Rattle.lower.specs.declared.datatypes.UnionMode.TheVariants.{Dense, Sparse}
use Rattle.lower.specs.TypeTrees.{Plain, null, binary, large_binary, utf8, large_utf8, Single, fixed_list, Group, structure, choice, TypeTree, plain, single, group, dictionary, extension, FieldTree, field, FieldTrees, no_fields, more_fields}

abbrev mutual
  -- The nodes of a column: its own and those of its children. The values
  -- of a dictionary have none here.
  pub nodes : TypeTree → ℕ
  nodes (plain p) = 1
  nodes (single s f) = 1 + field_nodes f
  nodes (group g fs) = 1 + fields_nodes fs
  nodes (dictionary keys t ordered) = 1
  nodes (extension name t text) = nodes t

  -- The nodes of a field's column.
  pub field_nodes : FieldTree → ℕ
  field_nodes (field name t nullable metadata) = nodes t

  -- The nodes of some fields' columns.
  pub fields_nodes : FieldTrees → ℕ
  fields_nodes no_fields = 0
  fields_nodes (more_fields f fs) = field_nodes f + fields_nodes fs

-- The buffers of a type without children: validity and values, with offsets between
-- them if values have any length.
abbrev pub plain_buffers : Plain → ℕ
plain_buffers null = 0
plain_buffers binary = 3
plain_buffers large_binary = 3
plain_buffers utf8 = 3
plain_buffers large_utf8 = 3
plain_buffers _ = 2

-- The buffers of a type with one child, without the child's: validity, and
-- offsets if lists have any length.
abbrev pub single_buffers : Single → ℕ
single_buffers (fixed_list n) = 1
single_buffers _ = 2

-- The buffers of a union itself: type ids, and offsets if it is dense.
abbrev pub union_buffers : UnionMode → ℕ
union_buffers Sparse = 1
union_buffers Dense = 2

-- The buffers of a type with several children, without the children's.
abbrev pub group_buffers : ℕ → Group → ℕ
group_buffers extra structure = 1
group_buffers extra (choice ids mode) = union_buffers mode + extra

abbrev mutual
  -- The buffers of a column and of its children. Before version 5 of the metadata a union has one
  -- more, before its own: then `extra` is 1, else 0.
  pub buffers : ℕ → TypeTree → ℕ
  buffers extra (plain p) = plain_buffers p
  buffers extra (single s f) = single_buffers s + field_buffers extra f
  buffers extra (group g fs) = group_buffers extra g + fields_buffers extra fs
  buffers extra (dictionary keys t ordered) = 2
  buffers extra (extension name t text) = buffers extra t

  -- The buffers of a field's column.
  pub field_buffers : ℕ → FieldTree → ℕ
  field_buffers extra (field name t nullable metadata) = buffers extra t

  -- The buffers of some fields' columns.
  pub fields_buffers : ℕ → FieldTrees → ℕ
  fields_buffers extra no_fields = 0
  fields_buffers extra (more_fields f fs) = field_buffers extra f + fields_buffers extra fs

abbrev mutual
  -- The levels of fields inside a type: a field is one more than its type.
  pub levels : TypeTree → ℕ
  levels (plain p) = 0
  levels (single s f) = field_levels f
  levels (group g fs) = fields_levels fs
  levels (dictionary keys t ordered) = levels t
  levels (extension name t text) = levels t

  -- The levels of a field, itself included.
  pub field_levels : FieldTree → ℕ
  field_levels (field name t nullable metadata) = 1 + levels t

  -- The levels of some fields.
  pub fields_levels : FieldTrees → ℕ
  fields_levels no_fields = 0
  fields_levels (more_fields f fs) = max (field_levels f) (fields_levels fs)

-- The child fields of a type without its extensions, of the values for a dictionary.
abbrev pub children : TypeTree → FieldTrees
children (plain p) = no_fields
children (single s f) = more_fields f no_fields
children (group g fs) = fs
children (dictionary keys t ordered) = children t
children (extension name t text) = children t

-- The type without its extensions is a dictionary.
abbrev pub is_dictionary : TypeTree → Bool
is_dictionary (plain p) = false
is_dictionary (single s f) = false
is_dictionary (group g fs) = false
is_dictionary (dictionary keys t ordered) = true
is_dictionary (extension name t text) = is_dictionary t

-- The value type, if the type without its extensions is a dictionary.
abbrev pub own_place : TypeTree → List TypeTree
own_place (plain p) = []
own_place (single s f) = []
own_place (group g fs) = []
own_place (dictionary keys t ordered) = t ∷ []
own_place (extension name t text) = own_place t

abbrev mutual
  -- The dictionary fields of a type, in pre-order, each with its value type. A field whose type
  -- without its extensions is a dictionary comes before the fields below it.
  pub inner_places : TypeTree → List TypeTree
  inner_places (plain p) = []
  inner_places (single s f) = field_places f
  inner_places (group g fs) = fields_places fs
  inner_places (dictionary keys t ordered) = inner_places t
  inner_places (extension name t text) = inner_places t

  -- The dictionary fields of a field, itself included.
  pub field_places : FieldTree → List TypeTree
  field_places (field name t nullable metadata) = own_place t ++ inner_places t

  -- The dictionary fields of some fields.
  pub fields_places : FieldTrees → List TypeTree
  fields_places no_fields = []
  fields_places (more_fields f fs) = field_places f ++ fields_places fs
