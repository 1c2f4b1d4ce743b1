-- When a tree of dictionary ids belongs to fields: exactly the dictionary fields have an
-- id, at every level, and each child has its own tree of ids. The children of a dictionary
-- field are those of its value type.
-- (Arrow columnar format, "Dictionary messages".)
use Rattle.std.specs.Prelude.{◌≡◌, Bool, true, false, is_some, ◌&&◌}
use mathlib.Core.Bool.{beq}
use Rattle.lower.specs.TypeTrees.{TypeTree, plain, single, group, dictionary, extension, FieldTree, field, FieldTrees, no_fields, more_fields}
use Rattle.lower.specs.Counts.{is_dictionary}
use Rattle.ipc_base.specs.IdTrees.{IdTree, ids, IdTrees, no_ids, more_ids}

-- There are no ids.
abbrev pub IsNone : IdTrees → Type 0
IsNone no_ids = Unit {0}
IsNone (more_ids i is) = ⊥

-- There is exactly one tree of ids, and it has the property.
abbrev pub IsOne : (IdTree → Type 0) → IdTrees → Type 0
IsOne P no_ids = ⊥
IsOne P (more_ids i is) = P i × IsNone is

abbrev mutual
  -- The ids belong to the field: it has an id exactly if it is a dictionary, and its
  -- children's ids belong to them.
  pub Fits : FieldTree → IdTree → Type 0
  Fits (field name t nullable metadata) (ids id children) = (is_some id ≡ is_dictionary t) × ChildrenFit t children

  -- The ids belong to the children of a field of this type.
  pub ChildrenFit : TypeTree → IdTrees → Type 0
  ChildrenFit (plain p) is = IsNone is
  ChildrenFit (single s f) is = IsOne (Fits f) is
  ChildrenFit (group g fs) is = AllFit fs is
  ChildrenFit (dictionary keys t ordered) is = ChildrenFit t is
  ChildrenFit (extension name t text) is = ChildrenFit t is

  -- Each field has one tree of dictionary ids, which belongs to it: exactly the dictionary
  -- fields have an id, at all levels.
  pub AllFit : FieldTrees → IdTrees → Type 0
  AllFit no_fields is = IsNone is
  AllFit (more_fields f fs) no_ids = ⊥
  AllFit (more_fields f fs) (more_ids i is) = Fits f i × AllFit fs is

-- `Fits` and the others as tests, which is what the code computes.

-- `IsNone` as a test.

abbrev pub is_none : IdTrees → Bool
is_none no_ids = true
is_none (more_ids i is) = false

-- `IsOne` as a test.
abbrev pub only_one : (IdTree → Bool) → IdTrees → Bool
only_one test no_ids = false
only_one test (more_ids i is) = test i && is_none is

abbrev mutual
  -- `Fits` as a test.
  pub field_fits : FieldTree → IdTree → Bool
  field_fits (field name t nullable metadata) (ids id children) = beq (is_some id) (is_dictionary t) && children_fit t children

  -- `ChildrenFit` as a test.
  pub children_fit : TypeTree → IdTrees → Bool
  children_fit (plain p) is = is_none is
  children_fit (single s f) is = only_one (field_fits f) is
  children_fit (group g fs) is = all_fit fs is
  children_fit (dictionary keys t ordered) is = children_fit t is
  children_fit (extension name t text) is = children_fit t is

  -- `AllFit` as a test.
  pub all_fit : FieldTrees → IdTrees → Bool
  all_fit no_fields is = is_none is
  all_fit (more_fields f fs) no_ids = false
  all_fit (more_fields f fs) (more_ids i is) = field_fits f i && all_fit fs is
