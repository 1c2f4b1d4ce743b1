-- The default ids of a schema's dictionary fields: 0, 1, 2 and so on, in pre-order.
-- (Arrow columnar format, "Dictionary messages".)
use Rattle.std.specs.Prelude.{◌≡◌, ℕ, ◌+◌, pos, List, [], ◌∷◌, Some, None, if◌then◌else◌}
use Rattle.lower.specs.TypeTrees.{TypeTree, plain, single, group, dictionary, extension, FieldTree, field, FieldTrees, no_fields, more_fields}
use Rattle.lower.specs.Counts.{is_dictionary}
use Rattle.ipc_base.specs.IdTrees.{IdTree, ids, IdTrees, no_ids, more_ids}
use Rattle.ipc_model.specs.Batches.{Place, places}

abbrev mutual
  -- How many dictionary fields there are below a type.
  pub count_below : TypeTree → ℕ
  count_below (plain p) = 0
  count_below (single s f) = count_field f
  count_below (group g fs) = count_all fs
  count_below (dictionary keys t ordered) = count_below t
  count_below (extension name t text) = count_below t

  -- How many dictionary fields a field has, itself included.
  pub count_field : FieldTree → ℕ
  count_field (field name t nullable metadata) = (if is_dictionary t then 1 else 0) + count_below t

  -- How many dictionary fields there are at all levels.
  pub count_all : FieldTrees → ℕ
  count_all no_fields = 0
  count_all (more_fields f fs) = count_field f + count_all fs

abbrev mutual
  -- The ids from n on of the dictionary fields below a type.
  pub default_children : ℕ → TypeTree → IdTrees
  default_children n (plain p) = no_ids
  default_children n (single s f) = more_ids (default_ids n f) no_ids
  default_children n (group g fs) = default_all n fs
  default_children n (dictionary keys t ordered) = default_children n t
  default_children n (extension name t text) = default_children n t

  -- The ids from n on of a field and of those below it.
  pub default_ids : ℕ → FieldTree → IdTree
  default_ids n (field name t nullable metadata) =
      if is_dictionary t then ids (Some (pos n)) (default_children (n + 1) t) else ids None (default_children n t)

  -- The ids from n on of some fields.
  pub default_all : ℕ → FieldTrees → IdTrees
  default_all n no_fields = no_ids
  default_all n (more_fields f fs) = more_ids (default_ids n f) (default_all (n + count_field f) fs)

-- The ids of some fields, and of those after them.
abbrev pub append_ids : IdTrees → IdTrees → IdTrees
append_ids no_ids js = js
append_ids (more_ids i is) js = more_ids i (append_ids is js)

-- The ids of these dictionary fields are n, n + 1 and so on, in order.
abbrev pub CountFrom : ℕ → List Place → Type 0
CountFrom n [] = Unit {0}
CountFrom n (p ∷ ps) = (p.id ≡ Some (pos n)) × CountFrom (n + 1) ps

-- Theorem: the dictionary fields of a schema have the default ids 0, 1, 2 and so on.
abbrev pub DefaultLaw : Type 0
DefaultLaw = (fs : FieldTrees) → CountFrom 0 (places fs (default_all 0 fs))
