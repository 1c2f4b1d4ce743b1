-- Theorems: the kinds of fields take as many nodes and buffers as the fields' types, and
-- none of their numbers is a float.
-- (Arrow columnar format, "Buffer Listing for Each Layout".)
use Rattle.std.specs.Prelude.{◌≡◌, ℕ}
use Rattle.lower.specs.TypeTrees.{FieldTrees}
use Rattle.lower.specs.Counts.{fields_nodes, fields_buffers}
use Rattle.ipc_base.specs.IdTrees.{IdTrees}
use Rattle.lower_types.specs.declared.PrimitiveType.{PrimitiveType}
use Rattle.lower_types.specs.declared.PrimitiveType.TheVariants.{Float16, Float32, Float64}
use Rattle.ipc_model.specs.Kinds.{Kind, number_kind, list_kind, map_kind, fixed_list_kind, struct_kind, union_kind, dictionary_kind, extension_kind, Kinds, no_kinds, more_kinds, all_nodes, all_buffers}
use Rattle.ipc_model.specs.TypeKinds.{kinds_of}

-- The columns of some fields take as many nodes as the fields' types.
abbrev pub NodeCountLaw : Type 0
NodeCountLaw = (fs : FieldTrees) (is : IdTrees) → all_nodes (kinds_of fs is) ≡ fields_nodes fs

-- The columns of some fields take as many buffers as the fields' types.
abbrev pub BufferCountLaw : Type 0
BufferCountLaw = (extra : ℕ) (fs : FieldTrees) (is : IdTrees) → all_buffers extra (kinds_of fs is)
    ≡ fields_buffers extra fs

-- ---- floats

-- A type of numbers is no float.

abbrev pub IsNoFloat : PrimitiveType → Type 0
IsNoFloat Float16 = ⊥
IsNoFloat Float32 = ⊥
IsNoFloat Float64 = ⊥
IsNoFloat _ = Unit {0}

abbrev mutual
  -- No numbers and no keys in a kind are floats, at any level.
  pub HasNoFloat : Kind → Type 0
  HasNoFloat (number_kind f) = IsNoFloat f
  HasNoFloat (list_kind w t) = HasNoFloat t
  HasNoFloat (map_kind t) = HasNoFloat t
  HasNoFloat (fixed_list_kind n t) = HasNoFloat t
  HasNoFloat (struct_kind ts) = HaveNoFloat ts
  HasNoFloat (union_kind mode ids ts) = HaveNoFloat ts
  HasNoFloat (dictionary_kind f id t) = IsNoFloat f
  HasNoFloat (extension_kind t) = HasNoFloat t
  HasNoFloat _ = Unit {0}

  -- No numbers and no keys in some kinds are floats.
  pub HaveNoFloat : Kinds → Type 0
  HaveNoFloat no_kinds = Unit {0}
  HaveNoFloat (more_kinds t ts) = HasNoFloat t × HaveNoFloat ts

-- The kinds of all fields have no float numbers: floats are of the kind
-- `float_kind`, which has no meaning.
abbrev pub NoFloatLaw : Type 0
NoFloatLaw = (fs : FieldTrees) (is : IdTrees) → HaveNoFloat (kinds_of fs is)
