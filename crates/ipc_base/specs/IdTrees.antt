-- What an `IpcField` means: a tree of dictionary ids without pointers.
-- (Arrow columnar format, "Dictionary messages".)
use Rattle.std.specs.Prelude.{ℤ, List, [], ◌∷◌, map, Bool, Option}
use Rattle.ipc_base.specs.declared.ipc.IpcField.{IpcField, fold-IpcField}
use Rattle.ipc_base.specs.declared.ipc.IpcField.TheOpen.{IpcField-F}
use Rattle.ipc_base.specs.declared.ipc.IpcSchema.{IpcSchema}

mutual
  -- The dictionary id of a field, and the trees of its children.
  pub data IdTree : Type 0 where
    ids : Option ℤ → IdTrees → IdTree

  -- Some trees of ids, in order.
  pub data IdTrees : Type 0 where
    no_ids : IdTrees
    more_ids : IdTree → IdTrees → IdTrees

-- Some trees of ids as one value.
abbrev pub all_ids_of : List IdTree → IdTrees
all_ids_of [] = no_ids
all_ids_of (i ∷ is) = more_ids i (all_ids_of is)

-- One level of an `IpcField`, given the trees of its children.
abbrev pub ids_step : IpcField-F IdTree → IdTree
ids_step f = ids f.dictionary_id (all_ids_of f.fields.items)

-- The tree of ids that an `IpcField` means.
abbrev pub ids_view : IpcField → IdTree
ids_view = fold-IpcField IdTree ids_step

-- The trees of ids that some `IpcField`s mean.
abbrev pub all_ids_view : List IpcField → IdTrees
all_ids_view fs = all_ids_of (map ids_view fs)

-- What an `IpcSchema` means: its ids, and whether numbers are little-endian.
abbrev pub ipc_schema_view : IpcSchema → IdTrees × Bool
ipc_schema_view s = (all_ids_view s.fields.items, s.is_little_endian)
