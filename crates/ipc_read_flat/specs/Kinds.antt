-- Where a column of a kind is among the entries of a batch.
-- (Arrow columnar format, "Buffer Listing for Each Layout".)
use Rattle.std.specs.Prelude.{◌≡◌, ℕ, ◌+◌, Bool, true, false}
use Rattle.lower.specs.Physical.{physical}
use Rattle.lower.specs.TypeTrees.{TypeTree}
use Rattle.lower.specs.declared.datatypes.UnionMode.TheVariants.{Sparse, Dense}
use Rattle.lower_flat_arrays.specs.FixedBinaries.{byte_size}
use Rattle.lower_validation.specs.Fields.{child_fields}
use Rattle.lower_validation.specs.Keys.{values_type}
use Rattle.lower_validation.specs.Ids.{union_ids, union_mode}
use Rattle.lower_validation.specs.ListTypes.{list_size}
use Rattle.ipc_model.specs.Kinds.{OffsetWidth, offsets_32, offsets_64, Kind, null_kind, boolean_kind, number_kind, float_kind, fixed_binary_kind, binary_kind, utf8_kind, list_kind, map_kind, fixed_list_kind, struct_kind, union_kind, dictionary_kind, extension_kind, Kinds, no_kinds, more_kinds, nodes, all_nodes, buffers, all_buffers}
use Rattle.ipc_model.specs.Entries.{Entries, listed}
use Rattle.ipc_read_flat.specs.declared.read.body.Place.{Place}

-- An array's own type, and the type that it is stored as: the first without some of its extensions.
pub record IsStored (own t : TypeTree) : Type 0 where
  pub lies : physical own ≡ physical t
  pub fields : child_fields own ≡ child_fields t
  pub bytes_named : byte_size own ≡ byte_size t
  pub slots_named : list_size own ≡ list_size t
  pub values_named : values_type own ≡ values_type t
  pub ids_named : union_ids own ≡ union_ids t
  pub mode_named : union_mode own ≡ union_mode t

-- The width of offsets, by a flag for large ones.
abbrev pub form_of : Bool → OffsetWidth
form_of true = offsets_64
form_of false = offsets_32

-- Position q is after a column of this kind at position p.
pub record IsBehind (extra : ℕ) (t : Kind) (p q : Place) : Type 0 where
  pub node : q.node ≡ p.node + nodes t
  pub buffer : q.buffer ≡ p.buffer + buffers extra t

-- Position q is after columns of these kinds from position p on.
pub record AllFollow (extra : ℕ) (ts : Kinds) (p q : Place) : Type 0 where
  pub node : q.node ≡ p.node + all_nodes ts
  pub buffer : q.buffer ≡ p.buffer + all_buffers extra ts

abbrev mutual
  -- The encoded length of the buffers of a column.
  pub listed_in : Entries → ℕ → Kind → ℕ → ℕ
  listed_in s extra null_kind b = 0
  listed_in s extra boolean_kind b = listed s b + listed s (b + 1)
  listed_in s extra (number_kind f) b = listed s b + listed s (b + 1)
  listed_in s extra float_kind b = listed s b + listed s (b + 1)
  listed_in s extra (fixed_binary_kind n) b = listed s b + listed s (b + 1)
  listed_in s extra (binary_kind w) b = listed s b + listed s (b + 1) + listed s (b + 1 + 1)
  listed_in s extra (utf8_kind w) b = listed s b + listed s (b + 1) + listed s (b + 1 + 1)
  listed_in s extra (list_kind w t) b = listed s b + listed s (b + 1) + listed_in s extra t (b + 2)
  listed_in s extra (map_kind t) b = listed s b + listed s (b + 1) + listed_in s extra t (b + 2)
  listed_in s extra (fixed_list_kind n t) b = listed s b + listed_in s extra t (b + 1)
  listed_in s extra (struct_kind ts) b = listed s b + all_listed s extra ts (b + 1)
  listed_in s extra (union_kind Sparse ids ts) b = listed s (b + extra) + all_listed s extra ts (b + extra + 1)
  listed_in s extra (union_kind Dense ids ts) b = listed s (b + extra) + listed s (b + extra + 1) + all_listed s extra ts (b + extra + 2)
  listed_in s extra (dictionary_kind f id t) b = listed s b + listed s (b + 1)
  listed_in s extra (extension_kind t) b = listed_in s extra t b

  -- The encoded length of the buffers of some columns.
  pub all_listed : Entries → ℕ → Kinds → ℕ → ℕ
  all_listed s extra no_kinds b = 0
  all_listed s extra (more_kinds t ts) b = listed_in s extra t b + all_listed s extra ts (b + buffers extra t)
