-- One level in a batch, whatever its kind.
use Rattle.std.proofs.Common.{◌≡◌, ℕ, ℤ, pos, ◌+◌, ◌≤◌, List, Option}
use Rattle.lower_flat_arrays.specs.Validities.{ValidityFits, null_count_of, is_valid as array_valid, cut_validity}
use Rattle.lower_flat_arrays.proofs.Cuts.{fits-cut}
use Rattle.lower_arrays.specs.Cuts.{cut_parts}
use Rattle.lower_arrays.specs.Layouts.{Parts, Level, Layout, Layouts, no_layouts, more_layouts, len_of, type_of, nulls_among}
use Rattle.lower_arrays.specs.Slots.{slot_where, value_at, slot_at as array_slot, children_at}
use Rattle.ipc_base.specs.IdTrees.{IdTrees}
use Rattle.ipc_model.specs.Entries.{Entries, node, buffer, Limit, limited}
use Rattle.ipc_model.specs.Offers.{own_id, inner_ids, written_levels}
use Rattle.ipc_model.specs.TypeKinds.{first_ids, other_ids, kind_of}
use Rattle.ipc_plan.specs.Levels.{AreBuffers, IsValidity}
use Rattle.ipc_plan.specs.Meaning.{IsBufferOf, PartsStand, StandsAmong, Means}
use Rattle.ipc_plan.proofs.ValidityRows.{Masked}

-- n slots from index o on of a level with the parts p, whose own node and
-- buffers are at node a and buffer b.
pub record Row (s : Entries) (h : Level) (p : Parts) (o n a b : ℕ) (limit : Limit) (own : List (List ℕ)) : Type 0 where
  pub extra_is : s.extra ≡ 0
  pub fits : ValidityFits h.validity h.len
  pub inside : o + n ≤ h.len
  pub full : limited limit n ≡ n
  pub are : AreBuffers s.order (cut_parts o n p) (cut_validity o n h.validity) own
  pub node_is : node s a ≡ record { length = pos n; null_count = pos (nulls_among (cut_parts o n p) n (cut_validity o n h.validity)) }
  pub stand : PartsStand s b own

-- a column of the level's type has these slots
abbrev pub RowMeans : Entries → Level → Parts → Layouts → (o n a b : ℕ) → Limit → Option ℤ → IdTrees → Type 0
RowMeans s h p cs o n a b limit id is =
    Means s (kind_of h.type id is) a b limit n (λ i. slot_where (array_valid h.validity (o + i)) (value_at p (children_at cs) (o + i)))

-- A child, wherever some of its slots are.
abbrev pub ChildMeans : Entries → Layout → Option ℤ → IdTrees → Type 0
ChildMeans s c id is = (o n a b : ℕ) (limit : Limit) → o + n ≤ len_of c → limited limit n ≡ n → StandsAmong s a b (written_levels c o n)
    → Means s (kind_of (type_of c) id is) a b limit n (λ i. array_slot c (o + i))

-- each child of some
abbrev pub ChildrenMean : Entries → Layouts → IdTrees → Type 0
ChildrenMean s no_layouts is = Unit {0}
ChildrenMean s (more_layouts c cs) is = ChildMeans s c (own_id (first_ids is)) (inner_ids (first_ids is)) × ChildrenMean s cs (other_ids is)

-- The validity before a level's buffers.
pub masked_row : (s : Entries) (h : Level) (o n a b : ℕ) (m : List ℕ) → ValidityFits h.validity h.len → o + n ≤ h.len
    → node s a ≡ record { length = pos n; null_count = pos (null_count_of (cut_validity o n h.validity)) }
    → IsBufferOf (buffer s b) m → IsValidity (cut_validity o n h.validity) m → Masked s a b n (cut_validity o n h.validity)
masked_row s h o n a b m fits inside e p k = record { node_is = e; validity_bytes = m; part_is = p; validity = k; fits = fits-cut h.validity o n h.len inside fits }
