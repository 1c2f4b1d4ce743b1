-- Where the columns of a batch are.
use Rattle.std.proofs.Common.{arith, ◌≡◌, refl, ℕ, ℤ, zero, suc, ◌+◌, ◌<◌, ◌≤◌, List, [], ◌∷◌, length, get_or, Option, ap, sym, subst, ◌∙◌}
use Rattle.lower.specs.Counts as types
use Rattle.lower.specs.TypeTrees.{TypeTree}
use Rattle.lower.specs.TypeViews.{type_view, field_view, fields_view}
use Rattle.lower.specs.declared.datatypes.Field.{Field}
use Rattle.lower_arrays.specs.Layouts.{Layout}
use Rattle.ipc_base.specs.IdTrees.{IdTrees}
use Rattle.ipc_model.specs.Batches.{kind_at, type_at, nodes_before, buffers_before}
use Rattle.ipc_model.specs.Columns.{IsWell}
use Rattle.ipc_model.specs.Entries.{Entries, Limit}
use Rattle.ipc_model.specs.Kinds.{Kind, Kinds, no_kinds, more_kinds, count, nodes, all_nodes, buffers, all_buffers}
use Rattle.ipc_model.specs.TypeKinds.{first_ids, other_ids, kind_of, field_kind, kinds_of}
use Rattle.ipc_model.specs.AddressLaws.{IsWellInBatch}
use Rattle.ipc_model.proofs.TypeKinds.{node_counts, buffer_counts}
use Rattle.ipc_devices.specs.Faults.{OwnFault}
use Rattle.ipc_devices.specs.declared.fault.Fault.{Fault}
use Rattle.ipc_read_flat.specs.Refusals.{IsFaultOf}
use Rattle.ipc_read_flat.specs.Bodies.{HasRoom}
use Rattle.ipc_read_flat.specs.HeldListed.{HoldsListed}
use Rattle.ipc_read_flat.specs.Kinds.{IsBehind, listed_in}
use Rattle.ipc_read_nested.specs.ReadColumns.{IsColumn}
use Rattle.ipc_read_flat.specs.declared.read.body.Body.{Body}
use Rattle.ipc_read_flat.specs.declared.read.body.Place.{Place}
use Rattle.ipc_read.proofs.Fields.{type_is}

-- ---- positions

nodes_start : (ts : Kinds) → nodes_before ts 0 ≡ 0
nodes_start no_kinds = refl
nodes_start (more_kinds t ts) = refl

buffers_start : (extra : ℕ) (ts : Kinds) → buffers_before extra ts 0 ≡ 0
buffers_start extra no_kinds = refl
buffers_start extra (more_kinds t ts) = refl

nodes_behind : (ts : Kinds) (j : ℕ) → j < count ts → nodes_before ts (suc j) ≡ nodes_before ts j + nodes (kind_at ts j)
nodes_behind no_kinds j h = absurd (omega (arith, h))
nodes_behind (more_kinds t ts) zero h = omega (arith, nodes_start ts)
nodes_behind (more_kinds t ts) (suc j) h = omega (arith, nodes_behind ts j (omega (arith, h)))

buffers_behind : (extra : ℕ) (ts : Kinds) (j : ℕ) → j < count ts → buffers_before extra ts (suc j) ≡ buffers_before extra ts j + buffers extra (kind_at ts j)
buffers_behind extra no_kinds j h = absurd (omega (arith, h))
buffers_behind extra (more_kinds t ts) zero h = omega (arith, buffers_start extra ts)
buffers_behind extra (more_kinds t ts) (suc j) h = omega (arith, buffers_behind extra ts j (omega (arith, h)))

nodes_inside : (ts : Kinds) (j : ℕ) → j < count ts → nodes_before ts j + nodes (kind_at ts j) ≤ all_nodes ts
nodes_inside no_kinds j h = absurd (omega (arith, h))
nodes_inside (more_kinds t ts) zero h = omega arith
nodes_inside (more_kinds t ts) (suc j) h = omega (arith, nodes_inside ts j (omega (arith, h)))

buffers_inside : (extra : ℕ) (ts : Kinds) (j : ℕ) → j < count ts → buffers_before extra ts j + buffers extra (kind_at ts j) ≤ all_buffers extra ts
buffers_inside extra no_kinds j h = absurd (omega (arith, h))
buffers_inside extra (more_kinds t ts) zero h = omega arith
buffers_inside extra (more_kinds t ts) (suc j) h = omega (arith, buffers_inside extra ts j (omega (arith, h)))

-- ---- ids

-- The columns of the fields from j on.
abbrev pub ids_from : IdTrees → ℕ → IdTrees
ids_from is zero = is
ids_from is (suc j) = ids_from (other_ids is) j

ids_behind : (is : IdTrees) (j : ℕ) → ids_from is (suc j) ≡ other_ids (ids_from is j)
ids_behind is zero = refl
ids_behind is (suc j) = ids_behind (other_ids is) j

kind_is : (fs : List Field) (is : IdTrees) (j : ℕ) (f : Field) → j < length fs → f ≡ get_or fs j f
    → field_kind (field_view f) (first_ids (ids_from is j)) ≡ kind_at (kinds_of (fields_view fs) is) j
kind_is [] is j f h e = absurd (omega (arith, h))
kind_is (g ∷ fs) is zero f h e = ap (λ (x : Field). field_kind (field_view x) (first_ids is)) e
kind_is (g ∷ fs) is (suc j) f h e = kind_is fs (other_ids is) j f (omega (arith, h)) e

-- ---- one column after the other

-- A position is that of column j, and these are the ids from there on.
pub record IsPlace (extra : ℕ) (ts : Kinds) (is left : IdTrees) (j : ℕ) (p : Place) : Type 0 where
  pub ids : left ≡ ids_from is j
  pub node : p.node ≡ nodes_before ts j
  pub buffer : p.buffer ≡ buffers_before extra ts j

pub first_place : (extra : ℕ) (ts : Kinds) (is : IdTrees) → IsPlace extra ts is is 0 (record { node = 0; buffer = 0 })
first_place extra ts is = record { ids = refl; node = sym (nodes_start ts); buffer = sym (buffers_start extra ts) }

pub kind_there : (extra : ℕ) (fs : List Field) (is left : IdTrees) (j : ℕ) (f : Field) (p : Place) → IsPlace extra (kinds_of (fields_view fs) is) is left j p → j < length fs
    → f ≡ get_or fs j f → (t : Kind) → field_kind (field_view f) (first_ids left) ≡ t → t ≡ kind_at (kinds_of (fields_view fs) is) j
kind_there extra fs is left j f p at h e t k = sym k ∙ ap (λ i. field_kind (field_view f) (first_ids i)) at.ids ∙ kind_is fs is j f h e

pub type_there : (fs : List Field) (j : ℕ) (f : Field) → j < length fs → f ≡ get_or fs j f → type_view f.data_type ≡ type_at (fields_view fs) j
type_there fs j f h e = ap (λ (g : Field). type_view g.data_type) e ∙ sym (type_is fs j f h)

-- The column of kind t, which is the one at j.
module _ (extra : ℕ) (ts : Kinds) (is left : IdTrees) (j : ℕ) (p : Place) (t : Kind) (at : IsPlace extra ts is left j p) (inside : j < count ts) (same : t ≡ kind_at ts j) where
  pub room_there : {R : Type 0} (b : Body R) → b.extra ≡ extra → HasRoom b (record { node = 0; buffer = 0 }) (all_nodes ts) (all_buffers b.extra ts) → HasRoom b p (nodes t) (buffers b.extra t)
  room_there b e room =
      let n = ap nodes same in
      let m = ap (buffers extra) same in
      let k = ap (λ x. buffers x t) e in
      let l = ap (λ x. all_buffers x ts) e in
      record {
        nodes_in = omega (arith, room.nodes_in, nodes_inside ts j inside, at.node, n);
        buffers_in = omega (arith, room.buffers_in, buffers_inside extra ts j inside, at.buffer, m, k, l);
      }

  pub next_place : (next : IdTrees) (q : Place) → next ≡ other_ids left → IsBehind extra t p q → IsPlace extra ts is next (j + 1) q
  next_place next q e f =
      let one : suc j ≡ j + 1 = omega arith in
      let n = ap nodes same in
      let m = ap (buffers extra) same in
      let ns = ap (nodes_before ts) one in
      let ms = ap (buffers_before extra ts) one in
      record {
        ids = e ∙ ap other_ids at.ids ∙ sym (ids_behind is j) ∙ ap (ids_from is) one;
        node = omega (arith, f.node, at.node, n, ns, nodes_behind ts j inside);
        buffer = omega (arith, f.buffer, at.buffer, m, ms, buffers_behind extra ts j inside);
      }

  -- it is well formed here, or there
  pub well_there : (s : Entries) (limit : Limit) → s.extra ≡ extra → IsWell s t p.node p.buffer limit → IsWellInBatch s ts limit j
  well_there s limit e w =
      subst (λ (x : ℕ). IsWell s (kind_at ts j) (nodes_before ts j) x limit) (at.buffer ∙ ap (λ x. buffers_before x ts j) (sym e))
      (subst (λ (x : ℕ). IsWell s (kind_at ts j) x p.buffer limit) at.node (subst (λ (k : Kind). IsWell s k p.node p.buffer limit) same w))

  pub well_here : (s : Entries) (limit : Limit) → s.extra ≡ extra → IsWellInBatch s ts limit j → IsWell s t p.node p.buffer limit
  well_here s limit e w =
      subst (λ (k : Kind). IsWell s k p.node p.buffer limit) (sym same)
      (subst (λ (x : ℕ). IsWell s (kind_at ts j) x p.buffer limit) (sym at.node)
      (subst (λ (x : ℕ). IsWell s (kind_at ts j) (nodes_before ts j) x limit) (sym (at.buffer ∙ ap (λ x. buffers_before x ts j) (sym e))) w))

  pub column_there : (s : Entries) (vs : Option ℤ → Layout) (limit : Limit) (u v : TypeTree) (x : Layout) → s.extra ≡ extra → u ≡ v → IsColumn s vs t u p.node p.buffer limit x
      → IsColumn s vs (kind_at ts j) v (nodes_before ts j) (buffers_before s.extra ts j) limit x
  column_there s vs limit u v x e typed is_column =
      subst (λ (y : ℕ). IsColumn s vs (kind_at ts j) v (nodes_before ts j) y limit x) (at.buffer ∙ ap (λ y. buffers_before y ts j) (sym e))
      (subst (λ (y : ℕ). IsColumn s vs (kind_at ts j) v y p.buffer limit x) at.node
      (subst (λ (k : Kind). IsColumn s vs k v p.node p.buffer limit x) same (subst (λ (w : TypeTree). IsColumn s vs t w p.node p.buffer limit x) typed is_column)))

  -- Its buffers have the same encoded lengths there.
  pub listed_there : (s : Entries) → listed_in s extra t p.buffer ≡ listed_in s extra (kind_at ts j) (buffers_before extra ts j)
  listed_there s = ap (λ (k : Kind). listed_in s extra k p.buffer) same ∙ ap (listed_in s extra (kind_at ts j)) at.buffer

  -- An array that retains at most these lengths does so there.
  pub held_there : (s : Entries) (x : Layout) → HoldsListed s extra t p.buffer x → HoldsListed s extra (kind_at ts j) (buffers_before extra ts j) x
  held_there s x h = subst (λ (b : ℕ). HoldsListed s extra (kind_at ts j) b x) at.buffer (subst (λ (k : Kind). HoldsListed s extra k p.buffer x) same h)

  -- Its errors are those of the kind there.
  pub faults_there : (e : Fault) → OwnFault e (IsFaultOf t e) → OwnFault e (IsFaultOf (kind_at ts j) e)
  faults_there e h = subst (λ (k : Kind). OwnFault e (IsFaultOf k e)) same h

-- The position after a column, by its type.
pub skipped : (extra : ℕ) (u : TypeTree) (id : Option ℤ) (is : IdTrees) (p q : Place) → q.node ≡ p.node + types.nodes u → q.buffer ≡ p.buffer + types.buffers extra u
    → IsBehind extra (kind_of u id is) p q
skipped extra u id is p q n m =
    let a = node_counts u id is in
    let b = buffer_counts extra u id is in
    record { node = omega (arith, n, a); buffer = omega (arith, m, b) }
