-- Columns of structs, field by field.
use Rattle.std.proofs.Common.{arith, ◌≡◌, refl, ℕ, ℤ, ◌+◌, ◌<◌, Option, List, [], ◌∷◌, ◌++◌, length, drop, get_or, sym, ap, subst, ◌∙◌}
use Rattle.std.proofs.lemmas.List.{at_drop_more}
use Rattle.lower.specs.TypeTrees.{FieldTree, FieldTrees, no_fields, more_fields}
use Rattle.lower.specs.TypeViews.{field_view, fields_view}
use Rattle.lower.specs.declared.datatypes.Field.{Field}
use Rattle.lower_validation.specs.Fields.{field_type}
use Rattle.lower_arrays.specs.Layouts.{Layout, Layouts, no_layouts, more_layouts, layouts, len_of}
use Rattle.lower_arrays.specs.Children.{ChildTypes, HasChild, AllHave}
use Rattle.ipc_base.specs.IdTrees.{IdTrees}
use Rattle.ipc_devices.specs.Device.{Device}
use Rattle.ipc_model.proofs.ReadSlots.{array_len}
use Rattle.ipc_model.specs.Kinds.{Kind, Kinds, no_kinds, more_kinds, nodes, all_nodes, buffers, all_buffers}
use Rattle.ipc_model.specs.TypeKinds.{first_ids, other_ids, field_kind, kinds_of}
use Rattle.ipc_model.specs.Entries.{Entries, Limit, rows}
use Rattle.ipc_model.specs.Columns.{IsSome, AllHaveRows, IsWell}
use Rattle.ipc_model.specs.ReadArrays.{array_at, arrays_at}
use Rattle.ipc_read_flat.specs.Bodies.{entries}
use Rattle.ipc_read_flat.specs.Kinds.{IsBehind}
use Rattle.ipc_read_nested.specs.StructLevels.{over, Left, HaveRows, SoFar}
use Rattle.ipc_read_flat.specs.declared.read.body.Body.{Body}
use Rattle.ipc_read_flat.specs.declared.read.body.Place.{Place}
use Rattle.ipc_read_nested.proofs.ColumnLevels.{array_type}

pub extra_is : {R : Type 0} (d : Device R) (b : Body R) → b.extra ≡ (entries d b).extra
unfolding entries
extra_is d b = refl

-- ---- what is left

pub fields_left : (fs : List Field) (i : ℕ) (f : Field) → i < length fs → f ≡ get_or fs i f → fields_view (drop i fs) ≡ more_fields (field_view f) (fields_view (drop (i + 1) fs))
fields_left fs i f h e = at_drop_more fields_view fs i f h ∙ ap (λ (g : Field). more_fields (field_view g) (fields_view (drop (i + 1) fs))) (sym e)

pub kinds_left : (fs : List Field) (is : IdTrees) (i : ℕ) (f : Field) → i < length fs → f ≡ get_or fs i f
    → kinds_of (fields_view (drop i fs)) is ≡ more_kinds (field_kind (field_view f) (first_ids is)) (kinds_of (fields_view (drop (i + 1) fs)) (other_ids is))
kinds_left fs is i f h e = ap (λ gs. kinds_of gs is) (fields_left fs i f h e)

pub over_more : (xs : List Layout) (x : Layout) (ls : Layouts) → over (xs ++ x ∷ []) ls ≡ over xs (more_layouts x ls)
over_more [] x ls = refl
over_more (y ∷ xs) x ls = ap (λ zs. more_layouts y zs) (over_more xs x ls)

pub over_none : (xs : List Layout) → over xs no_layouts ≡ layouts xs
over_none [] = refl
over_none (x ∷ xs) = ap (λ zs. more_layouts x zs) (over_none xs)

pub left_start : (extra : ℕ) (all : Kinds) (p : Place) → Left extra all all p p
left_start extra all p = record { node = refl; buffer = refl }

pub left_more : (extra : ℕ) (all rest rest' : Kinds) (t : Kind) (start p q : Place) → rest ≡ more_kinds t rest' → Left extra all rest start p → IsBehind extra t p q → Left extra all rest' start q
left_more extra all rest rest' t start p q e l next =
    let n = ap all_nodes e in
    let m = ap (all_buffers extra) e in
    record { node = omega (arith, n, l.node, next.node); buffer = omega (arith, m, l.buffer, next.buffer) }

pub so_start : (s : Entries) (vs : Option ℤ → Layout) (all : Kinds) (fs : FieldTrees) (p : Place) (limit : Limit) (k : ℕ) → SoFar s vs all all fs fs p p limit k []
so_start s vs all fs p limit k = record { on = λ h. h; back = λ h. h; same = refl }

-- one more column, of k slots
module _ (extra : ℕ) (s : Entries) (vs : Option ℤ → Layout) (all rest rest' : Kinds) (t : Kind) (f : FieldTree) (fs gs gs' : FieldTrees) (start p q : Place) (limit : Limit) (k : ℕ) (xs : List Layout)
    (same_extra : extra ≡ s.extra) (more : rest ≡ more_kinds t rest') (more_gs : gs ≡ more_fields f gs') (next : IsBehind extra t p q)
    (so : SoFar s vs all rest fs gs start p limit k xs) where
  behind : q.buffer ≡ p.buffer + buffers s.extra t
  behind = next.buffer ∙ ap (λ n. p.buffer + buffers n t) same_extra

  pub one_on : HaveRows s all start limit k → IsWell s t p.node p.buffer limit × (rows s p.node limit ≡ k)
  one_on h = let w = subst (λ ts. HaveRows s ts p limit k) more (so.on h) in w.0

  pub so_more : (x : Layout) → IsWell s t p.node p.buffer limit × (x ≡ array_at s vs t (field_type f) p.node p.buffer limit) → len_of x ≡ k
      → SoFar s vs all rest' fs gs' start q limit k (xs ++ x ∷ [])
  so_more x read len =
      let count : rows s p.node limit ≡ k = sym (array_len s vs t (field_type f) p.node p.buffer limit) ∙ sym (ap len_of read.1) ∙ len in
      record {
        on = λ h.
            let w = subst (λ ts. HaveRows s ts p limit k) more (so.on h) in
            subst (λ n. AllHaveRows s rest' q.node n limit k) (sym behind) (subst (λ n. AllHaveRows s rest' n (p.buffer + buffers s.extra t) limit k) (sym next.node) w.1);
        back = λ h.
            so.back (subst (λ ts. HaveRows s ts p limit k) (sym more)
            ((read.0, count), subst (λ n. AllHaveRows s rest' n (p.buffer + buffers s.extra t) limit k) next.node (subst (λ n. AllHaveRows s rest' q.node n limit k) behind h)));
        same =
            over_more xs x (arrays_at s vs rest' gs' q.node q.buffer limit)
            ∙ ap (λ y. over xs (more_layouts y (arrays_at s vs rest' gs' q.node q.buffer limit))) read.1
            ∙ (λ i. over xs (more_layouts (array_at s vs t (field_type f) p.node p.buffer limit) (arrays_at s vs rest' gs' (next.node i) (behind i) limit)))
            ∙ (λ i. over xs (arrays_at s vs (sym more i) (sym more_gs i) p.node p.buffer limit))
            ∙ so.same;
      }

-- ---- a whole struct

pub arrays_typed : (s : Entries) (vs : Option ℤ → Layout) (fs : FieldTrees) (is : IdTrees) (a b : ℕ) (limit : Limit) → ChildTypes fs (arrays_at s vs (kinds_of fs is) fs a b limit)
arrays_typed s vs no_fields is a b limit = tt
arrays_typed s vs (more_fields f fs) is a b limit =
    let t = field_kind f (first_ids is) in
    (array_type s vs t (field_type f) a b limit, arrays_typed s vs fs (other_ids is) (a + nodes t) (b + buffers s.extra t) limit)

pub arrays_have : (s : Entries) (vs : Option ℤ → Layout) (ts : Kinds) (fs : FieldTrees) (a b : ℕ) (limit : Limit) (k : ℕ) → AllHaveRows s ts a b limit k → AllHave k (arrays_at s vs ts fs a b limit)
arrays_have s vs no_kinds fs a b limit k h = tt
arrays_have s vs (more_kinds t ts) no_fields a b limit k h =
    (array_len s vs t _ a b limit ∙ h.0.1, arrays_have s vs ts no_fields (a + nodes t) (b + buffers s.extra t) limit k h.1)
arrays_have s vs (more_kinds t ts) (more_fields f fs) a b limit k h =
    (array_len s vs t _ a b limit ∙ h.0.1, arrays_have s vs ts fs (a + nodes t) (b + buffers s.extra t) limit k h.1)

pub arrays_some : (s : Entries) (vs : Option ℤ → Layout) (ts : Kinds) (fs : FieldTrees) (a b : ℕ) (limit : Limit) → IsSome ts → HasChild (arrays_at s vs ts fs a b limit)
arrays_some s vs no_kinds fs a b limit h = h
arrays_some s vs (more_kinds t ts) fs a b limit h = tt

pub some_arrays : (s : Entries) (vs : Option ℤ → Layout) (ts : Kinds) (fs : FieldTrees) (a b : ℕ) (limit : Limit) → HasChild (arrays_at s vs ts fs a b limit) → IsSome ts
some_arrays s vs no_kinds fs a b limit h = h
some_arrays s vs (more_kinds t ts) fs a b limit h = tt

-- the next column of what is left
pub one_of : (s : Entries) (vs : Option ℤ → Layout) (all rest rest' : Kinds) (t : Kind) (fs gs : FieldTrees) (start p : Place) (limit : Limit) (k : ℕ) (xs : List Layout) → rest ≡ more_kinds t rest'
    → SoFar s vs all rest fs gs start p limit k xs → HaveRows s all start limit k → IsWell s t p.node p.buffer limit × (rows s p.node limit ≡ k)
one_of s vs all rest rest' t fs gs start p limit k xs more so h =
    let w = subst (λ ts. HaveRows s ts p limit k) more (so.on h) in w.0

pub so_end : (s : Entries) (vs : Option ℤ → Layout) (all rest : Kinds) (fs gs : FieldTrees) (start p : Place) (limit : Limit) (k : ℕ) (xs : List Layout) → rest ≡ no_kinds → SoFar s vs all rest fs gs start p limit k xs
    → HaveRows s all start limit k × (layouts xs ≡ arrays_at s vs all fs start.node start.buffer limit)
so_end s vs all rest fs gs start p limit k xs e so = (
  so.back (subst (λ ts. HaveRows s ts p limit k) (sym e) tt),
  sym (over_none xs) ∙ (λ i. over xs (arrays_at s vs (sym e i) gs p.node p.buffer limit)) ∙ so.same,
)
