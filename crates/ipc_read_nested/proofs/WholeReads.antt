-- Columns that are read as a whole, field by field.
use Rattle.std.proofs.Common.{◌≡◌, refl, ℕ, ℤ, ◌+◌, List, [], ◌∷◌, ◌++◌, Option, None, sym, ap, subst, ◌∙◌}
use Rattle.lower.specs.TypeTrees.{FieldTree, FieldTrees, more_fields}
use Rattle.lower_validation.specs.Fields.{field_type}
use Rattle.lower_arrays.specs.Layouts.{Layout, more_layouts, layouts}
use Rattle.ipc_model.specs.Kinds.{Kind, Kinds, no_kinds, more_kinds, buffers}
use Rattle.ipc_model.specs.Entries.{Entries}
use Rattle.ipc_model.specs.Columns.{IsWell, AllWell}
use Rattle.ipc_model.specs.ReadArrays.{array_at, arrays_at}
use Rattle.ipc_read_flat.specs.Kinds.{IsBehind}
use Rattle.ipc_read_nested.specs.StructLevels.{over}
use Rattle.ipc_read_nested.specs.UnionLevels.{AreWhole, WholeSoFar}
use Rattle.ipc_read_flat.specs.declared.read.body.Place.{Place}
use Rattle.ipc_read_nested.proofs.StructReads.{over_more, over_none}

pub whole_start : (s : Entries) (vs : Option ℤ → Layout) (all : Kinds) (fs : FieldTrees) (p : Place) → WholeSoFar s vs all all fs fs p p []
whole_start s vs all fs p = record { on = λ h. h; back = λ h. h; same = refl }

-- the next column of what is left
pub whole_one : (s : Entries) (vs : Option ℤ → Layout) (all rest rest' : Kinds) (t : Kind) (fs gs : FieldTrees) (start p : Place) (xs : List Layout) → rest ≡ more_kinds t rest'
    → WholeSoFar s vs all rest fs gs start p xs → AreWhole s all start → IsWell s t p.node p.buffer None
whole_one s vs all rest rest' t fs gs start p xs more so h =
    let w = subst (λ ts. AreWhole s ts p) more (so.on h) in w.0

-- one more column
module _ (extra : ℕ) (s : Entries) (vs : Option ℤ → Layout) (all rest rest' : Kinds) (t : Kind) (f : FieldTree) (fs gs gs' : FieldTrees) (start p q : Place) (xs : List Layout)
    (same_extra : extra ≡ s.extra) (more : rest ≡ more_kinds t rest') (more_gs : gs ≡ more_fields f gs') (next : IsBehind extra t p q)
    (so : WholeSoFar s vs all rest fs gs start p xs) where
  behind : q.buffer ≡ p.buffer + buffers s.extra t
  behind = next.buffer ∙ ap (λ n. p.buffer + buffers n t) same_extra

  pub whole_more : (x : Layout) → IsWell s t p.node p.buffer None × (x ≡ array_at s vs t (field_type f) p.node p.buffer None)
      → WholeSoFar s vs all rest' fs gs' start q (xs ++ x ∷ [])
  whole_more x read = record {
    on = λ h.
        let w = subst (λ ts. AreWhole s ts p) more (so.on h) in
        subst (λ n. AllWell s rest' q.node n) (sym behind) (subst (λ n. AllWell s rest' n (p.buffer + buffers s.extra t)) (sym next.node) w.1);
    back = λ h.
        so.back (subst (λ ts. AreWhole s ts p) (sym more)
        (read.0, subst (λ n. AllWell s rest' n (p.buffer + buffers s.extra t)) next.node (subst (λ n. AllWell s rest' q.node n) behind h)));
    same =
        over_more xs x (arrays_at s vs rest' gs' q.node q.buffer None)
        ∙ ap (λ y. over xs (more_layouts y (arrays_at s vs rest' gs' q.node q.buffer None))) read.1
        ∙ (λ i. over xs (more_layouts (array_at s vs t (field_type f) p.node p.buffer None) (arrays_at s vs rest' gs' (next.node i) (behind i) None)))
        ∙ (λ i. over xs (arrays_at s vs (sym more i) (sym more_gs i) p.node p.buffer None))
        ∙ so.same;
  }

pub whole_end : (s : Entries) (vs : Option ℤ → Layout) (all rest : Kinds) (fs gs : FieldTrees) (start p : Place) (xs : List Layout) → rest ≡ no_kinds → WholeSoFar s vs all rest fs gs start p xs
    → AreWhole s all start × (layouts xs ≡ arrays_at s vs all fs start.node start.buffer None)
whole_end s vs all rest fs gs start p xs e so = (
  so.back (subst (λ ts. AreWhole s ts p) (sym e) tt),
  sym (over_none xs) ∙ (λ i. over xs (arrays_at s vs (sym e i) gs p.node p.buffer None)) ∙ so.same,
)
