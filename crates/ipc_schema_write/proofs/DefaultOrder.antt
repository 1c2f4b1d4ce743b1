-- The default ids are in the order of the dictionary fields.
use Rattle.std.proofs.Common.{◌≡◌, ℕ, ◌+◌, ℤ, pos, List, [], ◌∷◌, ◌++◌, length, Bool, true, false, cond, Option, Some, None, refl, subst, sym, ap, ◌∙◌, arith}
use Rattle.lower.specs.Counts.{is_dictionary}
use Rattle.lower.specs.TypeTrees.{TypeTree, plain, single, group, dictionary, extension, FieldTree, field, FieldTrees, no_fields, more_fields}
use Rattle.ipc_base.specs.IdTrees.{ids, IdTrees}
use Rattle.ipc_model.specs.Batches.{Place, field_places, own_place, inner_places, places}
use Rattle.ipc_schema_write.specs.DefaultIds.{count_field, default_children, default_ids, default_all, CountFrom, DefaultLaw}
use Rattle.ipc_schema_write.proofs.PlaceCounts.{own-count, field-count}

-- The ids continue after some dictionary fields.
count_on : (n m : ℕ) (ps qs : List Place) → n + length ps ≡ m → CountFrom n ps → CountFrom m qs → CountFrom n (ps ++ qs)
count_on n m [] qs e h r = let same : m ≡ n = omega (arith, e) in subst (λ (k : ℕ). CountFrom k qs) same r
count_on n m (p ∷ ps) qs e h r = (h.0, count_on (n + 1) m ps qs (omega (arith, e)) h.1 r)

-- The dictionary field that a field itself is has the id n, if it has one.
own_first : (n : ℕ) (t : TypeTree) (is : IdTrees) → CountFrom n (own_place t (Some (pos n)) is)
own_first n (plain p) is = tt
own_first n (single s f) is = tt
own_first n (group g fs) is = tt
own_first n (dictionary keys t ordered) is = (refl, tt)
own_first n (extension name t text) is = own_first n t is

own_none : (t : TypeTree) (id : Option ℤ) (is : IdTrees) → is_dictionary t ≡ false → own_place t id is ≡ []
own_none (plain p) id is e = refl
own_none (single s f) id is e = refl
own_none (group g fs) id is e = refl
own_none (dictionary keys t ordered) id is e = absurd cc
own_none (extension name t text) id is e = own_none t id is e

mutual
  all_in_order : (n : ℕ) (fs : FieldTrees) → CountFrom n (places fs (default_all n fs))
  all_in_order n no_fields = tt
  all_in_order n (more_fields f fs) =
      count_on n (n + count_field f) (field_places f (default_ids n f)) (places fs (default_all (n + count_field f) fs)) (ap (λ k. n + k) (field-count f (default_ids n f)))
      (field_in_order n f) (all_in_order (n + count_field f) fs)

  field_in_order : (n : ℕ) (f : FieldTree) → CountFrom n (field_places f (default_ids n f))
  field_in_order n (field name t nullable metadata) = at name nullable metadata t (is_dictionary t) refl (below_in_order (n + 1) t) (below_in_order n t)
    where
      at : (name : List ℕ) (nullable : Bool) (metadata : _) (t : TypeTree) (b : Bool) → is_dictionary t ≡ b → CountFrom (n + 1) (inner_places t (default_children (n + 1) t))
          → CountFrom n (inner_places t (default_children n t))
          → CountFrom n (field_places (field name t nullable metadata) (cond b (ids (Some (pos n)) (default_children (n + 1) t)) (ids None (default_children n t))))
      at name nullable metadata t true e behind here =
          count_on n (n + 1) (own_place t (Some (pos n)) (default_children (n + 1) t)) (inner_places t (default_children (n + 1) t))
          (ap (λ k. n + k) (own-count t (Some (pos n)) (default_children (n + 1) t) ∙ ap (λ b. cond b 1 0) e)) (own_first n t (default_children (n + 1) t)) behind
      at name nullable metadata t false e behind here =
          subst (λ (ps : List Place). CountFrom n (ps ++ inner_places t (default_children n t))) (sym (own_none t None (default_children n t) e)) here

  below_in_order : (n : ℕ) (t : TypeTree) → CountFrom n (inner_places t (default_children n t))
  below_in_order n (plain p) = tt
  below_in_order n (single s f) = field_in_order n f
  below_in_order n (group g fs) = all_in_order n fs
  below_in_order n (dictionary keys t ordered) = below_in_order n t
  below_in_order n (extension name t text) = below_in_order n t

pub default_law : DefaultLaw
default_law fs = all_in_order 0 fs
