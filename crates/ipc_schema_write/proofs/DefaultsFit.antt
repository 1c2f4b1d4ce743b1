-- The default ids fit, and there is one for each dictionary field.
use Rattle.std.proofs.Common.{◌≡◌, ℕ, ◌+◌, List, length, length-append, Bool, true, false, cond, refl, ◌∙◌, pos, Some, None}
use Rattle.lower.specs.TypeTrees.{TypeTree, plain, single, group, dictionary, extension, FieldTree, field, FieldTrees, no_fields, more_fields}
use Rattle.lower.specs.Counts.{is_dictionary, field_places, fields_places, inner_places, own_place}
use Rattle.ipc_base.specs.IdTrees.{ids}
use Rattle.ipc_base.specs.Fitting.{field_fits, children_fit, all_fit}
use Rattle.ipc_schema_write.specs.DefaultIds.{count_below, count_field, count_all, default_children, default_ids, default_all}

mutual
  pub all_fit-default : (n : ℕ) (fs : FieldTrees) → all_fit fs (default_all n fs) ≡ true
  all_fit-default n no_fields = refl
  all_fit-default n (more_fields f fs) = rw (field_fits-default n f, all_fit-default (n + count_field f) fs)

  field_fits-default : (n : ℕ) (f : FieldTree) → field_fits f (default_ids n f) ≡ true
  field_fits-default n (field name t nullable metadata) = at name nullable metadata t (is_dictionary t) refl (children_fit-default (n + 1) t) (children_fit-default n t)
    where
      at : (name : List ℕ) (nullable : Bool) (metadata : _) (t : TypeTree) (b : Bool) → is_dictionary t ≡ b → children_fit t (default_children (n + 1) t) ≡ true → children_fit t (default_children n t) ≡ true
          → field_fits (field name t nullable metadata) (cond b (ids (Some (pos n)) (default_children (n + 1) t)) (ids None (default_children n t))) ≡ true
      at name nullable metadata t true e more_fit fit = rw (e, more_fit)
      at name nullable metadata t false e more_fit fit = rw (e, fit)

  children_fit-default : (n : ℕ) (t : TypeTree) → children_fit t (default_children n t) ≡ true
  children_fit-default n (plain p) = refl
  children_fit-default n (single s f) = rw (field_fits-default n f)
  children_fit-default n (group g fs) = all_fit-default n fs
  children_fit-default n (dictionary keys t ordered) = children_fit-default n t
  children_fit-default n (extension name t text) = children_fit-default n t

own_count : (t : TypeTree) → length (own_place t) ≡ cond (is_dictionary t) 1 0
own_count (plain p) = refl
own_count (single s f) = refl
own_count (group g fs) = refl
own_count (dictionary keys t ordered) = refl
own_count (extension name t text) = own_count t

mutual
  pub count-fields : (fs : FieldTrees) → length (fields_places fs) ≡ count_all fs
  count-fields no_fields = refl
  count-fields (more_fields f fs) = length-append (field_places f) (fields_places fs) ∙ rw (count-field f, count-fields fs)

  count-field : (f : FieldTree) → length (field_places f) ≡ count_field f
  count-field (field name t nullable metadata) = length-append (own_place t) (inner_places t) ∙ rw (own_count t, count-below t)

  count-below : (t : TypeTree) → length (inner_places t) ≡ count_below t
  count-below (plain p) = refl
  count-below (single s f) = count-field f
  count-below (group g fs) = count-fields fs
  count-below (dictionary keys t ordered) = count-below t
  count-below (extension name t text) = count-below t
