-- The dictionary fields of fields, collected one field after another.
use Rattle.std.proofs.Common.{◌≡◌, ℕ, zero, suc, ◌+◌, ◌<◌, ◌≤◌, ◌++◌, append-nil, append_assoc, drop, List, [], ◌∷◌, length, get_or, ℤ, Bool, Option, None, Result, Ok, Err, true≢false, refl, ap, sym, subst, ◌∙◌, arith}
use Rattle.std.proofs.lemmas.List.{drop_more, drop_all}
use Rattle.std.specs.Prelude.{is_some, OnOk}
use Rattle.std.specs.declared.alloc.AllocError.{AllocError}
use Rattle.lower.specs.Counts.{is_dictionary}
use Rattle.lower.specs.TypeTrees.{Pairs, TypeTree, plain, single, group, dictionary, extension, FieldTree, field, FieldTrees, more_fields}
use Rattle.lower.specs.TypeViews.{field_view, fields_view}
use Rattle.lower.specs.declared.datatypes.Field.{Field}
use Rattle.ipc_base.specs.Fitting.{AllFit, Fits}
use Rattle.ipc_base.specs.IdTrees.{ids, IdTrees, ids_view, all_ids_view}
use Rattle.ipc_model.specs.Batches.{Place, field_places, inner_places, own_place, places}
use Rattle.ipc_base.specs.declared.ipc.IpcField.{IpcField}

-- The dictionary fields so far, with those of the fields that are left, are all.
pub record AreLeft (so_far : List Place) (fs : List Field) (is : List IpcField) (i : ℕ) (all : List Place) : Type 0 where
  pub left : so_far ++ places (fields_view (drop i fs)) (all_ids_view (drop i is)) ≡ all
  pub fit : AllFit (fields_view (drop i fs)) (all_ids_view (drop i is))

more : {A : Type 0} (xs : List A) (i : ℕ) (y : A) → i < length xs → y ≡ get_or xs i y → drop i xs ≡ y ∷ drop (i + 1) xs
more xs i y inside y_is = drop_more xs i y inside ∙ ap (λ z. z ∷ drop (i + 1) xs) (sym y_is)

fit-inside : (x : FieldTree) (xs : FieldTrees) (is : List IpcField) (i : ℕ) → AllFit (more_fields x xs) (all_ids_view (drop i is)) → i < length is
fit-inside x xs [] zero h = absurd h
fit-inside x xs [] (suc i) h = absurd h
fit-inside x xs (j ∷ is) zero h = omega arith
fit-inside x xs (j ∷ is) (suc i) h = let inside = fit-inside x xs is i h in omega (arith, inside)

module _ (so_far : List Place) (fs : List Field) (is : List IpcField) (i : ℕ) (all : List Place) (x : Field) (inside : i < length fs) (x_is : x ≡ get_or fs i x) (l : AreLeft so_far fs is i all) where
  fits : AllFit (more_fields (field_view x) (fields_view (drop (i + 1) fs))) (all_ids_view (drop i is))
  fits = subst (λ (ys : List Field). AllFit (fields_view ys) (all_ids_view (drop i is))) (more fs i x inside x_is) l.fit

  pub next-inside : i < length is
  next-inside = fit-inside (field_view x) (fields_view (drop (i + 1) fs)) is i fits

  module _ (d : IpcField) (d_is : d ≡ get_or is i d) where
    both : Fits (field_view x) (ids_view d) × AllFit (fields_view (drop (i + 1) fs)) (all_ids_view (drop (i + 1) is))
    both = subst (λ (js : List IpcField). AllFit (more_fields (field_view x) (fields_view (drop (i + 1) fs))) (all_ids_view js)) (more is i d next-inside d_is) fits

    pub next-fits : Fits (field_view x) (ids_view d)
    next-fits = both.0

    pub one-more : (after : List Place) → after ≡ so_far ++ field_places (field_view x) (ids_view d) → AreLeft after fs is (i + 1) all
    one-more after added = record {
      left =
          let split : places (fields_view (drop i fs)) (all_ids_view (drop i is)) ≡ field_places (field_view x) (ids_view d) ++ places (fields_view (drop (i + 1) fs)) (all_ids_view (drop (i + 1) is))
          = rw (more fs i x inside x_is, more is i d next-inside d_is) refl in
          ap (λ ps. ps ++ places (fields_view (drop (i + 1) fs)) (all_ids_view (drop (i + 1) is))) added
          ∙ append_assoc so_far (field_places (field_view x) (ids_view d)) (places (fields_view (drop (i + 1) fs)) (all_ids_view (drop (i + 1) is)))
          ∙ ap (λ ps. so_far ++ ps) (sym split) ∙ l.left;
      fit = both.1;
    }

-- no field is left
pub all-done : (so_far : List Place) (fs : List Field) (is : List IpcField) (i : ℕ) (all : List Place) → length fs ≤ i → AreLeft so_far fs is i all → so_far ≡ all
all-done so_far fs is i all past l =
    sym (append-nil so_far) ∙ ap (λ (ys : List Field). so_far ++ places (fields_view ys) (all_ids_view (drop i is))) (sym (drop_all i fs past)) ∙ l.left

-- No id, and no dictionary field.
pub none-own : (t : TypeTree) (id : Option ℤ) (is : IdTrees) (ps : List Place) → is_some id ≡ is_dictionary t → id ≡ None → ps ≡ ps ++ own_place t id is
none-own (plain p) id is ps h e = sym (append-nil ps)
none-own (single k f) id is ps h e = sym (append-nil ps)
none-own (group g fs) id is ps h e = sym (append-nil ps)
none-own (dictionary keys t ordered) id is ps h e = absurd (true≢false (sym h ∙ ap is_some e))
none-own (extension name t text) id is ps h e = none-own t id is ps h e

-- The dictionary field that a field is, and those below it.
pub field-more : (name : List ℕ) (t : TypeTree) (nullable : Bool) (es : Pairs) (id : Option ℤ) (is : IdTrees) (before between : List Place) (r : Result (Unit {0}) AllocError) (after : List Place)
    → between ≡ before ++ own_place t id is → OnOk r (after ≡ between ++ inner_places t is) → OnOk r (after ≡ before ++ field_places (field name t nullable es) (ids id is))
field-more name t nullable es id is before between (Ok x) after own inner = inner ∙ ap (λ ps. ps ++ inner_places t is) own ∙ append_assoc before (own_place t id is) (inner_places t is)
field-more name t nullable es id is before between (Err e) after own inner = tt
