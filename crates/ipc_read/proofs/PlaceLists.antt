-- The first dictionary fields of some fields, in pre-order.
use Rattle.std.proofs.Common.{◌≡◌, refl, ℕ, ℤ, ◌+◌, ◌<◌, Bool, true, false, cond, is_some, List, [], ◌∷◌, ◌++◌, length, drop, get_or, Box, Global, Option, None, Some, MatchOption, sym, ap, subst, ◌∙◌, inl, inr}
use denote.Hole.Carrier.{out}
use Rattle.std.proofs.lemmas.Bool.{cases_Bool}
use Rattle.std.proofs.lemmas.Bool.Decides.{Decides-int_eq}
use Rattle.std.proofs.lemmas.Cmp.{int_eq_equiv}
use Rattle.std.specs.Prelude.{string_bytes}
use Rattle.std.specs.Ordering.{int_eq}
use Rattle.lower.specs.declared.datatypes.IntegerType.{IntegerType}
use Rattle.lower.specs.TypeTrees.{TypeTree, plain, single, group, dictionary, extension, field, FieldTree}
use Rattle.lower.specs.TypeViews.{type_step, field_step, type_view, field_view, fields_view, pairs_of}
use Rattle.lower.specs.declared.datatypes.DataType.{DataType}
use Rattle.lower.specs.declared.datatypes.DataType.TheVariants as Types
use Rattle.lower.specs.declared.datatypes.DataType.TheViews.{out-DataType}
use Rattle.lower.specs.declared.datatypes.DataType.TheFolds.{fold_out-DataType, fold_out-Field}
use Rattle.lower.specs.declared.datatypes.Field.{Field}
use Rattle.ipc_base.specs.IdTrees.{IdTree, ids, IdTrees}
use Rattle.ipc_model.specs.Batches.{Place, field_places, own_place, inner_places, places, has_id, place_of}
use Rattle.ipc_model.specs.TypeKinds.{first_ids, other_ids}
use Rattle.ipc_read_nested.proofs.StructReads.{fields_left}

-- ---- the first of some dictionary fields

module _ (id : ℤ) where
  none_first : (b : Bool) (x : Place) (o p q : Option Place) → cond b (Some x) o ≡ None → (o ≡ None → p ≡ q) → cond b (Some x) p ≡ q
  none_first true x o p q e f = let no : Some x ≡ None = e in absurd cc
  none_first false x o p q e f = f e

  some_first : (b : Bool) (x y : Place) (o p : Option Place) → cond b (Some x) o ≡ Some y → (o ≡ Some y → p ≡ Some y) → cond b (Some x) p ≡ Some y
  some_first true x y o p e f = e
  some_first false x y o p e f = f e

  pub first_behind : (xs ys : List Place) → place_of xs id ≡ None → place_of (xs ++ ys) id ≡ place_of ys id
  first_behind [] ys e = refl
  first_behind (x ∷ xs) ys e = none_first (has_id x.id id) x (place_of xs id) (place_of (xs ++ ys) id) (place_of ys id) e (first_behind xs ys)

  pub first_before : (xs ys : List Place) (p : Place) → place_of xs id ≡ Some p → place_of (xs ++ ys) id ≡ Some p
  first_before [] ys p e = let no : None ≡ Some p = e in absurd cc
  first_before (x ∷ xs) ys p e = some_first (has_id x.id id) x p (place_of xs id) (place_of (xs ++ ys) id) e (first_before xs ys p)

  -- A type whose field has no id is skipped.
  pub first_unowned : (t : TypeTree) (is : IdTrees) (ps : List Place) → place_of (own_place t None is ++ ps) id ≡ place_of ps id
  first_unowned (plain p) is ps = refl
  first_unowned (single s f) is ps = refl
  first_unowned (group g fs) is ps = refl
  first_unowned (dictionary keys t ordered) is ps = refl
  first_unowned (extension name t text) is ps = first_unowned t is ps

  -- a dictionary with this id is found, and one with another isn't
  pub own_first : (own : Option ℤ) (t : TypeTree) (is : IdTrees) (ps : List Place) → own ≡ Some id
      → place_of (record { id = own; type = t; ids = is } ∷ ps) id ≡ Some (record { id = Some id; type = t; ids = is })
  own_first own t is ps e =
      ap (λ (o : Option ℤ). place_of (record { id = o; type = t; ids = is } ∷ ps) id) e
      ∙ ap (λ (b : Bool). cond b (Some (record { id = Some id; type = t; ids = is })) (place_of ps id)) (int_eq_equiv.refl id)

  has_other : (own : Option ℤ) → (own ≡ Some id → ⊥) → has_id own id ≡ false
  has_other None other = refl
  has_other (Some i) other = elim (cases_Bool (int_eq i id)) [
    | inl same ↦ absurd (other (ap Some ((Decides-int_eq i id).0 same)))
    | inr e ↦ e
  ]

  pub own_other : (own : Option ℤ) (t : TypeTree) (is : IdTrees) (ps : List Place) → (own ≡ Some id → ⊥)
      → place_of (record { id = own; type = t; ids = is } ∷ ps) id ≡ place_of (own_place t None is ++ ps) id
  own_other own t is ps other =
      ap (λ (b : Bool). cond b (Some (record { id = own; type = t; ids = is })) (place_of ps id)) (has_other own other)
      ∙ sym (first_unowned t is ps)

  -- What was found of some dictionary fields, with the same first as others.
  abbrev pub Finds : {X : Type 0} → Option X → (X → TypeTree) → (X → IdTrees) → List Place → Type 0
  Finds r type_in ids_in ps = MatchOption r (place_of ps id ≡ None) (λ x. place_of ps id ≡ Some (record { id = Some id; type = type_in x; ids = ids_in x }))

  module _ {X : Type 0} (r : Option X) (type_in : X → TypeTree) (ids_in : X → IdTrees) where
    finds_like : (ps qs : List Place) → place_of ps id ≡ place_of qs id → Finds r type_in ids_in qs → Finds r type_in ids_in ps
    finds_like ps qs e h =
        subst (λ (o : Option Place). MatchOption r (o ≡ None) (λ x. o ≡ Some (record { id = Some id; type = type_in x; ids = ids_in x }))) (sym e) h

    -- in the values of a dictionary that has another id
    pub finds_inside : (own : Option ℤ) (u t : TypeTree) (is : IdTrees) (keys : IntegerType) (ordered : Bool) → u ≡ dictionary keys t ordered → (own ≡ Some id → ⊥)
        → Finds r type_in ids_in (own_place t None is ++ inner_places t is) → Finds r type_in ids_in (own_place u own is ++ inner_places u is)
    finds_inside own u t is keys ordered named other h =
        finds_like (own_place u own is ++ inner_places u is) (own_place t None is ++ inner_places t is)
        (ap (λ v. place_of (own_place v own is ++ inner_places v is) id) named ∙ own_other own t is (inner_places t is) other) h

    -- in the first of some fields
    pub finds_first : (all here rest : List Place) → place_of all id ≡ place_of (here ++ rest) id → is_some r ≡ true → Finds r type_in ids_in here
        → Finds r type_in ids_in all
    finds_first all here rest e there h = finds_at r there h
      where
        finds_at : (o : Option X) → is_some o ≡ true → Finds o type_in ids_in here → Finds o type_in ids_in all
        finds_at None t f = absurd cc
        finds_at (Some x) t f = e ∙ first_before here rest _ f

    -- in none of the first
    pub finds_behind : (all here rest : List Place) → place_of all id ≡ place_of (here ++ rest) id → is_some r ≡ false → Finds r type_in ids_in here
        → place_of all id ≡ place_of rest id
    finds_behind all here rest e none h = e ∙ first_behind here rest (no_place r none h)
      where
        no_place : (o : Option X) → is_some o ≡ false → Finds o type_in ids_in here → place_of here id ≡ None
        no_place None t f = f
        no_place (Some x) t f = absurd cc

-- ---- types and fields

pub dictionary_view : (d : DataType) (keys : IntegerType) (t : Box DataType Global) (ordered : Bool) → d ≡ Types.Dictionary keys t ordered
    → type_view d ≡ dictionary keys (type_view t.value) ordered
unfolding out-DataType out
dictionary_view d keys t ordered e = ap type_view e ∙ fold_out-DataType TypeTree FieldTree type_step field_step (Types.Dictionary keys t ordered)

field_is : (f : Field) → field_view f ≡ field (string_bytes f.name) (type_view f.data_type) f.is_nullable (pairs_of f.metadata.entries)
field_is f = fold_out-Field TypeTree FieldTree type_step field_step f

pub child_places : (f : Field) (i : IdTree) (own : Option ℤ) (below : IdTrees) → i ≡ ids own below
    → field_places (field_view f) i ≡ own_place (type_view f.data_type) own below ++ inner_places (type_view f.data_type) below
child_places f i own below e = ap (λ j. field_places (field_view f) j) e ∙ ap (λ g. field_places g (ids own below)) (field_is f)

pub places_left : (fs : List Field) (is : IdTrees) (i : ℕ) (f : Field) → i < length fs → f ≡ get_or fs i f
    → places (fields_view (drop i fs)) is ≡ field_places (field_view f) (first_ids is) ++ places (fields_view (drop (i + 1) fs)) (other_ids is)
places_left fs is i f h e = ap (λ gs. places gs is) (fields_left fs i f h e)

pub ruleset first_places = (own_first)
