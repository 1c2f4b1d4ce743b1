-- Types and their normal forms: what is below them, and their dictionary fields.
use Rattle.std.proofs.Common.{◌≡◌, ℤ, Bool, true, false, List, [], ◌∷◌, ◌++◌, map, Option, Some, option_map, cond, refl, sym, ap, ap₂, ◌∙◌}
use Rattle.lower.specs.Normal.{norm, norm_field, norm_fields}
use Rattle.lower.specs.Physical.{physical}
use Rattle.lower.specs.TypeTrees.{TypeTree, plain, single, group, dictionary, extension, FieldTree, field, FieldTrees, no_fields, more_fields}
use Rattle.lower_validation.specs.Fields.{child_fields, field_type}
use Rattle.lower_validation.specs.Keys.{values_type}
use Rattle.lower_arrays.specs.Children.{ChildTypes}
use Rattle.lower_arrays.specs.Layouts.{Layouts, no_layouts, more_layouts}
use Rattle.ipc_base.specs.IdTrees.{IdTree, ids, IdTrees}
use Rattle.ipc_model.specs.Batches.{Place, field_places, own_place, inner_places, places, has_id, place_of}
use Rattle.ipc_model.specs.TypeKinds.{first_ids, other_ids}
use Rattle.ipc_plan.specs.Batches.{AreLike}

-- ---- what lies below a type

physical_normal : (t : TypeTree) → physical (norm t) ≡ physical t
physical_normal (plain p) = refl
physical_normal (single s f) = refl
physical_normal (group g fs) = refl
physical_normal (dictionary keys t ordered) = refl
physical_normal (extension name t text) = physical_normal t

pub same_physical : (t u : TypeTree) → norm t ≡ norm u → physical t ≡ physical u
same_physical t u e = sym (physical_normal t) ∙ ap physical e ∙ physical_normal u

values_normal : (t : TypeTree) → values_type (norm t) ≡ norm (values_type t)
values_normal (plain p) = refl
values_normal (single s f) = refl
values_normal (group g fs) = refl
values_normal (dictionary keys t ordered) = refl
values_normal (extension name t text) = values_normal t

pub same_values : (t u : TypeTree) → norm t ≡ norm u → norm (values_type t) ≡ norm (values_type u)
same_values t u e = sym (values_normal t) ∙ ap values_type e ∙ values_normal u

fields_normal : (t : TypeTree) → child_fields (norm t) ≡ norm_fields (child_fields t)
fields_normal (plain p) = refl
fields_normal (single s f) = refl
fields_normal (group g fs) = refl
fields_normal (dictionary keys t ordered) = refl
fields_normal (extension name t text) = fields_normal t

field_normal : (f : FieldTree) → field_type (norm_field f) ≡ norm (field_type f)
field_normal (field name t nullable metadata) = refl

first_same : (f g : FieldTree) (fs gs : FieldTrees) → more_fields f fs ≡ more_fields g gs → f ≡ g
first_same f g fs gs e = cc

others_same : (f g : FieldTree) (fs gs : FieldTrees) → more_fields f fs ≡ more_fields g gs → fs ≡ gs
others_same f g fs gs e = cc

like_fields : (fs gs : FieldTrees) (cs : Layouts) → norm_fields fs ≡ norm_fields gs → ChildTypes fs cs → AreLike gs cs
like_fields no_fields no_fields no_layouts e h = tt
like_fields no_fields (more_fields g gs) cs e h = absurd cc
like_fields (more_fields f fs) no_fields cs e h = absurd cc
like_fields no_fields no_fields (more_layouts c cs) e h = absurd h
like_fields (more_fields f fs) (more_fields g gs) no_layouts e h = absurd h
like_fields (more_fields f fs) (more_fields g gs) (more_layouts c cs) e h = (
  ap norm h.0 ∙ sym (field_normal f) ∙ ap field_type (first_same (norm_field f) (norm_field g) (norm_fields fs) (norm_fields gs) e) ∙ field_normal g,
  like_fields fs gs cs (others_same (norm_field f) (norm_field g) (norm_fields fs) (norm_fields gs) e) h.1,
)

-- the children of an array of one type are like those of the other
pub like_children : (t u : TypeTree) (cs : Layouts) → norm t ≡ norm u → ChildTypes (child_fields t) cs → AreLike (child_fields u) cs
like_children t u cs e h = like_fields (child_fields t) (child_fields u) cs (sym (fields_normal t) ∙ ap child_fields e ∙ fields_normal u) h

-- ---- dictionary fields

-- The dictionary field with its type in the normal form.
abbrev pub normal_place : Place → Place
normal_place p = record { id = p.id; type = norm p.type; ids = p.ids }

map_both : (ps qs : List Place) → map normal_place (ps ++ qs) ≡ map normal_place ps ++ map normal_place qs
map_both [] qs = refl
map_both (p ∷ ps) qs = ap (λ (rs : List Place). normal_place p ∷ rs) (map_both ps qs)

own_normal : (t : TypeTree) (id : Option ℤ) (is : IdTrees) → own_place (norm t) id is ≡ map normal_place (own_place t id is)
own_normal (plain p) id is = refl
own_normal (single s f) id is = refl
own_normal (group g fs) id is = refl
own_normal (dictionary keys t ordered) id is = refl
own_normal (extension name t text) id is = own_normal t id is

mutual
  field_places_normal : (f : FieldTree) (i : IdTree) → field_places (norm_field f) i ≡ map normal_place (field_places f i)
  field_places_normal (field name t nullable metadata) (ids id is) =
      ap₂ (λ (ps qs : List Place). ps ++ qs) (own_normal t id is) (inner_normal t is) ∙ sym (map_both (own_place t id is) (inner_places t is))

  inner_normal : (t : TypeTree) (is : IdTrees) → inner_places (norm t) is ≡ map normal_place (inner_places t is)
  inner_normal (plain p) is = refl
  inner_normal (single s f) is = field_places_normal f (first_ids is)
  inner_normal (group g fs) is = places_normal fs is
  inner_normal (dictionary keys t ordered) is = inner_normal t is
  inner_normal (extension name t text) is = inner_normal t is

  pub places_normal : (fs : FieldTrees) (is : IdTrees) → places (norm_fields fs) is ≡ map normal_place (places fs is)
  places_normal no_fields is = refl
  places_normal (more_fields f fs) is =
      ap₂ (λ (ps qs : List Place). ps ++ qs) (field_places_normal f (first_ids is)) (places_normal fs (other_ids is)) ∙ sym (map_both (field_places f (first_ids is)) (places fs (other_ids is)))

by_test : (b : Bool) (p : Place) (o : Option Place) (ps : List Place) (id : ℤ) → place_of (map normal_place ps) id ≡ option_map normal_place o
    → cond b (Some (normal_place p)) (place_of (map normal_place ps) id) ≡ option_map normal_place (cond b (Some p) o)
by_test true p o ps id e = refl
by_test false p o ps id e = e

pub place_normal : (ps : List Place) (id : ℤ) → place_of (map normal_place ps) id ≡ option_map normal_place (place_of ps id)
place_normal [] id = refl
place_normal (p ∷ ps) id = by_test (has_id p.id id) p (place_of ps id) ps id (place_normal ps id)
