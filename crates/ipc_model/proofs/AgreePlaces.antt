-- What agrees at the dictionary fields of a schema agrees for its columns, and at the
-- fields inside the values of each.
use Rattle.std.proofs.Common.{◌≡◌, ℕ, zero, suc, ℤ, Bool, true, false, cond, List, [], ◌∷◌, ◌++◌, Option, Some, None, ap, subst}
use Rattle.std.specs.List.{AllByRecursion}
use Rattle.std.specs.Ordering.{int_eq}
use Rattle.lower.specs.TypeTrees.{Plain, null, boolean, int8, int16, int32, int64, uint8, uint16, uint32, uint64, float16, float32, float64, timestamp, date32, date64, time32, time64, duration, interval, binary, fixed_binary, large_binary, utf8, large_utf8, decimal, decimal256, Single, list, large_list, fixed_list, entries, Group, structure, choice, TypeTree, plain, single, group, dictionary, extension, FieldTree, field, FieldTrees, no_fields, more_fields}
use Rattle.ipc_base.specs.IdTrees.{IdTree, ids, IdTrees}
use Rattle.ipc_model.specs.AgreeLaws.{AgreeUnder, AgreeFor, AgreeForAll, AgreeForChosen, AgreeAt, FieldsAgreeLaw}
use Rattle.ipc_model.specs.Batches.{kind_at, Place, field_places, own_place, inner_places, places, has_id, place_of}
use Rattle.ipc_model.specs.Entries.{Dictionary, Dictionaries}
use Rattle.ipc_model.specs.Kinds.{Kind, Kinds, no_kinds, more_kinds}
use Rattle.ipc_model.specs.TypeKinds.{plain_kind, single_kind, group_kind, first_ids, other_ids, kind_of, field_kind, kinds_of}

all_parts : {X : Type 0} (P : X → Type 0) (xs ys : List X) → AllByRecursion P (xs ++ ys) → AllByRecursion P xs × AllByRecursion P ys
all_parts P [] ys h = (tt, h)
all_parts P (x ∷ xs) ys h = let rest = all_parts P xs ys h.1 in ((h.0, rest.0), rest.1)

all_both : {X : Type 0} (P : X → Type 0) (xs ys : List X) → AllByRecursion P xs → AllByRecursion P ys → AllByRecursion P (xs ++ ys)
all_both P [] ys h k = k
all_both P (x ∷ xs) ys h k = (h.0, all_both P xs ys h.1 k)

-- The dictionary fields of two lists.
split : (ds es : Dictionaries) (ps qs : List Place) → AgreeAt ds es (ps ++ qs) → AgreeAt ds es ps × AgreeAt ds es qs
split ds es ps qs h = all_parts (λ (p : Place). AgreeUnder ds es p.id) ps qs h

-- ---- columns

plain_agrees : (ds es : Dictionaries) (p : Plain) → AgreeFor ds es (plain_kind p)
plain_agrees ds es null = tt
plain_agrees ds es boolean = tt
plain_agrees ds es int8 = tt
plain_agrees ds es int16 = tt
plain_agrees ds es int32 = tt
plain_agrees ds es int64 = tt
plain_agrees ds es uint8 = tt
plain_agrees ds es uint16 = tt
plain_agrees ds es uint32 = tt
plain_agrees ds es uint64 = tt
plain_agrees ds es float16 = tt
plain_agrees ds es float32 = tt
plain_agrees ds es float64 = tt
plain_agrees ds es (timestamp unit _) = tt
plain_agrees ds es date32 = tt
plain_agrees ds es date64 = tt
plain_agrees ds es (time32 unit) = tt
plain_agrees ds es (time64 unit) = tt
plain_agrees ds es (duration unit) = tt
plain_agrees ds es (interval unit) = tt
plain_agrees ds es binary = tt
plain_agrees ds es (fixed_binary n) = tt
plain_agrees ds es large_binary = tt
plain_agrees ds es utf8 = tt
plain_agrees ds es large_utf8 = tt
plain_agrees ds es (decimal precision scale) = tt
plain_agrees ds es (decimal256 precision scale) = tt

single_agrees : (ds es : Dictionaries) (s : Single) (t : Kind) → AgreeFor ds es t → AgreeFor ds es (single_kind s t)
single_agrees ds es list t h = h
single_agrees ds es large_list t h = h
single_agrees ds es (fixed_list n) t h = h
single_agrees ds es (entries sorted) t h = h

group_agrees : (ds es : Dictionaries) (g : Group) (ts : Kinds) → AgreeForAll ds es ts → AgreeFor ds es (group_kind g ts)
group_agrees ds es structure ts h = h
group_agrees ds es (choice type_ids mode) ts h = h

mutual
  pub type_agrees : (ds es : Dictionaries) (t : TypeTree) (id : Option ℤ) (is : IdTrees) → AgreeAt ds es (own_place t id is) → AgreeAt ds es (inner_places t is)
      → AgreeFor ds es (kind_of t id is)
  type_agrees ds es (plain p) id is own inner = plain_agrees ds es p
  type_agrees ds es (single s f) id is own inner = single_agrees ds es s (field_kind f (first_ids is)) (field_agrees ds es f (first_ids is) inner)
  type_agrees ds es (group g fs) id is own inner = group_agrees ds es g (kinds_of fs is) (fields_agree ds es fs is inner)
  type_agrees ds es (dictionary keys t ordered) id is own inner = own.0
  type_agrees ds es (extension name t text) id is own inner = type_agrees ds es t id is own inner

  field_agrees : (ds es : Dictionaries) (f : FieldTree) (i : IdTree) → AgreeAt ds es (field_places f i) → AgreeFor ds es (field_kind f i)
  field_agrees ds es (field name t nullable metadata) (ids id is) h =
      let both = split ds es (own_place t id is) (inner_places t is) h in type_agrees ds es t id is both.0 both.1

  pub fields_agree : (ds es : Dictionaries) (fs : FieldTrees) (is : IdTrees) → AgreeAt ds es (places fs is) → AgreeForAll ds es (kinds_of fs is)
  fields_agree ds es no_fields is h = tt
  fields_agree ds es (more_fields f fs) is h =
      let both = split ds es (field_places f (first_ids is)) (places fs (other_ids is)) h in
      (field_agrees ds es f (first_ids is) both.0, fields_agree ds es fs (other_ids is) both.1)

column_agrees : (ds es : Dictionaries) (ts : Kinds) (j : ℕ) → AgreeForAll ds es ts → AgreeFor ds es (kind_at ts j)
column_agrees ds es no_kinds j h = tt
column_agrees ds es (more_kinds t ts) zero h = h.0
column_agrees ds es (more_kinds t ts) (suc j) h = column_agrees ds es ts j h.1

pub chosen_agree : (ds es : Dictionaries) (ts : Kinds) (js : List ℕ) → AgreeForAll ds es ts → AgreeForChosen ds es ts js
chosen_agree ds es ts [] h = tt
chosen_agree ds es ts (j ∷ js) h = (column_agrees ds es ts j h, chosen_agree ds es ts js h)

pub fields_agree_law : FieldsAgreeLaw
fields_agree_law schema ds es h =
    let all = fields_agree ds es schema.fields schema.ids h in
    (all, λ js. chosen_agree ds es _ js all)

-- ---- inside values

-- The dictionary fields inside the values of a field.
abbrev pub AgreeInside : Dictionaries → Dictionaries → Place → Type 0
AgreeInside ds es p = AgreeAt ds es (inner_places p.type p.ids)

own_inside : (ds es : Dictionaries) (t : TypeTree) (id : Option ℤ) (is : IdTrees) → AgreeAt ds es (inner_places t is) → AllByRecursion (AgreeInside ds es) (own_place t id is)
own_inside ds es (plain p) id is h = tt
own_inside ds es (single s f) id is h = tt
own_inside ds es (group g fs) id is h = tt
own_inside ds es (dictionary keys t ordered) id is h = (h, tt)
own_inside ds es (extension name t text) id is h = own_inside ds es t id is h

mutual
  type_inside : (ds es : Dictionaries) (t : TypeTree) (is : IdTrees) → AgreeAt ds es (inner_places t is) → AllByRecursion (AgreeInside ds es) (inner_places t is)
  type_inside ds es (plain p) is h = tt
  type_inside ds es (single s f) is h = field_inside ds es f (first_ids is) h
  type_inside ds es (group g fs) is h = fields_inside ds es fs is h
  type_inside ds es (dictionary keys t ordered) is h = type_inside ds es t is h
  type_inside ds es (extension name t text) is h = type_inside ds es t is h

  field_inside : (ds es : Dictionaries) (f : FieldTree) (i : IdTree) → AgreeAt ds es (field_places f i) → AllByRecursion (AgreeInside ds es) (field_places f i)
  field_inside ds es (field name t nullable metadata) (ids id is) h =
      let both = split ds es (own_place t id is) (inner_places t is) h in
      all_both (AgreeInside ds es) (own_place t id is) (inner_places t is) (own_inside ds es t id is both.1) (type_inside ds es t is both.1)

  pub fields_inside : (ds es : Dictionaries) (fs : FieldTrees) (is : IdTrees) → AgreeAt ds es (places fs is) → AllByRecursion (AgreeInside ds es) (places fs is)
  fields_inside ds es no_fields is h = tt
  fields_inside ds es (more_fields f fs) is h =
      let both = split ds es (field_places f (first_ids is)) (places fs (other_ids is)) h in
      all_both (AgreeInside ds es) (field_places f (first_ids is)) (places fs (other_ids is)) (field_inside ds es f (first_ids is) both.0) (fields_inside ds es fs (other_ids is) both.1)

-- The values of a dictionary field name no id of their own.
own_none : (ds es : Dictionaries) (t : TypeTree) (is : IdTrees) → AgreeAt ds es (own_place t None is)
own_none ds es (plain p) is = tt
own_none ds es (single s f) is = tt
own_none ds es (group g fs) is = tt
own_none ds es (dictionary keys t ordered) is = (tt, tt)
own_none ds es (extension name t text) is = own_none ds es t is

pub values_agree : (ds es : Dictionaries) (p : Place) → AgreeInside ds es p → AgreeForAll ds es (more_kinds (kind_of p.type None p.ids) no_kinds)
values_agree ds es p h = (type_agrees ds es p.type None p.ids (own_none ds es p.type p.ids) h, tt)

found_place : (P : Place → Type 0) (q p : Place) (t : Bool) (o : Option Place) → P q → (o ≡ Some p → P p) → cond t (Some q) o ≡ Some p → P p
found_place P q p true o h rest e = let same : ◌≡◌ {A = Place} q p = cc in subst P same h
found_place P q p false o h rest e = rest e

-- What holds of each dictionary field holds of the one that is found.
pub of_place : (P : Place → Type 0) (ps : List Place) (id : ℤ) (p : Place) → AllByRecursion P ps → place_of ps id ≡ Some p → P p
of_place P [] id p h e = absurd cc
of_place P (q ∷ ps) id p h e = found_place P q p (has_id q.id id) (place_of ps id) h.0 (λ f. of_place P ps id p h.1 f) e

-- ---- one dictionary more

more_under : (ds es : Dictionaries) (d : ℤ × Dictionary) (id : Option ℤ) → AgreeUnder ds es id → AgreeUnder (d ∷ ds) (d ∷ es) id
more_under ds es d None h = tt
more_under ds es d (Some id) h = ap (λ o. cond (int_eq d.0 id) (Some d.1) o) h

pub more_agree : (ds es : Dictionaries) (d : ℤ × Dictionary) (ps : List Place) → AgreeAt ds es ps → AgreeAt (d ∷ ds) (d ∷ es) ps
more_agree ds es d [] h = tt
more_agree ds es d (p ∷ ps) h = (more_under ds es d p.id h.0, more_agree ds es d ps h.1)
