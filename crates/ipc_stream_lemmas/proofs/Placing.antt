-- The dictionary fields of a chunk are among those of the schema's fields, and its keys have ids.
use Rattle.std.proofs.Common.{◌≡◌, ℤ, ◌≤◌, cond, Bool, true, false, List, [], ◌∷◌, ◌++◌, length, Option, Some, None, refl, sym, ap, ◌∙◌, subst, arith, append-nil, length-append, inl, inr}
use Rattle.std.specs.Prelude.{is_some}
use Rattle.std.proofs.lemmas.Bool.{cases_Bool}
use Rattle.lower.specs.Counts.{is_dictionary}
use Rattle.lower.specs.Normal.{norm}
use Rattle.lower.specs.Physical.{physical, physical_plain}
use Rattle.lower.specs.TypeTrees.{Plain, null, TypeTree, plain, single, group, structure, choice, list, large_list, fixed_list, entries, dictionary, extension, FieldTree, field, FieldTrees, no_fields, more_fields}
use Rattle.lower.specs.declared.datatypes.IntegerType.{IntegerType}
use Rattle.lower.specs.declared.datatypes.physical_type.PhysicalType.{PhysicalType}
use Rattle.lower.specs.declared.datatypes.physical_type.PhysicalType.TheVariants as Physicals
use Rattle.lower_types.specs.declared.PrimitiveType.{PrimitiveType}
use Rattle.lower_types.specs.declared.PrimitiveType.TheVariants as Primitives
use Rattle.lower_validation.specs.Fields.{child_fields}
use Rattle.lower_validation.specs.Keys.{values_type}
use Rattle.lower_validation.specs.ListTypes.{list_with}
use Rattle.lower_arrays.specs.Children.{ChildTypes}
use Rattle.lower_arrays.specs.Layouts.{Parts, nothing, truths, numbers, fixed_bytes, bytes, texts, lists, fixed_lists, maps, records, choices, keys, Level, Layout, layout, Layouts, no_layouts, more_layouts, type_of}
use Rattle.lower_arrays.specs.Slots.{PartsFit, IsArray, AreArrays}
use Rattle.ipc_base.specs.Fitting.{ChildrenFit, AllFit}
use Rattle.ipc_base.specs.IdTrees.{ids, IdTrees, no_ids, more_ids}
use Rattle.ipc_model.specs.Batches.{Place, field_places, own_place, inner_places, places}
use Rattle.ipc_model.specs.Offers.{is_keyed}
use Rattle.ipc_model.specs.TypeKinds.{first_ids}
use Rattle.ipc_model.specs.Writable.{IsPlainValue, IsPlainStorage, IsWritableType, AreWritable}
use Rattle.ipc_plan.specs.Meaning.{WhereKeyed}
use Rattle.ipc_plan.specs.Batches.{AreLike}
use Rattle.ipc_stream_lemmas.specs.Places.{KeysHaveId, HasIds, AllHaveIds, IsAmong, ArePlaced}
use Rattle.ipc_stream_lemmas.specs.Remembered.{Filled, own_filled, filled_below, filled_inside, filled_of}
use Rattle.ipc_stream_lemmas.proofs.NormalForms.{same_physical, same_values, like_children}

-- ---- more dictionary fields

among_front : (ps qs : List Place) (q : Filled) → IsAmong ps q → IsAmong (ps ++ qs) q
among_front [] qs q h = absurd h
among_front (p ∷ ps) qs q (inl h) = inl h
among_front (p ∷ ps) qs q (inr h) = inr (among_front ps qs q h)

among_behind : (ps qs : List Place) (q : Filled) → IsAmong qs q → IsAmong (ps ++ qs) q
among_behind [] qs q h = h
among_behind (p ∷ ps) qs q h = inr (among_behind ps qs q h)

placed_front : (ps qs : List Place) (fs : List Filled) → ArePlaced ps fs → ArePlaced (ps ++ qs) fs
placed_front ps qs [] h = tt
placed_front ps qs (f ∷ fs) h = (record { among = among_front ps qs f h.0.among; array = h.0.array; inner = h.0.inner }, placed_front ps qs fs h.1)

placed_behind : (ps qs : List Place) (fs : List Filled) → ArePlaced qs fs → ArePlaced (ps ++ qs) fs
placed_behind ps qs [] h = tt
placed_behind ps qs (f ∷ fs) h = (record { among = among_behind ps qs f h.0.among; array = h.0.array; inner = h.0.inner }, placed_behind ps qs fs h.1)

placed_both : (ps : List Place) (fs gs : List Filled) → ArePlaced ps fs → ArePlaced ps gs → ArePlaced ps (fs ++ gs)
placed_both ps [] gs h k = k
placed_both ps (f ∷ fs) gs h k = (h.0, placed_both ps fs gs h.1 k)

-- ---- types

abbrev is_keys : PhysicalType → Bool
is_keys (Physicals.Dictionary k) = true
is_keys _ = false

plain_not : (p : Plain) → is_keys (physical_plain p) ≡ false
plain_not null = refl
plain_not _ = refl

pub dictionary_is : (t : TypeTree) → is_dictionary t ≡ is_keys (physical t)
dictionary_is (plain p) = sym (plain_not p)
dictionary_is (single list f) = refl
dictionary_is (single large_list f) = refl
dictionary_is (single (fixed_list n) f) = refl
dictionary_is (single (entries sorted) f) = refl
dictionary_is (group structure fs) = refl
dictionary_is (group (choice type_ids mode) fs) = refl
dictionary_is (dictionary k t ordered) = refl
dictionary_is (extension name t text) = dictionary_is t

-- A type that is no dictionary: its dictionary fields are those of its children.
record HasChildren (t : TypeTree) (is : IdTrees) : Type 0 where
  pub places_are : inner_places t is ≡ places (child_fields t) is
  pub fit : ChildrenFit t is → AllFit (child_fields t) is
  pub writable : IsWritableType t → AreWritable (child_fields t)

only_fits : (f : FieldTree) (is : IdTrees) → ChildrenFit (single list f) is → AllFit (more_fields f no_fields) is
only_fits f no_ids h = absurd h
only_fits f (more_ids i is) h = h

has_children : (t : TypeTree) (is : IdTrees) → is_dictionary t ≡ false → HasChildren t is
has_children (plain p) is e = record { places_are = refl; fit = λ h. h; writable = λ h. tt }
has_children (single s f) is e = record { places_are = sym (append-nil (field_places f (first_ids is))); fit = λ h. only_fits f is h; writable = λ h. (h.1, tt) }
has_children (group g fs) is e = record { places_are = refl; fit = λ h. h; writable = λ h. h.1 }
has_children (dictionary k t ordered) is e = absurd cc
has_children (extension name t text) is e = let c = has_children t is e in record { places_are = c.places_are; fit = c.fit; writable = λ h. c.writable h.1 }

-- No dictionary is right under another one.
storage_not : (t : TypeTree) → IsPlainStorage t → is_dictionary t ≡ false
storage_not (plain p) h = refl
storage_not (single s f) h = refl
storage_not (group g fs) h = refl
storage_not (dictionary k t ordered) h = absurd h
storage_not (extension name t text) h = absurd h

value_not : (t : TypeTree) → IsPlainValue t → IsWritableType t → is_dictionary t ≡ false
value_not (plain p) h w = refl
value_not (single s f) h w = refl
value_not (group g fs) h w = refl
value_not (dictionary k t ordered) h w = absurd h
value_not (extension name t text) h w = storage_not t w.0

-- A type that is a dictionary: its dictionary field is that of its values.
record HasValues (t : TypeTree) (id : Option ℤ) (is : IdTrees) : Type 0 where
  pub own_is : own_place t id is ≡ record { id = id; type = values_type t; ids = is } ∷ []
  pub inner_is : inner_places t is ≡ inner_places (values_type t) is
  pub fit : ChildrenFit t is → ChildrenFit (values_type t) is
  pub writable : IsWritableType t → IsWritableType (values_type t)
  pub direct : IsWritableType t → is_dictionary (values_type t) ≡ false

has_values : (t : TypeTree) (id : Option ℤ) (is : IdTrees) → is_dictionary t ≡ true → HasValues t id is
has_values (plain p) id is e = absurd cc
has_values (single s f) id is e = absurd cc
has_values (group g fs) id is e = absurd cc
has_values (dictionary k t ordered) id is e = record { own_is = refl; inner_is = refl; fit = λ h. h; writable = λ w. w.1; direct = λ w. value_not t w.0 w.1 }
has_values (extension name t text) id is e =
    let v = has_values t id is e in
    record { own_is = v.own_is; inner_is = v.inner_is; fit = v.fit; writable = λ w. v.writable w.1; direct = λ w. v.direct w.1 }

-- ---- one array

-- What is known of an array of a type with its id and those inside it.
pub record Placed (l : Layout) (t : TypeTree) (id : Option ℤ) (is : IdTrees) : Type 0 where
  pub ids_stand : HasIds l id is
  pub below : ArePlaced (inner_places t is) (filled_below l is)
  pub own : ArePlaced (own_place t id is) (own_filled l id is)
  pub few_below : length (filled_below l is) ≤ length (inner_places t is)
  pub few_own : length (own_filled l id is) ≤ length (own_place t id is)

-- the children of an array without keys
pub record AllPlaced (cs : Layouts) (ps : List Place) (is : IdTrees) : Type 0 where
  pub ids_stand : AllHaveIds cs is
  pub all : ArePlaced ps (filled_of cs is)
  pub few : length (filled_of cs is) ≤ length ps

not_keyed : (h : Level) (cs : Layouts) (t : TypeTree) (id : Option ℤ) (is : IdTrees) → is_keyed h.parts ≡ false → AllPlaced cs (inner_places t is) is → Placed (layout h cs) t id is
not_keyed h cs t id is e a = record {
  ids_stand = where_not h.parts (KeysHaveId cs id) (AllHaveIds cs is) e a.ids_stand;
  below = subst (λ (b : Bool). ArePlaced (inner_places t is) (cond b (filled_inside cs is) (filled_of cs is))) (sym e) a.all;
  own = (none cs id).0;
  few_below = subst (λ (b : Bool). length (cond b (filled_inside cs is) (filled_of cs is)) ≤ length (inner_places t is)) (sym e) a.few;
  few_own = (none cs id).1;
}
  where
    where_not : (p : Parts) (P Q : Type 0) → is_keyed p ≡ false → Q → WhereKeyed p P Q
    where_not (keys k ks) P Q f q = absurd cc
    where_not _ P Q f q = q

    none : (ds : Layouts) (i : Option ℤ) → ArePlaced (own_place t i is) (own_filled (layout h ds) i is) × (length (own_filled (layout h ds) i is) ≤ length (own_place t i is))
    none no_layouts i = (tt, omega arith)
    none (more_layouts d ds) None = (tt, omega arith)
    none (more_layouts d ds) (Some i) =
        let qs = record { id = i; ids = is; values = d } ∷ [] in
        subst (λ (b : Bool). ArePlaced (own_place t (Some i) is) (cond b qs []) × (length (cond b qs []) ≤ length (own_place t (Some i) is))) (sym e) (tt, omega arith)

-- an array of keys, whose values are c
keyed : (h : Level) (c : Layout) (t : TypeTree) (id : Option ℤ) (is : IdTrees) → is_keyed h.parts ≡ true → is_dictionary t ≡ true → is_some id ≡ true → IsArray c → norm (type_of c) ≡ norm (values_type t)
    → Placed c (values_type t) None is → Placed (layout h (more_layouts c no_layouts)) t id is
keyed h c t None is e d some array same p = absurd cc
keyed h c t (Some i) is e d some array same p =
    let v = has_values t (Some i) is d in
    let q : Filled = record { id = i; ids = is; values = c } in
    let cs = more_layouts c no_layouts in
    let here : ArePlaced (own_place t (Some i) is) (q ∷ []) =
    subst (λ (ps : List Place). ArePlaced ps (q ∷ [])) (sym v.own_is) (record { among = inl (record { id = refl; type = sym same; ids = refl }); array = array; inner = p.ids_stand }, tt) in
    let count : length (own_place t (Some i) is) ≡ 1 = ap (λ (ps : List Place). length ps) v.own_is in
    let inside : ArePlaced (inner_places t is) (filled_below c is) = subst (λ (ps : List Place). ArePlaced ps (filled_below c is)) (sym v.inner_is) p.below in
    let few : length (filled_below c is) ≤ length (inner_places t is) = omega (arith, p.few_below, ap (λ (ps : List Place). length ps) v.inner_is) in
    record {
      ids_stand = where_is h.parts (KeysHaveId cs (Some i)) (AllHaveIds cs is) e tt;
      below = subst (λ (b : Bool). ArePlaced (inner_places t is) (cond b (filled_below c is) (filled_of cs is))) (sym e) inside;
      own = subst (λ (b : Bool). ArePlaced (own_place t (Some i) is) (cond b (q ∷ []) [])) (sym e) here;
      few_below = subst (λ (b : Bool). length (cond b (filled_below c is) (filled_of cs is)) ≤ length (inner_places t is)) (sym e) few;
      few_own = subst (λ (b : Bool). length (cond b (q ∷ []) []) ≤ length (own_place t (Some i) is)) (sym e) (omega (arith, count));
    }
  where
    where_is : (p : Parts) (P Q : Type 0) → is_keyed p ≡ true → P → WhereKeyed p P Q
    where_is (keys k ks) P Q f x = x
    where_is _ P Q f x = absurd cc

-- ---- by recursion over the array

list_not : (p : PrimitiveType) → is_keys (list_with p) ≡ false
list_not Primitives.Int64 = refl
list_not _ = refl

-- A type with this physical type is no dictionary, or one.
not_dictionary : (t u : TypeTree) (q : PhysicalType) → norm u ≡ norm t → physical u ≡ q → is_keys q ≡ false → is_dictionary t ≡ false
not_dictionary t u q e lies n = dictionary_is t ∙ ap is_keys (sym (same_physical u t e) ∙ lies) ∙ n

is_one : (t u : TypeTree) (k : IntegerType) → norm u ≡ norm t → physical u ≡ Physicals.Dictionary k → is_dictionary t ≡ true
is_one t u k e lies = dictionary_is t ∙ ap is_keys (sym (same_physical u t e) ∙ lies)

-- an array without keys, whose children have the types of its fields
by_children : (h : Level) (cs : Layouts) (t : TypeTree) (id : Option ℤ) (is : IdTrees) → is_keyed h.parts ≡ false → is_dictionary t ≡ false
    → AllPlaced cs (places (child_fields t) is) is → Placed (layout h cs) t id is
by_children h cs t id is e d a = not_keyed h cs t id is e (subst (λ (ps : List Place). AllPlaced cs ps is) (sym (has_children t is d).places_are) a)

-- without children
childless : (h : Level) (t : TypeTree) (id : Option ℤ) (is : IdTrees) → is_keyed h.parts ≡ false → Placed (layout h no_layouts) t id is
childless h t id is e = not_keyed h no_layouts t id is e (record { ids_stand = tt; all = tt; few = omega arith })

-- An array of keys has one child, the values; the children of any other
-- array have the types of its fields.
record Keyed (h : Level) (cs : Layouts) : Type 0 where
  pub key : IntegerType
  pub lies : physical h.type ≡ Physicals.Dictionary key
  pub values : Layout
  pub only : cs ≡ more_layouts values no_layouts
  pub type : norm (type_of values) ≡ norm (values_type h.type)

record Nested (h : Level) (cs : Layouts) : Type 0 where
  pub not : is_keys (physical h.type) ≡ false
  pub types : ChildTypes (child_fields h.type) cs

key_parts : (h : Level) (k : IntegerType) (ks : List ℤ) (cs : Layouts) → PartsFit h (keys k ks) cs → Keyed h cs
key_parts h k ks no_layouts fit = absurd fit
key_parts h k ks (more_layouts c no_layouts) fit = record { key = k; lies = fit.0; values = c; only = refl; type = fit.1 }
key_parts h k ks (more_layouts c (more_layouts d cs)) fit = absurd fit

nested_parts : (h : Level) (p : Parts) (c : Layout) (cs : Layouts) → is_keyed p ≡ false → PartsFit h p (more_layouts c cs) → Nested h (more_layouts c cs)
nested_parts h nothing c cs e fit = absurd fit
nested_parts h (truths xs) c cs e fit = absurd fit
nested_parts h (numbers p xs) c cs e fit = absurd fit
nested_parts h (fixed_bytes n xs) c cs e fit = absurd fit
nested_parts h (bytes p os xs) c cs e fit = absurd fit
nested_parts h (texts p os xs) c cs e fit = absurd fit
nested_parts h (lists _ p os) c cs e fit = record { not = ap is_keys fit.0 ∙ list_not p; types = fit.1 }
nested_parts h (fixed_lists n) c cs e fit = record { not = ap is_keys fit.0; types = fit.3 }
nested_parts h (maps os) c cs e fit = record { not = ap is_keys fit.0; types = fit.2 }
nested_parts h records c cs e fit = record { not = ap is_keys fit.0; types = fit.2 }
nested_parts h (choices zs ts os) c cs e fit = record { not = ap is_keys fit.2.lies; types = fit.2.types }
nested_parts h (keys k ks) c cs e fit = absurd cc

keyed_parts : (h : Level) (p : Parts) (cs : Layouts) → is_keyed p ≡ true → PartsFit h p cs → Keyed h cs
keyed_parts h (keys k ks) cs e fit = key_parts h k ks cs fit
keyed_parts h _ cs e fit = absurd cc

no_children : (h : Level) (t : TypeTree) (id : Option ℤ) (is : IdTrees) → Keyed h no_layouts → Placed (layout h no_layouts) t id is
no_children h t id is k = let e = k.only in absurd cc

only_values : (c v : Layout) (cs : Layouts) → more_layouts c cs ≡ more_layouts v no_layouts → c ≡ v
only_values c v cs e = cc

only_child : (c v : Layout) (cs : Layouts) → more_layouts c cs ≡ more_layouts v no_layouts → cs ≡ no_layouts
only_child c v cs e = cc

mutual
  pub placed : (l : Layout) (t : TypeTree) (id : Option ℤ) (is : IdTrees) → IsArray l → norm (type_of l) ≡ norm t → is_some id ≡ is_dictionary t → ChildrenFit t is → IsWritableType t → Placed l t id is
  placed (layout h no_layouts) t id is array same some fit w =
      elim (cases_Bool (is_keyed h.parts)) [
        | inl e ↦ no_children h t id is (keyed_parts h h.parts no_layouts e array.1)
        | inr e ↦ childless h t id is e
      ]
  placed (layout h (more_layouts c cs)) t id is array same some fit w =
      elim (cases_Bool (is_keyed h.parts)) [
        | inl e ↦
            let k = keyed_parts h h.parts (more_layouts c cs) e array.1 in
            let d = is_one t h.type k.key same k.lies in
            let v = has_values t id is d in
            let type : norm (type_of c) ≡ norm (values_type t) = ap (λ (x : Layout). norm (type_of x)) (only_values c k.values cs k.only) ∙ k.type ∙ same_values h.type t same in
            subst (λ (ds : Layouts). Placed (layout h (more_layouts c ds)) t id is) (sym (only_child c k.values cs k.only))
            (keyed h c t id is e d (some ∙ d) array.2.0 type (placed c (values_type t) None is array.2.0 type (sym (v.direct w)) (v.fit fit) (v.writable w)))
        | inr e ↦
            let n = nested_parts h h.parts c cs e array.1 in
            let d = not_dictionary t h.type (physical h.type) same refl n.not in
            let x = has_children t is d in
            by_children h (more_layouts c cs) t id is e d (placed_all (more_layouts c cs) (child_fields t) is array.2 (like_children h.type t (more_layouts c cs) same n.types) (x.fit fit) (x.writable w))
      ]

  pub placed_all : (cs : Layouts) (fs : FieldTrees) (is : IdTrees) → AreArrays cs → AreLike fs cs → AllFit fs is → AreWritable fs → AllPlaced cs (places fs is) is
  placed_all no_layouts fs is arrays like fit w = record { ids_stand = tt; all = tt; few = omega arith }
  placed_all (more_layouts c cs) no_fields is arrays like fit w = absurd like
  placed_all (more_layouts c cs) (more_fields f fs) no_ids arrays like fit w = absurd fit
  placed_all (more_layouts c cs) (more_fields (field name t nullable metadata) fs) (more_ids (ids id js) is) arrays like fit w =
      let p = placed c t id js arrays.0 like.0 fit.0.0 fit.0.1 w.0 in
      let r = placed_all cs fs is arrays.1 like.1 fit.1 w.1 in
      let own = own_place t id js in
      let inner = inner_places t js in
      let below = filled_below c js in
      let at = own_filled c id js in
      let here : ArePlaced (own ++ inner) (below ++ at) =
      placed_both (own ++ inner) below at (placed_behind own inner below p.below) (placed_front own inner at p.own) in
      record {
        ids_stand = (p.ids_stand, r.ids_stand);
        all = placed_both ((own ++ inner) ++ places fs is) (below ++ at) (filled_of cs is)
            (placed_front (own ++ inner) (places fs is) (below ++ at) here) (placed_behind (own ++ inner) (places fs is) (filled_of cs is) r.all);
        few = omega (arith, length-append (below ++ at) (filled_of cs is), length-append below at, length-append (own ++ inner) (places fs is), length-append own inner, p.few_below, p.few_own, r.few);
      }
