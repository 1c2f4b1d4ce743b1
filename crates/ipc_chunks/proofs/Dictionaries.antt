-- The dictionary fields of columns whose schema can be written: their values have one type under an
-- id, their messages' metadata are short, and keys have ids.
use Rattle.std.proofs.Common.{◌≡◌, ◌⊎◌, ℕ, ℤ, zero, suc, ◌<◌, Bool, true, false, cond, List, [], ◌∷◌, ◌++◌, length, map, Option, None, Some, IsSome, refl, sym, ap, ◌∙◌, subst, arith, inl, inr}
use Rattle.std.specs.Prelude.{AllPairs, slice_index_or}
use Rattle.std.specs.List.{AllByRecursion}
use Rattle.lower.specs.Normal.{norm}
use Rattle.lower.specs.TypeTrees.{FieldTrees, Pairs}
use Rattle.lower_arrays.specs.Layouts.{Parts, keys, Level, Layout, layout, Layouts, no_layouts, more_layouts, layouts, type_of}
use Rattle.lower_arrays.specs.Slots.{AreArrays, IsArray}
use Rattle.ipc_base.specs.IdTrees.{IdTrees}
use Rattle.ipc_encode.proofs.ShortMetadata.{short_metadata_law}
use Rattle.ipc_encode.specs.ShortMetadata.{HasShortValues}
use Rattle.ipc_stream_lemmas.proofs.Fitting.{filled_law}
use Rattle.ipc_stream_lemmas.proofs.Placing.{placed_all}
use Rattle.ipc_stream_lemmas.specs.Places.{AllHaveIds, ArePlaced, HasIds, IsAmong, KeysHaveId}
use Rattle.ipc_stream_lemmas.specs.Remembered.{Filled, filled_below, filled_inside, filled_of, filled_place, own_filled}
use Rattle.ipc_model.specs.Batches.{Place, places}
use Rattle.ipc_model.specs.Offers.{FilledPlace, inner_ids, is_keyed, own_id, values_of}
use Rattle.ipc_model.specs.TypeKinds.{first_ids, other_ids}
use Rattle.ipc_model.specs.Writable.{IsWritable, SameUnderId}
use Rattle.ipc_plan.specs.Batches.{AreLike}
use Rattle.ipc_plan.specs.Meaning.{WhereKeyed}
use Rattle.ipc_tracker.proofs.PlaceLists.{all_both}
use Rattle.ipc_tracker.specs.Laws.{HaveOneType}
use Rattle.ipc_tracker.specs.Places.{HaveIds, Keyed, keyed_below, keyed_inside, keyed_of, own_keyed}
use Rattle.ipc_chunks.proofs.MessageLengths.{HaveShortMetadata}

-- Each dictionary field of the columns is one of the schema's.
placed_in : (fs : FieldTrees) (metadata : Pairs) (is : IdTrees) (ls : List Layout) → AreArrays (layouts ls) → IsWritable fs metadata is → AreLike fs (layouts ls) → ArePlaced (places fs is) (filled_of (layouts ls) is)
placed_in fs metadata is ls arrays w like = (placed_all (layouts ls) fs is arrays like w.fits w.types).all

-- ---- one type under an id

rest_pairs : (p : Place) (ps : List Place) → AllPairs SameUnderId (p ∷ ps) → AllPairs SameUnderId ps
rest_pairs p ps same = λ i j d before inside. same (suc i) (suc j) d (omega (arith, before)) (omega (arith, inside))

-- without the second one
without : (p r : Place) (ps : List Place) → AllPairs SameUnderId (p ∷ r ∷ ps) → (i j : ℕ) (d : Place) → i < j → j < length (p ∷ ps)
    → SameUnderId (slice_index_or (p ∷ ps) i d) (slice_index_or (p ∷ ps) j d)
without p r ps same zero zero d before inside = absurd (omega (arith, before))
without p r ps same zero (suc j) d before inside = same zero (suc (suc j)) d (omega arith) (omega (arith, inside))
without p r ps same (suc i) zero d before inside = absurd (omega (arith, before))
without p r ps same (suc i) (suc j) d before inside = same (suc (suc i)) (suc (suc j)) d (omega (arith, before)) (omega (arith, inside))

first_is : (p : Place) (ps : List Place) (q : Filled) → AllPairs SameUnderId (p ∷ ps) → p.id ≡ Some q.id → IsAmong ps q → norm p.type ≡ norm (type_of q.values)
first_is p [] q same e h = absurd h
first_is p (r ∷ ps) q same e (inl is) = (same zero (suc zero) p (omega arith) (omega arith)).type (e ∙ sym is.id) ∙ is.type
first_is p (r ∷ ps) q same e (inr h) = first_is p ps q (without p r ps same) e h

same_types : (ps : List Place) (p q : Filled) → AllPairs SameUnderId ps → IsAmong ps p → IsAmong ps q → p.id ≡ q.id → norm (type_of p.values) ≡ norm (type_of q.values)
same_types [] p q same a b e = absurd a
same_types (r ∷ ps) p q same (inl a) (inl b) e = sym a.type ∙ b.type
same_types (r ∷ ps) p q same (inl a) (inr b) e = sym a.type ∙ first_is r ps q same (a.id ∙ ap Some e) b
same_types (r ∷ ps) p q same (inr a) (inl b) e = sym (first_is r ps p same (b.id ∙ ap Some (sym e)) a) ∙ b.type
same_types (r ∷ ps) p q same (inr a) (inr b) e = same_types ps p q (rest_pairs r ps same) a b e

one_with : (ps : List Place) (p : Filled) (qs : List Filled) → AllPairs SameUnderId ps → IsAmong ps p → ArePlaced ps qs
    → AllByRecursion (λ (q : FilledPlace). p.id ≡ q.id → norm (type_of p.values) ≡ norm (type_of q.values)) (map filled_place qs)
one_with ps p [] same a h = tt
one_with ps p (q ∷ qs) same a h = (λ e. same_types ps p q same a h.0.among e, one_with ps p qs same a h.1)

one_type : (ps : List Place) (qs : List Filled) → AllPairs SameUnderId ps → ArePlaced ps qs → HaveOneType (map filled_place qs)
one_type ps [] same h = tt
one_type ps (q ∷ qs) same h = (one_with ps q qs same h.0.among h.1, one_type ps qs same h.1)

pub one_type_of : (fs : FieldTrees) (metadata : Pairs) (is : IdTrees) (ls : List Layout) → AreArrays (layouts ls) → IsWritable fs metadata is → AreLike fs (layouts ls) → HaveOneType (values_of (layouts ls) is)
one_type_of fs metadata is ls arrays w like =
    subst HaveOneType (filled_law (layouts ls) is) (one_type (places fs is) (filled_of (layouts ls) is) w.values (placed_in fs metadata is ls arrays w like))

-- ---- short metadata

among_short : (ps : List Place) (q : Filled) → IsAmong ps q → AllByRecursion HasShortValues ps → IsArray q.values → HaveShortMetadata (filled_place q)
among_short [] q h s array = absurd h
among_short (p ∷ ps) q (inl is) s array = s.0 q.id q.values array (sym is.type)
among_short (p ∷ ps) q (inr h) s array = among_short ps q h s.1 array

all_short : (ps : List Place) (qs : List Filled) → ArePlaced ps qs → AllByRecursion HasShortValues ps → AllByRecursion HaveShortMetadata (map filled_place qs)
all_short ps [] h s = tt
all_short ps (q ∷ qs) h s = (among_short ps q h.0.among s h.0.array, all_short ps qs h.1 s)

pub short_places : (fs : FieldTrees) (metadata : Pairs) (is : IdTrees) (ls : List Layout) → AreArrays (layouts ls) → IsWritable fs metadata is → AreLike fs (layouts ls)
    → AllByRecursion HaveShortMetadata (values_of (layouts ls) is)
short_places fs metadata is ls arrays w like =
    subst (AllByRecursion HaveShortMetadata) (filled_law (layouts ls) is)
    (all_short (places fs is) (filled_of (layouts ls) is) (placed_in fs metadata is ls arrays w like) (short_metadata_law fs metadata is w).values)

-- ---- ids

placed_front : (ps : List Place) (qs rs : List Filled) → ArePlaced ps (qs ++ rs) → ArePlaced ps qs
placed_front ps [] rs h = tt
placed_front ps (q ∷ qs) rs h = (h.0, placed_front ps qs rs h.1)

placed_behind : (ps : List Place) (qs rs : List Filled) → ArePlaced ps (qs ++ rs) → ArePlaced ps rs
placed_behind ps [] rs h = h
placed_behind ps (q ∷ qs) rs h = placed_behind ps qs rs h.1

-- Whether an array is one of keys, and what is known of it.
where_is : (p : Parts) (P Q : Type 0) → WhereKeyed p P Q → ((is_keyed p ≡ true) × P) ⊎ ((is_keyed p ≡ false) × Q)
where_is (keys k ks) P Q h = inl (refl, h)
where_is _ P Q h = inr (refl, h)

abbrev HasId : Keyed → Type 0
HasId k = IsSome k.id

cond_true : {A : Type 0} (b : Bool) (x y : A) → b ≡ true → cond b x y ≡ x
cond_true b x y e = ap (λ (t : Bool). cond t x y) e

cond_false : {A : Type 0} (b : Bool) (x y : A) → b ≡ false → cond b x y ≡ y
cond_false b x y e = ap (λ (t : Bool). cond t x y) e

-- Keys with an id, whose values have keys with ids.
keyed_ids : (ps : List Place) (h : Level) (c : Layout) (cs : Layouts) (id : Option ℤ) (is : IdTrees) → is_keyed h.parts ≡ true → KeysHaveId (more_layouts c cs) id → (HasIds c None is → HaveIds (keyed_below c is))
    → ArePlaced ps (own_filled (layout h (more_layouts c cs)) id is) → HaveIds (keyed_below (layout h (more_layouts c cs)) is ++ own_keyed (layout h (more_layouts c cs)) id)
keyed_ids ps h c cs None is e ids inside own = absurd ids
keyed_ids ps h c cs (Some id) is e ids inside own =
    let placed : ArePlaced ps (record { id = id; ids = is; values = c } ∷ []) =
    subst (λ (qs : List Filled). ArePlaced ps qs) (cond_true (is_keyed h.parts) (record { id = id; ids = is; values = c } ∷ []) [] e) own in
    all_both HasId (keyed_below (layout h (more_layouts c cs)) is) (own_keyed (layout h (more_layouts c cs)) (Some id))
    (subst HaveIds (sym (cond_true (is_keyed h.parts) (keyed_below c is) (keyed_of (more_layouts c cs) is) e)) (inside placed.0.inner))
    (subst HaveIds (sym (cond_true (is_keyed h.parts) (record { id = Some id; values = c } ∷ []) [] e)) (refl, tt))

mutual
  -- An array whose keys have an id, and so have those below it.
  field_ids : (ps : List Place) (c : Layout) (id : Option ℤ) (is : IdTrees) → HasIds c id is → ArePlaced ps (filled_below c is) → ArePlaced ps (own_filled c id is) → HaveIds (keyed_below c is ++ own_keyed c id)
  field_ids ps (layout h no_layouts) id is ids below own = all_both HasId (keyed_below (layout h no_layouts) is) [] (childless (is_keyed h.parts)) tt
    where
      childless : (b : Bool) → HaveIds (cond b (keyed_inside no_layouts is) (keyed_of no_layouts is))
      childless true = tt
      childless false = tt
  field_ids ps (layout h (more_layouts c cs)) id is ids below own =
      elim (where_is h.parts (KeysHaveId (more_layouts c cs) id) (AllHaveIds (more_layouts c cs) is) ids) [
        | inl k ↦ keyed_ids ps h c cs id is k.0 k.1
            (λ inner. values_ids ps c is inner (subst (λ (qs : List Filled). ArePlaced ps qs) (cond_true (is_keyed h.parts) (filled_below c is) (filled_of (more_layouts c cs) is) k.0) below)) own
        | inr k ↦ all_both HasId (keyed_below (layout h (more_layouts c cs)) is) (own_keyed (layout h (more_layouts c cs)) id)
            (subst HaveIds (sym (cond_false (is_keyed h.parts) (keyed_below c is) (keyed_of (more_layouts c cs) is) k.0))
            (all_ids ps (more_layouts c cs) is k.1 (subst (λ (qs : List Filled). ArePlaced ps qs) (cond_false (is_keyed h.parts) (filled_below c is) (filled_of (more_layouts c cs) is) k.0) below)))
            (subst HaveIds (sym (cond_false (is_keyed h.parts) (record { id = id; values = c } ∷ []) [] k.0)) tt)
      ]

  -- values aren't keys themselves
  values_ids : (ps : List Place) (c : Layout) (is : IdTrees) → HasIds c None is → ArePlaced ps (filled_below c is) → HaveIds (keyed_below c is)
  values_ids ps (layout h cs) is ids below =
      elim (where_is h.parts (KeysHaveId cs None) (AllHaveIds cs is) ids) [
        | inl k ↦ absurd (no_keys cs k.1)
        | inr k ↦ subst HaveIds (sym (cond_false (is_keyed h.parts) (keyed_inside cs is) (keyed_of cs is) k.0))
            (all_ids ps cs is k.1 (subst (λ (qs : List Filled). ArePlaced ps qs) (cond_false (is_keyed h.parts) (filled_inside cs is) (filled_of cs is) k.0) below))
      ]
    where
      no_keys : (cs : Layouts) → KeysHaveId cs None → ⊥
      no_keys no_layouts k = k
      no_keys (more_layouts c cs) k = k

  all_ids : (ps : List Place) (cs : Layouts) (is : IdTrees) → AllHaveIds cs is → ArePlaced ps (filled_of cs is) → HaveIds (keyed_of cs is)
  all_ids ps no_layouts is ids placed = tt
  all_ids ps (more_layouts c cs) is ids placed =
      let id = own_id (first_ids is) in
      let js = inner_ids (first_ids is) in
      let below = filled_below c js in
      let own = own_filled c id js in
      let rest = filled_of cs (other_ids is) in
      let here = placed_front ps (below ++ own) rest placed in
      all_both HasId (keyed_below c js ++ own_keyed c id) (keyed_of cs (other_ids is))
      (field_ids ps c id js ids.0 (placed_front ps below own here) (placed_behind ps below own here))
      (all_ids ps cs (other_ids is) ids.1 (placed_behind ps (below ++ own) rest placed))

pub have_ids : (fs : FieldTrees) (metadata : Pairs) (is : IdTrees) (ls : List Layout) → AreArrays (layouts ls) → IsWritable fs metadata is → AreLike fs (layouts ls) → HaveIds (keyed_of (layouts ls) is)
have_ids fs metadata is ls arrays w like =
    let a = placed_all (layouts ls) fs is arrays like w.fits w.types in
    all_ids (places fs is) (layouts ls) is a.ids_stand a.all
