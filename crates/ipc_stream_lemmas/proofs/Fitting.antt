-- The dictionary fields of an accepted chunk.
use Rattle.std.proofs.Common.{suc, ◌≡◌, ◌⊎◌, ℕ, ℤ, ◌<◌, cond, Bool, true, false, List, [], ◌∷◌, ◌++◌, length, map, Option, Some, None, option_map, refl, sym, ap, ap₂, ◌∙◌, subst, arith, inl, inr}
use Rattle.std.specs.Prelude.{AllPairs, slice_index_or}
use Rattle.std.specs.List.{AllByRecursion}
use Rattle.std.specs.Ordering.{int_eq}
use Rattle.std.proofs.lemmas.Bool.{cases_Bool, true≢false}
use Rattle.std.proofs.lemmas.Bool.Decides.{Decides-int_eq}
use Rattle.lower.proofs.Laws.{norm-norm}
use Rattle.lower.specs.Normal.{norm, norm_fields}
use Rattle.lower.specs.TypeTrees.{TypeTree, field, FieldTrees, no_fields, more_fields}
use Rattle.lower_arrays.specs.Layouts.{Layout, layout, Layouts, no_layouts, more_layouts, layouts, type_of}
use Rattle.lower_arrays.specs.Slots.{Slot, slots}
use Rattle.ipc_base.specs.IdTrees.{IdTrees}
use Rattle.ipc_model.specs.Accepted.{Brought, HaveSameValues, AreShared, types_of}
use Rattle.ipc_model.specs.Batches.{Column, Chunk, Place, places, has_id, place_of}
use Rattle.ipc_model.specs.Entries.{Dictionary}
use Rattle.ipc_model.specs.Offers.{FilledPlace, is_keyed, own_id, inner_ids, own_values, values_below, values_inside, values_of}
use Rattle.ipc_model.specs.Streams.{Head}
use Rattle.ipc_model.specs.TypeKinds.{first_ids, other_ids}
use Rattle.ipc_model.specs.Writable.{SameUnderId}
use Rattle.ipc_plan.specs.Batches.{AreLike, chunk_named}
use Rattle.ipc_stream_lemmas.specs.Messages.{chunk_written}
use Rattle.ipc_stream_lemmas.specs.Places.{IsPlaceOf, IsAmong, ArePlaced, HasPlace, HavePlaces, head_written, FilledLaw, FitLaw, AcceptedChunkLaw}
use Rattle.ipc_stream_lemmas.specs.Remembered.{Remembered, remembering, dictionary_of, Filled, filled_place, own_filled, filled_below, filled_inside, filled_of, Finds}
use Rattle.ipc_stream_lemmas.proofs.NormalForms.{normal_place, places_normal, place_normal}
use Rattle.ipc_stream_lemmas.proofs.Moving.{remembered_here}
use Rattle.ipc_stream_lemmas.proofs.Placing.{placed_all}
use Rattle.ipc_stream_lemmas.proofs.Sending.{chunk_law}

-- ---- the first dictionary field of an id

has_id_is : (o : Option ℤ) (i : ℤ) → has_id o i ≡ true → o ≡ Some i
has_id_is None i e = absurd (true≢false (sym e))
has_id_is (Some j) i e = ap Some ((Decides-int_eq j i).0 e)

id_has : (o : Option ℤ) (i : ℤ) → o ≡ Some i → has_id o i ≡ true
id_has o i e = ap (λ (p : Option ℤ). has_id p i) e ∙ (Decides-int_eq i i).1 refl

-- A dictionary field of the same id as one among the others.
first_here : (p : Place) (ps : List Place) (q : Filled) → ((j : ℕ) (d : Place) → j < length ps → SameUnderId p (slice_index_or ps j d)) → p.id ≡ Some q.id → IsAmong ps q → IsPlaceOf p q
first_here p [] q same e h = absurd h
first_here p (r ∷ ps) q same e (inl is) =
    let s = same 0 p (omega arith) in
    record { id = e; type = s.type (e ∙ sym is.id) ∙ is.type; ids = s.nested (e ∙ sym is.id) ∙ is.ids }
first_here p (r ∷ ps) q same e (inr h) = first_here p ps q (λ j d inside. same (suc j) d (omega (arith, inside))) e h

first_place : (ps : List Place) (q : Filled) → AllPairs SameUnderId ps → IsAmong ps q → (f : Place) × (place_of ps q.id ≡ Some f) × IsPlaceOf f q
first_place [] q same h = absurd h
first_place (p ∷ ps) q same h =
    elim (cases_Bool (has_id p.id q.id)) [
      | inl e ↦ (p, ap (λ (b : Bool). cond b (Some p) (place_of ps q.id)) e, here h (has_id_is p.id q.id e))
      | inr e ↦
          let rest = first_place ps q (λ i j d before inside. same (suc i) (suc j) d (omega (arith, before)) (omega (arith, inside))) (behind h e) in
          (rest.0, ap (λ (b : Bool). cond b (Some p) (place_of ps q.id)) e ∙ rest.1, rest.2)
    ]
  where
    here : IsPlaceOf p q ⊎ IsAmong ps q → p.id ≡ Some q.id → IsPlaceOf p q
    here (inl is) e = is
    here (inr k) e = first_here p ps q (λ j d inside. same 0 (suc j) d (omega arith) (omega (arith, inside))) e k

    behind : IsPlaceOf p q ⊎ IsAmong ps q → has_id p.id q.id ≡ false → IsAmong ps q
    behind (inl is) e = absurd (true≢false (sym (id_has p.id q.id is.id) ∙ e))
    behind (inr k) e = k

-- The same in the schema that is written, whose types are in the normal form.
have_places : (fs : FieldTrees) (is : IdTrees) (h : Head) (qs : List Filled) → h.schema.fields ≡ norm_fields fs → h.schema.ids ≡ is → AllPairs SameUnderId (places fs is) → ArePlaced (places fs is) qs → HavePlaces h.schema qs
have_places fs is h [] e i same a = tt
have_places fs is h (q ∷ qs) e i same a =
    let f = first_place (places fs is) q same a.0.among in
    let all : places h.schema.fields h.schema.ids ≡ map normal_place (places fs is) = ap₂ (λ gs js. places gs js) e i ∙ places_normal fs is in (
      record {
        place = normal_place f.0;
        first = ap (λ (ps : List Place). place_of ps q.id) all ∙ place_normal (places fs is) q.id ∙ ap (λ (o : Option Place). option_map normal_place o) f.1;
        is = record { id = f.2.id; type = norm-norm f.0.type ∙ f.2.type; ids = f.2.ids };
        array = a.0.array;
        inner = a.0.inner;
      },
      have_places fs is h qs e i same a.1,
    )

-- ---- dictionary fields of one id have the same values

-- The values that a dictionary field brings to a writer.
abbrev pub brought : Filled → Brought
brought p = record { id = p.id; values = record { type = type_of p.values; slots = slots p.values } }

abbrev looked : List Filled → ℤ → Option Dictionary
looked [] i = None
looked (p ∷ ps) i = cond (int_eq p.id i) (Some (dictionary_of p.values)) (looked ps i)

some_same : (f g : Place) → Some f ≡ Some g → f ≡ g
some_same f g e = cc

same_type : (h : Head) (p q : Filled) → HasPlace h.schema p → HasPlace h.schema q → p.id ≡ q.id → norm (type_of p.values) ≡ norm (type_of q.values)
same_type h p q a b e =
    let f : a.place ≡ b.place = some_same a.place b.place (sym a.first ∙ ap (λ i. place_of (places h.schema.fields h.schema.ids) i) e ∙ b.first) in
    sym a.is.type ∙ ap (λ (x : Place). norm x.type) f ∙ b.is.type

abbrev dictionary_with : TypeTree → List Slot → Dictionary
dictionary_with t xs = record { type = t; slots = xs }

dictionary_same : (t u : TypeTree) (xs ys : List Slot) → t ≡ u → xs ≡ ys → Some (dictionary_with t xs) ≡ Some (dictionary_with u ys)
dictionary_same t u xs ys e f = ap₂ (λ (a : TypeTree) (bs : List Slot). Some (dictionary_with a bs)) e f

still_found : (h : Head) (p : Filled) (ps : List Filled) (m : Remembered) → HasPlace h.schema p → HavePlaces h.schema ps → AllByRecursion (HaveSameValues (brought p)) (map brought ps) → Finds m ps
    → Finds (remembering p.id (dictionary_of p.values) m) ps
still_found h p [] m a b s f = tt
still_found h p (q ∷ qs) m a b s f = (
  elim (cases_Bool (int_eq p.id q.id)) [
    | inl e ↦ (let same = (Decides-int_eq p.id q.id).0 e in
        ap (λ (t : Bool). cond t (Some (dictionary_of p.values)) (m q.id)) e ∙ dictionary_same _ _ _ _ (same_type h p q a b.0 same) (s.0 same))
    | inr e ↦ ap (λ (t : Bool). cond t (Some (dictionary_of p.values)) (m q.id)) e ∙ f.0
  ],
  still_found h p qs m a b.1 s.1 f.1,
)

looked_finds : (h : Head) (ps : List Filled) → HavePlaces h.schema ps → AreShared (map brought ps) → Finds (looked ps) ps
looked_finds h [] a s = tt
looked_finds h (p ∷ ps) a s = (remembered_here p.id (dictionary_of p.values) (looked ps), still_found h p ps (looked ps) a.0 a.1 s.0 (looked_finds h ps a.1 s.1))

-- ---- the dictionary fields of an offer are these

map_both : (ps qs : List Filled) → map filled_place (ps ++ qs) ≡ map filled_place ps ++ map filled_place qs
map_both [] qs = refl
map_both (p ∷ ps) qs = ap (λ (rs : List FilledPlace). filled_place p ∷ rs) (map_both ps qs)

map_where : (b : Bool) (ps qs : List Filled) (xs ys : List FilledPlace) → map filled_place ps ≡ xs → map filled_place qs ≡ ys → map filled_place (cond b ps qs) ≡ cond b xs ys
map_where true ps qs xs ys e f = e
map_where false ps qs xs ys e f = f

own_is : (l : Layout) (id : Option ℤ) (is : IdTrees) → map filled_place (own_filled l id is) ≡ own_values l id
own_is (layout k no_layouts) id is = refl
own_is (layout k (more_layouts c cs)) None is = refl
own_is (layout k (more_layouts c cs)) (Some id) is = map_where (is_keyed k.parts) (record { id = id; ids = is; values = c } ∷ []) [] (record { id = id; values = c } ∷ []) [] refl refl

mutual
  below_is : (l : Layout) (is : IdTrees) → map filled_place (filled_below l is) ≡ values_below l is
  below_is (layout k cs) is = map_where (is_keyed k.parts) (filled_inside cs is) (filled_of cs is) (values_inside cs is) (values_of cs is) (inside_is cs is) (all_is cs is)

  inside_is : (cs : Layouts) (is : IdTrees) → map filled_place (filled_inside cs is) ≡ values_inside cs is
  inside_is no_layouts is = refl
  inside_is (more_layouts c cs) is = below_is c is

  pub all_is : (cs : Layouts) (is : IdTrees) → map filled_place (filled_of cs is) ≡ values_of cs is
  all_is no_layouts is = refl
  all_is (more_layouts c cs) is =
      let id = own_id (first_ids is) in
      let inner = inner_ids (first_ids is) in
      map_both (filled_below c inner ++ own_filled c id inner) (filled_of cs (other_ids is))
      ∙ ap₂ (λ (xs ys : List FilledPlace). xs ++ ys) (map_both (filled_below c inner) (own_filled c id inner) ∙ ap₂ (λ (xs ys : List FilledPlace). xs ++ ys) (below_is c inner) (own_is c id inner)) (all_is cs (other_ids is))

pub filled_law : FilledLaw
filled_law cs is = all_is cs is

abbrev pub offered : FilledPlace → Brought
offered p = record { id = p.id; values = record { type = type_of p.values; slots = slots p.values } }

pub brought_is : (ps : List Filled) → map offered (map filled_place ps) ≡ map brought ps
brought_is [] = refl
brought_is (p ∷ ps) = ap (λ (xs : List Brought). brought p ∷ xs) (brought_is ps)

shared_filled : (cs : Layouts) (is : IdTrees) → AreShared (map offered (values_of cs is)) → AreShared (map brought (filled_of cs is))
shared_filled cs is s = subst (λ (xs : List Brought). AreShared xs) (ap (λ (ps : List FilledPlace). map offered ps) (sym (all_is cs is)) ∙ brought_is (filled_of cs is)) s

-- ---- the types of columns

first_types : (t u : TypeTree) (ts us : List TypeTree) → t ∷ ts ≡ u ∷ us → t ≡ u
first_types t u ts us e = cc

other_types : (t u : TypeTree) (ts us : List TypeTree) → t ∷ ts ≡ u ∷ us → ts ≡ us
other_types t u ts us e = cc

abbrev column_of : Layout → Column
column_of l = record { type = type_of l; slots = slots l }

like_columns : (fs : FieldTrees) (ls : List Layout) → map (λ (c : Column). norm c.type) (map column_of ls) ≡ map norm (types_of fs) → AreLike fs (layouts ls)
like_columns no_fields [] e = tt
like_columns no_fields (l ∷ ls) e = absurd cc
like_columns (more_fields f fs) [] e = absurd cc
like_columns (more_fields (field name t nullable metadata) fs) (l ∷ ls) e =
    (first_types _ _ _ _ e, like_columns fs ls (other_types _ _ _ _ e))

-- the fields in the normal form
like_normal : (fs : FieldTrees) (cs : Layouts) → AreLike fs cs → AreLike (norm_fields fs) cs
like_normal no_fields no_layouts h = tt
like_normal no_fields (more_layouts c cs) h = absurd h
like_normal (more_fields f fs) no_layouts h = absurd h
like_normal (more_fields (field name t nullable metadata) fs) (more_layouts c cs) h = (h.0 ∙ sym (norm-norm t), like_normal fs cs h.1)

named_is : (fs : FieldTrees) (ls : List Layout) → AreLike fs (layouts ls) → chunk_named (norm_fields fs) ls ≡ chunk_written ls
named_is no_fields [] h = refl
named_is no_fields (l ∷ ls) h = absurd h
named_is (more_fields f fs) [] h = absurd h
named_is (more_fields (field name t nullable metadata) fs) (l ∷ ls) h =
    ap₂ (λ (u : TypeTree) (c : Chunk). record { type = u; slots = slots l } ∷ c) (sym h.0) (named_is fs ls h.1)

pub fit_law : FitLaw
fit_law order fs metadata is columns w arrays accepted =
    let h = head_written order fs metadata is in
    let like = like_columns fs columns accepted.types in
    let a = placed_all (layouts columns) fs is arrays like w.fits w.types in
    let placed = have_places fs is h (filled_of (layouts columns) is) refl refl w.values a.all in
    record {
      ids = a.ids_stand;
      placed = placed;
      few = omega (arith, a.few, w.few_places);
      like = like_normal fs (layouts columns) like;
      named = named_is fs columns like;
      consistent = (looked (filled_of (layouts columns) is), looked_finds h (filled_of (layouts columns) is) placed (shared_filled (layouts columns) is accepted.shared));
    }

pub accepted_chunk_law : AcceptedChunkLaw
accepted_chunk_law order fs metadata is columns before after bytes w arrays accepted s =
    let f = fit_law order fs metadata is columns w arrays accepted in
    chunk_law (head_written order fs metadata is) columns before after bytes f.consistent f.few s
