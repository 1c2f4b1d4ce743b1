-- An array whose values are found under their ids.
use Rattle.std.proofs.Common.{ℤ, cond, List, [], ◌∷◌, ◌++◌, Option, Some, None, option_map, ap}
use Rattle.lower_arrays.specs.Layouts.{Parts, keys, Layout, layout, Layouts, no_layouts, more_layouts}
use Rattle.ipc_base.specs.IdTrees.{IdTrees}
use Rattle.ipc_model.specs.Columns.{slots_in}
use Rattle.ipc_model.specs.Entries.{Entries, Dictionary, dictionary_at}
use Rattle.ipc_model.specs.Offers.{is_keyed, own_id, inner_ids}
use Rattle.ipc_model.specs.TypeKinds.{first_ids, other_ids}
use Rattle.ipc_plan.specs.Meaning.{WhereKeyed, Knows, KnowsAll}
use Rattle.ipc_stream_lemmas.specs.Places.{HasIds, AllHaveIds, KnownLaw}
use Rattle.ipc_stream_lemmas.specs.Remembered.{Remembered, Filled, own_filled, filled_below, filled_inside, filled_of, Finds}
use Rattle.ipc_stream_lemmas.proofs.Moving.{finds_front, finds_behind}

-- By whether the parts are keys, on which the dictionary fields depend too.
where_found : (m : Remembered) (p : Parts) (xs ys zs : List Filled) (P Q R S : Type 0) → (P → Finds m xs → R) → (Q → Finds m ys → S)
    → WhereKeyed p P Q → Finds m (cond (is_keyed p) zs ys) → Finds m (cond (is_keyed p) xs []) → WhereKeyed p R S
where_found m (keys k ks) xs ys zs P Q R S f g w below own = f w own
where_found m _ xs ys zs P Q R S f g w below own = g w below

-- The same without a dictionary field of its own.
where_below : (m : Remembered) (p : Parts) (ys zs : List Filled) (P Q R S : Type 0) → (P → R) → (Q → Finds m ys → S) → WhereKeyed p P Q → Finds m (cond (is_keyed p) zs ys) → WhereKeyed p R S
where_below m (keys k ks) ys zs P Q R S f g w below = f w
where_below m _ ys zs P Q R S f g w below = g w below

mutual
  pub knows : (s : Entries) (l : Layout) (id : Option ℤ) (is : IdTrees) → HasIds l id is → Finds (λ i. dictionary_at s.dictionaries i) (filled_below l is ++ own_filled l id is) → Knows s l id is
  knows s (layout h no_layouts) id is ids found = ids
  knows s (layout h (more_layouts c cs)) None is ids found =
      let m : Remembered = λ i. dictionary_at s.dictionaries i in
      where_below m h.parts (filled_of (more_layouts c cs) is) (filled_inside (more_layouts c cs) is) _ _ _ _ (λ no. absurd no) (λ all f. knows_all s (more_layouts c cs) is all f) ids
      (finds_front m (filled_below (layout h (more_layouts c cs)) is) [] found)
  knows s (layout h (more_layouts c cs)) (Some id) is ids found =
      let m : Remembered = λ i. dictionary_at s.dictionaries i in
      let below = filled_below (layout h (more_layouts c cs)) is in
      let own = own_filled (layout h (more_layouts c cs)) (Some id) is in
      where_found m h.parts (record { id = id; ids = is; values = c } ∷ []) (filled_of (more_layouts c cs) is) (filled_inside (more_layouts c cs) is) _ _ _ _
      (λ _ f. (ap (λ (o : Option Dictionary). option_map (λ d. d.type) o) f.0, ap slots_in f.0)) (λ all f. knows_all s (more_layouts c cs) is all f) ids
      (finds_front m below own found) (finds_behind m below own found)

  pub knows_all : (s : Entries) (cs : Layouts) (is : IdTrees) → AllHaveIds cs is → Finds (λ i. dictionary_at s.dictionaries i) (filled_of cs is) → KnowsAll s cs is
  knows_all s no_layouts is ids found = tt
  knows_all s (more_layouts c cs) is ids found =
      let m : Remembered = λ i. dictionary_at s.dictionaries i in
      let id = own_id (first_ids is) in
      let inner = inner_ids (first_ids is) in
      let here = filled_below c inner ++ own_filled c id inner in
      (knows s c id inner ids.0 (finds_front m here (filled_of cs (other_ids is)) found), knows_all s cs (other_ids is) ids.1 (finds_behind m here (filled_of cs (other_ids is)) found))

pub known_law : KnownLaw
known_law s cs is ids found = knows_all s cs is ids found
