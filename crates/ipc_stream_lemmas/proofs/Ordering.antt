-- The dictionary fields of a chunk are in order: inner values come before those that contain them.
use Rattle.std.proofs.Common.{◌≡◌, ℤ, cond, Bool, true, false, List, [], ◌∷◌, ◌++◌, Option, Some, None, refl, sym, ap, ◌∙◌, subst, inl, inr}
use Rattle.std.specs.Ordering.{int_eq}
use Rattle.lower_arrays.specs.Layouts.{Layout, layout, Layouts, no_layouts, more_layouts, layouts}
use Rattle.ipc_base.specs.IdTrees.{IdTrees}
use Rattle.ipc_model.specs.Entries.{Dictionary}
use Rattle.ipc_model.specs.Offers.{is_keyed, own_id, inner_ids}
use Rattle.ipc_model.specs.TypeKinds.{first_ids, other_ids}
use Rattle.ipc_stream_lemmas.specs.Order.{Chooses, InOrder, InnerFirstLaw}
use Rattle.ipc_stream_lemmas.specs.Remembered.{Remembered, remembering, dictionary_of, Filled, own_filled, filled_below, filled_inside, filled_of, Finds}
use Rattle.ipc_stream_lemmas.proofs.Moving.{finds_both, finds_front, finds_behind, finds_still, remembered_here, remembered_still}

-- ---- one after the other

finds_same : (m n : Remembered) (ps : List Filled) → ((i : ℤ) → n i ≡ m i) → Finds m ps → Finds n ps
finds_same m n [] e f = tt
finds_same m n (p ∷ ps) e f = (e p.id ∙ f.0, finds_same m n ps e f.1)

ordered_same : (m n after : Remembered) (ws : List Filled) → ((i : ℤ) → n i ≡ m i) → InOrder m ws after → InOrder n ws after
ordered_same m n after [] e o = λ i. o i ∙ sym (e i)
ordered_same m n after (p ∷ ws) e o =
    let d = dictionary_of p.values in (
      finds_same m n (filled_below p.values p.ids) e o.0,
      ordered_same (remembering p.id d m) (remembering p.id d n) after ws (λ i. ap (λ (x : Option Dictionary). cond (int_eq p.id i) (Some d) x) (e i)) o.1,
    )

ordered_then : (a b c : Remembered) (xs ys : List Filled) → InOrder a xs b → InOrder b ys c → InOrder a (xs ++ ys) c
ordered_then a b c [] ys f g = ordered_same b a c ys (λ i. sym (f i)) g
ordered_then a b c (x ∷ xs) ys f g = (f.0, ordered_then (remembering x.id (dictionary_of x.values) a) b c xs ys f.1 g)

-- ---- parts

-- Some dictionary fields, and those after them.
record Parts (m : Remembered) (ps qs ws : List Filled) (after : Remembered) : Type 0 where
  pub front : List Filled
  pub behind : List Filled
  pub middle : Remembered
  pub chosen_front : Chooses m ps front middle
  pub chosen_behind : Chooses middle qs behind after
  pub all : ws ≡ front ++ behind

parts : (m : Remembered) (ps qs ws : List Filled) (after : Remembered) → Chooses m (ps ++ qs) ws after → Parts m ps qs ws after
parts m [] qs ws after s = record { front = []; behind = ws; middle = m; chosen_front = (refl, λ i. refl); chosen_behind = s; all = refl }
parts m (p ∷ ps) qs ws after (inl s) =
    let r = parts m ps qs ws after s.1 in
    record { front = r.front; behind = r.behind; middle = r.middle; chosen_front = inl (s.0, r.chosen_front); chosen_behind = r.chosen_behind; all = r.all }
parts m (p ∷ ps) qs ws after (inr s) =
    let r = parts (remembering p.id (dictionary_of p.values) m) ps qs s.0 after s.2 in
    record {
      front = p ∷ r.front;
      behind = r.behind;
      middle = r.middle;
      chosen_front = inr (r.front, refl, r.chosen_front);
      chosen_behind = r.chosen_behind;
      all = s.1 ∙ ap (λ (xs : List Filled). p ∷ xs) r.all;
    }

-- ---- dictionary fields of a chunk whose values by id are v

record Taken (v : Remembered) (ps ws : List Filled) (m after : Remembered) : Type 0 where
  pub ordered : InOrder m ws after
  pub found : Finds after ps
  pub keeps : (i : ℤ) → m i ≡ v i → after i ≡ v i

-- Whatever is remembered, and whichever fields are chosen.
Takes : Remembered → List Filled → Type 0
Takes v ps = (m after : Remembered) (ws : List Filled) → Finds v ps → Chooses m ps ws after → Taken v ps ws m after

taken_at : (v : Remembered) (ps ws xs : List Filled) (m after : Remembered) → ws ≡ xs → Taken v ps xs m after → Taken v ps ws m after
taken_at v ps ws xs m after e t = subst (λ (ys : List Filled). Taken v ps ys m after) (sym e) t

takes_none : (v : Remembered) → Takes v []
unfolding Takes
takes_none v m after ws f s = taken_at v [] ws [] m after s.0 (record { ordered = s.1; found = tt; keeps = λ i e. s.1 i ∙ e })

takes_both : (v : Remembered) (ps qs : List Filled) → Takes v ps → Takes v qs → Takes v (ps ++ qs)
unfolding Takes
takes_both v ps qs f g m after ws found s =
    let r = parts m ps qs ws after s in
    let x = f m r.middle r.front (finds_front v ps qs found) r.chosen_front in
    let y = g r.middle after r.behind (finds_behind v ps qs found) r.chosen_behind in
    taken_at v (ps ++ qs) ws (r.front ++ r.behind) m after r.all (record {
      ordered = ordered_then m r.middle after r.front r.behind x.ordered y.ordered;
      found = finds_both after ps qs (finds_still v r.middle after ps (finds_front v ps qs found) x.found y.keeps) y.found;
      keeps = λ i e. y.keeps i (x.keeps i e);
    })

-- One dictionary field, if the values inside its own are remembered.
takes_one : (v : Remembered) (p : Filled) (m after : Remembered) (ws : List Filled) → Finds v (p ∷ []) → Finds m (filled_below p.values p.ids)
    → Chooses m (p ∷ []) ws after → Taken v (p ∷ []) ws m after
takes_one v p m after ws found inner (inl s) =
    taken_at v (p ∷ []) ws [] m after s.1.0 (record { ordered = s.1.1; found = (s.1.1 p.id ∙ s.0, tt); keeps = λ i e. s.1.1 i ∙ e })
takes_one v p m after ws found inner (inr s) =
    let d = dictionary_of p.values in
    taken_at v (p ∷ []) ws (p ∷ []) m after (s.1 ∙ ap (λ (xs : List Filled). p ∷ xs) s.2.0) (record {
      ordered = (inner, s.2.1);
      found = (s.2.1 p.id ∙ remembered_here p.id d m, tt);
      keeps = λ i e. s.2.1 i ∙ remembered_still v m p.id d found.0 i e;
    })

-- The dictionary field of an array's own keys, if it has keys.
takes_own : (v : Remembered) (b : Bool) (p : Filled) (others : List Filled) (m after : Remembered) (ws : List Filled) → Finds v (cond b (p ∷ []) [])
    → Finds m (cond b (filled_below p.values p.ids) others) → Chooses m (cond b (p ∷ []) []) ws after → Taken v (cond b (p ∷ []) []) ws m after
unfolding Takes
takes_own v true p others m after ws found inner s = takes_one v p m after ws found inner s
takes_own v false p others m after ws found inner s = takes_none v m after ws found s

own : (v : Remembered) (l : Layout) (id : Option ℤ) (is : IdTrees) (m after : Remembered) (ws : List Filled) → Finds v (own_filled l id is)
    → Finds m (filled_below l is) → Chooses m (own_filled l id is) ws after → Taken v (own_filled l id is) ws m after
unfolding Takes
own v (layout k no_layouts) id is m after ws found inner s = takes_none v m after ws found s
own v (layout k (more_layouts c cs)) None is m after ws found inner s = takes_none v m after ws found s
own v (layout k (more_layouts c cs)) (Some id) is m after ws found inner s =
    takes_own v (is_keyed k.parts) (record { id = id; ids = is; values = c }) (filled_of (more_layouts c cs) is) m after ws found inner s

-- An array's own dictionary field comes after those inside its values.
takes_field : (v : Remembered) (l : Layout) (id : Option ℤ) (is : IdTrees) → Takes v (filled_below l is) → Takes v (filled_below l is ++ own_filled l id is)
unfolding Takes
takes_field v l id is below m after ws found s =
    let ps = filled_below l is in
    let qs = own_filled l id is in
    let r = parts m ps qs ws after s in
    let x = below m r.middle r.front (finds_front v ps qs found) r.chosen_front in
    let y = own v l id is r.middle after r.behind (finds_behind v ps qs found) x.found r.chosen_behind in
    taken_at v (ps ++ qs) ws (r.front ++ r.behind) m after r.all (record {
      ordered = ordered_then m r.middle after r.front r.behind x.ordered y.ordered;
      found = finds_both after ps qs (finds_still v r.middle after ps (finds_front v ps qs found) x.found y.keeps) y.found;
      keeps = λ i e. y.keeps i (x.keeps i e);
    })

takes_where : (v : Remembered) (b : Bool) (ps qs : List Filled) → Takes v ps → Takes v qs → Takes v (cond b ps qs)
takes_where v true ps qs f g = f
takes_where v false ps qs f g = g

mutual
  takes_below : (v : Remembered) (l : Layout) (is : IdTrees) → Takes v (filled_below l is)
  takes_below v (layout k cs) is = takes_where v (is_keyed k.parts) (filled_inside cs is) (filled_of cs is) (takes_inside v cs is) (takes_all v cs is)

  takes_inside : (v : Remembered) (cs : Layouts) (is : IdTrees) → Takes v (filled_inside cs is)
  takes_inside v no_layouts is = takes_none v
  takes_inside v (more_layouts c cs) is = takes_below v c is

  takes_all : (v : Remembered) (cs : Layouts) (is : IdTrees) → Takes v (filled_of cs is)
  takes_all v no_layouts is = takes_none v
  takes_all v (more_layouts c cs) is =
      let id = own_id (first_ids is) in
      let inner = inner_ids (first_ids is) in
      takes_both v (filled_below c inner ++ own_filled c id inner) (filled_of cs (other_ids is))
      (takes_field v c id inner (takes_below v c inner)) (takes_all v cs (other_ids is))

pub order_law : InnerFirstLaw
unfolding Takes
order_law columns is before after ws v s =
    let x = takes_all v.0 (layouts columns) is before after ws v.1 s in
    record { ordered = x.ordered; found = x.found }
