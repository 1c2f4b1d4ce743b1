-- Steps of loops over dictionaries, keys and unions.
use Rattle.std.proofs.Common.{arith, zero, suc, refl, ◌≡◌, ℕ, ℤ, pos, ◌+◌, ◌<◌, ◌≤◌, List, [], ◌∷◌, ◌++◌, length, map, take, drop, get_or, set, replicate, sym, ap, ap₂, subst, ◌∙◌}
use Rattle.std.specs.List.{All, range_with_len}
use Rattle.std.proofs.lemmas.List.{length-set, get_or-set_same, get_or-set_other, get_or-map, length-map, length-take-le, map-set, length-append, append_assoc, append-nil, map_push, take_more, at_drop_more}
use Rattle.std.proofs.lemmas.List.Concat.{flat_map-append}
use Rattle.std.proofs.lemmas.List.FromFn.{length-map-range_with_len, get_or-map-range_with_len, map-range_with_len_more}
use Rattle.lower_flat_arrays.specs.Spans.{span_count}
use Rattle.lower_flat_arrays.specs.Validities.{part}
use Rattle.lower_flat_arrays.proofs.Cuts.{get_or-part, length-part}
use Rattle.lower_validation.specs.Ids.{union_ids, child_number}
use Rattle.lower_arrays.specs.Layouts.{Layout, layouts, level, children, len_of}
use Rattle.lower_arrays.specs.Choices.{child, no_child, place_in}
use Rattle.lower_arrays.specs.Dictionaries.{DictionarySeen}
use Rattle.lower_arrays.specs.Unions.{UnionSeen, union_layout}
use Rattle.lower_compute.specs.declared.runs.Run.{Run}
use Rattle.lower_compute.specs.Runs.{origins_of_run, origins, whole_runs}
use Rattle.lower_compute.specs.Keyed.{value_place, value_places, one_after_other}
use Rattle.lower_compute.specs.Variants.{number_of, index_in, IsPushed, AreRecorded}
use Rattle.lower_compute.proofs.RunPlaces.{map-map, count_run, count_more}
use Rattle.lower_compute.proofs.DenseSteps.{start_recorded, step_recorded}

-- each dictionary with the index at which its values begin, one more of which was read
pub ends_more : {X Z : Type 0} (st : Z → ℕ) (dz : Z → DictionarySeen) (di : X → DictionarySeen) (qs qs' : List Z) (q : Z) (xs : List X) (i : ℕ) (x : X) (start : ℕ)
    (all : List (ℕ × DictionarySeen)) → i < length xs → x ≡ get_or xs i x → qs' ≡ qs ++ q ∷ [] → st q ≡ start → dz q ≡ di x
    → map {B = ℕ × DictionarySeen} (λ z. (st z, dz z)) qs ++ one_after_other start (map di (drop i xs)) ≡ all
    → map {B = ℕ × DictionarySeen} (λ z. (st z, dz z)) qs' ++ one_after_other (start + len_of (di x).values) (map di (drop (i + 1) xs)) ≡ all
ends_more st dz di qs qs' q xs i x start all lt at more from same before =
    let rest : List (ℕ × DictionarySeen) = one_after_other (start + len_of (di x).values) (map di (drop (i + 1) xs)) in
    let read : one_after_other start (map di (drop i xs)) ≡ (start, di x) ∷ rest =
    at_drop_more (λ l. one_after_other start (map di l)) xs i x lt ∙ ap (λ y. one_after_other start (map di (y ∷ drop (i + 1) xs))) (sym at)
    in
    ap (λ l. map {B = ℕ × DictionarySeen} (λ z. (st z, dz z)) l ++ rest) more
    ∙ ap (λ l. l ++ rest) (map_push {Y = ℕ × DictionarySeen} (λ z. (st z, dz z)) qs q)
    ∙ append_assoc (map {B = ℕ × DictionarySeen} (λ z. (st z, dz z)) qs) ((st q, dz q) ∷ []) rest
    ∙ ap (λ l. map {B = ℕ × DictionarySeen} (λ z. (st z, dz z)) qs ++ l) (ap₂ (λ n a. (n, a) ∷ rest) from same ∙ sym read)
    ∙ before

-- the index of the value of a slot, pushed behind those of the slots before
pub place_more : (start : ℕ) (a : DictionarySeen) (o n i : ℕ) (out out' before : List ℕ) (p : ℕ) → o + n ≤ length a.keys.integers → i < n → p ≡ value_place start a (o + i)
    → out' ≡ out ++ p ∷ [] → out ≡ before ++ take i (part o n (value_places start a)) → out' ≡ before ++ take (i + 1) (part o n (value_places start a))
place_more start a o n i out out' before p fits lt at more same =
    let all = value_places start a in
    let count : length all ≡ length a.keys.integers = length-map-range_with_len (value_place start a) 0 (length a.keys.integers) in
    let inside : i < length (part o n all) = let c = length-part o n all (omega (arith, fits, count)) in omega (arith, c, lt) in
    let here : p ≡ get_or (part o n all) i 0 =
    at ∙ sym (get_or-part o n all i 0 lt ∙ get_or-map-range_with_len (value_place start a) 0 (length a.keys.integers) (o + i) (o + i) 0 (omega (arith, fits, lt)) (omega arith))
    in
    more
    ∙ ap₂ (λ l x. l ++ x ∷ []) same here
    ∙ append_assoc before (take i (part o n all)) (get_or (part o n all) i 0 ∷ [])
    ∙ ap (λ l. before ++ l) (sym (take_more (part o n all) i 0 inside))

-- the places of one run more
pub places_more : (runs : List Run) (k : ℕ) (run : Run) → k < length runs → run ≡ get_or runs k run → origins (take (k + 1) runs) ≡ origins (take k runs) ++ origins_of_run run
places_more runs k run h at =
    ap origins (take_more runs k run h ∙ ap (λ r. take k runs ++ r ∷ []) (sym at))
    ∙ flat_map-append origins_of_run (take k runs) (run ∷ [])
    ∙ ap (λ l. origins (take k runs) ++ l) (append-nil (origins_of_run run))

-- how many places they have, with one run more
pub count_taken : (runs : List Run) (k : ℕ) (run : Run) → k < length runs → run ≡ get_or runs k run → length (origins (take (k + 1) runs)) ≡ length (origins (take k runs)) + run.len
count_taken runs k run h at =
    ap (λ l. length l) (places_more runs k run h at)
    ∙ length-append (origins (take k runs)) (origins_of_run run)
    ∙ ap (λ n. length (origins (take k runs)) + n) (count_run run)

-- the first runs have no more places than all
pub count_least : (runs : List Run) (n : ℕ) → length (origins (take n runs)) ≤ length (origins runs)
count_least [] zero = omega arith
count_least [] (suc n) = omega arith
count_least (run ∷ runs) zero = omega arith
count_least (run ∷ runs) (suc n) =
    let rest = count_least runs n in
    let some = count_more run (take n runs) in
    let all = count_more run runs in
    omega (arith, rest, some, all)

-- runs over lists as a whole, and one more
whole_push : (ns : List ℕ) (j n : ℕ) → whole_runs j (ns ++ n ∷ []) ≡ whole_runs j ns ++ record { array = j + length ns; offset = 0; len = n } ∷ []
whole_push [] j n =
    let e : j ≡ j + 0 = omega arith in
    ap (λ a. record { array = a; offset = 0; len = n } ∷ []) e
whole_push (m ∷ ns) j n =
    let e : j + 1 + length ns ≡ j + length (m ∷ ns) = omega arith in
    ap (λ l. record { array = j; offset = 0; len = m } ∷ l)
    (whole_push ns (j + 1) n ∙ ap (λ a. whole_runs (j + 1) ns ++ record { array = a; offset = 0; len = n } ∷ []) e)

pub whole_more : {X : Type 0} (lay : X → Layout) (xs : List X) (k : ℕ) (x : X) → k < length xs → x ≡ get_or xs k x
    → whole_runs 0 (map len_of (map lay (take (k + 1) xs))) ≡ whole_runs 0 (map len_of (map lay (take k xs))) ++ record { array = k; offset = 0; len = len_of (lay x) } ∷ []
whole_more lay xs k x h at =
    let ns = map len_of (map lay (take k xs)) in
    let more : map len_of (map lay (take (k + 1) xs)) ≡ ns ++ len_of (lay x) ∷ [] =
    ap (λ l. map len_of (map lay l)) (take_more xs k x h ∙ ap (λ y. take k xs ++ y ∷ []) (sym at))
    ∙ ap (map len_of) (map_push lay (take k xs) x)
    ∙ map_push len_of (map lay (take k xs)) (lay x)
    in
    let count : length ns ≡ k = length-map (map lay (take k xs)) len_of ∙ length-map (take k xs) lay ∙ length-take-le k xs (omega (arith, h)) in
    let e : 0 + length ns ≡ k = omega (arith, count) in
    ap (whole_runs 0) more ∙ whole_push ns 0 (len_of (lay x)) ∙ ap (λ a. whole_runs 0 ns ++ record { array = a; offset = 0; len = len_of (lay x) } ∷ []) e

-- the offsets of arrays, by another view of them
module _ {X Y : Type 0} (f : Y → List ℕ) (off : Layout → List ℕ) (lay : X → Layout) (ys : List Y) (xs : List X) (e : map f ys ≡ map (λ x. off (lay x)) xs) where
  pub offsets_same : map f ys ≡ map off (map lay xs)
  offsets_same = e ∙ sym (map-map off lay xs)

  pub spans_same : map (λ y. span_count (f y)) ys ≡ map (λ l. span_count (off l)) (map lay xs)
  spans_same = sym (map-map span_count f ys) ∙ ap (map span_count) offsets_same ∙ map-map span_count off (map lay xs)

-- nothing is recorded yet
pub none_recorded : (ls : List Layout) (n : ℕ) (os : List ℤ) (parts : List (List Run)) (lens : List ℕ) → os ≡ [] → parts ≡ replicate n [] → lens ≡ replicate n 0 → AreRecorded ls n [] os parts lens
none_recorded ls n os parts lens eo ep el =
    subst (λ o. AreRecorded ls n [] o parts lens) (sym eo)
    (subst (λ p. AreRecorded ls n [] [] p lens) (sym ep)
    (subst (λ l. AreRecorded ls n [] [] (replicate n []) l) (sym el) (start_recorded ls n)))

-- one slot more of a union, which is in child c at index x
pub dense_more : (a : UnionSeen) (ls : List Layout) (n : ℕ) (ps : List (ℕ × ℕ)) (os os' : List ℤ) (parts parts' : List (List Run)) (lens lens' : List ℕ) (k j c x : ℕ)
    → get_or ls k no_child ≡ union_layout a → k < length ls → AreRecorded ls n ps os parts lens
    → c ≡ child_number (union_ids a.type) (get_or a.types j (pos 0)) → x ≡ place_in a.offsets j → c < n → x < len_of (child (layouts a.children) c)
    → IsPushed c k x os parts lens os' parts' lens' → AreRecorded ls n (ps ++ (k, j) ∷ []) os' parts' lens'
dense_more a ls n ps os os' parts parts' lens lens' k j c x at first is ec ex lt inner push =
    let l = get_or ls k no_child in
    let number : number_of (level l).parts j ≡ c = ap (λ m. number_of (level m).parts j) at ∙ sym ec in
    let index : index_in (level l).parts j ≡ x = ap (λ m. index_in (level m).parts j) at ∙ sym ex in
    let len : len_of (child (children l) (number_of (level l).parts j)) ≡ len_of (child (layouts a.children) c) = ap₂ (λ m d. len_of (child (children m) d)) at number in
    step_recorded ls n ps os os' parts parts' lens lens' is k j
    (omega (arith, number, lt)) first (omega (arith, index, len, inner))
    (subst (λ d. IsPushed d k (index_in (level l).parts j) os parts lens os' parts' lens') (sym number)
    (subst (λ y. IsPushed c k y os parts lens os' parts' lens') (sym index) push))

-- one place more among the runs over a child
pub dense_pushed : {V : Type 0} (items : V → List Run) (k a q : ℕ) (os os' : List ℤ) (ps ps' : List V) (v v' : V) (lens lens' : List ℕ) → k < length ps → v ≡ get_or ps k v → ps' ≡ set ps k v'
    → origins (items v') ≡ origins (items v) ++ (a, q) ∷ [] → (All (λ run. 0 < run.len) (items v) → All (λ run. 0 < run.len) (items v'))
    → os' ≡ os ++ pos (get_or lens k 0) ∷ [] → lens' ≡ set lens k (get_or lens k 0 + 1) → IsPushed k a q os (map items ps) lens os' (map items ps') lens'
dense_pushed items k a q os os' ps ps' v v' lens lens' lt at grown one some offset more =
    let all : map items ps' ≡ set (map items ps) k (items v') = ap (map items) grown ∙ map-set items ps k v' in
    let inside : k < length (map items ps) = let n = length-map ps items in omega (arith, n, lt) in
    let here : get_or (map items ps') k [] ≡ items v' = ap (λ l. get_or l k []) all ∙ get_or-set_same (map items ps) k (items v') [] inside in
    let there : get_or (map items ps) k [] ≡ items v = get_or-map items ps k v [] lt ∙ ap items (sym at) in
    record {
      offset = offset;
      count = ap (λ l. length l) all ∙ length-set (map items ps) k (items v');
      others = λ i ne. ap (λ l. get_or l i []) all ∙ get_or-set_other (map items ps) k i (items v') [] ne;
      here = ap origins here ∙ one ∙ ap (λ l. origins l ++ (a, q) ∷ []) (sym there);
      some = λ h. subst (All (λ run. 0 < run.len)) (sym here) (some (subst (All (λ run. 0 < run.len)) there h));
      more = more;
    }

-- one slot more of a run
pub run_more : (ps : List (ℕ × ℕ)) (k o i : ℕ)
    → ps ++ map {B = ℕ × ℕ} (λ j. (k, j)) (range_with_len o (i + 1)) ≡ (ps ++ map {B = ℕ × ℕ} (λ j. (k, j)) (range_with_len o i)) ++ (k, o + i) ∷ []
run_more ps k o i =
    ap (λ l. ps ++ l) (map-range_with_len_more {X = ℕ × ℕ} (λ j. (k, j)) o i (o + i) refl)
    ∙ sym (append_assoc ps (map {B = ℕ × ℕ} (λ j. (k, j)) (range_with_len o i)) ((k, o + i) ∷ []))
