-- Dictionaries, run by run.
use Rattle.std.proofs.Common.{arith, refl, ◌≡◌, ℕ, pos, ◌+◌, ◌<◌, ◌≤◌, List, [], ◌∷◌, ◌++◌, true, cond, length, map, drop, get_or, sym, ap, ap₂, subst, ◌∙◌}
use Rattle.std.specs.List.{All, flat_map}
use Rattle.std.proofs.lemmas.List.{length-map, length-append, length-drop, get_or-map, get_or-drop, get_or_append_left, drop-drop, drop_at}
use Rattle.std.proofs.lemmas.List.FromFn.{length-map-range_with_len, get_or-map-range_with_len}
use Rattle.std.proofs.lemmas.List.Elements.{All-nil, All-cons, All-map}
use Rattle.lower.specs.TypeTrees.{plain}
use Rattle.lower.specs.Physical.{physical, integer}
use Rattle.lower.specs.Normal.{norm}
use Rattle.lower.specs.declared.datatypes.physical_type.PhysicalType.TheVariants.{Dictionary}
use Rattle.lower.specs.declared.error.Error.{Error}
use Rattle.lower.specs.declared.error.Error.TheVariants.{OutOfSpec}
use Rattle.lower.specs.declared.error.Rule.TheVariants.{DictionaryKey, DictionaryValues, PhysicalType as WrongType}
use Rattle.lower_flat_arrays.specs.Validities.{is_valid}
use Rattle.lower_flat_arrays.specs.Columns.{null_slot}
use Rattle.lower_validation.specs.Keys.{place_of, values_type, KeyFits, KeysFit, KeysSeen}
use Rattle.lower_validation.proofs.ChildNumbers.{number_fits}
use Rattle.lower_arrays.specs.Layouts.{Layout, level, children, len_of, type_of}
use Rattle.lower_arrays.specs.Choices.{child}
use Rattle.lower_arrays.specs.Slots.{slot_at, slots, IsArray}
use Rattle.lower_arrays.specs.Dictionaries.{DictionarySeen, dictionary_seen, dictionary_layout, BreaksDictionary}
use Rattle.lower_compute.specs.declared.runs.Run.{Run}
use Rattle.lower_compute.specs.Runs.{RunFits, items_of_runs, origins, origin_at, whole_runs, IsValidityOf}
use Rattle.lower_compute.specs.Copies.{HasTypeOf, AllHaveTypeOf, AreWithin, IsCopy, each_child}
use Rattle.lower_compute.specs.Keyed.{value_place, value_places, BeginsAt, one_after_other}
use Rattle.lower_compute.proofs.RunPlaces.{map-map, item_at, items-count, length-slots_from, get_or-slots_from}
use Rattle.lower_compute.proofs.Likes.{same_values_type}
use Rattle.lower_compute.proofs.TakenRuns.{whole_slots}
use Rattle.lower_compute.proofs.NumberRuns.{valid_there}
use Rattle.lower_compute.proofs.CopySlots.{value_in, first_there, second_there, nested_made, viewed_within, viewed_all}

dictionary_kept : (a : DictionarySeen) (e : Error) → physical a.type ≡ Dictionary a.keys.key → a.keys.type ≡ plain (integer a.keys.key)
    → norm (type_of a.values) ≡ norm (values_type a.type) → KeysFit a.keys.validity a.keys.integers (len_of a.values) → BreaksDictionary a e → ⊥
dictionary_kept a (OutOfSpec WrongType) lies keys named fit breaks = breaks (lies, keys)
dictionary_kept a (OutOfSpec DictionaryValues) lies keys named fit breaks = breaks named
dictionary_kept a (OutOfSpec DictionaryKey) lies keys named fit breaks = breaks fit
dictionary_kept a (OutOfSpec _) lies keys named fit breaks = breaks

-- A slot of a dictionary is a value.
key_fits : (a : DictionarySeen) → IsArray (dictionary_layout a) → (j : ℕ) → j < length a.keys.integers → is_valid a.keys.validity j ≡ true
    → place_of (get_or a.keys.integers j (pos 0)) < len_of a.values
key_fits a is j lt valid = number_fits (get_or a.keys.integers j (pos 0)) (len_of a.values) (is.1.3.each j lt valid)

-- an element of a list that has one
first_of : {X : Type 0} (ys : List X) (k : ℕ) → k < length ys → X
first_of [] k lt = absurd (omega (arith, lt))
first_of (y ∷ ys) k lt = y

-- Arrays with the indices at which their values begin in `vals`.
module _ {X : Type 0} (st : X → ℕ) (di : X → DictionarySeen) (ps : List X) (b : DictionarySeen) (ls : List Layout) (runs : List Run) (vals : Layout)
    (like : AllHaveTypeOf (dictionary_layout b) ls) (within : AreWithin ls runs)
    (same : map (λ p. dictionary_layout (di p)) ps ≡ ls) (begin : All (λ p. BeginsAt vals (st p) (di p)) ps) where
  pub keys-fit : All (RunFits (map (λ p. length (di p).keys.integers) ps)) runs
  keys-fit = viewed_within (λ p. dictionary_layout (di p)) ps ls runs same within

  abbrev lists : List (List ℕ)
  lists = map (λ p. value_places (st p) (di p)) ps

  lens_are : (qs : List X) → map (λ l. length l) (map (λ p. value_places (st p) (di p)) qs) ≡ map (λ p. length (di p).keys.integers) qs
  lens_are [] = refl
  lens_are (q ∷ qs) = ap₂ (λ n ns. n ∷ ns) (length-map-range_with_len (value_place (st q) (di q)) 0 (length (di q).keys.integers)) (lens_are qs)

  lists-fit : All (RunFits (map (λ l. length l) lists)) runs
  lists-fit = subst (λ ns. All (RunFits ns) runs) (sym (lens_are ps)) keys-fit

  pub places_count : length (items_of_runs lists runs) ≡ length (origins runs)
  places_count = items-count lists runs lists-fit

  first_in : (i : ℕ) → i < length (origins runs) → (origin_at runs i).0 < length ps
  first_in i lt =
      let count : length ls ≡ length ps = ap (λ l. length l) (sym same) ∙ length-map ps (λ p. dictionary_layout (di p)) in
      let first = first_there ls runs within i lt in
      omega (arith, count, first)

  module _ (d : X) (i : ℕ) (lt : i < length (origins runs)) where
    -- the array that slot i is from
    abbrev q : X
    q = get_or ps (origin_at runs i).0 d

    abbrev j : ℕ
    j = (origin_at runs i).1

    array_there : (e : Layout) → get_or ls (origin_at runs i).0 e ≡ dictionary_layout (di q)
    array_there e = ap (λ l. get_or l (origin_at runs i).0 e) (sym same) ∙ get_or-map (λ p. dictionary_layout (di p)) ps (origin_at runs i).0 d e (first_in i lt)

    inner : j < length (di q).keys.integers
    inner = subst (λ l. j < len_of l) (array_there (dictionary_layout b)) (second_there ls runs within (dictionary_layout b) i lt)

    place_there : get_or (items_of_runs lists runs) i 0 ≡ value_place (st q) (di q) j
    place_there =
        item_at lists 0 runs i lists-fit lt
        ∙ ap (λ l. get_or l j 0) (get_or-map (λ p. value_places (st p) (di p)) ps (origin_at runs i).0 d [] (first_in i lt))
        ∙ get_or-map-range_with_len (value_place (st q) (di q)) 0 (length (di q).keys.integers) j j 0 inner (omega arith)

    valid_place : is_valid (di q).keys.validity j ≡ true → get_or (items_of_runs lists runs) i 0 ≡ st q + place_of (get_or (di q).keys.integers j (pos 0))
    valid_place valid = place_there ∙ ap (λ v. cond v (st q + place_of (get_or (di q).keys.integers j (pos 0))) 0) valid

    is_there : IsArray (dictionary_layout (di q))
    is_there = viewed_all IsArray (λ p. dictionary_layout (di p)) ps ls same like.1 (origin_at runs i).0 d (first_in i lt)

    begins : BeginsAt vals (st q) (di q)
    begins = begin (origin_at runs i).0 d (first_in i lt)

    key_below : is_valid (di q).keys.validity j ≡ true → place_of (get_or (di q).keys.integers j (pos 0)) < len_of (di q).values
    key_below valid = key_fits (di q) is_there j inner valid

    -- the index is one of the values
    below_all : is_valid (di q).keys.validity j ≡ true → get_or (items_of_runs lists runs) i 0 < len_of vals
    below_all valid =
        let at = valid_place valid in
        let key = key_below valid in
        let room = begins.0 in
        omega (arith, at, key, room)

    -- and its value is the one that the slot was
    value_there : is_valid (di q).keys.validity j ≡ true → slot_at vals (get_or (items_of_runs lists runs) i 0) ≡ slot_at (di q).values (place_of (get_or (di q).keys.integers j (pos 0)))
    value_there valid = ap (slot_at vals) (valid_place valid) ∙ begins.1 (place_of (get_or (di q).keys.integers j (pos 0))) (key_below valid)

  -- The keys of the copy.
  module _ (ks : KeysSeen) (key : ks.key ≡ b.keys.key) (type : ks.type ≡ plain (integer b.keys.key)) (are : ks.integers ≡ map (λ n. pos n) (items_of_runs lists runs))
      (valid : IsValidityOf (map (λ l. (level l).validity) ls) runs ks.validity) where
    count : length ks.integers ≡ length (origins runs)
    count = ap (λ l. length l) are ∙ length-map (items_of_runs lists runs) (λ n. pos n) ∙ places_count

    key_at : (i : ℕ) → i < length (origins runs) → get_or ks.integers i (pos 0) ≡ pos (get_or (items_of_runs lists runs) i 0)
    key_at i lt = ap (λ l. get_or l i (pos 0)) are ∙ get_or-map (λ n. pos n) (items_of_runs lists runs) i 0 (pos 0) (omega (arith, places_count, lt))

    set_there : (d : X) (i : ℕ) (lt : i < length (origins runs)) → is_valid ks.validity i ≡ true → is_valid (di (get_or ps (origin_at runs i).0 d)).keys.validity (origin_at runs i).1 ≡ true
    set_there d i lt set =
        let e = dictionary_layout b in
        ap (λ l. is_valid (level l).validity (origin_at runs i).1) (sym (array_there d i lt e))
        ∙ sym (valid_there len_of (λ l. (level l).validity) e ls runs ks.validity i within valid lt)
        ∙ set

    pub keys_unbroken : (e : Error) → norm (type_of vals) ≡ norm (values_type b.type) → BreaksDictionary (dictionary_seen b.type ks vals) e → ⊥
    keys_unbroken e named breaks =
        dictionary_kept (dictionary_seen b.type ks vals) e (like.0.1.0 ∙ ap Dictionary (sym key)) (type ∙ ap (λ k. plain (integer k)) (sym key)) named
        (record {
          each = λ i lt set.
              let below : i < length (origins runs) = omega (arith, count, lt) in
              let d = first_of ps (origin_at runs i).0 (first_in i below) in
              subst (λ z. KeyFits z (len_of vals)) (sym (key_at i below)) (below_all d i below (set_there d i below set));
        })
        breaks

    pub keys_copied : IsCopy (dictionary_layout b) ls runs (dictionary_layout (dictionary_seen b.type ks vals))
    keys_copied =
        nested_made ls runs within b.type (dictionary_layout (dictionary_seen b.type ks vals)) refl count valid (λ e i lt set.
        let d = first_of ps (origin_at runs i).0 (first_in i lt) in
        let x = get_or ls (origin_at runs i).0 e in
        let j = (origin_at runs i).1 in
        let same_array = array_there d i lt e in
        let set_bit : is_valid (di (get_or ps (origin_at runs i).0 d)).keys.validity j ≡ true = ap (λ l. is_valid (level l).validity j) (sym same_array) ∙ set in
        ap (λ z. slot_at vals (place_of z)) (key_at i lt)
        ∙ value_there d i lt set_bit
        ∙ ap (λ l. value_in l j) (sym same_array))

-- ---- where the values begin

-- in the same values
pub same_begins : (all : Layout) (a : DictionarySeen) → slots a.values ≡ slots all → BeginsAt all 0 a
same_begins all a same =
    let count : len_of a.values ≡ len_of all =
    sym (length-slots_from (slot_at a.values) 0 (len_of a.values)) ∙ ap (λ l. length l) same ∙ length-slots_from (slot_at all) 0 (len_of all)
    in (
      omega (arith, count),
      λ i lt.
          let z : 0 + i ≡ i = omega arith in
          sym (get_or-slots_from (slot_at all) 0 (len_of all) i (omega (arith, count, lt)))
          ∙ ap (λ l. get_or l i null_slot) (sym same)
          ∙ get_or-slots_from (slot_at a.values) 0 (len_of a.values) i lt
          ∙ ap (slot_at a.values) z,
    )

-- in values that follow one another
pub all_begin : (all : Layout) (ds : List DictionarySeen) (start : ℕ) → start ≤ len_of all → drop start (slots all) ≡ flat_map (λ a. slots a.values) ds
    → All (λ (p : ℕ × DictionarySeen). BeginsAt all p.0 p.1) (one_after_other start ds)
all_begin all [] start le e = All-nil (λ (p : ℕ × DictionarySeen). BeginsAt all p.0 p.1)
all_begin all (a ∷ ds) start le e =
    All-cons (λ (p : ℕ × DictionarySeen). BeginsAt all p.0 p.1) (start, a) (one_after_other (start + len_of a.values) ds)
    (omega (arith, room), here)
    (all_begin all ds (start + len_of a.values) (omega (arith, room)) rest)
  where
    whole : length (slots all) ≡ len_of all
    whole = length-slots_from (slot_at all) 0 (len_of all)

    mine : length (slots a.values) ≡ len_of a.values
    mine = length-slots_from (slot_at a.values) 0 (len_of a.values)

    room : start + len_of a.values ≤ len_of all
    room =
        let left = length-drop start (slots all) in
        let split : length (drop start (slots all)) ≡ length (slots a.values) + length (flat_map (λ a. slots a.values) ds) =
        ap (λ l. length l) e ∙ length-append (slots a.values) (flat_map (λ a. slots a.values) ds)
        in
        omega (arith, left, split, whole, mine, le)

    here : (i : ℕ) → i < len_of a.values → slot_at all (start + i) ≡ slot_at a.values i
    here i lt =
        let z : 0 + (start + i) ≡ start + i = omega arith in
        let y : 0 + i ≡ i = omega arith in
        sym (get_or-slots_from (slot_at all) 0 (len_of all) (start + i) (omega (arith, room, lt)) ∙ ap (slot_at all) z)
        ∙ sym (get_or-drop start (slots all) i null_slot)
        ∙ ap (λ l. get_or l i null_slot) e
        ∙ get_or_append_left (slots a.values) (flat_map (λ a. slots a.values) ds) null_slot i (omega (arith, mine, lt))
        ∙ get_or-slots_from (slot_at a.values) 0 (len_of a.values) i lt
        ∙ ap (slot_at a.values) y

    rest : drop (start + len_of a.values) (slots all) ≡ flat_map (λ a. slots a.values) ds
    rest =
        sym (drop-drop (len_of a.values) start (slots all))
        ∙ ap (drop (len_of a.values)) e
        ∙ drop_at (slots a.values) (flat_map (λ a. slots a.values) ds) (len_of a.values) mine

-- ---- arrays with these indices

-- the values of arrays of one type
pub value_types : {X : Type 0} (di : X → DictionarySeen) (xs : List X) (b : DictionarySeen) (ls : List Layout) → map (λ x. dictionary_layout (di x)) xs ≡ ls
    → AllHaveTypeOf (dictionary_layout b) ls → All (λ x. norm (type_of (di x).values) ≡ norm (values_type b.type)) xs
value_types di xs b ls same like = λ k d lt.
    let a = di (get_or xs k d) in
    let is = viewed_all IsArray (λ x. dictionary_layout (di x)) xs ls same like.1 k d lt in
    let type = viewed_all (HasTypeOf (dictionary_layout b)) (λ x. dictionary_layout (di x)) xs ls same like.2 k d lt in
    is.1.1 ∙ same_values_type a.type b.type type

flat_mapped : {X Y A : Type 0} (f : Y → List A) (g : X → Y) (xs : List X) → flat_map f (map g xs) ≡ flat_map (λ x. f (g x)) xs
flat_mapped f g [] = refl
flat_mapped f g (x ∷ xs) = ap (λ l. f (g x) ++ l) (flat_mapped f g xs)

seconds : (start : ℕ) (ds : List DictionarySeen) → map (λ (p : ℕ × DictionarySeen). p.1) (one_after_other start ds) ≡ ds
seconds start [] = refl
seconds start (a ∷ ds) = ap (λ l. a ∷ l) (seconds (start + len_of a.values) ds)

module _ {X Z : Type 0} (di : X → DictionarySeen) (xs : List X) (st : Z → ℕ) (dz : Z → DictionarySeen) (qs : List Z) where
  -- at the start of the same values
  module _ (same : map {B = ℕ × DictionarySeen} (λ q. (st q, dz q)) qs ≡ map {B = ℕ × DictionarySeen} (λ x. (0, di x)) xs) where
    pub start_layouts : map (λ q. dictionary_layout (dz q)) qs ≡ map (λ x. dictionary_layout (di x)) xs
    start_layouts =
        sym (map-map (λ (p : ℕ × DictionarySeen). dictionary_layout p.1) (λ q. (st q, dz q)) qs)
        ∙ ap (map (λ (p : ℕ × DictionarySeen). dictionary_layout p.1)) same
        ∙ map-map (λ (p : ℕ × DictionarySeen). dictionary_layout p.1) (λ x. (0, di x)) xs

    pub start_begin : (vals : Layout) → All (λ x. slots (di x).values ≡ slots vals) xs → All (λ q. BeginsAt vals (st q) (dz q)) qs
    start_begin vals h =
        viewed_all (λ (p : ℕ × DictionarySeen). BeginsAt vals p.0 p.1) (λ q. (st q, dz q)) qs (map (λ x. (0, di x)) xs) same
        (All-map (λ (p : ℕ × DictionarySeen). BeginsAt vals p.0 p.1) (λ x. (0, di x)) xs (λ k d lt. same_begins vals (di (get_or xs k d)) (h k d lt)))

  -- one after the other
  module _ (same : map {B = ℕ × DictionarySeen} (λ q. (st q, dz q)) qs ≡ one_after_other 0 (map di xs)) where
    pub end_layouts : map (λ q. dictionary_layout (dz q)) qs ≡ map (λ x. dictionary_layout (di x)) xs
    end_layouts =
        sym (map-map (λ (p : ℕ × DictionarySeen). dictionary_layout p.1) (λ q. (st q, dz q)) qs)
        ∙ ap (map (λ (p : ℕ × DictionarySeen). dictionary_layout p.1)) same
        ∙ sym (map-map dictionary_layout (λ (p : ℕ × DictionarySeen). p.1) (one_after_other 0 (map di xs)))
        ∙ ap (map dictionary_layout) (seconds 0 (map di xs))
        ∙ map-map dictionary_layout di xs

    pub end_begin : (vals m : Layout) (ls : List Layout) → map (λ x. dictionary_layout (di x)) xs ≡ ls
        → IsCopy m (each_child 0 ls) (whole_runs 0 (map len_of (each_child 0 ls))) vals → All (λ q. BeginsAt vals (st q) (dz q)) qs
    end_begin vals m ls are copy =
        viewed_all (λ (p : ℕ × DictionarySeen). BeginsAt vals p.0 p.1) (λ q. (st q, dz q)) qs (one_after_other 0 (map di xs)) same
        (all_begin vals (map di xs) 0 (omega arith)
        (whole_slots m vals (each_child 0 ls) copy
        ∙ ap (λ ks. flat_map slots (each_child 0 ks)) (sym are)
        ∙ flat_mapped slots (λ l. child (children l) 0) (map (λ x. dictionary_layout (di x)) xs)
        ∙ flat_mapped (λ l. slots (child (children l) 0)) (λ x. dictionary_layout (di x)) xs
        ∙ sym (flat_mapped (λ a. slots a.values) di xs)))
