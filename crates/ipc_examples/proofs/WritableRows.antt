-- Each case is computed; those of weights and of dictionary fields are for each number.
use Rattle.std.proofs.Common.{◌≡◌, ℕ, ℤ, zero, suc, pos, negsuc, ◌+◌, ◌*◌, ◌^◌, ◌-◌, ◌<◌, ◌≤◌, max, true, List, [], ◌∷◌, length, get_or, lit<, lit≤, Option, Some, None, refl, ap, sym, arith, true≢false}
use Rattle.std.proofs.lemmas.Bool.{false≢true}
use Rattle.std.proofs.lemmas.List.{length-replicate}
use Rattle.std.specs.List.{AllByRecursion}
use Rattle.std.specs.Prelude.{AllPairs, codes, replicate}
use Rattle.lower.specs.Counts.{fields_levels}
use Rattle.lower.specs.Normal.{data_key, norm, norm_fields}
use Rattle.lower.specs.TypeTrees.{Pairs, null, int32, utf8, binary, list, TypeTree, plain, single, field}
use Rattle.ipc_base.specs.Fitting.{Fits, AllFit}
use Rattle.ipc_base.specs.IdTrees.{ids, IdTrees, no_ids, more_ids}
use Rattle.ipc_model.proofs.Decided.{union_decides}
use Rattle.ipc_model.specs.Batches.{Place, places}
use Rattle.ipc_model.specs.Writable.{IsWritableField, AreWritable, fields_weight, weight, SameUnderId, IsWritable, IsWritableFile, file_weight}
use Rattle.ipc_examples.specs.WritableRows.{PlainTypeRows, NestedTypeRows, WritableSchemaRows, of_type, keyed, no_id, id_is, one_id, nested_lists, nested_ids, long_named, dictionaries_of, zero_ids, integer_field}
use Rattle.ipc_model.specs.Samples.{alone}

pub plain_type_rows : PlainTypeRows
plain_type_rows = record {
  half_float = λ w. w;
  single_float = λ w. w;
  double_float = λ w. w;
  seconds = tt;
  milliseconds = tt;
  short_microseconds = λ w. w;
  short_nanoseconds = λ w. w;
  long_seconds = λ w. w;
  long_milliseconds = λ w. w;
  microseconds = tt;
  nanoseconds = tt;
  no_bytes = λ w. let e : 0 < 0 = w.0 in absurd (omega arith);
  one_byte = (lit< tt, lit< tt);
  greatest_bytes = (lit< tt, lit< tt);
  past_the_greatest_bytes = λ w. let e : 2147483648 < 2147483648 = w.1 in absurd (omega arith);
  greatest_decimal = (lit< tt, lit< tt);
  past_the_greatest_precision = λ w. let e : 2147483648 < 2147483648 = w.0 in absurd (omega arith);
  past_the_greatest_scale = λ w. let e : 2147483648 < 2147483648 = w.1 in absurd (omega arith);
  greatest_wide_decimal = (lit< tt, lit< tt);
  past_the_greatest_wide_precision = λ w. let e : 2147483648 < 2147483648 = w.0 in absurd (omega arith);
  past_the_greatest_wide_scale = λ w. let e : 2147483648 < 2147483648 = w.1 in absurd (omega arith);
  no_digits = (lit< tt, lit< tt);
}

pub nested_type_rows : NestedTypeRows
nested_type_rows = record {
  lists = (tt, tt);
  large_lists = (tt, tt);
  lists_of_none = λ w. let e : 0 < 0 = w.0.0 in absurd (omega arith);
  lists_of_one = ((lit< tt, lit< tt), tt);
  greatest_lists = ((lit< tt, lit< tt), tt);
  past_the_greatest_lists = λ w. let e : 2147483648 < 2147483648 = w.0.1 in absurd (omega arith);
  no_child = λ w. let e : 1 ≤ 0 = w.0 in absurd (omega arith);
  one_child = (lit≤ tt, (tt, tt));
  maps = (tt, (lit≤ tt, (tt, (tt, tt))));
  maps_of_one_field = λ w. w.0;
  maps_of_three_fields = λ w. w.0;
  maps_of_no_struct = λ w. w.0;
  maps_of_an_extension = λ w. w.0;
  unions_of_none = λ w. let e : 1 ≤ 0 = w.0.some in absurd (omega arith);
  unions_of_one = ((union_decides None 1).0 refl, (tt, tt));
  unions_of_one_too_many = λ w. let e : 128 ≤ 127 = w.0.few in absurd (omega arith);
  greatest_id = ((union_decides (Some (pos 126 ∷ [])) 1).0 refl, (tt, tt));
  past_the_greatest_id = λ w. absurd (false≢true ((union_decides (Some (pos 127 ∷ [])) 1).1 w.0));
  negative_id = λ w. absurd (false≢true ((union_decides (Some (negsuc 0 ∷ [])) 1).1 w.0));
  few_ids = λ w. absurd (false≢true ((union_decides (Some (pos 5 ∷ [])) 2).1 w.0));
  equal_ids = λ w. absurd (false≢true ((union_decides (Some (pos 5 ∷ pos 5 ∷ [])) 2).1 w.0));
  dictionaries = (tt, tt);
  dictionaries_of_dictionaries = λ w. w.0;
  dictionaries_of_lists_of_dictionaries = (tt, (tt, (tt, tt)));
  dictionaries_of_extensions = (tt, (tt, tt));
  extensions = (tt, tt);
  extensions_of_dictionaries = λ w. w.0;
  extensions_of_extensions = λ w. w.0;
  float_in_a_list = λ w. w.1;
  float_in_a_struct = λ w. w.1.1.0;
  float_in_a_union = λ w. w.1.1.0;
  float_in_a_dictionary = λ w. w.1;
  float_in_an_extension = λ w. w.1;
}

-- ---- pairs of dictionary fields

none_paired : {X : Type 0} (R : X → X → Type 0) → AllPairs R []
none_paired R = λ i j d before inside. absurd (omega (arith, inside))

at_place : {X : Type 0} (P : X → Type 0) (ys : List X) (j : ℕ) (d : X) → AllByRecursion P ys → j < length ys → P (get_or ys j d)
at_place P [] j d h inside = absurd (omega (arith, inside))
at_place P (y ∷ ys) zero d h inside = h.0
at_place P (y ∷ ys) (suc j) d h inside = at_place P ys j d h.1 (omega (arith, inside))

pair_at : {X : Type 0} (R : X → X → Type 0) (x : X) (ys : List X) → AllByRecursion (R x) ys → AllPairs R ys
    → (i j : ℕ) (d : X) → i < j → j < length (x ∷ ys) → R (get_or (x ∷ ys) i d) (get_or (x ∷ ys) j d)
pair_at R x ys h rest zero zero d before inside = absurd (omega (arith, before))
pair_at R x ys h rest zero (suc j) d before inside = at_place (R x) ys j d h (omega (arith, inside))
pair_at R x ys h rest (suc i) zero d before inside = absurd (omega (arith, before))
pair_at R x ys h rest (suc i) (suc j) d before inside = rest i j d (omega (arith, before)) (omega (arith, inside))

and_pairs : {X : Type 0} (R : X → X → Type 0) (x : X) (ys : List X) → AllByRecursion (R x) ys → AllPairs R ys → AllPairs R (x ∷ ys)
and_pairs R x ys h rest = λ i j d before inside. pair_at R x ys h rest i j d before inside

two_paired : {X : Type 0} (R : X → X → Type 0) (x y : X) → R x y → AllPairs R (x ∷ y ∷ [])
two_paired R x y r = and_pairs R x (y ∷ []) (r, tt) (and_pairs R y [] tt (none_paired R))

four_paired : {X : Type 0} (R : X → X → Type 0) (x y z w : X) → R x y → R x z → R x w → R y z → R y w → R z w → AllPairs R (x ∷ y ∷ z ∷ w ∷ [])
four_paired R x y z w a b c d e f =
    and_pairs R x (y ∷ z ∷ w ∷ []) (a, (b, (c, tt))) (and_pairs R y (z ∷ w ∷ []) (d, (e, tt)) (two_paired R z w f))

alike : (p q : Place) → norm p.type ≡ norm q.type → p.ids ≡ q.ids → SameUnderId p q
alike p q t i = record { type = λ _. t; nested = λ _. i }

apart : (p q : Place) → (p.id ≡ q.id → ⊥) → SameUnderId p q
apart p q never = record { type = λ e. absurd (never e); nested = λ e. absurd (never e) }

abbrev no_place : Place
no_place = record { id = None; type = plain null; ids = no_ids }

abbrev place_is : ℤ → TypeTree → IdTrees → Place
place_is id t is = record { id = Some id; type = t; ids = is }

-- ---- lists in lists

nested_fit : (n : ℕ) → Fits (nested_lists n) (nested_ids n)
nested_fit zero = (refl, tt)
nested_fit (suc n) = (refl, (nested_fit n, tt))

nested_writable : (n : ℕ) → IsWritableField (nested_lists n)
nested_writable zero = tt
nested_writable (suc n) = (tt, nested_writable n)

-- ---- weights and many dictionaries

long_weight : (n : ℕ) → weight (long_named n) [] ≡ 1536 + n
long_weight n = omega (arith, length-replicate {A = ℕ} n 97)

light_enough : (n : ℕ) → IsWritable (long_named n) [] (one_id no_id) → n ≤ 2 ^ 30 - 1536
light_enough n w = let e : weight (long_named n) [] ≤ 1073741824 = w.light in omega (arith, e, long_weight n)

light_is_writable : (n : ℕ) → n ≤ 2 ^ 30 - 1536 → IsWritable (long_named n) [] (one_id no_id)
light_is_writable n h =
    let e : n ≤ 1073740288 = h in
    let low : weight (long_named n) [] ≤ 1073741824 = omega (arith, e, long_weight n) in
    record {
      fits = ((refl, tt), tt);
      types = (tt, tt);
      levels = lit≤ tt;
      few_places = lit≤ tt;
      values = none_paired SameUnderId;
      light = low;
    }

-- a footer's pair whose value has so many bytes
abbrev long_pair : ℕ → Pairs
long_pair n = (codes "k", replicate n 97) ∷ []

pairs_weigh : (n : ℕ) → file_weight (alone integer_field) [] (long_pair n) ≡ 1602 + n
pairs_weigh n = omega (arith, length-replicate {A = ℕ} n 97)

light_pairs : (n : ℕ) → IsWritableFile (alone integer_field) [] (one_id no_id) (long_pair n) → n ≤ 2 ^ 30 - 1602
light_pairs n w = let e : file_weight (alone integer_field) [] (long_pair n) ≤ 1073741824 = w.light in omega (arith, e, pairs_weigh n)

light_file : (n : ℕ) → n ≤ 2 ^ 30 - 1602 → IsWritableFile (alone integer_field) [] (one_id no_id) (long_pair n)
light_file n h =
    let e : n ≤ 1073740222 = h in
    let low : file_weight (alone integer_field) [] (long_pair n) ≤ 1073741824 = omega (arith, e, pairs_weigh n) in
    record {
      schema = record { fits = ((refl, tt), tt); types = (tt, tt); levels = lit≤ tt; few_places = lit≤ tt; values = none_paired SameUnderId; light = lit≤ tt };
      light = low;
    }

abbrev text_place : Place
text_place = place_is (pos 0) (plain utf8) no_ids

places_are : (n : ℕ) → length (places (dictionaries_of n) (zero_ids n)) ≡ n
places_are zero = refl
places_are (suc n) = omega (arith, places_are n)

many_fit : (n : ℕ) → AllFit (dictionaries_of n) (zero_ids n)
many_fit zero = tt
many_fit (suc n) = ((refl, tt), many_fit n)

many_writable : (n : ℕ) → AreWritable (dictionaries_of n)
many_writable zero = tt
many_writable (suc n) = ((tt, tt), many_writable n)

one_level : (n : ℕ) → fields_levels (dictionaries_of (suc n)) ≡ 1
one_level zero = refl
one_level (suc n) = ap (λ k. max 1 k) (one_level n)

few_levels : (n : ℕ) → fields_levels (dictionaries_of n) ≤ 64
few_levels zero = lit≤ tt
few_levels (suc n) = omega (arith, one_level n)

each_alike : (n : ℕ) → AllByRecursion (SameUnderId text_place) (places (dictionaries_of n) (zero_ids n))
each_alike zero = tt
each_alike (suc n) = (alike text_place text_place refl refl, each_alike n)

all_alike : (n : ℕ) → AllPairs SameUnderId (places (dictionaries_of n) (zero_ids n))
all_alike zero = none_paired SameUnderId
all_alike (suc n) = and_pairs SameUnderId text_place (places (dictionaries_of n) (zero_ids n)) (each_alike n) (all_alike n)

many_weigh : (n : ℕ) → fields_weight (norm_fields (dictionaries_of n)) ≡ 513 * n
many_weigh zero = refl
many_weigh (suc n) = omega (arith, many_weigh n)

few_enough : (n : ℕ) → IsWritable (dictionaries_of n) [] (zero_ids n) → n ≤ 65536
few_enough n w = let e : length (places (dictionaries_of n) (zero_ids n)) ≤ 65536 = w.few_places in omega (arith, e, places_are n)

few_are_writable : (n : ℕ) → n ≤ 65536 → IsWritable (dictionaries_of n) [] (zero_ids n)
few_are_writable n h =
    let few : length (places (dictionaries_of n) (zero_ids n)) ≤ 65536 = omega (arith, h, places_are n) in
    let low : weight (dictionaries_of n) [] ≤ 1073741824 = omega (arith, h, many_weigh n) in
    record {
      fits = many_fit n;
      types = many_writable n;
      levels = few_levels n;
      few_places = few;
      values = all_alike n;
      light = low;
    }

-- ---- the rows

-- the number of an id
abbrev id_in : Option ℤ → ℕ
id_in (Some (pos n)) = n
id_in _ = 0

-- two ids that are numbers
other_ids : (m n : ℕ) → (m ≡ n → ⊥) → Some (pos m) ≡ Some (pos n) → ⊥
other_ids m n never e = never (ap id_in e)

-- how many pairs of metadata the child of a type has
abbrev pairs_number : TypeTree → ℕ
pairs_number (single s (field name t nullable metadata)) = length metadata
pairs_number _ = 0

-- the number of the first of some ids
abbrev first_number : IdTrees → ℕ
first_number (more_ids (ids id is) rest) = id_in id
first_number no_ids = 0

abbrev list_of : Pairs → TypeTree
list_of metadata = single list (field (codes "f") (plain int32) true metadata)

pub writable_schema_rows : WritableSchemaRows
writable_schema_rows = record {
  an_integer = record { fits = ((refl, tt), tt); types = (tt, tt); levels = lit≤ tt; few_places = lit≤ tt; values = none_paired SameUnderId; light = lit≤ tt };
  a_float = λ w. w.types.0;
  second_a_float = λ w. w.types.1.0;
  no_ids_at_all = λ w. w.fits;
  an_id_too_many = λ w. w.fits.1;
  an_id_at_an_integer = λ w. true≢false w.fits.0.0;
  no_id_at_a_dictionary = λ w. false≢true w.fits.0.0;
  level_64 = record {
    fits = (nested_fit 63, tt);
    types = (nested_writable 63, tt);
    levels = lit≤ tt;
    few_places = lit≤ tt;
    values = none_paired SameUnderId;
    light = lit≤ tt;
  };
  level_65 = λ w. let e : 65 ≤ 64 = w.levels in absurd (omega arith);
  one_type = record {
    fits = ((refl, tt), ((refl, tt), tt));
    types = ((tt, tt), ((tt, tt), tt));
    levels = lit≤ tt;
    few_places = lit≤ tt;
    values = two_paired SameUnderId text_place text_place (alike text_place text_place refl refl);
    light = lit≤ tt;
  };
  two_types = λ w. let e : plain utf8 ≡ plain binary = (w.values 0 1 no_place (lit< tt) (lit< tt)).type refl in absurd cc;
  two_ids_for_two_types = record {
    fits = ((refl, tt), ((refl, tt), tt));
    types = ((tt, tt), ((tt, tt), tt));
    levels = lit≤ tt;
    few_places = lit≤ tt;
    values = two_paired SameUnderId text_place (place_is (pos 1) (plain binary) no_ids) (apart text_place (place_is (pos 1) (plain binary) no_ids)
        (other_ids 0 1 (λ e. absurd (omega (arith, e)))));
    light = lit≤ tt;
  };
  normal_types = record {
    fits = ((refl, ((refl, tt), tt)), ((refl, ((refl, tt), tt)), tt));
    types = ((tt, (tt, tt)), ((tt, (tt, tt)), tt));
    levels = lit≤ tt;
    few_places = lit≤ tt;
    values = two_paired SameUnderId (place_is (pos 0) (list_of ((data_key, codes "m") ∷ [])) (one_id no_id)) (place_is (pos 0) (list_of []) (one_id no_id))
        (alike (place_is (pos 0) (list_of ((data_key, codes "m") ∷ [])) (one_id no_id)) (place_is (pos 0) (list_of []) (one_id no_id)) refl refl);
    light = lit≤ tt;
  };
  other_metadata = λ w. let e : 1 ≡ 0 = ap pairs_number ((w.values 0 1 no_place (lit< tt) (lit< tt)).type refl) in absurd (omega arith);
  nested_alike = record {
    fits = ((refl, ((refl, tt), tt)), ((refl, ((refl, tt), tt)), tt));
    types = ((tt, (tt, (tt, tt))), ((tt, (tt, (tt, tt))), tt));
    levels = lit≤ tt;
    few_places = lit≤ tt;
    values =
        let outer : Place = place_is (pos 0) (single list (of_type (keyed (plain utf8)))) (one_id (id_is (pos 1))) in
        let inner : Place = place_is (pos 1) (plain utf8) no_ids in
        let never : Some (pos 0) ≡ Some (pos 1) → ⊥ = other_ids 0 1 (λ e. absurd (omega (arith, e))) in
        four_paired SameUnderId outer inner outer inner (apart outer inner never) (alike outer outer refl refl) (apart outer inner never)
        (apart inner outer (λ e. never (sym e))) (alike inner inner refl refl) (apart outer inner never);
    light = lit≤ tt;
  };
  nested_otherwise = λ w. let e : 1 ≡ 2 = ap first_number ((w.values 0 2 no_place (lit< tt) (lit< tt)).nested refl) in absurd (omega arith);
  weight = λ n. (light_enough n, light_is_writable n);
  places = λ n. (few_enough n, few_are_writable n);
  third_of_another_type = λ w. let e : plain utf8 ≡ plain binary = (w.values 0 2 no_place (lit< tt) (lit< tt)).type refl in absurd cc;
  file_weight = λ n. (light_pairs n, light_file n);
}
