-- Columns that are read in ascending order and returned in the requested order.
use Rattle.std.proofs.Common.{◌≡◌, ℕ, ◌<◌, ◌==◌, nat_eq, List, map, length, get_or, Option, None, Some, IfOk, Result, Ok, Err, IsTrue, slice_get, option_map, arith, refl, sym, ◌∙◌, ap, subst}
use Rattle.std.specs.HashMap.{HashMap, get}
use Rattle.std.specs.List.Sorted.{IsPermutation}
use Rattle.std.specs.Option.{option_and_then}
use Rattle.std.proofs.lemmas.List.{length-map, get_or_default}
use Rattle.std.proofs.lemmas.List.Sorted.{All-permutation, Contains-permutation, IsPermutation-sym, length_permutation}
use Rattle.std.proofs.lemmas.Map.Keys.{IsDistinct-IsPermutation}
use Rattle.std.proofs.lemmas.Option.{slice_get-map, slice_get-get_or, slice_get_read, slice_get_within}
use Rattle.ipc_model.specs.Entries.{Entries, Limit}
use Rattle.ipc_model.specs.Batches.{Schema, kinds, Column, Chunk, chunk_of, batch, entries_of, IsProjection, is_projection, lists_of, record_meaning, slots_of_column, type_at}
use Rattle.ipc_model.proofs.Pruned.{projection_decides}
use Rattle.ipc_projection.proofs.Prepared.{distinct}
use Rattle.ipc_projection.proofs.Preparing.{all_of, each_of, eqb_flips, same_place}
use Rattle.ipc_projection.proofs.Reordered.{same_places, shuffled_batch}
use Rattle.ipc_projection.proofs.Reorderings.{some_of}
use Rattle.ipc_projection.specs.AskedOrder.{Asked, KeepsPlaces, IsInAskedOrder, AreInAskedOrder, AskedBatchLaw, AskedRecordLaw}
use Rattle.ipc_projection.specs.Projections.{IsIncreasing, IsPrepared, AreReordered}

-- What is moved to the indices is in the requested order.
pub in_asked_order : {S X : Type 0} (a : Asked) (m : HashMap ℕ ℕ S) (xs ys : List X) → KeepsPlaces a m → AreReordered m xs ys → IsInAskedOrder a xs ys
in_asked_order a m xs ys k h = record {
  count = h.count;
  moved = λ i p j r q.
      let inside = slice_get_within a.rising i j r in
      let many = length_permutation a.columns a.rising k.same in
      let w = some_of (get nat_eq m i) ((k.reordering.keys i).1 (omega (arith, inside, many))) in
      let here = k.moved.moved i w.0 w.1 ∙ r in
      let apart = IsDistinct-IsPermutation (λ i j. i == j) eqb_flips a.rising a.columns (IsPermutation-sym a.columns a.rising k.same) (distinct 0 a.rising k.increasing) in
      h.moved i p (w.1 ∙ ap Some (same_place a.columns apart w.0 p j here q));
}

pub ordered : {S X E : Type 0} (a : Asked) (m : HashMap ℕ ℕ S) (xs : List X) (r : Result (List X) E) → KeepsPlaces a m → IfOk r (λ ys. AreReordered m xs ys) → IfOk r (λ ys. IsInAskedOrder a xs ys)
ordered a m xs (Ok ys) k h = in_asked_order a m xs ys k h
ordered a m xs (Err e) k h = tt

-- what is made of each column is in that order too
pub asked_images : {X Y : Type 0} (a : Asked) (f : X → Y) (xs ys : List X) → IsInAskedOrder a xs ys → IsInAskedOrder a (map f xs) (map f ys)
asked_images a f xs ys h = record {
  count = length-map ys f ∙ h.count ∙ sym (length-map xs f);
  moved = λ i p j r q. slice_get-map f ys p ∙ ap (option_map f) (h.moved i p j r q) ∙ sym (slice_get-map f xs i);
}

-- So is what is made of the indices.
asked_numbers : {X : Type 0} (a : Asked) (f : ℕ → X) → IsPermutation a.columns a.rising → IsInAskedOrder a (map f a.rising) (map f a.columns)
asked_numbers a f same = record {
  count = length-map a.columns f ∙ sym (length_permutation a.columns a.rising same) ∙ sym (length-map a.rising f);
  moved = λ i p j r q. slice_get-map f a.columns p ∙ ap (option_map f) (q ∙ sym r) ∙ sym (slice_get-map f a.rising i);
}

-- There is exactly one such order.
pub asked_once : {X : Type 0} (a : Asked) (xs ys zs : List X) → IsPermutation a.columns a.rising → length xs ≡ length a.rising
    → IsInAskedOrder a xs ys → IsInAskedOrder a xs zs → ys ≡ zs
asked_once a xs ys zs shuffled long h k = same_places ys zs (h.count ∙ sym k.count) same
  where
    same : (p : ℕ) → p < length zs → slice_get ys p ≡ slice_get zs p
    same p l =
        let many = length_permutation a.columns a.rising shuffled in
        let inside : p < length a.columns = omega (arith, l, k.count, long, many) in
        let j = get_or a.columns p 0 in
        let here : slice_get a.columns p ≡ Some j = slice_get-get_or a.columns p 0 inside in
        let w = Contains-permutation a.columns a.rising j shuffled (p, inside, get_or_default a.columns p j 0 inside) in
        let there : slice_get a.rising w.0 ≡ Some j = slice_get_read a.rising (length a.rising) w.0 j refl w.1 (sym w.2) in
        h.moved w.0 p j there here ∙ sym (k.moved w.0 p j there here)

-- Columns that exist, in ascending order, as a batch is read.
pub rising_prepared : (a : Asked) (n : ℕ) → IsPermutation a.columns a.rising → IsIncreasing a.rising → IsTrue (is_projection (Some a.columns) n) → IsPrepared a.rising n
rising_prepared a n same up h =
    let is = (projection_decides (Some a.columns) n).0 h in
    (all_of n a.rising (All-permutation (λ j. j < n) a.columns a.rising same (each_of n a.columns is.0)), up)

-- The columns of a projection exist.
pub are_there : (js ks : List ℕ) (n : ℕ) → js ≡ ks → IsProjection (Some ks) n → IsTrue (is_projection (Some js) n)
are_there js ks n e is = subst (λ (xs : List ℕ). IsTrue (is_projection (Some xs) n)) (sym e) ((projection_decides (Some ks) n).1 is)

-- ---- what they mean

-- What has a meaning in ascending order has this one in the requested order.
pub given_as_asked : (a : Asked) (o p : Option Chunk) (read given : Chunk) → IsPermutation a.columns a.rising → AreInAskedOrder a o p → o ≡ Some read
    → length read ≡ length a.rising → IsInAskedOrder a read given → p ≡ Some given
given_as_asked a None p read given same h e long order = absurd cc
given_as_asked a (Some c) None read given same h e long order = absurd h
given_as_asked a (Some c) (Some found) read given same h e long order =
    let is : c ≡ read = cc in
    ap Some (asked_once a read found given same long (subst (λ (d : Chunk). IsInAskedOrder a d found) is h) order)

asked_meanings : (a : Asked) (s : Entries) (most : ℕ) (schema : Schema) (limit : Limit) (o p : Option Chunk) → IsPermutation a.columns a.rising
    → batch s most schema (Some a.rising) limit ≡ o → batch s most schema (Some a.columns) limit ≡ p → AreInAskedOrder a o p
asked_meanings a s most schema limit None None same e f = tt
asked_meanings a s most schema limit None (Some given) same e f =
    let found = (shuffled_batch s most schema limit a.columns a.rising given same f).1 in
    let no : None ≡ Some (chunk_of s schema.fields (kinds schema) a.rising limit) = sym e ∙ found in
    absurd cc
asked_meanings a s most schema limit (Some read) None same e f =
    let found = (shuffled_batch s most schema limit a.rising a.columns read (IsPermutation-sym a.columns a.rising same) e).1 in
    let no : None ≡ Some (chunk_of s schema.fields (kinds schema) a.columns limit) = sym f ∙ found in
    absurd cc
asked_meanings a s most schema limit (Some read) (Some given) same e f =
    let there = shuffled_batch s most schema limit a.columns a.rising given same f in
    let here = shuffled_batch s most schema limit a.rising a.columns read (IsPermutation-sym a.columns a.rising same) e in
    let column : ℕ → Column = λ j. record { type = type_at schema.fields j; slots = slots_of_column s (kinds schema) limit j } in
    subst (λ (c : Chunk). IsInAskedOrder a read c) there.0
    (subst (λ (c : Chunk). IsInAskedOrder a c (map column a.columns)) here.0 (asked_numbers a column same))

pub asked_batch_law : AskedBatchLaw
asked_batch_law a s most schema limit same = asked_meanings a s most schema limit _ _ same refl refl

pub then_asked : {X : Type 0} (a : Asked) (o : Option X) (f g : X → Option Chunk) → ((x : X) → AreInAskedOrder a (f x) (g x))
    → AreInAskedOrder a (option_and_then f o) (option_and_then g o)
then_asked a None f g h = tt
then_asked a (Some x) f g h = h x

pub asked_record_law : AskedRecordLaw
unfolding record_meaning
asked_record_law a schema extra known body t limit same =
    then_asked a (lists_of t) _ _ (λ lists. asked_batch_law a (entries_of lists body schema.order extra known) body.size schema limit same)
