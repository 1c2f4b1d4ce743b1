-- The encoded lengths of columns, and the bytes that they retain, in sum, whatever their order.
use Rattle.std.proofs.Common.{arith, ◌≡◌, refl, ℕ, suc, ◌+◌, ◌<◌, ◌≤◌, ◌==◌, Bool, true, false, cond, List, [], ◌∷◌, map, length, Option, None, Some, option_map, sym, ap, subst, ◌∙◌}
use Rattle.std.proofs.lemmas.Bool.Decides.{nat_tests}
use Rattle.std.proofs.lemmas.List.{length-map}
use Rattle.std.proofs.lemmas.List.Sorted.{length_permutation, sum_by-IsPermutation}
use Rattle.std.proofs.lemmas.List.Sums.{sum-map, sum_by-cons}
use Rattle.std.proofs.lemmas.Option.{slice_get-map}
use Rattle.std.specs.List.{sum, sum_by}
use Rattle.std.specs.List.Sorted.{IsPermutation}
use Rattle.lower_arrays.specs.AnyLayouts.{layout_of}
use Rattle.lower_arrays.specs.Held.{held}
use Rattle.lower_arrays.specs.declared.array.AnyArray.{AnyArray}
use Rattle.ipc_table_views.specs.declared.schema.Buffer.{Buffer}
use Rattle.ipc_model.specs.Batches.{Lists, buffers_before, chosen, kind_at}
use Rattle.ipc_model.specs.BatchLaws.{own_buffers}
use Rattle.ipc_model.specs.Kinds.{Kinds}
use Rattle.ipc_read_flat.specs.HeldListed.{empty_offsets}
use Rattle.ipc_read.specs.HeldChunks.{HoldChosen, arrays_held, chosen_empty, columns_empty, length_listed}
use Rattle.ipc_read.specs.Sizes.{chosen_total, chosen_listed, total_of}
use Rattle.ipc_projection.proofs.AskedOrder.{asked_images, asked_once}
use Rattle.ipc_projection.specs.AskedOrder.{Asked, IsInAskedOrder}
use Rattle.ipc_projection.specs.ChosenColumns.{AreAsMany, AreOrdered, AreShuffled, asked_by, rising_by}
use Rattle.ipc_projection.specs.Projections.{IsIncreasing, IsIncreasingFrom}
use Rattle.ipc_projection.specs.declared.read.chosen.ChosenColumns.{ChosenColumns}

-- the number beside j
worth : List ℕ → List ℕ → ℕ → ℕ
worth [] ns j = 0
worth (k ∷ ks) [] j = 0
worth (k ∷ ks) (n ∷ ns) j = cond (j == k) n (worth ks ns j)

past_first : (k n m : ℕ) (ks ns js : List ℕ) → k < m → IsIncreasingFrom m js → map (worth (k ∷ ks) (n ∷ ns)) js ≡ map (worth ks ns) js
unfolding worth
past_first k n m ks ns [] h up = refl
past_first k n m ks ns (j ∷ js) h up =
    let above : k < j = omega (arith, h, up.0) in
    let other : (j == k) ≡ false = grind (arith, nat_tests) in
    let here : cond (j == k) n (worth ks ns j) ≡ worth ks ns j = ap (λ (t : Bool). cond t n (worth ks ns j)) other in
    λ i. here i ∷ past_first k n (suc j) ks ns js (omega (arith, above)) up.1 i

all_worth : (m : ℕ) (js ns : List ℕ) → IsIncreasingFrom m js → length ns ≡ length js → map (worth js ns) js ≡ ns
unfolding worth
all_worth m [] [] up long = refl
all_worth m [] (n ∷ ns) up long = absurd (omega (arith, long))
all_worth m (j ∷ js) [] up long = absurd (omega (arith, long))
all_worth m (j ∷ js) (n ∷ ns) up long =
    let same : (j == j) ≡ true = grind (arith, nat_tests) in
    let here : cond (j == j) n (worth js ns j) ≡ n = ap (λ (t : Bool). cond t n (worth js ns j)) same in
    let tail = past_first j n (suc j) js ns js (omega arith) up.1 ∙ all_worth (suc j) js ns up.1 (omega (arith, long)) in
    λ i. here i ∷ tail i

-- What is returned in the requested order is in sum what was read.
asked_sum : {X : Type 0} (f : X → ℕ) (a : Asked) (read given : List X) → IsPermutation a.columns a.rising → IsIncreasing a.rising → length read ≡ length a.rising
    → IsInAskedOrder a read given → sum_by f given ≡ sum_by f read
asked_sum f a read given same up many order =
    let g = worth a.rising (map f read) in
    let read_so : map g a.rising ≡ map f read = all_worth 0 a.rising (map f read) up (length-map read f ∙ many) in
    let numbers : IsInAskedOrder a (map g a.rising) (map g a.columns) = record {
      count = length-map a.columns g ∙ sym (length_permutation a.columns a.rising same) ∙ sym (length-map a.rising g);
      moved = λ i p j r q. slice_get-map g a.columns p ∙ ap (option_map g) (q ∙ sym r) ∙ sym (slice_get-map g a.rising i);
    } in
    let given_so : map f given ≡ map g a.columns =
    asked_once a (map f read) (map f given) (map g a.columns) same (length-map read f ∙ many) (asked_images a f read given order)
    (subst (λ (ns : List ℕ). IsInAskedOrder a ns (map g a.columns)) read_so numbers)
    in
    sym (sum-map f given)
    ∙ ap sum given_so
    ∙ sum-map g a.columns
    ∙ sym (sum_by-IsPermutation g a.columns a.rising same)
    ∙ sym (sum-map g a.rising)
    ∙ ap sum read_so
    ∙ sum-map f read

-- ---- what columns list

total_is : (bs : List Buffer) (extra : ℕ) (ts : Kinds) (js : List ℕ) → chosen_total bs extra ts js ≡ sum_by (λ j. total_of (own_buffers bs extra ts j)) js
total_is bs extra ts [] = refl
total_is bs extra ts (j ∷ js) =
    ap (λ (n : ℕ). total_of (own_buffers bs extra ts j) + n) (total_is bs extra ts js) ∙ sym (sum_by-cons (λ k. total_of (own_buffers bs extra ts k)) j js)

pub listed_same : (o : Option Lists) (extra : ℕ) (ts : Kinds) (xs ys : List ℕ) → IsPermutation xs ys → chosen_listed o extra ts ys ≡ chosen_listed o extra ts xs
listed_same None extra ts xs ys same = refl
listed_same (Some lists) extra ts xs ys same =
    total_is lists.buffers extra ts ys ∙ sum_by-IsPermutation (λ j. total_of (own_buffers lists.buffers extra ts j)) xs ys same ∙ sym (total_is lists.buffers extra ts xs)

empty_is : (lists : ℕ → ℕ) (extra : ℕ) (ts : Kinds) (js : List ℕ)
    → columns_empty lists extra ts js ≡ sum_by (λ j. empty_offsets lists extra (kind_at ts j) (buffers_before extra ts j)) js
empty_is lists extra ts [] = refl
empty_is lists extra ts (j ∷ js) =
    ap (λ (n : ℕ). empty_offsets lists extra (kind_at ts j) (buffers_before extra ts j) + n) (empty_is lists extra ts js)
    ∙ sym (sum_by-cons (λ k. empty_offsets lists extra (kind_at ts k) (buffers_before extra ts k)) j js)

empty_same : (o : Option Lists) (extra : ℕ) (ts : Kinds) (xs ys : List ℕ) → IsPermutation xs ys → chosen_empty o extra ts ys ≡ chosen_empty o extra ts xs
empty_same None extra ts xs ys same = refl
empty_same (Some lists) extra ts xs ys same =
    let f : ℕ → ℕ = λ c. length_listed lists.buffers c in
    empty_is f extra ts ys ∙ sum_by-IsPermutation (λ j. empty_offsets f extra (kind_at ts j) (buffers_before extra ts j)) xs ys same ∙ sym (empty_is f extra ts xs)

-- ---- what arrays hold

-- Arrays that were read in ascending order, in the requested order.
pub held_in_order :
    (q : Option ChosenColumns) (n most : ℕ) (lists : Option Lists) (extra : ℕ) (ts : Kinds) (read given : List AnyArray) → AreShuffled q → AreAsMany q (length read)
    → AreOrdered q read given → HoldChosen most lists extra ts (chosen (rising_by q) n) read → HoldChosen most lists extra ts (chosen (asked_by q) n) given
held_in_order None n most lists extra ts read given same many order h = subst (λ (xs : List AnyArray). HoldChosen most lists extra ts (chosen None n) xs) (sym order) h
held_in_order (Some q) n most lists extra ts read given same many order h =
    let a = q.columns in
    let sums : arrays_held given ≡ arrays_held read = asked_sum (λ x. held (layout_of x)) a read given same.0 same.1 many order in
    let listed : chosen_listed lists extra ts a.rising ≡ chosen_listed lists extra ts a.columns = listed_same lists extra ts a.columns a.rising same.0 in
    let empty : chosen_empty lists extra ts a.rising ≡ chosen_empty lists extra ts a.columns = empty_same lists extra ts a.columns a.rising same.0 in
    record {
      own_buffers = omega (arith, sums, listed, empty, h.own_buffers);
      all_buffers = omega (arith, sums, empty, h.all_buffers);
    }
