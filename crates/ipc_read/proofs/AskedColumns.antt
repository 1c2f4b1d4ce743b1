-- The arrays and the errors of columns that were read in ascending order, in the requested order.
use Rattle.std.proofs.Common.{◌≡◌, ℕ, zero, suc, List, [], ◌∷◌, map, length, Option, None, Some, slice_get, refl, sym, ◌∙◌, subst, arith, inl, inr}
use Rattle.std.specs.List.Sorted.{IsPermutation}
use Rattle.std.proofs.lemmas.List.Sorted.{Contains-permutation, IsPermutation-sym, length_permutation}
use Rattle.std.proofs.lemmas.Option.{get_or_from_slice_get, slice_get_read, slice_get_within}
use Rattle.lower_arrays.specs.AnyLayouts.{layout_of}
use Rattle.lower_arrays.specs.declared.array.AnyArray.{AnyArray}
use Rattle.ipc_devices.proofs.Claims.{claims_through}
use Rattle.ipc_base.specs.IdTrees.{IdTrees}
use Rattle.ipc_read_flat.specs.Refusals.{IsFaultOf}
use Rattle.ipc_devices.specs.Faults.{OwnFault}
use Rattle.ipc_devices.specs.declared.fault.Fault.{Fault}
use Rattle.ipc_model.specs.Batches.{chosen, kind_at}
use Rattle.ipc_model.specs.Entries.{Dictionaries}
use Rattle.ipc_model.specs.Kinds.{Kinds}
use Rattle.ipc_model.specs.ReadChunks.{HaveMeaning, IsArrayOf, ids_at}
use Rattle.ipc_projection.proofs.AskedOrder.{rising_prepared}
use Rattle.ipc_projection.proofs.Reorderings.{some_same}
use Rattle.ipc_projection.specs.ChosenColumns.{AreAsMany, AreOrdered, AreShuffled, AreThere, asked_by, rising_by}
use Rattle.ipc_projection.specs.declared.read.chosen.ChosenColumns.{ChosenColumns}
use Rattle.ipc_read.specs.Chunks.{chunk_seen, column_seen}
use Rattle.ipc_read.specs.Refusals.{IsFaultOfBatch, IsFaultOfSome}
use Rattle.ipc_read.specs.Columns.{ArePrepared}

-- The index of a column in another order.
stands_in : (xs ys : List ℕ) → IsPermutation xs ys → (i j : ℕ) → slice_get xs i ≡ Some j → (k : ℕ) × (slice_get ys k ≡ Some j)
stands_in xs ys same i j e =
    let w = Contains-permutation xs ys j same (i, slice_get_within xs i j e, get_or_from_slice_get xs i j j e) in
    (w.0, slice_get_read ys (length ys) w.0 j refl w.1 (sym w.2))

-- Columns that exist are read in ascending order.
pub are_prepared : (n : ℕ) (c : Option ChosenColumns) → AreThere c n → AreShuffled c → ArePrepared (rising_by c) n
are_prepared n None there same = tt
are_prepared n (Some c) there same = rising_prepared c.columns n same.0 same.1 there

-- There are as many columns as are requested.
pub as_many_read : (n : ℕ) (c : Option ChosenColumns) (k : ℕ) → k ≡ length (chosen (rising_by c) n) → AreAsMany c k
as_many_read n None k e = tt
as_many_read n (Some c) k e = e

-- ---- arrays

module _ (known : Dictionaries) (is : IdTrees) where
  abbrev IsArrayAt : ℕ → AnyArray → Type 0
  IsArrayAt j x = IsArrayOf known (ids_at is j) (column_seen x) (layout_of x)

  abbrev pub AreArrays : List ℕ → List AnyArray → Type 0
  AreArrays js xs = HaveMeaning known is js (chunk_seen xs) (map layout_of xs)

  array_at : (js : List ℕ) (xs : List AnyArray) → AreArrays js xs → (i j : ℕ) (x : AnyArray) → slice_get js i ≡ Some j → slice_get xs i ≡ Some x → IsArrayAt j x
  array_at [] xs h i j x e f = absurd (omega (arith, slice_get_within [] i j e))
  array_at (k ∷ js) [] h i j x e f = absurd h
  array_at (k ∷ js) (y ∷ xs) h zero j x e f = subst (λ (z : AnyArray). IsArrayAt j z) (some_same f) (subst (λ (n : ℕ). IsArrayAt n y) (some_same e) h.0)
  array_at (k ∷ js) (y ∷ xs) h (suc i) j x e f = array_at js xs h.1 i j x e f

  are_arrays : (js : List ℕ) (xs : List AnyArray) → length js ≡ length xs → ((i j : ℕ) (x : AnyArray) → slice_get js i ≡ Some j → slice_get xs i ≡ Some x → IsArrayAt j x) → AreArrays js xs
  are_arrays [] [] long each = tt
  are_arrays [] (x ∷ xs) long each = absurd (omega (arith, long))
  are_arrays (j ∷ js) [] long each = absurd (omega (arith, long))
  are_arrays (j ∷ js) (x ∷ xs) long each = (each 0 j x refl refl, are_arrays js xs (omega (arith, long)) (λ i k y e f. each (suc i) k y e f))

  pub values_in_order : (n : ℕ) (c : Option ChosenColumns) (read given : List AnyArray) → AreShuffled c → AreAsMany c (length read) → AreOrdered c read given
      → AreArrays (chosen (rising_by c) n) read → AreArrays (chosen (asked_by c) n) given
  values_in_order n None read given same many moved a = subst (λ (xs : List AnyArray). AreArrays (chosen None n) xs) (sym moved) a
  values_in_order n (Some c) read given same many moved a =
      let long = length_permutation c.columns.columns c.columns.rising same.0 in
      are_arrays c.columns.columns given (omega (arith, long, many, moved.count))
      (λ p j x e f.
      let w = stands_in c.columns.columns c.columns.rising same.0 p j e in
      array_at c.columns.rising read a w.0 j x w.1 (sym (moved.moved w.0 p j w.1 e) ∙ f))

-- ---- errors

module _ (ts : Kinds) (e : Fault) where
  fault_at : (js : List ℕ) (i j : ℕ) → slice_get js i ≡ Some j → IsFaultOf (kind_at ts j) e → IsFaultOfSome ts js e
  fault_at [] i j s f = absurd (omega (arith, slice_get_within [] i j s))
  fault_at (k ∷ js) zero j s f = inl (subst (λ (n : ℕ). IsFaultOf (kind_at ts n) e) (sym (some_same s)) f)
  fault_at (k ∷ js) (suc i) j s f = inr (fault_at js i j s f)

  some_fault : (js ks : List ℕ) → ((i j : ℕ) → slice_get js i ≡ Some j → (k : ℕ) × (slice_get ks k ≡ Some j)) → IsFaultOfSome ts js e → IsFaultOfSome ts ks e
  some_fault [] ks each f = absurd f
  some_fault (j ∷ js) ks each (inl f) = let w = each 0 j refl in fault_at ks w.0 j w.1 f
  some_fault (j ∷ js) ks each (inr f) = some_fault js ks (λ i x s. each (suc i) x s) f

  pub batch_fault : (js ks : List ℕ) → IsPermutation js ks → IsFaultOfBatch ts js e → IsFaultOfBatch ts ks e
  batch_fault js ks same (inl f) = inl f
  batch_fault js ks same (inr (inl f)) = inr (inl (some_fault js ks (stands_in js ks same) f))
  batch_fault js ks same (inr (inr f)) = inr (inr f)

  -- An error of a column in ascending order is one of a requested column.
  pub faults_in_order : (n : ℕ) (c : Option ChosenColumns) → AreShuffled c → OwnFault e (IsFaultOfBatch ts (chosen (rising_by c) n) e) → OwnFault e (IsFaultOfBatch ts (chosen (asked_by c) n) e)
  faults_in_order n None same f = f
  faults_in_order n (Some c) same f =
      claims_through e (IsFaultOfBatch ts c.columns.rising e) (IsFaultOfBatch ts c.columns.columns e)
      (batch_fault c.columns.rising c.columns.columns (IsPermutation-sym c.columns.columns c.columns.rising same.0)) f
