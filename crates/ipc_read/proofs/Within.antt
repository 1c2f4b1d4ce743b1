-- The encoded lengths of chosen columns' buffers sum to at most those
-- of all buffers of their batch.
use Rattle.std.proofs.Common.{arith, ◌≡◌, ℕ, zero, suc, ◌+◌, ◌-◌, ◌<◌, ◌≤◌, List, [], ◌∷◌, take, drop, Option, None, Some, ap, sym, subst, ◌∙◌}
use Rattle.std.proofs.lemmas.List.{drop-drop}
use Rattle.std.proofs.lemmas.List.Sums.{sum_by-take-drop}
use Rattle.std.specs.List.{AllByRecursion, range_with_len}
use Rattle.lower_arrays.specs.declared.array.AnyArray.{AnyArray}
use Rattle.ipc_table_views.specs.declared.schema.Buffer.{Buffer}
use Rattle.ipc_model.proofs.Addresses.{order_law}
use Rattle.ipc_model.specs.Batches.{Lists, kind_at, buffers_before, chosen}
use Rattle.ipc_model.specs.Entries.{size}
use Rattle.ipc_model.specs.Kinds.{Kinds, count, buffers}
use Rattle.ipc_projection.specs.Projections.{IsIncreasingFrom}
use Rattle.ipc_read.specs.Columns.{ArePrepared}
use Rattle.ipc_read.specs.HeldChunks.{arrays_held, chosen_empty, HoldChosen}
use Rattle.ipc_read.specs.Sizes.{total_of, chosen_total, chosen_listed}

-- ---- columns in ascending order

split_total : (bs : List Buffer) (b n : ℕ) → total_of (take n (drop b bs)) + total_of (drop (b + n) bs) ≡ total_of (drop b bs)
split_total bs b n =
    ap (λ (xs : List Buffer). total_of (take n (drop b bs)) + total_of xs) (sym (drop-drop n b bs)) ∙ sum_by-take-drop (λ (r : Buffer). size r.length) (drop b bs) n

later_less : (bs : List Buffer) (b c : ℕ) → b ≤ c → total_of (drop c bs) ≤ total_of (drop b bs)
later_less bs b c h =
    let e = ap (λ (k : ℕ). total_of (drop k bs)) (let q : b + (c - b) ≡ c = omega (arith, h) in q) in
    omega (arith, split_total bs b (c - b), e)

-- none of them begins before buffer b
rising_total : (bs : List Buffer) (extra : ℕ) (ts : Kinds) (b k : ℕ) (js : List ℕ) → ((j : ℕ) → k ≤ j → j < count ts → b ≤ buffers_before extra ts j)
    → AllByRecursion (λ j. j < count ts) js → IsIncreasingFrom k js → chosen_total bs extra ts js ≤ total_of (drop b bs)
rising_total bs extra ts b k [] begins below rising = omega arith
rising_total bs extra ts b k (j ∷ js) begins below rising =
    let own = buffers extra (kind_at ts j) in
    omega (
      arith,
      later_less bs b (buffers_before extra ts j) (begins j rising.0 below.0),
      split_total bs (buffers_before extra ts j) own,
      rising_total bs extra ts (buffers_before extra ts j + own) (suc j) js (λ i past inside. (order_law extra ts j i (omega (arith, past)) inside).buffer) below.1 rising.1,
    )

-- ---- those that a projection names, or all

all_below : (m k n : ℕ) → k + n ≤ m → AllByRecursion (λ j. j < m) (range_with_len k n)
all_below m k zero h = tt
all_below m k (suc n) h = (omega (arith, h), all_below m (k + 1) n (omega (arith, h)))

all_rising : (k n : ℕ) → IsIncreasingFrom k (range_with_len k n)
all_rising k zero = tt
all_rising k (suc n) = (omega arith, subst (λ (i : ℕ). IsIncreasingFrom i (range_with_len (k + 1) n)) (let e : k + 1 ≡ suc k = omega arith in e) (all_rising (k + 1) n))

prepared_total : (bs : List Buffer) (extra : ℕ) (ts : Kinds) (p : Option (List ℕ)) → ArePrepared p (count ts) → chosen_total bs extra ts (chosen p (count ts)) ≤ total_of bs
prepared_total bs extra ts None h =
    rising_total bs extra ts 0 0 (range_with_len 0 (count ts)) (λ j past inside. omega arith) (all_below (count ts) 0 (count ts) (omega arith)) (all_rising 0 (count ts))
prepared_total bs extra ts (Some js) h = rising_total bs extra ts 0 0 js (λ j past inside. omega arith) h.0 h.1

pub chosen_within : (bs : List Buffer) (extra : ℕ) (ts : Kinds) (p : Option (List ℕ)) (n : ℕ) → count ts ≡ n → ArePrepared p n → chosen_total bs extra ts (chosen p n) ≤ total_of bs
chosen_within bs extra ts p n e h = subst (λ (m : ℕ). ArePrepared p m → chosen_total bs extra ts (chosen p m) ≤ total_of bs) e (prepared_total bs extra ts p) h

-- ---- what arrays hold

pub hold_within :
    (most : ℕ) (o : Option Lists) (lists : Lists) (extra : ℕ) (ts : Kinds) (js : List ℕ) (xs : List AnyArray) → o ≡ Some lists
    → chosen_total lists.buffers extra ts js ≤ total_of lists.buffers → total_of lists.buffers ≤ most
    → arrays_held xs ≤ chosen_listed o extra ts js + chosen_empty o extra ts js → HoldChosen most o extra ts js xs
hold_within most o lists extra ts js xs listed_so own all h = record {
  own_buffers = h;
  all_buffers = let e = ap (λ (l : Option Lists). chosen_listed l extra ts js) listed_so in omega (arith, h, e, own, all);
}
