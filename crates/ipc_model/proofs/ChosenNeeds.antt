-- The chosen columns of a batch need at most their encoded lengths.
use Rattle.std.proofs.Common.{◌≡◌, ℕ, zero, suc, List, [], ◌∷◌, take, drop, ◌+◌, ◌≤◌, ◌==◌, false, Option, None, Some, refl, sym, ap, ◌∙◌, subst, arith}
use Rattle.std.proofs.lemmas.Bool.{eqb-false}
use Rattle.std.proofs.lemmas.List.{drop-drop}
use Rattle.std.proofs.lemmas.List.Sums.{sum_by-cons, sum_by-take-drop}
use Rattle.std.specs.List.{AllByRecursion, IsDistinct, range_with_len, sum_by}
use Rattle.ipc_model.proofs.Holding.{needed_law, listed_in}
use Rattle.ipc_model.specs.Batches.{kind_at, buffers_before, own, chosen, listed_bytes, AllRead, first_rows}
use Rattle.ipc_model.specs.Entries.{Entries, Part, size, Limit}
use Rattle.ipc_model.specs.Kinds.{Kind, null_kind, Kinds, no_kinds, more_kinds, count, buffers}
use Rattle.ipc_model.specs.Needed.{needed, IsOnce, columns_needed, columns_listed, ChosenNeededLaw}

-- ---- sums over distinct numbers

-- the first n values together
abbrev total : (ℕ → ℕ) → ℕ → ℕ
total f zero = 0
total f (suc n) = f 0 + total (λ i. f (suc i)) n

-- f with 0 at j
abbrev without : (ℕ → ℕ) → ℕ → ℕ → ℕ
without f zero zero = 0
without f zero (suc i) = f (suc i)
without f (suc j) zero = f 0
without f (suc j) (suc i) = without (λ k. f (suc k)) j i

without_at : (f : ℕ → ℕ) (j n : ℕ) → ((i : ℕ) → n ≤ i → f i ≤ 0) → f j + total (without f j) n ≤ total f n
without_at f j zero past = omega (arith, past j (omega arith))
without_at f zero (suc n) past = omega arith
without_at f (suc j) (suc n) past = omega (arith, without_at (λ i. f (suc i)) j n (λ i h. past (suc i) (omega (arith, h))))

without_less : (f : ℕ → ℕ) (j i : ℕ) → without f j i ≤ f i
without_less f zero zero = omega arith
without_less f zero (suc i) = omega arith
without_less f (suc j) zero = omega arith
without_less f (suc j) (suc i) = without_less (λ k. f (suc k)) j i

without_other : (f : ℕ → ℕ) (j i : ℕ) → (j ≡ i → ⊥) → without f j i ≡ f i
without_other f zero zero h = absurd (h refl)
without_other f zero (suc i) h = refl
without_other f (suc j) zero h = refl
without_other f (suc j) (suc i) h = without_other (λ k. f (suc k)) j i (λ e. h (ap (λ k. suc k) e))

differ : (j i : ℕ) → (j == i) ≡ false → j ≡ i → ⊥
differ j i h e = eqb-false j i h e

sum_without : (f : ℕ → ℕ) (j : ℕ) (js : List ℕ) → AllByRecursion (λ i. (j == i) ≡ false) js → sum_by f js ≡ sum_by (without f j) js
sum_without f j [] h = refl
sum_without f j (i ∷ is) h =
    sum_by-cons f i is ∙ ap (λ k. k + sum_by f is) (sym (without_other f j i (differ j i h.0))) ∙ ap (λ k. without f j i + k) (sum_without f j is h.1)
    ∙ sym (sum_by-cons (without f j) i is)

sum_distinct : (f : ℕ → ℕ) (n : ℕ) (js : List ℕ) → ((i : ℕ) → n ≤ i → f i ≤ 0) → IsDistinct (λ i j. i == j) js → sum_by f js ≤ total f n
unfolding IsDistinct
sum_distinct f n [] past h = omega arith
sum_distinct f n (j ∷ js) past h =
    omega (
      arith,
      sum_by-cons f j js,
      sum_without f j js h.0,
      sum_distinct (without f j) n js (λ i k. let a = without_less f j i in let b = past i k in omega (arith, a, b)) h.1,
      without_at f j n past,
    )

total_same : (f g : ℕ → ℕ) (n : ℕ) → ((i : ℕ) → f i ≡ g i) → total f n ≡ total g n
total_same f g zero h = refl
total_same f g (suc n) h = ap (λ k. k + total (λ i. f (suc i)) n) (h 0) ∙ ap (λ k. g 0 + k) (total_same (λ i. f (suc i)) (λ i. g (suc i)) n (λ i. h (suc i)))

sum_range : (f : ℕ → ℕ) (a n : ℕ) → sum_by f (range_with_len a n) ≡ total (λ i. f (a + i)) n
sum_range f a zero = refl
sum_range f a (suc n) =
    sum_by-cons f a (range_with_len (a + 1) n)
    ∙ ap (λ k. f a + k) (sum_range f (a + 1) n ∙ total_same (λ i. f (a + 1 + i)) (λ i. f (a + suc i)) n (λ i. ap f (omega arith)))
    ∙ ap (λ k. k + total (λ i. f (a + suc i)) n) (ap f (let e : a ≡ a + 0 = omega arith in e))

-- ---- what columns list

split_sum : (g : Part → ℕ) (b n : ℕ) (xs : List Part) → sum_by g (take n (drop b xs)) + sum_by g (drop (b + n) xs) ≡ sum_by g (drop b xs)
split_sum g b n xs = ap (λ ys. sum_by g (take n (drop b xs)) + sum_by g ys) (sym (drop-drop n b xs)) ∙ sum_by-take-drop g (drop b xs) n

-- The encoded length of column j, if the columns begin at buffer b.
abbrev listed_at : Entries → ℕ → Kinds → ℕ → ℕ
listed_at s b ts j = sum_by (λ (p : Part). size p.length) (take (buffers s.extra (kind_at ts j)) (drop (b + buffers_before s.extra ts j) s.parts))

from_place : (s : Entries) (ts : Kinds) (j b c : ℕ) → b ≡ c
    → sum_by (λ (p : Part). size p.length) (take (buffers s.extra (kind_at ts j)) (drop b s.parts))
    ≡ sum_by (λ (p : Part). size p.length) (take (buffers s.extra (kind_at ts j)) (drop c s.parts))
from_place s ts j b c e = ap (λ k. sum_by (λ (p : Part). size p.length) (take (buffers s.extra (kind_at ts j)) (drop k s.parts))) e

all_listed : (s : Entries) (b : ℕ) (ts : Kinds) → total (listed_at s b ts) (count ts) ≤ sum_by (λ (p : Part). size p.length) (drop b s.parts)
all_listed s b no_kinds = omega arith
all_listed s b (more_kinds t ts) =
    let f : ℕ → ℕ = listed_at s b (more_kinds t ts) in
    let n : total f (1 + count ts) ≡ total f (suc (count ts)) = ap (total f) (let e : 1 + count ts ≡ suc (count ts) = omega arith in e) in
    let first : f 0 ≡ sum_by (λ (p : Part). size p.length) (take (buffers s.extra t) (drop b s.parts)) = from_place s (more_kinds t ts) 0 (b + 0) b (omega arith) in
    let others : total (λ i. f (suc i)) (count ts) ≡ total (listed_at s (b + buffers s.extra t) ts) (count ts) =
    total_same (λ i. f (suc i)) (listed_at s (b + buffers s.extra t) ts) (count ts) (λ i. from_place s ts i
    (b + (buffers s.extra t + buffers_before s.extra ts i)) (b + buffers s.extra t + buffers_before s.extra ts i) (omega arith)) in
    omega (
      arith,
      n,
      first,
      others,
      split_sum (λ (p : Part). size p.length) b (buffers s.extra t) s.parts,
      all_listed s (b + buffers s.extra t) ts,
    )

past_kind : (ts : Kinds) (j : ℕ) → count ts ≤ j → kind_at ts j ≡ null_kind
past_kind no_kinds j h = refl
past_kind (more_kinds t ts) zero h = absurd (omega (arith, h))
past_kind (more_kinds t ts) (suc j) h = past_kind ts j (omega (arith, h))

past_columns : (s : Entries) (ts : Kinds) (j : ℕ) → count ts ≤ j → listed_bytes (own s ts j) ≤ 0
past_columns s ts j h =
    subst (λ (t : Kind). sum_by (λ (p : Part). size p.length) (take (buffers s.extra t) (drop (buffers_before s.extra ts j) s.parts)) ≤ 0)
    (sym (past_kind ts j h)) (omega arith)

-- ---- the theorem

each_needs : (s : Entries) (ts : Kinds) (limit : Limit) (k : ℕ) (js : List ℕ) → AllRead s ts limit k js → columns_needed s ts limit js ≤ columns_listed s ts js
each_needs s ts limit k [] v = omega arith
each_needs s ts limit k (j ∷ js) v =
    omega (
      arith,
      sum_by-cons (λ i. needed (own s ts i) (kind_at ts i) 0 0 limit) j js,
      sum_by-cons (λ i. listed_bytes (own s ts i)) j js,
      needed_law (own s ts j) (kind_at ts j) 0 0 limit v.0.0,
      listed_in (own s ts j) 0 (buffers s.extra (kind_at ts j)),
      each_needs s ts limit k js v.1,
    )

chosen_total : (s : Entries) (ts : Kinds) (projection : Option (List ℕ)) → IsOnce projection
    → columns_listed s ts (chosen projection (count ts)) ≤ total (λ j. listed_bytes (own s ts j)) (count ts)
chosen_total s ts None once =
    omega (
      arith,
      sum_range (λ j. listed_bytes (own s ts j)) 0 (count ts),
      total_same (λ i. listed_bytes (own s ts (0 + i))) (λ i. listed_bytes (own s ts i)) (count ts)
          (λ i. ap (λ j. listed_bytes (own s ts j)) (let e : 0 + i ≡ i = omega arith in e)),
    )
chosen_total s ts (Some js) once = sum_distinct (λ j. listed_bytes (own s ts j)) (count ts) js (λ i h. past_columns s ts i h) once

pub chosen_needed_law : ChosenNeededLaw
chosen_needed_law s most ts projection limit once v =
    let js : List ℕ = chosen projection (count ts) in
    let same : total (λ j. listed_bytes (own s ts j)) (count ts) ≡ total (listed_at s 0 ts) (count ts) =
    total_same (λ j. listed_bytes (own s ts j)) (listed_at s 0 ts) (count ts)
    (λ j. from_place s ts j (buffers_before s.extra ts j) (0 + buffers_before s.extra ts j) (omega arith)) in
    record {
      own_buffers = each_needs s ts limit (first_rows s ts limit js) js v.columns;
      all_buffers = omega (arith, chosen_total s ts projection once, same, all_listed s 0 ts, v.bounded.total);
    }
