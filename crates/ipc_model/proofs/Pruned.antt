-- A batch under a projection and a limit.
use Rattle.std.proofs.Common.{◌≡◌, ℕ, zero, suc, ◌+◌, ◌<◌, ◌≤◌, ◌==◌, nat_lt, not, cond, min, true, false, Bool, rules, List, [], ◌∷◌, map, length, take, Option, None, Some, refl, sym, ap, ◌∙◌, subst, arith, inl, inr, Decides}
use Rattle.std.specs.List.{range_with_len, list_all, AllByRecursion, IsDistinct}
use Rattle.std.proofs.lemmas.Bool.{cases_lt, false≢true, true≢false}
use Rattle.std.proofs.lemmas.Bool.Decides.{Decides-and, Decides-like, Decides-by_and, Decides-ltb}
use Rattle.std.proofs.lemmas.List.{take_all}
use Rattle.std.proofs.lemmas.List.FromFn.{length-map-range_with_len, get_or-map-range_with_len}
use Rattle.lower.specs.TypeTrees.{FieldTrees, plain, null}
use Rattle.lower_arrays.specs.Slots.{Slot}
use Rattle.ipc_model.proofs.Decided.{well_decides, rows_decide, size_decides, and4, le_decides, always}
use Rattle.ipc_model.proofs.Limits.{limit_law}
use Rattle.ipc_model.specs.Kinds.{Kinds, count, all_nodes, all_buffers}
use Rattle.ipc_model.specs.Entries.{Entries, IsSize, Limit, limited}
use Rattle.ipc_model.specs.Columns.{WithRows}
use Rattle.ipc_model.specs.Tests.{is_size, is_well}
use Rattle.ipc_model.specs.Laws.{IsLower}
use Rattle.ipc_model.specs.Batches.{Schema, kinds, kind_at, type_at, own, IsWellAt, rows_at, slots_of_column, chosen, IsProjection, first_rows, AllRead, listed_bytes, AreBounded, IsBatch, Column, Chunk, chunk_of, all_read, are_bounded, is_apart, are_apart, is_projection, is_batch, chunk_in, batch}
use Rattle.ipc_model.specs.BatchLaws.{BatchTestLaw, ProjectionTestLaw, cut, column_at, PruneLaw, NoProjectionLaw}

-- ---- the test

read_decides : (s : Entries) (ts : Kinds) (limit : Limit) (k : ℕ) (js : List ℕ) → Decides (all_read s ts limit k js) (AllRead s ts limit k js)
read_decides s ts limit k [] = always
read_decides s ts limit k (j ∷ js) =
    Decides-and _ _ (rows_decide (is_well (own s ts j) (kind_at ts j) 0 0 limit) (rows_at s ts limit j) k (well_decides (own s ts j) (kind_at ts j) 0 0 limit))
    (read_decides s ts limit k js)

pub bounded_decides : (s : Entries) (most : ℕ) → Decides (are_bounded s most) (AreBounded s most)
bounded_decides s most =
    Decides-like (are_bounded s most) (λ v. record { lengths = v.0; total = v.1 }) (λ v. (v.lengths, v.total))
    (Decides-and _ _
    (Decides-by_and (λ p. is_size p.length) (λ p. IsSize p.length) (list_all (λ p. is_size p.length)) (λ p. size_decides p.length) refl (λ _ _. refl) s.parts)
    (le_decides (listed_bytes s) most))

pub batch_decides : BatchTestLaw
batch_decides s most ts js limit =
    Decides-like (is_batch s most ts js limit)
    (λ v. record { bounded = v.0; nodes_listed = v.1; buffers_listed = v.2; columns = v.3 })
    (λ v. (v.bounded, v.nodes_listed, v.buffers_listed, v.columns))
    (and4 _ _ _ _ (bounded_decides s most) (le_decides (all_nodes ts) (length s.nodes)) (le_decides (all_buffers s.extra ts) (length s.parts))
    (read_decides s ts limit (first_rows s ts limit js) js))

-- ---- the projection

apart_decides : (i : ℕ) (js : List ℕ) → Decides (is_apart i js) (AllByRecursion (λ j. (i == j) ≡ false) js)
apart_decides i [] = always
apart_decides i (j ∷ js) = Decides-and (not (i == j)) (is_apart i js) (not_decides (i == j)) (apart_decides i js)
  where
    not_decides : (b : Bool) → Decides (not b) (b ≡ false)
    not_decides true = (λ e. absurd (false≢true e), λ e. absurd (true≢false e))
    not_decides false = (λ _. refl, λ _. refl)

distinct_decides : (js : List ℕ) → Decides (are_apart js) (IsDistinct (λ i j. i == j) js)
unfolding IsDistinct
distinct_decides [] = always
distinct_decides (i ∷ js) = Decides-and (is_apart i js) (are_apart js) (apart_decides i js) (distinct_decides js)

inside_decides : (n : ℕ) (js : List ℕ) → Decides (list_all (λ j. nat_lt j n) js) (AllByRecursion (λ j. j < n) js)
inside_decides n [] = always
inside_decides n (j ∷ js) = Decides-and (nat_lt j n) (list_all (λ i. nat_lt i n) js) (Decides-ltb j n) (inside_decides n js)

pub projection_decides : ProjectionTestLaw
projection_decides None n = always
projection_decides (Some js) n = Decides-and (list_all (λ j. nat_lt j n) js) (are_apart js) (inside_decides n js) (distinct_decides js)

-- ---- columns one by one

-- each of the columns from a on
read_each : (s : Entries) (ts : Kinds) (limit : Limit) (k a n : ℕ) → AllRead s ts limit k (range_with_len a n)
    → (j : ℕ) → a ≤ j → j < a + n → WithRows (IsWellAt s ts limit j) (rows_at s ts limit j) k
read_each s ts limit k a zero v j h l = absurd (omega (arith, h, l))
read_each s ts limit k a (suc n) v j h l = elim (cases_lt a j) [
  | inl p ↦ read_each s ts limit k (a + 1) n v.1 j (omega arith) (omega arith)
  | inr p ↦ let e : a ≡ j = omega arith in subst (λ (i : ℕ). WithRows (IsWellAt s ts limit i) (rows_at s ts limit i) k) e v.0
]

lower_none : (limit : Limit) → IsLower limit None
lower_none None = tt
lower_none (Some n) = tt

read_lower : (s : Entries) (ts : Kinds) (limit : Limit) (k j : ℕ) → WithRows (IsWellAt s ts None j) (rows_at s ts None j) k
    → WithRows (IsWellAt s ts limit j) (rows_at s ts limit j) (limited limit k)
read_lower s ts limit k j v = (
  (limit_law (own s ts j) (kind_at ts j) 0 0 limit None (lower_none limit) v.0).0,
  ap (limited limit) v.1,
)

read_all : (s : Entries) (ts : Kinds) (limit : Limit) (k n : ℕ) → ((j : ℕ) → j < n → WithRows (IsWellAt s ts None j) (rows_at s ts None j) k)
    → (js : List ℕ) → AllByRecursion (λ j. j < n) js → AllRead s ts limit (limited limit k) js
read_all s ts limit k n each [] h = tt
read_all s ts limit k n each (j ∷ js) h = (read_lower s ts limit k j (each j h.0), read_all s ts limit k n each js h.1)

pub read_first : (s : Entries) (ts : Kinds) (limit : Limit) (k : ℕ) (js : List ℕ) → AllRead s ts limit k js → AllRead s ts limit (first_rows s ts limit js) js
read_first s ts limit k [] v = tt
read_first s ts limit k (j ∷ js) v = subst (λ (n : ℕ). AllRead s ts limit n (j ∷ js)) (sym v.0.1) v

below_range : (a n m : ℕ) → a + n ≤ m → AllByRecursion (λ j. j < m) (range_with_len a n)
below_range a zero m h = search rules
below_range a (suc n) m h = (omega arith, below_range (a + 1) n m (omega arith))

chosen_below : (projection : Option (List ℕ)) (n : ℕ) → IsProjection projection n → AllByRecursion (λ j. j < n) (chosen projection n)
chosen_below None n h = below_range 0 n n (omega arith)
chosen_below (Some js) n h = h.0

-- ---- slots

take_min : {X : Type 0} (m : ℕ) (xs : List X) → take (min m (length xs)) xs ≡ take m xs
take_min m xs = elim (cases_lt m (length xs)) [
  | inl p ↦ (let e : min m (length xs) ≡ m = omega arith in ap (λ k. take k xs) e)
  | inr p ↦ (let e : min m (length xs) ≡ length xs = omega arith in ap (λ k. take k xs) e ∙ take_all (length xs) xs (omega arith) ∙ sym (take_all m xs p))
]

length_column : (s : Entries) (ts : Kinds) (j : ℕ) → length (slots_of_column s ts None j) ≡ rows_at s ts None j
length_column s ts j = length-map-range_with_len _ 0 (rows_at s ts None j)

whole_column : Entries → FieldTrees → Kinds → ℕ → Column
whole_column s fs ts j = record { type = type_at fs j; slots = slots_of_column s ts None j }

cut_column : (s : Entries) (fs : FieldTrees) (ts : Kinds) (limit : Limit) (j : ℕ) → IsWellAt s ts None j
    → record { type = type_at fs j; slots = slots_of_column s ts limit j } ≡ cut limit (whole_column s fs ts j)
unfolding whole_column
cut_column s fs ts None j v = refl
cut_column s fs ts (Some m) j v =
    let law = (limit_law (own s ts j) (kind_at ts j) 0 0 (Some m) None tt v).1 in
    let same : min m (rows_at s ts None j) ≡ min m (length (slots_of_column s ts None j)) = ap (min m) (sym (length_column s ts j)) in
    ap (λ (xs : List Slot). record { type = type_at fs j; slots = xs })
    (law ∙ ap (λ k. take k (slots_of_column s ts None j)) same ∙ take_min m (slots_of_column s ts None j))

cut_columns : (s : Entries) (fs : FieldTrees) (ts : Kinds) (limit : Limit) (n : ℕ) → ((j : ℕ) → j < n → IsWellAt s ts None j)
    → (js : List ℕ) → AllByRecursion (λ j. j < n) js
    → chunk_of s fs ts js limit ≡ map (λ j. cut limit (column_at (chunk_of s fs ts (range_with_len 0 n) None) j)) js
unfolding whole_column
cut_columns s fs ts limit n each [] h = refl
cut_columns s fs ts limit n each (j ∷ js) h =
    let here = cut_column s fs ts limit j (each j h.0) in
    let there = get_or-map-range_with_len (whole_column s fs ts) 0 n j j (record { type = plain null; slots = [] }) h.0 (omega arith) in
    let rest = cut_columns s fs ts limit n each js h.1 in
    ap (λ (c : Column). c ∷ chunk_of s fs ts js limit) (here ∙ ap (cut limit) (sym there))
    ∙ ap (λ (cs : Chunk). cut limit (column_at (chunk_of s fs ts (range_with_len 0 n) None) j) ∷ cs) rest

-- ---- the theorem

some_is : {X : Type 0} (x y : X) → Some x ≡ Some y → x ≡ y
some_is x y e = cc

chosen_some : {X : Type 0} (b : Bool) (x y : X) → cond b (Some x) None ≡ Some y → (b ≡ true) × (x ≡ y)
chosen_some true x y e = (refl, some_is x y e)
chosen_some false x y e = absurd cc

passed : {X : Type 0} (b : Bool) (o : Option X) (y : X) → cond b o None ≡ Some y → (b ≡ true) × (o ≡ Some y)
passed true o y e = (refl, e)
passed false o y e = absurd cc

-- A batch that has a meaning has one by a projection.
pub batch_projection : (s : Entries) (most : ℕ) (schema : Schema) (projection : Option (List ℕ)) (limit : Limit) (c : Chunk) → batch s most schema projection limit ≡ Some c
    → is_projection projection (count (kinds schema)) ≡ true
unfolding batch
batch_projection s most schema projection limit c e = (passed (is_projection projection (count (kinds schema))) _ c e).0

pub batch_some : (s : Entries) (most : ℕ) (schema : Schema) (projection : Option (List ℕ)) (limit : Limit) (c : Chunk) → batch s most schema projection limit ≡ Some c
    → IsBatch s most (kinds schema) (chosen projection (count (kinds schema))) limit
    × (chunk_of s schema.fields (kinds schema) (chosen projection (count (kinds schema))) limit ≡ c)
unfolding batch
batch_some s most schema projection limit c e =
    let js = chosen projection (count (kinds schema)) in
    let f = chosen_some (is_batch s most (kinds schema) js limit) _ c (passed (is_projection projection (count (kinds schema))) _ c e).1 in
    ((batch_decides s most (kinds schema) js limit).0 f.0, f.1)

pub batch_is : (s : Entries) (most : ℕ) (schema : Schema) (projection : Option (List ℕ)) (limit : Limit)
    → IsBatch s most (kinds schema) (chosen projection (count (kinds schema))) limit
    → batch s most schema projection limit
    ≡ cond (is_projection projection (count (kinds schema))) (Some (chunk_of s schema.fields (kinds schema) (chosen projection (count (kinds schema))) limit)) None
unfolding batch
batch_is s most schema projection limit v =
    let js = chosen projection (count (kinds schema)) in
    rw ((batch_decides s most (kinds schema) js limit).1 v) refl

-- The same if the projection is valid.
pub projected_is : (s : Entries) (most : ℕ) (schema : Schema) (projection : Option (List ℕ)) (limit : Limit)
    → IsBatch s most (kinds schema) (chosen projection (count (kinds schema))) limit → is_projection projection (count (kinds schema)) ≡ true
    → batch s most schema projection limit ≡ Some (chunk_of s schema.fields (kinds schema) (chosen projection (count (kinds schema))) limit)
projected_is s most schema projection limit v e =
    batch_is s most schema projection limit v
    ∙ ap (λ b. cond b (Some (chunk_of s schema.fields (kinds schema) (chosen projection (count (kinds schema))) limit)) None) e

not_passed : (b : Bool) (P : Type 0) → Decides b P → ¬ P → b ≡ false
not_passed true P d never = absurd (never (d.0 refl))
not_passed false P d never = refl

pub no_projection_law : NoProjectionLaw
unfolding batch
no_projection_law s most schema projection limit never =
    let n = count (kinds schema) in
    ap (λ b. cond b (chunk_in s most schema (chosen projection n) limit) None)
    (not_passed (is_projection projection n) (IsProjection projection n) (projection_decides projection n) never)

pub prune_law : PruneLaw
prune_law s most schema projection limit c h e =
    let ts = kinds schema in
    let n = count ts in
    let js = chosen projection n in
    let found = batch_some s most schema None None c e in
    let k = first_rows s ts None (range_with_len 0 n) in
    let each : (j : ℕ) → j < n → WithRows (IsWellAt s ts None j) (rows_at s ts None j) k = λ j l. read_each s ts None k 0 n found.0.columns j (omega arith) (omega arith) in
    let below = chosen_below projection n h in
    let is : IsBatch s most ts js limit = record {
      bounded = found.0.bounded;
      nodes_listed = found.0.nodes_listed;
      buffers_listed = found.0.buffers_listed;
      columns = read_first s ts limit (limited limit k) js (read_all s ts limit k n each js below);
    } in
    let long : length (chunk_of s schema.fields ts (range_with_len 0 n) None) ≡ n = length-map-range_with_len _ 0 n in
    let long' : n ≡ length c = sym long ∙ ap length found.1 in
    projected_is s most schema projection limit is ((projection_decides projection n).1 h)
    ∙ ap Some (cut_columns s schema.fields ts limit n (λ j l. (each j l).0) js below
    ∙ ap (λ (d : Chunk). map (λ j. cut limit (column_at d j)) js) found.1
    ∙ ap (λ m. map (λ j. cut limit (column_at c j)) (chosen projection m)) long')
