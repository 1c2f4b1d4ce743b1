-- A well formed column needs at most its encoded lengths.
use Rattle.std.proofs.Common.{◌≡◌, ℕ, zero, suc, pos, List, [], ◌∷◌, length, drop, get_or, ◌+◌, ◌<◌, ◌≤◌, ◌==◌, Bool, true, false, cond, None, Some, refl, sym, ap, ◌∙◌, subst, arith, inl, inr, ◌⊎◌}
use Rattle.std.proofs.lemmas.Bool.{cases_lt, eqb-false}
use Rattle.std.proofs.lemmas.List.{drop_all, drop_more, get_or_past}
use Rattle.std.proofs.lemmas.List.FromFn.{length-range_with_len, get_or-range_with_len}
use Rattle.std.proofs.lemmas.List.Sums.{sum_by-cons}
use Rattle.std.specs.List.{range_with_len, sum_by}
use Rattle.lower.specs.declared.datatypes.UnionMode.TheVariants.{Sparse, Dense}
use Rattle.ipc_model.proofs.Addresses.{address_law}
use Rattle.ipc_model.specs.Batches.{kind_at, nodes_before, buffers_before, IsWellAt, AllRead, first_rows}
use Rattle.ipc_model.specs.Columns.{Begins, Offsets, HasBytes, last_offset, IsWell, AllHaveRows, AllWell}
use Rattle.ipc_model.specs.Entries.{Entries, Part, size, node, listed, Limit, rows, times, bytes_for}
use Rattle.ipc_model.specs.Kinds.{offsets_32, OffsetWidth, offset_width, Kind, null_kind, boolean_kind, number_kind, float_kind, fixed_binary_kind, binary_kind, utf8_kind, list_kind, map_kind, fixed_list_kind, struct_kind, union_kind, dictionary_kind, extension_kind, Kinds, no_kinds, more_kinds, count, nodes, buffers, all_buffers}
use Rattle.ipc_model.specs.Needed.{validity_bytes, offset_bytes, cut_bytes, needed, all_needed, listed_from, NeededLaw, BatchNeededLaw}

-- ---- what buffers list

pub split_listed : (s : Entries) (b n m : ℕ) → listed_from s b (n + m) ≡ listed_from s b n + listed_from s (b + n) m
split_listed s b zero m = ap (listed_from s b) (let e : zero + m ≡ m = omega arith in e) ∙ ap (λ c. listed_from s c m) (let e : b ≡ b + zero = omega arith in e)
    ∙ (let e : listed_from s (b + zero) m ≡ 0 + listed_from s (b + zero) m = omega arith in e)
split_listed s b (suc n) m =
    ap (listed_from s b) (let e : suc n + m ≡ suc (n + m) = omega arith in e)
    ∙ ap (λ k. listed s b + k) (split_listed s (b + 1) n m ∙ ap (λ c. listed_from s (b + 1) n + listed_from s c m) (let e : b + 1 + n ≡ b + suc n = omega arith in e))
    ∙ (let e : listed s b + (listed_from s (b + 1) n + listed_from s (b + suc n) m) ≡ listed s b + listed_from s (b + 1) n + listed_from s (b + suc n) m = omega arith in e)

pub one_listed : (s : Entries) (b : ℕ) → listed_from s b 1 ≡ listed s b
one_listed s b = omega arith

pub two_listed : (s : Entries) (b : ℕ) → listed_from s b 2 ≡ listed s b + listed s (b + 1)
two_listed s b = omega arith

pub three_listed : (s : Entries) (b : ℕ) → listed_from s b 3 ≡ listed s b + listed s (b + 1) + listed s (b + 1 + 1)
three_listed s b = omega arith

-- ---- one level

either : (b : Bool) → (b ≡ true) ⊎ (b ≡ false)
either true = inl refl
either false = inr refl

validity_in : (s : Entries) (a b k : ℕ) → Begins s a b k → validity_bytes s a k ≤ listed s b
validity_in s a b k begins =
    elim (either (size (node s a).null_count == 0)) [
      | inl e ↦ subst (λ (t : Bool). cond t 0 (bytes_for k) ≤ listed s b) (sym e) (omega arith)
      | inr e ↦
          let some : 0 < size (node s a).null_count = omega (arith, eqb-false (size (node s a).null_count) 0 e) in
          subst (λ (t : Bool). cond t 0 (bytes_for k) ≤ listed s b) (sym e) (begins.validity some).1
    ]

offsets_in : (s : Entries) (b w k : ℕ) → Offsets s b w k → offset_bytes s b w k ≤ listed s b
offsets_in s b w k o = o.stored.1

cut_in : (s : Entries) (b : ℕ) (w : OffsetWidth) (k : ℕ) → HasBytes s b (offset_width w) k → cut_bytes s b w k ≤ listed s b + listed s (b + 1)
cut_in s b w k h = omega (arith, offsets_in s b (offset_width w) k h.offsets, h.values.1)

-- The buffers of a union: the extra ones, the type ids, and those of the children.
sparse_split : (s : Entries) (b e m : ℕ) → listed_from s b (1 + e + m) ≡ listed_from s b e + listed s (b + e) + listed_from s (b + e + 1) m
sparse_split s b e m =
    ap (listed_from s b) (let f : 1 + e + m ≡ e + (1 + m) = omega arith in f) ∙ split_listed s b e (1 + m)
    ∙ (let f : listed_from s b e + listed_from s (b + e) (1 + m) ≡ listed_from s b e + listed s (b + e) + listed_from s (b + e + 1) m = omega (arith, split_listed s (b + e) 1 m, one_listed s (b + e)) in f)

-- The extra buffers, the type ids, the offsets, and those of the children.
dense_split : (s : Entries) (b e m : ℕ) → listed_from s b (2 + e + m) ≡ listed_from s b e + (listed s (b + e) + listed s (b + e + 1)) + listed_from s (b + e + 2) m
dense_split s b e m =
    ap (listed_from s b) (let f : 2 + e + m ≡ e + (2 + m) = omega arith in f) ∙ split_listed s b e (2 + m)
    ∙ (let f : listed_from s b e + listed_from s (b + e) (2 + m) ≡ listed_from s b e + (listed s (b + e) + listed s (b + e + 1)) + listed_from s (b + e + 2) m = omega (arith, split_listed s (b + e) 2 m, two_listed s (b + e)) in f)

-- ---- columns

mutual
  needed_in : (s : Entries) (t : Kind) (a b : ℕ) (limit : Limit) → IsWell s t a b limit → needed s t a b limit ≤ listed_from s b (buffers s.extra t)
  needed_in s null_kind a b limit v = omega arith
  needed_in s boolean_kind a b limit v = omega (arith, two_listed s b, validity_in s a b (rows s a limit) v.0, v.1.1)
  needed_in s (number_kind f) a b limit v = omega (arith, two_listed s b, validity_in s a b (rows s a limit) v.0, v.1.1)
  needed_in s float_kind a b limit v = absurd v
  needed_in s (fixed_binary_kind n) a b limit v = omega (arith, two_listed s b, validity_in s a b (rows s a limit) v.1, v.2.1)
  needed_in s (binary_kind w) a b limit v = omega (arith, three_listed s b, validity_in s a b (rows s a limit) v.0, cut_in s (b + 1) w (rows s a limit) v.1)
  needed_in s (utf8_kind w) a b limit v = omega (arith, three_listed s b, validity_in s a b (rows s a limit) v.0, cut_in s (b + 1) w (rows s a limit) v.1)
  needed_in s (list_kind w t) a b limit v =
      omega (
        arith,
        split_listed s b 2 (buffers s.extra t),
        two_listed s b,
        validity_in s a b (rows s a limit) v.0,
        offsets_in s (b + 1) (offset_width w) (rows s a limit) v.1,
        needed_in s t (a + 1) (b + 2) (Some (last_offset s (b + 1) (offset_width w) (rows s a limit))) v.2.0,
      )
  needed_in s (map_kind t) a b limit v =
      omega (
        arith,
        split_listed s b 2 (buffers s.extra t),
        two_listed s b,
        validity_in s a b (rows s a limit) v.1.0,
        offsets_in s (b + 1) (offset_width offsets_32) (rows s a limit) v.1.1,
        needed_in s t (a + 1) (b + 2) (Some (last_offset s (b + 1) (offset_width offsets_32) (rows s a limit))) v.1.2.0,
      )
  needed_in s (fixed_list_kind n t) a b limit v =
      omega (arith, split_listed s b 1 (buffers s.extra t), one_listed s b, validity_in s a b (rows s a limit) v.1, needed_in s t (a + 1) (b + 1) (times limit n) v.2.0)
  needed_in s (struct_kind ts) a b limit v =
      omega (arith, split_listed s b 1 (all_buffers s.extra ts), one_listed s b, validity_in s a b (rows s a limit) v.1, all_in s ts (a + 1) (b + 1) limit (rows s a limit) v.2)
  needed_in s (union_kind Sparse ids ts) a b limit v =
      omega (arith, sparse_split s b s.extra (all_buffers s.extra ts), v.2.types.1, all_in s ts (a + 1) (b + s.extra + 1) limit (rows s a limit) v.3)
  needed_in s (union_kind Dense ids ts) a b limit v =
      omega (arith, dense_split s b s.extra (all_buffers s.extra ts), v.2.types.1, v.3.offsets.1, whole_in s ts (a + 1) (b + s.extra + 2) v.4)
  needed_in s (dictionary_kind f id t) a b limit v = omega (arith, two_listed s b, validity_in s a b (rows s a limit) v.0, v.1.1)
  needed_in s (extension_kind t) a b limit v = needed_in s t a b limit v

  all_in : (s : Entries) (ts : Kinds) (a b : ℕ) (limit : Limit) (k : ℕ) → AllHaveRows s ts a b limit k → all_needed s ts a b limit ≤ listed_from s b (all_buffers s.extra ts)
  all_in s no_kinds a b limit k v = omega arith
  all_in s (more_kinds t ts) a b limit k v =
      omega (
        arith,
        split_listed s b (buffers s.extra t) (all_buffers s.extra ts),
        needed_in s t a b limit v.0.0,
        all_in s ts (a + nodes t) (b + buffers s.extra t) limit k v.1,
      )

  whole_in : (s : Entries) (ts : Kinds) (a b : ℕ) → AllWell s ts a b → all_needed s ts a b None ≤ listed_from s b (all_buffers s.extra ts)
  whole_in s no_kinds a b v = omega arith
  whole_in s (more_kinds t ts) a b v =
      omega (arith, split_listed s b (buffers s.extra t) (all_buffers s.extra ts), needed_in s t a b None v.0, whole_in s ts (a + nodes t) (b + buffers s.extra t) v.1)

pub needed_law : NeededLaw
needed_law s t a b limit v = needed_in s t a b limit v

-- ---- batches

-- Each of some columns is well formed at its position.
sum_in : (s : Entries) (ts : Kinds) (a b : ℕ) (limit : Limit)
    → ((j : ℕ) → j < count ts → IsWell s (kind_at ts j) (a + nodes_before ts j) (b + buffers_before s.extra ts j) limit)
    → all_needed s ts a b limit ≤ listed_from s b (all_buffers s.extra ts)
sum_in s no_kinds a b limit v = omega arith
sum_in s (more_kinds t ts) a b limit v =
    let here : IsWell s t a b limit = subst (λ (c : ℕ). IsWell s t c b limit) (let e : a + 0 ≡ a = omega arith in e)
    (subst (λ (d : ℕ). IsWell s t (a + 0) d limit) (let e : b + 0 ≡ b = omega arith in e) (v 0 (omega arith))) in
    let others : (j : ℕ) → j < count ts → IsWell s (kind_at ts j) (a + nodes t + nodes_before ts j) (b + buffers s.extra t + buffers_before s.extra ts j) limit = λ j h.
    subst (λ (c : ℕ). IsWell s (kind_at ts j) c (b + buffers s.extra t + buffers_before s.extra ts j) limit) (let e : a + (nodes t + nodes_before ts j) ≡ a + nodes t + nodes_before ts j = omega arith in e)
    (subst (λ (d : ℕ). IsWell s (kind_at ts j) (a + (nodes t + nodes_before ts j)) d limit) (let e : b + (buffers s.extra t + buffers_before s.extra ts j) ≡ b + buffers s.extra t + buffers_before s.extra ts j = omega arith in e)
    (v (suc j) (omega arith))) in
    omega (arith, split_listed s b (buffers s.extra t) (all_buffers s.extra ts), needed_in s t a b limit here, sum_in s ts (a + nodes t) (b + buffers s.extra t) limit others)

read_at : (s : Entries) (ts : Kinds) (limit : Limit) (k : ℕ) (js : List ℕ) (i : ℕ) → AllRead s ts limit k js → i < length js → IsWellAt s ts limit (get_or js i 0)
read_at s ts limit k [] i v h = absurd (omega arith)
read_at s ts limit k (j ∷ js) zero v h = v.0.0
read_at s ts limit k (j ∷ js) (suc i) v h = read_at s ts limit k js i v.1 (omega arith)

-- The encoded lengths from a buffer on are among all encoded lengths.
pub listed_in : (s : Entries) (b n : ℕ) → listed_from s b n ≤ sum_by (λ (p : Part). size p.length) (drop b s.parts)
listed_in s b zero = omega arith
listed_in s b (suc n) =
    let d : Part = record { offset = pos 0; length = pos 0; bytes = [] } in
    elim (cases_lt b (length s.parts)) [
      | inl h ↦
          let all : sum_by (λ (p : Part). size p.length) (drop b s.parts) ≡ listed s b + sum_by (λ (p : Part). size p.length) (drop (b + 1) s.parts) =
          ap (sum_by (λ (p : Part). size p.length)) (drop_more s.parts b d h)
          ∙ sum_by-cons (λ (p : Part). size p.length) (get_or s.parts b d) (drop (b + 1) s.parts) in
          omega (arith, all, listed_in s (b + 1) n)
      | inr h ↦
          let none : listed s b ≡ 0 = ap (λ (p : Part). size p.length) (get_or_past s.parts b d h) in
          let rest : sum_by (λ (p : Part). size p.length) (drop (b + 1) s.parts) ≡ 0 = ap (sum_by (λ (p : Part). size p.length)) (drop_all (b + 1) s.parts (omega arith)) in
          omega (arith, none, rest, listed_in s (b + 1) n)
    ]

pub batch_needed_law : BatchNeededLaw
batch_needed_law s most ts limit v =
    let js : List ℕ = range_with_len 0 (count ts) in
    let at : (j : ℕ) → j < count ts → IsWell s (kind_at ts j) (0 + nodes_before ts j) (0 + buffers_before s.extra ts j) limit = λ j h.
    let is : get_or js j 0 ≡ j = get_or-range_with_len 0 (count ts) j 0 h ∙ (let e : 0 + j ≡ j = omega arith in e) in
    let long : j < length js = omega (arith, length-range_with_len 0 (count ts)) in
    let well : IsWellAt s ts limit j = subst (λ (i : ℕ). IsWellAt s ts limit i) is (read_at s ts limit (first_rows s ts limit js) js j v.columns long) in
    subst (λ (c : ℕ). IsWell s (kind_at ts j) c (0 + buffers_before s.extra ts j) limit) (let e : nodes_before ts j ≡ 0 + nodes_before ts j = omega arith in e)
    (subst (λ (d : ℕ). IsWell s (kind_at ts j) (nodes_before ts j) d limit) (let e : buffers_before s.extra ts j ≡ 0 + buffers_before s.extra ts j = omega arith in e)
    ((address_law s ts limit j).to_whole well)) in
    omega (arith, sum_in s ts 0 0 limit at, listed_in s 0 (all_buffers s.extra ts), v.bounded.total)
