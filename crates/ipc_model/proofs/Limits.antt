-- A smaller limit gives the first slots.
use Rattle.std.proofs.Common.{◌≡◌, ℕ, zero, suc, ◌+◌, ◌-◌, ◌*◌, ◌<◌, ◌≤◌, ◌==◌, false, min, Some, None, refl, sym, subst, arith, inl, inr}
use Rattle.std.proofs.lemmas.Bool.{cases_lt}
use Rattle.std.proofs.lemmas.Bool.Decides.{nat_tests}
use Rattle.std.proofs.lemmas.List.FromFn.{take-map-range_with_len}
use Rattle.std.proofs.Math.Nat.{mul-le-mul_left, mul-le-mul_right}
use Rattle.lower.specs.declared.datatypes.UnionMode.TheVariants.{Sparse, Dense}
use Rattle.lower_types.specs.NumberTypes.{width_of}
use Rattle.ipc_model.specs.Kinds.{OffsetWidth, offsets_32, offsets_64, offset_width, Kind, null_kind, boolean_kind, number_kind, float_kind, fixed_binary_kind, binary_kind, utf8_kind, list_kind, map_kind, fixed_list_kind, struct_kind, union_kind, dictionary_kind, extension_kind, Kinds, no_kinds, more_kinds, count, nodes, buffers}
use Rattle.ipc_model.specs.Entries.{Entries, size, node, listed, Need, Limit, limited, rows, times, bytes_for, offset}
use Rattle.ipc_model.specs.Columns.{Begins, is_omitted, last_offset, Offsets, HasBytes, AreTexts, HasTypes, Reaches, HasValues, IsList, IsWell, AllHaveRows, slot_at}
use Rattle.ipc_model.specs.Laws.{IsLower, LimitLaw}

rows_lower : (s : Entries) (a : ℕ) (low high : Limit) → IsLower low high → rows s a low ≤ rows s a high
rows_lower s a None None h = omega arith
rows_lower s a None (Some n) h = absurd h
rows_lower s a (Some m) None h = omega arith
rows_lower s a (Some m) (Some n) h = omega arith

rows_same : (s : Entries) (a c : ℕ) (low high : Limit) → IsLower low high → rows s c high ≡ rows s a high → rows s c low ≡ rows s a low
rows_same s a c None None h e = e
rows_same s a c None (Some n) h e = absurd h
rows_same s a c (Some m) None h e = omega arith
rows_same s a c (Some m) (Some n) h e = omega arith

-- A child that has as many slots as its limit has as many as a smaller one.
limit_full : (s : Entries) (a low high : ℕ) → low ≤ high → rows s a (Some high) ≡ high → rows s a (Some low) ≡ low
limit_full s a low high h e = omega arith

need_lower : (s : Entries) (b low high : ℕ) → low ≤ high → Need s b high → Need s b low
need_lower s b low high h n = (n.0, omega arith, omega arith)

need_times : (s : Entries) (b w low high : ℕ) → low ≤ high → Need s b (w * high) → Need s b (w * low)
need_times s b w low high h n = need_lower s b (w * low) (w * high) (mul-le-mul_left w h) n

bytes_lower : (low high : ℕ) → low ≤ high → bytes_for low ≤ bytes_for high
bytes_lower low high h = omega arith

begins_lower : (s : Entries) (a b low high : ℕ) → low ≤ high → Begins s a b high → Begins s a b low
begins_lower s a b low high h w = record {
  length_is = w.length_is;
  validity = λ some. need_lower s b (bytes_for low) (bytes_for high) (bytes_lower low high h) (w.validity some);
}

-- ---- offsets

pub offset_up : (s : Entries) (b w high n i : ℕ) → Offsets s b w high → i + n ≤ high → offset s b w i ≤ offset s b w (i + n)
offset_up s b w high zero i o h = let e : i + 0 ≡ i = omega arith in rw e (omega arith)
offset_up s b w high (suc n) i o h =
    let e : i + suc n ≡ (i + n) + 1 = omega arith in
    rw e (omega (arith, offset_up s b w high n i o (omega arith), o.rising (i + n) (omega arith)))

pub kept_high : (s : Entries) (b high : ℕ) → 0 < high → is_omitted s b high ≡ false
kept_high s b high h = grind (arith, nat_tests)

-- offsets of any bytes are not omitted
kept_low : (s : Entries) (b w low high : ℕ) → 0 < w → Need s b (w * (high + 1)) → is_omitted s b low ≡ false
kept_low s b w low high some n =
    let one : 1 ≤ high + 1 = omega arith in
    let up : w * 1 ≤ w * (high + 1) = mul-le-mul_left w one in
    let long : w * (high + 1) ≤ listed s b = n.1 in
    let kept : (listed s b == 0) ≡ false = let far : 0 < listed s b = omega (arith, up, long) in grind (arith, nat_tests) in
    grind (arith, nat_tests)

pub last_kept : (s : Entries) (b w k : ℕ) → is_omitted s b k ≡ false → last_offset s b w k ≡ offset s b w k
last_kept s b w k e = rw e refl

pub stored_kept : (s : Entries) (b w k : ℕ) → is_omitted s b k ≡ false → Offsets s b w k → Need s b (w * (k + 1))
stored_kept s b w k e o = rw e at o.stored

last_lower : (s : Entries) (b w low high : ℕ) → 0 < w → low ≤ high → 0 < high → Offsets s b w high → last_offset s b w low ≤ last_offset s b w high
last_lower s b w low high wide h some o =
    let kept = kept_high s b high some in
    let need = stored_kept s b w high kept o in
    let e : low + (high - low) ≡ high = omega arith in
    let up : offset s b w low ≤ offset s b w high = subst (λ (j : ℕ). offset s b w low ≤ offset s b w j) e (offset_up s b w high (high - low) low o (omega arith)) in
    omega (arith, up, last_kept s b w low (kept_low s b w low high wide need), last_kept s b w high kept)

offsets_some : (s : Entries) (b w low high : ℕ) → 0 < w → low ≤ high → 0 < high → Offsets s b w high → Offsets s b w low
offsets_some s b w low high wide h some o =
    let need = stored_kept s b w high (kept_high s b high some) o in
    let e : is_omitted s b low ≡ false = kept_low s b w low high wide need in
    let less : low + 1 ≤ high + 1 = omega arith in
    record {
      stored = rw e (need_times s b w (low + 1) (high + 1) less need);
      rising = λ i l. o.rising i (omega arith);
      small = omega (arith, last_lower s b w low high wide h some o, o.small);
    }

offsets_lower : (s : Entries) (b w low high : ℕ) → 0 < w → low ≤ high → Offsets s b w high → Offsets s b w low × (last_offset s b w low ≤ last_offset s b w high)
offsets_lower s b w low high wide h o =
    elim (cases_lt 0 high) [
      | inl some ↦ (offsets_some s b w low high wide h some o, last_lower s b w low high wide h some o)
      | inr none ↦ let e : high ≡ low = omega arith in
          (subst (Offsets s b w) e o, subst (λ (j : ℕ). last_offset s b w j ≤ last_offset s b w high) e (omega arith))
    ]

wide : (w : OffsetWidth) → 0 < offset_width w
wide offsets_32 = omega arith
wide offsets_64 = omega arith

bytes_kept : (s : Entries) (b w low high : ℕ) → 0 < w → low ≤ high → HasBytes s b w high → HasBytes s b w low
bytes_kept s b w low high wide h v =
    let os = offsets_lower s b w low high wide h v.offsets in
    record { offsets = os.0; values = need_lower s (b + 1) (last_offset s b w low) (last_offset s b w high) os.1 v.values }

texts_lower : (s : Entries) (b w low high : ℕ) → low ≤ high → AreTexts s b w high → AreTexts s b w low
texts_lower s b w low high h v = record { each = λ i l. v.each i (omega arith) }

list_lower : (s : Entries) (w a b low high : ℕ) → 0 < w → low ≤ high → (Child : Limit → Type 0)
    → ((m n : ℕ) → m ≤ n → Child (Some n) → Child (Some m)) → IsList s w a b high Child → IsList s w a b low Child
list_lower s w a b low high wide less Child down v =
    let os = offsets_lower s (b + 1) w low high wide less v.1 in (
      begins_lower s a b low high less v.0,
      os.0,
      (
        down (last_offset s (b + 1) w low) (last_offset s (b + 1) w high) os.1 v.2.0,
        limit_full s (a + 1) (last_offset s (b + 1) w low) (last_offset s (b + 1) w high) os.1 v.2.1,
      ),
    )

-- ---- children of a fixed number

times_lower : (low high : Limit) (n : ℕ) → IsLower low high → IsLower (times low n) (times high n)
times_lower None None n h = tt
times_lower None (Some l) n h = absurd h
times_lower (Some m) None n h = tt
times_lower (Some m) (Some l) n h = mul-le-mul_right n h

times_all : (c r m n : ℕ) → c ≡ r * n → min (m * n) c ≡ min m r * n
times_all c r m n e = elim (cases_lt m r) [
  | inl p ↦ (let less : m ≤ r = omega arith in let f : min m r ≡ m = omega arith in rw f (omega (arith, mul-le-mul_right n less, e)))
  | inr p ↦ (let f : min m r ≡ r = omega arith in rw f (omega (arith, mul-le-mul_right n p, e)))
]

times_some : (c r m l n : ℕ) → 0 < n → m ≤ l → min (l * n) c ≡ min l r * n → min (m * n) c ≡ min m r * n
times_some c r m l n some h e = elim (cases_lt r m) [
  | inl p ↦
      let f : min m r ≡ r = omega arith in
      let g : min l r ≡ r = omega arith in
      let next : r + 1 ≤ l = omega arith in
      let less : r ≤ m = omega arith in
      let e' : min (l * n) c ≡ r * n = rw g at e in
      rw f (omega (arith, e', mul-le-mul_right n next, mul-le-mul_right n less, some))
  | inr p ↦
      let f : min m r ≡ m = omega arith in
      let less : m ≤ min l r = omega arith in
      rw f (omega (arith, e, mul-le-mul_right n less))
]

times_rows : (c r : ℕ) (low high : Limit) (n : ℕ) → 0 < n → IsLower low high
    → limited (times high n) c ≡ limited high r * n → limited (times low n) c ≡ limited low r * n
times_rows c r None None n some h e = e
times_rows c r None (Some l) n some h e = absurd h
times_rows c r (Some m) None n some h e = times_all c r m n e
times_rows c r (Some m) (Some l) n some h e = times_some c r m l n some h e

-- ---- unions and dictionaries

types_lower : (s : Entries) (ids : _) (n u low high : ℕ) → low ≤ high → HasTypes s ids n u high → HasTypes s ids n u low
types_lower s ids n u low high h v = record { types = need_lower s u low high h v.types; named = λ i l. v.named i (omega arith) }

reaches_lower : (s : Entries) (ids : _) (ts : Kinds) (a u low high : ℕ) → low ≤ high → Reaches s ids ts a u high → Reaches s ids ts a u low
reaches_lower s ids ts a u low high h v = record { offsets = need_times s (u + 1) 4 low high h v.offsets; inside = λ i l. v.inside i (omega arith) }

values_lower : (s : Entries) (f : _) (id : _) (t : _) (a b low high : ℕ) → low ≤ high → HasValues s f id t a b high → HasValues s f id t a b low
values_lower s f id t a b low high h v = record { known = v.known; inside = λ i l. v.inside i (omega arith) }

-- ---- columns

mutual
  pub well_lower : (s : Entries) (t : Kind) (a b : ℕ) (low high : Limit) → IsLower low high → IsWell s t a b high → IsWell s t a b low
  well_lower s null_kind a b low high h v = v
  well_lower s boolean_kind a b low high h v =
      let less = rows_lower s a low high h in (
        begins_lower s a b (rows s a low) (rows s a high) less v.0,
        need_lower s (b + 1) (bytes_for (rows s a low)) (bytes_for (rows s a high)) (bytes_lower (rows s a low) (rows s a high) less) v.1,
      )
  well_lower s (number_kind f) a b low high h v =
      let less = rows_lower s a low high h in (
        begins_lower s a b (rows s a low) (rows s a high) less v.0,
        need_times s (b + 1) (width_of f) (rows s a low) (rows s a high) less v.1,
      )
  well_lower s float_kind a b low high h v = v
  well_lower s (fixed_binary_kind n) a b low high h v =
      let less = rows_lower s a low high h in (
        v.0,
        begins_lower s a b (rows s a low) (rows s a high) less v.1,
        need_times s (b + 1) n (rows s a low) (rows s a high) less v.2,
      )
  well_lower s (binary_kind w) a b low high h v =
      let less = rows_lower s a low high h in (
        begins_lower s a b (rows s a low) (rows s a high) less v.0,
        bytes_kept s (b + 1) (offset_width w) (rows s a low) (rows s a high) (wide w) less v.1,
      )
  well_lower s (utf8_kind w) a b low high h v =
      let less = rows_lower s a low high h in (
        begins_lower s a b (rows s a low) (rows s a high) less v.0,
        bytes_kept s (b + 1) (offset_width w) (rows s a low) (rows s a high) (wide w) less v.1,
        texts_lower s (b + 1) (offset_width w) (rows s a low) (rows s a high) less v.2,
      )
  well_lower s (list_kind w t) a b low high h v =
      list_lower s (offset_width w) a b (rows s a low) (rows s a high) (wide w) (rows_lower s a low high h) (λ l. IsWell s t (a + 1) (b + 2) l)
      (λ m n le c. well_lower s t (a + 1) (b + 2) (Some m) (Some n) le c) v
  well_lower s (map_kind t) a b low high h v = (
    v.0,
    list_lower s (offset_width offsets_32) a b (rows s a low) (rows s a high) (wide offsets_32) (rows_lower s a low high h) (λ l. IsWell s t (a + 1) (b + 2) l)
        (λ m n le c. well_lower s t (a + 1) (b + 2) (Some m) (Some n) le c) v.1,
  )
  well_lower s (fixed_list_kind n t) a b low high h v = (
    v.0,
    begins_lower s a b (rows s a low) (rows s a high) (rows_lower s a low high h) v.1,
    (
      well_lower s t (a + 1) (b + 1) (times low n) (times high n) (times_lower low high n h) v.2.0,
      times_rows (size (node s (a + 1)).length) (size (node s a).length) low high n v.0 h v.2.1,
    ),
  )
  well_lower s (struct_kind ts) a b low high h v = (
    v.0,
    begins_lower s a b (rows s a low) (rows s a high) (rows_lower s a low high h) v.1,
    all_lower s ts (a + 1) (b + 1) a low high h v.2,
  )
  well_lower s (union_kind Sparse ids ts) a b low high h v = (
    v.0,
    v.1,
    types_lower s ids (count ts) (b + s.extra) (rows s a low) (rows s a high) (rows_lower s a low high h) v.2,
    all_lower s ts (a + 1) (b + s.extra + 1) a low high h v.3,
  )
  well_lower s (union_kind Dense ids ts) a b low high h v =
      let less = rows_lower s a low high h in (
        v.0,
        v.1,
        types_lower s ids (count ts) (b + s.extra) (rows s a low) (rows s a high) less v.2,
        reaches_lower s ids ts (a + 1) (b + s.extra) (rows s a low) (rows s a high) less v.3,
        v.4,
      )
  well_lower s (dictionary_kind f id t) a b low high h v =
      let less = rows_lower s a low high h in (
        begins_lower s a b (rows s a low) (rows s a high) less v.0,
        need_times s (b + 1) (width_of f) (rows s a low) (rows s a high) less v.1,
        values_lower s f id t a b (rows s a low) (rows s a high) less v.2,
      )
  well_lower s (extension_kind t) a b low high h v = well_lower s t a b low high h v

  all_lower : (s : Entries) (ts : Kinds) (a b c : ℕ) (low high : Limit) → IsLower low high
      → AllHaveRows s ts a b high (rows s c high) → AllHaveRows s ts a b low (rows s c low)
  all_lower s no_kinds a b c low high h v = tt
  all_lower s (more_kinds t ts) a b c low high h v = (
    (well_lower s t a b low high h v.0.0, rows_same s c a low high h v.0.1),
    all_lower s ts (a + nodes t) (b + buffers s.extra t) c low high h v.1,
  )

pub limit_law : LimitLaw
limit_law s t a b low high h v = (
  well_lower s t a b low high h v,
  sym (take-map-range_with_len (λ i. slot_at s t a b i) 0 (rows s a high) (rows s a low) (rows_lower s a low high h)),
)
