-- Limits by which the same slots are read give the same columns.
use Rattle.ipc_devices.specs.Device.{Device}
use Rattle.std.proofs.Common.{arith, ◌≡◌, refl, ℕ, ℤ, ◌+◌, ◌*◌, ◌^◌, ◌<◌, ◌≤◌, min, Option, None, Some, SomeIff, sym, ap, subst, ◌∙◌}
use Rattle.std.proofs.Math.Nat.{mul_assoc, mul-le-mul_left, min-eq_right}
use Rattle.lower.specs.TypeTrees.{TypeTree, FieldTrees}
use Rattle.lower.specs.declared.datatypes.UnionMode.TheVariants.{Sparse, Dense}
use Rattle.lower_types.specs.NumberTypes.{width_of}
use Rattle.lower_types.specs.declared.PrimitiveType.TheVariants.{Int8, Int32}
use Rattle.lower_validation.specs.Fields.{child_fields}
use Rattle.lower_arrays.specs.Layouts.{nothing, truths, numbers, fixed_bytes, bytes, texts, lists, fixed_lists, maps, records, choices, keys, Layout, layout, no_layouts, more_layouts}
use Rattle.ipc_model.specs.Kinds.{offsets_32, offset_width, Kind, null_kind, boolean_kind, number_kind, float_kind, fixed_binary_kind, binary_kind, utf8_kind, list_kind, map_kind, fixed_list_kind, struct_kind, union_kind, dictionary_kind, extension_kind, Kinds, no_kinds, more_kinds, count, nodes, buffers}
use Rattle.ipc_model.specs.Entries.{Entries, Limit, rows, times, bytes_for, Need}
use Rattle.ipc_model.specs.Columns.{Begins, last_offset, HasBytes, AreTexts, HasTypes, Reaches, HasValues, IsPairKind, IsList, IsWell, AllHaveRows}
use Rattle.ipc_model.specs.ReadArrays.{bits_of, numbers_of, integers_of, offsets_of, bytes_of, offset_type, key_type, first_type, other_fields, only, masked_level, whole_level, cut_by, array_at, arrays_at}
use Rattle.ipc_read_flat.specs.Bodies.{entries}
use Rattle.ipc_read_flat.specs.Limits.{IsTimes, SameRows}
use Rattle.ipc_read_flat.specs.declared.read.body.Body.{Body}

-- ---- limits

times_one : (l : Limit) → times l 1 ≡ l
times_one None = refl
times_one (Some m) = ap Some (let e : m * 1 ≡ m = omega arith in e)

times_times : (l : Limit) (n k : ℕ) → times (times l n) k ≡ times l (n * k)
times_times None n k = refl
times_times (Some m) n k = ap Some (mul_assoc m n k)

some_times : (n k : ℕ) → 0 < n → 0 < k → 0 < n * k
some_times n k h j = let most : n * 1 ≤ n * k = mul-le-mul_left n j in omega (arith, most, h)

pub row_same : (s : Entries) (l m : Limit) → SameRows s l m → (a : ℕ) → rows s a l ≡ rows s a m
row_same s l m h a = ap (rows s a) (sym (times_one l)) ∙ h.each 1 a (omega arith) ∙ ap (rows s a) (times_one m)

same_times : (s : Entries) (l m : Limit) (n : ℕ) → 0 < n → SameRows s l m → SameRows s (times l n) (times m n)
same_times s l m n some h = record {
  each = λ k a j. ap (rows s a) (times_times l n k) ∙ h.each (n * k) a (some_times n k some j) ∙ ap (rows s a) (sym (times_times m n k));
}

same_limit : (s : Entries) (l : Limit) → SameRows s l l
same_limit s l = record { each = λ n a h. refl }

pub same_back : (s : Entries) (l m : Limit) → SameRows s l m → SameRows s m l
same_back s l m h = record { each = λ n a some. sym (h.each n a some) }

-- a limit past all lengths counts as none
far_limit : {R : Type 0} (d : Device R) (b : Body R) (m : ℕ) → 2 ^ 64 ≤ m → SameRows (entries d b) None (Some m)
unfolding entries
far_limit d b m far = record {
  each = λ n a some.
      let small = b.lengths_fit.each a in
      let most : m * 1 ≤ m * n = mul-le-mul_left m some in
      sym (min-eq_right (omega (arith, far, small, most)));
}

limit_times : {R : Type 0} (d : Device R) (b : Body R) (m n : ℕ) (r : Option ℕ) → SomeIff r (m * n < 2 ^ 64) (m * n) → SameRows (entries d b) r (Some (m * n))
limit_times d b m n None h = far_limit d b (m * n) (omega (arith, h))
limit_times d b m n (Some k) h = subst (λ (j : ℕ). SameRows (entries d b) (Some j) (Some (m * n))) (sym h.1) (same_limit (entries d b) (Some (m * n)))

pub limit_same : {R : Type 0} (d : Device R) (b : Body R) (l : Limit) (n : ℕ) (r : Option ℕ) → IsTimes l n r → SameRows (entries d b) r (times l n)
limit_same d b None n r h = subst (λ (x : Limit). SameRows (entries d b) x None) (sym h) (same_limit (entries d b) None)
limit_same d b (Some m) n r h = limit_times d b m n r h

-- ---- columns

mutual
  pub well_same : (s : Entries) (t : Kind) (a b : ℕ) (l m : Limit) → SameRows s l m → IsWell s t a b l → IsWell s t a b m
  well_same s null_kind a b l m h w = w
  well_same s boolean_kind a b l m h w = subst (λ (k : ℕ). Begins s a b k × Need s (b + 1) (bytes_for k)) (row_same s l m h a) w
  well_same s (number_kind f) a b l m h w = subst (λ (k : ℕ). Begins s a b k × Need s (b + 1) (width_of f * k)) (row_same s l m h a) w
  well_same s float_kind a b l m h w = w
  well_same s (fixed_binary_kind n) a b l m h w = subst (λ (k : ℕ). (0 < n) × Begins s a b k × Need s (b + 1) (n * k)) (row_same s l m h a) w
  well_same s (binary_kind f) a b l m h w = subst (λ (k : ℕ). Begins s a b k × HasBytes s (b + 1) (offset_width f) k) (row_same s l m h a) w
  well_same s (utf8_kind f) a b l m h w =
      subst (λ (k : ℕ). Begins s a b k × HasBytes s (b + 1) (offset_width f) k × AreTexts s (b + 1) (offset_width f) k) (row_same s l m h a) w
  well_same s (list_kind f t) a b l m h w = subst (λ (k : ℕ). IsList s (offset_width f) a b k (λ x. IsWell s t (a + 1) (b + 2) x)) (row_same s l m h a) w
  well_same s (map_kind t) a b l m h w =
      subst (λ (k : ℕ). IsPairKind t × IsList s (offset_width offsets_32) a b k (λ x. IsWell s t (a + 1) (b + 2) x)) (row_same s l m h a) w
  well_same s (fixed_list_kind n t) a b l m h w =
      let e = row_same s l m h a in
      let below = same_times s l m n w.0 h in (
        w.0,
        subst (λ (k : ℕ). Begins s a b k) e w.1,
        (well_same s t (a + 1) (b + 1) (times l n) (times m n) below w.2.0, sym (row_same s (times l n) (times m n) below (a + 1)) ∙ w.2.1 ∙ ap (λ k. k * n) e),
      )
  well_same s (struct_kind ts) a b l m h w =
      let e = row_same s l m h a in (w.0, subst (λ (k : ℕ). Begins s a b k) e w.1, all_same s ts (a + 1) (b + 1) l m (rows s a l) (rows s a m) h e w.2)
  well_same s (union_kind Sparse ids ts) a b l m h w =
      let e = row_same s l m h a in (
        w.0,
        w.1,
        subst (λ (k : ℕ). HasTypes s ids (count ts) (b + s.extra) k) e w.2,
        all_same s ts (a + 1) (b + s.extra + 1) l m (rows s a l) (rows s a m) h e w.3,
      )
  well_same s (union_kind Dense ids ts) a b l m h w =
      let e = row_same s l m h a in (
        w.0,
        w.1,
        subst (λ (k : ℕ). HasTypes s ids (count ts) (b + s.extra) k) e w.2,
        subst (λ (k : ℕ). Reaches s ids ts (a + 1) (b + s.extra) k) e w.3,
        w.4,
      )
  well_same s (dictionary_kind f id t) a b l m h w =
      subst (λ (k : ℕ). Begins s a b k × Need s (b + 1) (width_of f * k) × HasValues s f id t a b k) (row_same s l m h a) w
  well_same s (extension_kind t) a b l m h w = well_same s t a b l m h w

  all_same : (s : Entries) (ts : Kinds) (a b : ℕ) (l m : Limit) (k j : ℕ) → SameRows s l m → k ≡ j → AllHaveRows s ts a b l k → AllHaveRows s ts a b m j
  all_same s no_kinds a b l m k j h e w = tt
  all_same s (more_kinds t ts) a b l m k j h e w =
      ((well_same s t a b l m h w.0.0, sym (row_same s l m h a) ∙ w.0.1 ∙ e), all_same s ts (a + nodes t) (b + buffers s.extra t) l m k j h e w.1)

mutual
  pub array_same : (s : Entries) (vs : Option ℤ → Layout) (t : Kind) (u : TypeTree) (a b : ℕ) (l m : Limit) → SameRows s l m → IsWell s t a b l
      → array_at s vs t u a b l ≡ array_at s vs t u a b m
  array_same s vs null_kind u a b l m h w = ap (λ k. layout (whole_level u k nothing) no_layouts) (row_same s l m h a)
  array_same s vs boolean_kind u a b l m h w = ap (λ k. layout (masked_level s u a b k (truths (bits_of s (b + 1) k))) no_layouts) (row_same s l m h a)
  array_same s vs (number_kind f) u a b l m h w = ap (λ k. layout (masked_level s u a b k (numbers f (numbers_of s (b + 1) f k))) no_layouts) (row_same s l m h a)
  array_same s vs float_kind u a b l m h w = absurd w
  array_same s vs (fixed_binary_kind n) u a b l m h w =
      ap (λ k. layout (masked_level s u a b k (fixed_bytes n (bytes_of s (b + 1) (n * k)))) no_layouts) (row_same s l m h a)
  array_same s vs (binary_kind f) u a b l m h w = ap (λ k. layout (masked_level s u a b k (cut_by bytes s (b + 1) f k)) no_layouts) (row_same s l m h a)
  array_same s vs (utf8_kind f) u a b l m h w = ap (λ k. layout (masked_level s u a b k (cut_by texts s (b + 1) f k)) no_layouts) (row_same s l m h a)
  array_same s vs (list_kind f t) u a b l m h w =
      ap (λ k. layout (masked_level s u a b k (lists (offset_type f) (offset_type f) (offsets_of s (b + 1) (offset_width f) k)))
      (only (array_at s vs t (first_type (child_fields u)) (a + 1) (b + 2) (Some (last_offset s (b + 1) (offset_width f) k))))) (row_same s l m h a)
  array_same s vs (map_kind t) u a b l m h w =
      ap (λ k. layout (masked_level s u a b k (maps (offsets_of s (b + 1) (offset_width offsets_32) k)))
      (only (array_at s vs t (first_type (child_fields u)) (a + 1) (b + 2) (Some (last_offset s (b + 1) (offset_width offsets_32) k))))) (row_same s l m h a)
  array_same s vs (fixed_list_kind n t) u a b l m h w =
      let e = row_same s l m h a in
      let below = array_same s vs t (first_type (child_fields u)) (a + 1) (b + 1) (times l n) (times m n) (same_times s l m n w.0 h) w.2.0 in
      λ i. layout (masked_level s u a b (e i) (fixed_lists n)) (only (below i))
  array_same s vs (struct_kind ts) u a b l m h w =
      let e = row_same s l m h a in
      let below = arrays_same s vs ts (child_fields u) (a + 1) (b + 1) l m (rows s a l) h w.2 in
      λ i. layout (masked_level s u a b (e i) records) (below i)
  array_same s vs (union_kind Sparse ids ts) u a b l m h w =
      let e = row_same s l m h a in
      let below = arrays_same s vs ts (child_fields u) (a + 1) (b + s.extra + 1) l m (rows s a l) h w.3 in
      λ i. layout (whole_level u (e i) (choices ids (integers_of s (b + s.extra) Int8 (e i)) None)) (below i)
  array_same s vs (union_kind Dense ids ts) u a b l m h w =
      ap (λ k. layout (whole_level u k (choices ids (integers_of s (b + s.extra) Int8 k) (Some (integers_of s (b + s.extra + 1) Int32 k))))
      (arrays_at s vs ts (child_fields u) (a + 1) (b + s.extra + 2) None)) (row_same s l m h a)
  array_same s vs (dictionary_kind f id t) u a b l m h w =
      ap (λ k. layout (masked_level s u a b k (keys (key_type f) (integers_of s (b + 1) f k))) (only (vs id))) (row_same s l m h a)
  array_same s vs (extension_kind t) u a b l m h w = array_same s vs t u a b l m h w

  arrays_same : (s : Entries) (vs : Option ℤ → Layout) (ts : Kinds) (fs : FieldTrees) (a b : ℕ) (l m : Limit) (k : ℕ) → SameRows s l m → AllHaveRows s ts a b l k
      → arrays_at s vs ts fs a b l ≡ arrays_at s vs ts fs a b m
  arrays_same s vs no_kinds fs a b l m k h w = refl
  arrays_same s vs (more_kinds t ts) fs a b l m k h w =
      let first = array_same s vs t (first_type fs) a b l m h w.0.0 in
      let others = arrays_same s vs ts (other_fields fs) (a + nodes t) (b + buffers s.extra t) l m k h w.1 in
      λ i. more_layouts (first i) (others i)
