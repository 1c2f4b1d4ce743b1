-- How many bytes the arrays retain that columns are read to.
use Rattle.std.proofs.Common.{◌≡◌, ℕ, ℤ, List, [], ◌∷◌, length, map, ◌+◌, ◌*◌, ◌≤◌, ◌==◌, Bool, cond, Option, None, Some, refl, sym, ap, subst, arith, inl, inr}
use Rattle.std.proofs.lemmas.Bool.{cases_Bool}
use Rattle.std.proofs.lemmas.List.{length-take}
use Rattle.std.proofs.lemmas.List.FromFn.{length-map-range_with_len}
use Rattle.std.proofs.lemmas.List.Sums.{sum_by-cons}
use Rattle.std.proofs.lemmas.Nat.{mul-le}
use Rattle.std.specs.List.{range_with_len, sum_by}
use Rattle.lower.specs.Physical.{physical, integer as integer_plain}
use Rattle.lower.specs.TypeTrees.{TypeTree, plain, FieldTrees}
use Rattle.lower.specs.declared.datatypes.UnionMode.TheVariants.{Sparse, Dense}
use Rattle.lower_types.specs.NumberTypes.{width_of, number_in}
use Rattle.lower_types.specs.declared.PrimitiveType.{PrimitiveType}
use Rattle.lower_types.specs.declared.PrimitiveType.TheVariants as numbers_in
use Rattle.lower_arrays.specs.Children.{child_fields}
use Rattle.lower_arrays.specs.Held.{bytes_of_bits, validity_held, width_in, held, all_held}
use Rattle.lower_arrays.specs.Layouts.{Layout}
use Rattle.ipc_model.proofs.ChosenNeeds.{chosen_needed_law}
use Rattle.ipc_model.specs.Batches.{kind_at, own, chosen}
use Rattle.ipc_model.specs.Columns.{is_omitted, last_offset}
use Rattle.ipc_model.specs.Entries.{Entries, size, node, bytes, Limit, rows, times, bytes_for, bit, value_bytes, integer, offset}
use Rattle.ipc_model.specs.HeldColumns.{omitted_offset, omitted, all_omitted, ReadHeldLaw, columns_omitted, AllHoldNeeded, ChosenHeldLaw}
use Rattle.ipc_model.specs.Kinds.{offsets_32, offsets_64, OffsetWidth, offset_width, Kind, null_kind, boolean_kind, number_kind, float_kind, fixed_binary_kind, binary_kind, utf8_kind, list_kind, map_kind, fixed_list_kind, struct_kind, union_kind, dictionary_kind, extension_kind, Kinds, no_kinds, more_kinds, count, nodes, buffers}
use Rattle.ipc_model.specs.Needed.{validity_bytes, offset_bytes, needed, all_needed, columns_needed}
use Rattle.ipc_model.specs.ReadArrays.{bits_of, validity_of, integers_of, offsets_of, bytes_of, offset_type, key_type, first_type, other_fields, array_at, arrays_at}

-- ---- one level

so_many : {A : Type 0} (f : ℕ → A) (k : ℕ) → length (map f (range_with_len 0 k)) ≡ k
so_many f k = length-map-range_with_len f 0 k

bits_held : (s : Entries) (b k : ℕ) → bytes_of_bits (length (bits_of s b k)) ≤ bytes_for k
bits_held s b k = let e = ap bytes_of_bits (so_many (λ i. bit (bytes s b) i) k) in omega (arith, e)

validity_in : (s : Entries) (a b k : ℕ) → validity_held (validity_of s a b k) ≤ validity_bytes s a k
validity_in s a b k =
    elim (cases_Bool (size (node s a).null_count == 0)) [
      | inl e ↦ subst (λ (t : Bool). validity_held (cond t None (Some (bits_of s b k))) ≤ cond t 0 (bytes_for k)) (sym e) (omega arith)
      | inr e ↦ subst (λ (t : Bool). validity_held (cond t None (Some (bits_of s b k))) ≤ cond t 0 (bytes_for k)) (sym e) (bits_held s b k)
    ]

-- numbers of w bytes
items_held : {A : Type 0} (w : ℕ) (f : ℕ → A) (k : ℕ) → w * length (map f (range_with_len 0 k)) ≤ w * k
items_held w f k = let e = ap (λ n. w * n) (so_many f k) in omega (arith, e)

width_is : (w : OffsetWidth) → width_of (offset_type w) ≡ offset_width w
width_is offsets_32 = refl
width_is offsets_64 = refl

offsets_in : (s : Entries) (b : ℕ) (w : OffsetWidth) (k : ℕ)
    → width_of (offset_type w) * length (offsets_of s b (offset_width w) k) ≤ offset_bytes s b (offset_width w) k + omitted_offset s b w k
offsets_in s b w k =
    subst (λ (n : ℕ). n * length (offsets_of s b (offset_width w) k) ≤ offset_bytes s b (offset_width w) k + omitted_offset s b w k) (sym (width_is w))
    (elim (cases_Bool (is_omitted s b k)) [
      | inl e ↦ subst (λ (t : Bool). offset_width w * length (cond t (0 ∷ []) (map (λ i. offset s b (offset_width w) i) (range_with_len 0 (k + 1))))
          ≤ cond t 0 (offset_width w * (k + 1)) + cond t (offset_width w) 0) (sym e) (omega arith)
      | inr e ↦ subst (λ (t : Bool). offset_width w * length (cond t (0 ∷ []) (map (λ i. offset s b (offset_width w) i) (range_with_len 0 (k + 1))))
          ≤ cond t 0 (offset_width w * (k + 1)) + cond t (offset_width w) 0) (sym e)
          (let le = items_held (offset_width w) (λ i. offset s b (offset_width w) i) (k + 1) in omega (arith, le))
    ])

bytes_held : (s : Entries) (b n : ℕ) → length (bytes_of s b n) ≤ n
bytes_held s b n = omega (arith, length-take n (bytes s b))

-- keys are no wider in memory
key_width : (f : PrimitiveType) → width_in (physical (plain (integer_plain (key_type f)))) ≤ width_of f
key_width numbers_in.Int8 = omega arith
key_width numbers_in.Int16 = omega arith
key_width numbers_in.Int32 = omega arith
key_width numbers_in.Int64 = omega arith
key_width numbers_in.UInt8 = omega arith
key_width numbers_in.UInt16 = omega arith
key_width numbers_in.UInt32 = omega arith
key_width numbers_in.UInt64 = omega arith
key_width numbers_in.Float16 = omega arith
key_width numbers_in.Float32 = omega arith
key_width numbers_in.Float64 = omega arith
key_width numbers_in.Int128 = omega arith
key_width numbers_in.Int256 = omega arith
key_width numbers_in.DaysMs = omega arith
key_width numbers_in.MonthDayNano = omega arith

keys_held : (s : Entries) (b : ℕ) (f : PrimitiveType) (k : ℕ)
    → width_in (physical (plain (integer_plain (key_type f)))) * length (integers_of s b f k) ≤ width_of f * k
keys_held s b f k =
    mul-le (width_in (physical (plain (integer_plain (key_type f))))) (length (integers_of s b f k)) (width_of f) k (key_width f)
    (omega (arith, so_many (λ i. integer s b f i) k))

-- ---- columns

mutual
  held_in : (s : Entries) (vs : Option ℤ → Layout) (t : Kind) (u : TypeTree) (a b : ℕ) (limit : Limit)
      → held (array_at s vs t u a b limit) ≤ needed s t a b limit + omitted s t a b limit
  held_in s vs null_kind u a b limit = omega arith
  held_in s vs boolean_kind u a b limit =
      let v = validity_in s a b (rows s a limit) in
      let p = bits_held s (b + 1) (rows s a limit) in
      omega (arith, v, p)
  held_in s vs (number_kind f) u a b limit =
      let v = validity_in s a b (rows s a limit) in
      let p = items_held (width_of f) (λ i. number_in f s.order (value_bytes s (b + 1) (width_of f) i)) (rows s a limit) in
      omega (arith, v, p)
  held_in s vs float_kind u a b limit = omega arith
  held_in s vs (fixed_binary_kind n) u a b limit =
      let v = validity_in s a b (rows s a limit) in
      let p = bytes_held s (b + 1) (n * rows s a limit) in
      omega (arith, v, p)
  held_in s vs (binary_kind w) u a b limit =
      let v = validity_in s a b (rows s a limit) in
      let o = offsets_in s (b + 1) w (rows s a limit) in
      let p = bytes_held s (b + 1 + 1) (last_offset s (b + 1) (offset_width w) (rows s a limit)) in
      omega (arith, v, o, p)
  held_in s vs (utf8_kind w) u a b limit =
      let v = validity_in s a b (rows s a limit) in
      let o = offsets_in s (b + 1) w (rows s a limit) in
      let p = bytes_held s (b + 1 + 1) (last_offset s (b + 1) (offset_width w) (rows s a limit)) in
      omega (arith, v, o, p)
  held_in s vs (list_kind w t) u a b limit =
      let v = validity_in s a b (rows s a limit) in
      let o = offsets_in s (b + 1) w (rows s a limit) in
      let c = held_in s vs t (first_type (child_fields u)) (a + 1) (b + 2) (Some (last_offset s (b + 1) (offset_width w) (rows s a limit))) in
      omega (arith, v, o, c)
  held_in s vs (map_kind t) u a b limit =
      let v = validity_in s a b (rows s a limit) in
      let o = offsets_in s (b + 1) offsets_32 (rows s a limit) in
      let c = held_in s vs t (first_type (child_fields u)) (a + 1) (b + 2) (Some (last_offset s (b + 1) (offset_width offsets_32) (rows s a limit))) in
      omega (arith, v, o, c)
  held_in s vs (fixed_list_kind n t) u a b limit =
      let v = validity_in s a b (rows s a limit) in
      let c = held_in s vs t (first_type (child_fields u)) (a + 1) (b + 1) (times limit n) in
      omega (arith, v, c)
  held_in s vs (struct_kind ts) u a b limit =
      let v = validity_in s a b (rows s a limit) in
      let c = all_held_in s vs ts (child_fields u) (a + 1) (b + 1) limit in
      omega (arith, v, c)
  held_in s vs (union_kind Sparse ids ts) u a b limit =
      let k = so_many (λ i. integer s (b + s.extra) numbers_in.Int8 i) (rows s a limit) in
      let c = all_held_in s vs ts (child_fields u) (a + 1) (b + s.extra + 1) limit in
      omega (arith, k, c)
  held_in s vs (union_kind Dense ids ts) u a b limit =
      let k = so_many (λ i. integer s (b + s.extra) numbers_in.Int8 i) (rows s a limit) in
      let o = so_many (λ i. integer s (b + s.extra + 1) numbers_in.Int32 i) (rows s a limit) in
      let c = all_held_in s vs ts (child_fields u) (a + 1) (b + s.extra + 2) None in
      omega (arith, k, o, c)
  held_in s vs (dictionary_kind f id t) u a b limit =
      let v = validity_in s a b (rows s a limit) in
      let p = keys_held s (b + 1) f (rows s a limit) in
      omega (arith, v, p)
  held_in s vs (extension_kind t) u a b limit = held_in s vs t u a b limit

  all_held_in : (s : Entries) (vs : Option ℤ → Layout) (ts : Kinds) (fs : FieldTrees) (a b : ℕ) (limit : Limit)
      → all_held (arrays_at s vs ts fs a b limit) ≤ all_needed s ts a b limit + all_omitted s ts a b limit
  all_held_in s vs no_kinds fs a b limit = omega arith
  all_held_in s vs (more_kinds t ts) fs a b limit =
      let c = held_in s vs t (first_type fs) a b limit in
      let cs = all_held_in s vs ts (other_fields fs) (a + nodes t) (b + buffers s.extra t) limit in
      omega (arith, c, cs)

pub read_held_law : ReadHeldLaw
read_held_law s vs t u a b limit = held_in s vs t u a b limit

-- ---- chosen columns

each_held : (s : Entries) (ts : Kinds) (limit : Limit) (js : List ℕ) (ls : List Layout) → AllHoldNeeded s ts limit js ls
    → sum_by held ls ≤ columns_needed s ts limit js + columns_omitted s ts limit js
each_held s ts limit [] [] h = omega arith
each_held s ts limit [] (l ∷ ls) h = absurd h
each_held s ts limit (j ∷ js) [] h = absurd h
each_held s ts limit (j ∷ js) (l ∷ ls) h =
    let here = h.0 in
    let others = each_held s ts limit js ls h.1 in
    omega (
      arith,
      here,
      others,
      sum_by-cons held l ls,
      sum_by-cons (λ i. needed (own s ts i) (kind_at ts i) 0 0 limit) j js,
      sum_by-cons (λ i. omitted (own s ts i) (kind_at ts i) 0 0 limit) j js,
    )

pub chosen_held_law : ChosenHeldLaw
chosen_held_law s most ts projection limit ls once batch held_each =
    let js : List ℕ = chosen projection (count ts) in
    let all = each_held s ts limit js ls held_each in
    let none_more = chosen_needed_law s most ts projection limit once batch in
    let own_listed = none_more.own_buffers in
    let all_listed = none_more.all_buffers in
    record {
      own_buffers = omega (arith, all, own_listed);
      all_buffers = omega (arith, all, own_listed, all_listed);
    }
