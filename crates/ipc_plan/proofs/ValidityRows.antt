-- The validity of a level in a batch.
use Rattle.std.proofs.Common.{arith, ◌≡◌, ℕ, zero, suc, pos, ◌+◌, ◌<◌, ◌≤◌, ◌==◌, cond, Bool, true, false, List, [], ◌∷◌, length, get_or, Some, None, refl, sym, ap, ◌∙◌, subst, inl, inr, rules}
use Rattle.std.specs.Prelude.{not}
use Rattle.std.specs.List.{count_by}
use Rattle.std.proofs.lemmas.Bool.{cases_Bool}
use Rattle.std.proofs.lemmas.Bool.Decides.{nat_tests}
use Rattle.std.proofs.lemmas.List.Sums.{sum_by-cons}
use Rattle.lower_flat_arrays.specs.Validities.{Validity, ValidityFits, null_count_of, is_valid as array_valid, cut_validity}
use Rattle.lower_flat_arrays.proofs.Cuts.{get_or-part}
use Rattle.lower_arrays.specs.Slots.{Slot, null_slot, slot_where}
use Rattle.ipc_table_views.specs.declared.message.FieldNode.{FieldNode}
use Rattle.ipc_model.specs.Columns.{Begins, is_valid, masked}
use Rattle.ipc_model.specs.Entries.{Entries, IsSize, size, node, buffer, bytes, Limit, limited, rows, bytes_for, bit}
use Rattle.ipc_plan.specs.Levels.{IsValidity}
use Rattle.ipc_plan.specs.Meaning.{IsBufferOf}
use Rattle.ipc_plan.proofs.Standing.{need_part}

-- no bit is unset
none_unset : (bits : List Bool) (i : ℕ) → count_by (λ b. not b) bits ≡ 0 → i < length bits → get_or bits i false ≡ true
none_unset [] i e h = absurd (omega (arith, h))
none_unset (true ∷ bits) zero e h = refl
none_unset (true ∷ bits) (suc i) e h =
    let first = sum_by-cons (λ b. cond (not b) 1 0) true bits in none_unset bits i (omega (arith, first, e)) (omega (arith, h))
none_unset (false ∷ bits) i e h =
    let first = sum_by-cons (λ b. cond (not b) 1 0) false bits in absurd (omega (arith, first, e))

-- n slots whose validity, if any, is at node a and buffer b.
pub record Masked (s : Entries) (a b n : ℕ) (v : Validity) : Type 0 where
  pub node_is : node s a ≡ record { length = pos n; null_count = pos (null_count_of v) }
  pub validity_bytes : List ℕ
  pub part_is : IsBufferOf (buffer s b) validity_bytes
  pub validity : IsValidity v validity_bytes
  pub fits : ValidityFits v n

pub length_pos : (s : Entries) (a n : ℕ) → (node s a).length ≡ pos n → IsSize (node s a).length
length_pos s a n e = subst IsSize (sym e) (search rules)

pub rows_of : (s : Entries) (a n : ℕ) (limit : Limit) → (node s a).length ≡ pos n → limited limit n ≡ n → rows s a limit ≡ n
rows_of s a n limit e full = ap (λ z. limited limit (size z)) e ∙ full

validity_room : (s : Entries) (b n : ℕ) (v : Validity) (m : List ℕ) → IsValidity v m → ValidityFits v n → 0 < null_count_of v → bytes_for n ≤ length m
validity_room s b n None m k f some = absurd (omega (arith, some))
validity_room s b n (Some bits) m k f some = let e = ap bytes_for f in omega (arith, e, k.count)

pub begins : (s : Entries) (a b n : ℕ) (v : Validity) → Masked s a b n v → Begins s a b n
begins s a b n v m = record {
  length_is = length_pos s a n (ap (λ (x : FieldNode). x.length) m.node_is);
  validity = λ some.
      let nulls : size (node s a).null_count ≡ null_count_of v = ap (λ (x : FieldNode). size x.null_count) m.node_is in
      need_part s b m.validity_bytes (bytes_for n) m.part_is (validity_room s b n v m.validity_bytes m.validity m.fits (omega (arith, some, nulls)));
}

validity_at : (s : Entries) (b n i : ℕ) (v : Validity) (m : List ℕ) → IsBufferOf (buffer s b) m → IsValidity v m → ValidityFits v n → i < n
    → cond (null_count_of v == 0) true (bit (bytes s b) i) ≡ array_valid v i
validity_at s b n i None m p k f h = refl
validity_at s b n i (Some bits) m p k f h =
    let inside : i < length bits = omega (arith, h, f) in
    let same : bit (bytes s b) i ≡ get_or bits i false = ap (λ (xs : List ℕ). bit xs i) p.bytes_are ∙ k.each i inside in
    elim (cases_Bool (null_count_of (Some bits) == 0)) [
      | inl e ↦ (let zero_nulls : count_by (λ b. not b) bits ≡ 0 = grind (arith, nat_tests) in
          ap (λ t. cond t true (bit (bytes s b) i)) e ∙ sym (none_unset bits i zero_nulls inside))
      | inr e ↦ ap (λ t. cond t true (bit (bytes s b) i)) e ∙ same
    ]

pub valid_at : (s : Entries) (a b n : ℕ) (v : Validity) (i : ℕ) → Masked s a b n v → i < n → is_valid s a b i ≡ array_valid v i
valid_at s a b n v i m h =
    ap (λ (x : FieldNode). cond (size x.null_count == 0) true (bit (bytes s b) i)) m.node_is
    ∙ validity_at s b n i v m.validity_bytes m.part_is m.validity m.fits h

-- ---- slots

pub where_cond : (t : Bool) (x y : Slot) → (t ≡ true → x ≡ y) → cond t x null_slot ≡ slot_where t y
where_cond true x y f = f refl
where_cond false x y f = refl

-- slot o + i of an array whose validity was cut
pub valid-cut : (o n : ℕ) (v : Validity) (i : ℕ) → i < n → array_valid (cut_validity o n v) i ≡ array_valid v (o + i)
valid-cut o n None i h = refl
valid-cut o n (Some bits) i h = get_or-part o n bits i false h

pub masked_is : (s : Entries) (a b o n : ℕ) (v : Validity) (i : ℕ) (x y : Slot) → Masked s a b n (cut_validity o n v) → i < n → (array_valid v (o + i) ≡ true → x ≡ y)
    → masked s a b i x ≡ slot_where (array_valid v (o + i)) y
masked_is s a b o n v i x y m h f =
    ap (λ t. cond t x null_slot) (valid_at s a b n (cut_validity o n v) i m h ∙ valid-cut o n v i h)
    ∙ where_cond (array_valid v (o + i)) x y f
