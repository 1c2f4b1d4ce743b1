-- Pieces that have zeros after their bits.
use Rattle.std.proofs.Common.{arith, ◌≡◌, ℕ, zero, suc, ◌+◌, ◌*◌, ◌-◌, ◌/◌, ◌%◌, ◌^◌, ◌<◌, ◌≤◌, min, ◌==◌, false, inl, inr, List, [], ◌∷◌, ◌++◌, get_or, refl, ap, ◌∙◌, append-nil, sym}
use Rattle.std.specs.Int.{next_multiple_of}
use Rattle.std.specs.List.{AllByRecursion}
use Rattle.std.proofs.Math.Nat.{div-eq_of_lt, mod-lt, zero-div}
use Rattle.std.proofs.Math.Pow.{pow_mono}
use Rattle.std.proofs.lemmas.Bool.{cases_lt}
use Rattle.std.proofs.lemmas.Nat.{pow_pos}
use Rattle.std.proofs.lemmas.List.{get_or_past}
use Rattle.std.proofs.lemmas.List.FromFn.{get_or-map-range_with_len, length-map-range_with_len}
use Rattle.lower_types.specs.declared.Endianness.{Endianness}
use Rattle.ipc_model.specs.Entries.{bit, bytes_for}
use Rattle.ipc_plan.specs.Pieces.{buffer_pieces, packed, packed_byte, EndsClear, IsClear}
use Rattle.ipc_plan.specs.Plans.{AddsClear, AddsPieces}
use Rattle.ipc_plan.specs.declared.pieces.Piece.{Piece}
use Rattle.ipc_plan.specs.declared.pieces.Padded.{Padded}
use Rattle.ipc_plan.specs.declared.plan.Plan.{Plan}

-- ---- bits that aren't set

-- a byte 0, or none
bit_of_zero : (xs : List ℕ) (i : ℕ) → get_or xs (i / 8) 0 ≡ 0 → bit xs i ≡ false
bit_of_zero xs i e = ap (λ n. (n / 2 ^ (i % 8)) % 2 == 1) e ∙ ap (λ n. n % 2 == 1) (zero-div (2 ^ (i % 8)))

-- The bits that a mask removed.
masked_bit : (n m j : ℕ) → m ≤ j → n % 2 ^ m / 2 ^ j ≡ 0
masked_bit n m j h = let low = mod-lt n (pow_pos m) in let wide = pow_mono h in div-eq_of_lt (omega (arith, low, wide))

pub packed_clear : (xs : List ℕ) (s n : ℕ) → IsClear n (packed xs s n)
packed_clear xs s n = record {
  each = λ i h. elim (cases_lt (i / 8) (bytes_for n)) [
    | inl inside ↦
        (let here : get_or (packed xs s n) (i / 8) 0 ≡ packed_byte xs s n (i / 8) = get_or-map-range_with_len (packed_byte xs s n) 0 (bytes_for n) (i / 8) (i / 8) 0 inside (omega arith) in
        let behind : min 8 (n - 8 * (i / 8)) ≤ i % 8 = omega (arith, h) in
        ap (λ b. (b / 2 ^ (i % 8)) % 2 == 1) here ∙ ap (λ b. b % 2 == 1) (masked_bit _ (min 8 (n - 8 * (i / 8))) (i % 8) behind))
    | inr past ↦ bit_of_zero (packed xs s n) i (get_or_past (packed xs s n) (i / 8) 0 (let long = length-map-range_with_len (packed_byte xs s n) 0 (bytes_for n) in omega (arith, long, past)))
  ];
}

-- ---- the piece of a buffer

-- No piece if there is no byte.
pub none_kept : (ps : List Padded) (x : Piece) (n : ℕ) → n ≡ 0 → ps ≡ ps ++ buffer_pieces x n
none_kept ps x n e = sym (ap (λ k. ps ++ buffer_pieces x k) e ∙ append-nil ps)

pub one_kept : (ps qs : List Padded) (x : Piece) (n k : ℕ) → (n ≡ 0 → ⊥) → k ≡ next_multiple_of n 64 - n → qs ≡ ps ++ record { piece = x; zeros = k } ∷ [] → qs ≡ ps ++ buffer_pieces x n
one_kept ps qs x zero k some count e = absurd (some refl)
one_kept ps qs x (suc n) k some count e = e ∙ ap (λ (j : ℕ). ps ++ record { piece = x; zeros = j } ∷ []) count

all_buffer : (order : Endianness) (n : ℕ) (x : Piece) (k : ℕ) → EndsClear order n x → AllByRecursion (λ y. EndsClear order n y.piece) (buffer_pieces x k)
all_buffer order n x zero h = tt
all_buffer order n x (suc k) h = (h, tt)

pub adds_clear : (p q : Plan) (x : Piece) (n k : ℕ) → AddsPieces p q x k → EndsClear p.order n x → AddsClear p q n
adds_clear p q x n k e h = record { pieces = buffer_pieces x k; more = e.pieces_are; clear = all_buffer p.order n x k h }
