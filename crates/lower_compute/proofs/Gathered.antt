-- Slots at indices, as runs of one slot each.
use Rattle.std.proofs.Common.{arith, zero, suc, refl, ◌≡◌, ℕ, ◌+◌, ◌<◌, List, [], ◌∷◌, ◌++◌, Bool, false, length, map, take, get_or, sym, ap, ap₂, ◌∙◌}
use Rattle.std.specs.Prelude.{None, Some}
use Rattle.std.specs.List.{All}
use Rattle.std.proofs.lemmas.List.{append-nil, map_push, take_more, get_or_default}
use Rattle.std.proofs.lemmas.List.Concat.{flat_map-append}
use Rattle.std.proofs.lemmas.List.Elements.{All-nil, All-cons, All-head, All-tail, All-map, All-weaker}
use Rattle.lower_flat_arrays.specs.Validities.{Validity, part, ValidityFits, ValidityHolds}
use Rattle.lower_compute.specs.Runs.{RunFits, single, origins, items_of_run, items_of_runs, BitsFit, bits_of_runs, IsValidityOf}
use Rattle.lower_compute.proofs.RunPlaces.{bits-validity, none-validity}

pub single-origins : (is : List ℕ) → origins (map single is) ≡ map {B = ℕ × ℕ} (λ i. (0, i)) is
single-origins [] = refl
single-origins (i ∷ is) = ap (λ (l : List (ℕ × ℕ)). (0, i) ∷ l) (single-origins is)

pub single-fits : (n : ℕ) (is : List ℕ) → All (λ i. i < n) is → All (RunFits (n ∷ [])) (map single is)
single-fits n is low =
    All-map (RunFits (n ∷ [])) single is (All-weaker (λ i. i < n) (λ i. RunFits (n ∷ []) (single i)) (λ i h. (omega arith, omega (arith, h))) is low)

pub single-bits : (v : Validity) (is : List ℕ) → All (λ i. ValidityHolds v (i + 1)) is → All (BitsFit (v ∷ [])) (map single is)
single-bits v is low =
    All-map (BitsFit (v ∷ [])) single is (All-weaker (λ i. ValidityHolds v (i + 1)) (λ i. BitsFit (v ∷ []) (single i)) (λ i h. (omega arith, h)) is low)

part_one : {A : Type 0} (xs : List A) (i : ℕ) (x : A) → i < length xs → x ≡ get_or xs i x → part i 1 xs ≡ x ∷ []
part_one [] i x h at = absurd (omega (arith, h))
part_one (y ∷ ys) zero x h at = ap (λ z. z ∷ []) (sym at)
part_one (y ∷ ys) (suc i) x h at = part_one ys i x (omega (arith, h)) at

-- the items at the indices, with one more
pub items_taken : {A : Type 0} (xs : List A) (is : List ℕ) (p : ℕ) (x : A) → p < length is → get_or is p 0 < length xs → x ≡ get_or xs (get_or is p 0) x
    → items_of_runs (xs ∷ []) (map single (take (p + 1) is)) ≡ items_of_runs (xs ∷ []) (map single (take p is)) ++ x ∷ []
items_taken xs is p x h low at =
    ap (λ js. items_of_runs (xs ∷ []) (map single js)) (take_more is p 0 h)
    ∙ ap (items_of_runs (xs ∷ [])) (map_push single (take p is) (get_or is p 0))
    ∙ flat_map-append (items_of_run (xs ∷ [])) (map single (take p is)) (single (get_or is p 0) ∷ [])
    ∙ ap (λ l. items_of_runs (xs ∷ []) (map single (take p is)) ++ l) (append-nil (part (get_or is p 0) 1 xs) ∙ part_one xs (get_or is p 0) x low at)

-- ---- validities
bits_single : (bits : List Bool) (is : List ℕ) → All (λ i. i < length bits) is → map (λ i. get_or bits i false) is ≡ bits_of_runs (Some bits ∷ []) (map single is)
bits_single bits [] low = refl
bits_single bits (i ∷ is) low =
    let first : i < length bits = All-head (λ j. j < length bits) i is low in
    let x = get_or bits i false in
    ap₂ (λ us ws. us ++ ws) (sym (part_one bits i x first (get_or_default bits i false x first))) (bits_single bits is (All-tail (λ j. j < length bits) i is low))

pub low_bits : (bits : List Bool) (is : List ℕ) → All (λ i. ValidityHolds (Some bits) (i + 1)) is → All (λ i. i < length bits) is
low_bits bits is h = All-weaker (λ i. ValidityHolds (Some bits) (i + 1)) (λ i. i < length bits) (λ i le. omega (arith, le)) is h

pub some_taken : (bits out : List Bool) (is : List ℕ) → All (λ i. ValidityHolds (Some bits) (i + 1)) is → out ≡ map (λ i. get_or bits i false) is
    → IsValidityOf (Some bits ∷ []) (map single is) (Some out)
some_taken bits out is low e = bits-validity (Some bits ∷ []) (map single is) out (single-bits (Some bits) is low) (e ∙ bits_single bits is (low_bits bits is low))

pub none_taken : (is : List ℕ) → All (λ i. ValidityHolds None (i + 1)) is → IsValidityOf (None ∷ []) (map single is) None
none_taken is low = none-validity (None ∷ []) (map single is) (single-bits None is low) (All-cons (λ (v : Validity). v ≡ None) None [] refl (All-nil (λ (v : Validity). v ≡ None)))

-- a bit for each slot is one for each index
pub bits_hold : (v : Validity) (n : ℕ) (is : List ℕ) → ValidityFits v n → All (λ i. i < n) is → All (λ i. ValidityHolds v (i + 1)) is
bits_hold v n is fits low = All-weaker (λ i. i < n) (λ i. ValidityHolds v (i + 1)) (λ i h. one v i h fits) is low
  where
    one : (u : Validity) (i : ℕ) → i < n → ValidityFits u n → ValidityHolds u (i + 1)
    one None i h f = tt
    one (Some bits) i h f = omega (arith, h, f)
