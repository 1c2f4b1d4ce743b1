-- The bytes of numbers, cut into pieces of one number each.
use Rattle.std.proofs.Common.{◌≡◌, ℕ, zero, suc, ◌+◌, ◌*◌, ◌/◌, ◌<◌, ◌≤◌, List, [], ◌∷◌, ◌++◌, length, take, drop, map, slice_index, refl, ap, ap₂, ◌∙◌, arith, length-append}
use Rattle.std.specs.List.{flat_map, All}
use Rattle.std.specs.Simd.{first_chunks}
use Rattle.std.proofs.lemmas.List.{take-append-le, drop-append-le, length-drop, map-append, take_at, drop_at}
use Rattle.std.proofs.lemmas.List.Elements.{All-head, All-tail}
use Rattle.std.proofs.Math.Nat.{add-zero, add-suc, add-mul-div_right, mul-div_cancel, mul-div_cancel_left, div-one}
use Rattle.lower_types.specs.Numbers.{values_of, byte_in, byte_of}
use Rattle.lower_types.specs.declared.Endianness.{Endianness}

-- as many bytes for each number
pub length-spelt : {X : Type 0} (spelt : X → List ℕ) (width : ℕ) → ((x : X) → length (spelt x) ≡ width) → (xs : List X) → length (flat_map spelt xs) ≡ width * length xs
length-spelt spelt width each [] = omega arith
length-spelt spelt width each (x ∷ xs) =
    let rest = length-spelt spelt width each xs in
    length-append (spelt x) (flat_map spelt xs) ∙ ap₂ (λ m n. m + n) (each x) rest ∙ omega arith

chunks-spelt : {X : Type 0} (value : List ℕ → X) (spelt : X → List ℕ) (width : ℕ) → ((x : X) → length (spelt x) ≡ width)
    → (xs : List X) → All (λ x. value (spelt x) ≡ x) xs → map value (first_chunks width (length xs) (flat_map spelt xs)) ≡ xs
chunks-spelt value spelt width each [] same = refl
chunks-spelt value spelt width each (x ∷ xs) same =
    let rest = flat_map spelt xs in
    let first : value (take width (spelt x ++ rest)) ≡ x = ap value (take_at (spelt x) rest width (each x)) ∙ All-head (λ y. value (spelt y) ≡ y) x xs same in
    let later : map value (first_chunks width (length xs) (drop width (spelt x ++ rest))) ≡ xs =
    ap (λ bytes. map value (first_chunks width (length xs) bytes)) (drop_at (spelt x) rest width (each x))
    ∙ chunks-spelt value spelt width each xs (All-tail (λ y. value (spelt y) ≡ y) x xs same)
    in
    ap₂ (λ y ys. y ∷ ys) first later

-- numbers read back from their bytes
pub values_of-spelt : {X : Type 0} (value : List ℕ → X) (spelt : X → List ℕ) (width : ℕ) → 0 < width → ((x : X) → length (spelt x) ≡ width)
    → (xs : List X) → All (λ x. value (spelt x) ≡ x) xs → values_of value width (flat_map spelt xs) ≡ xs
values_of-spelt value spelt width pos each xs same =
    let count : length (flat_map spelt xs) / width ≡ length xs = ap (λ n. n / width) (length-spelt spelt width each xs) ∙ mul-div_cancel_left (length xs) pos in
    ap (λ n. map value (first_chunks width n (flat_map spelt xs))) count ∙ chunks-spelt value spelt width each xs same

-- there are k of them
pub length-first_chunks : {X : Type 0} (n k : ℕ) (xs : List X) → length (first_chunks n k xs) ≡ k
length-first_chunks n zero xs = refl
length-first_chunks n (suc k) xs = let e = length-first_chunks n k (drop n xs) in omega (arith, e)

-- the pieces of a joined list
pub first_chunks-append : {X : Type 0} (n k m : ℕ) (xs ys : List X) → length xs ≡ k * n → first_chunks n (m + k) (xs ++ ys) ≡ first_chunks n k xs ++ first_chunks n m ys
first_chunks-append n zero m [] ys h = rw (add-zero m) refl
first_chunks-append n zero m (x ∷ xs) ys h = absurd (omega arith)
first_chunks-append {X = X} n (suc k) m xs ys h =
    let enough : n ≤ length xs = omega arith in
    let left : length (drop n xs) ≡ k * n = length-drop n xs ∙ omega arith in
    let rest = first_chunks-append n k m (drop n xs) ys left in
    rw (add-suc m k, take-append-le n xs ys enough, drop-append-le n xs ys enough, rest) refl

-- the values of a joined list
pub values_of-append : {X : Type 0} (f : List ℕ → X) (w k : ℕ) (xs ys : List ℕ) → 0 < w → length xs ≡ k * w → values_of f w (xs ++ ys) ≡ values_of f w xs ++ values_of f w ys
values_of-append f w k xs ys pos h =
    let front : length xs / w ≡ k = ap (λ n. n / w) h ∙ mul-div_cancel k pos in
    let total : length (xs ++ ys) ≡ length ys + k * w = omega (arith, length-append xs ys) in
    let both : length (xs ++ ys) / w ≡ length ys / w + k = ap (λ n. n / w) total ∙ add-mul-div_right (length ys) k pos in
    rw (both, front, first_chunks-append w k (length ys / w) xs ys h) (map-append f _ _)

-- pieces of one byte
first_chunks-one : (bytes : List ℕ) → map (λ piece. slice_index piece 0) (first_chunks 1 (length bytes) bytes) ≡ bytes
first_chunks-one [] = refl
first_chunks-one (b ∷ bytes) = ap (λ rest. b ∷ rest) (first_chunks-one bytes)

-- Bytes unchanged.
pub values_of-bytes : (order : Endianness) (bytes : List ℕ) → values_of (byte_in order) 1 bytes ≡ bytes
values_of-bytes order bytes = ap (λ n. map (byte_in order) (first_chunks 1 n bytes)) (div-one (length bytes)) ∙ first_chunks-one bytes

pub spelt-bytes : (order : Endianness) (bytes : List ℕ) → flat_map (byte_of order) bytes ≡ bytes
spelt-bytes order [] = refl
spelt-bytes order (b ∷ bytes) = ap (λ rest. b ∷ rest) (spelt-bytes order bytes)
