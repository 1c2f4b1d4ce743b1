-- One more slot of bytes of a fixed number.
use Rattle.std.proofs.Common.{arith, replicate, ◌≡◌, ℕ, ◌+◌, ◌-◌, ◌*◌, ◌<◌, ◌≤◌, List, [], ◌∷◌, ◌++◌, Bool, length, take, drop, sym, ap, ap₂, ◌∙◌}
use Rattle.std.proofs.Math.Nat.{mul-le-mul_right}
use Rattle.std.proofs.lemmas.List.{length-append, length_push, length-drop, drop-append-le, take-append-le, drop_at, take_all}
use Rattle.std.proofs.lemmas.List.FromFn.{length-map-range_with_len, map-range_with_len_more}
use Rattle.lower_flat_arrays.specs.Validities.{part}
use Rattle.lower_flat_arrays.specs.Options.{option_where, where_set}
use Rattle.lower_builders.specs.FixedBytes.{pieces_of}
use Rattle.lower_builders.proofs.BitPushes.{same_along}
use Rattle.lower_builders.proofs.Slots.{where_set-push, length-where_set}

pub length-pieces : (size n : ℕ) (xs : List ℕ) → length (pieces_of size n xs) ≡ n
length-pieces size n xs = length-map-range_with_len (λ i. part (i * size) size xs) 0 n

pub pieces-push : (size n : ℕ) (xs bytes : List ℕ) → length xs ≡ n * size → length bytes ≡ size → pieces_of size (n + 1) (xs ++ bytes) ≡ pieces_of size n xs ++ bytes ∷ []
pieces-push size n xs bytes whole fits =
    map-range_with_len_more (λ i. part (i * size) size (xs ++ bytes)) 0 n n (omega arith)
    ∙ ap₂ (λ ys y. ys ++ y ∷ []) (same_along (λ i. part (i * size) size (xs ++ bytes)) (λ i. part (i * size) size xs) 0 n (λ k below. old k (omega (arith, below)))) new
  where
    old : (k : ℕ) → k < n → part (k * size) size (xs ++ bytes) ≡ part (k * size) size xs
    old k h =
        let below : (k + 1) * size ≤ n * size = mul-le-mul_right size (omega (arith, h)) in
        let more : (k + 1) * size ≡ k * size + size = omega arith in
        let within : k * size ≤ length xs = omega (arith, below, more, whole) in
        let room : size ≤ length (drop (k * size) xs) = omega (arith, below, more, whole, length-drop (k * size) xs) in
        ap (take size) (drop-append-le (k * size) xs bytes within) ∙ take-append-le size (drop (k * size) xs) bytes room

    new : part (n * size) size (xs ++ bytes) ≡ bytes
    new = ap (take size) (drop_at xs bytes (n * size) whole) ∙ take_all size bytes (omega (arith, fits))

-- one slot more, as a builder stores it
pub fixed_push : (size : ℕ) (bits : List Bool) (xs bytes : List ℕ) (b : Bool) (n : ℕ) → length xs ≡ length bits * size → length bytes ≡ size → n ≡ length bits + 1
    → where_set (bits ++ b ∷ []) (pieces_of size n (xs ++ bytes)) ≡ where_set bits (pieces_of size (length bits) xs) ++ option_where b bytes ∷ []
fixed_push size bits xs bytes b n whole fits one =
    ap (λ m. where_set (bits ++ b ∷ []) (pieces_of size m (xs ++ bytes))) one
    ∙ ap (where_set (bits ++ b ∷ [])) (pieces-push size (length bits) xs bytes whole fits)
    ∙ where_set-push bits (pieces_of size (length bits) xs) b bytes (sym (length-pieces size (length bits) xs))

pub length-fixed : (size : ℕ) (bits : List Bool) (xs : List ℕ) → length (where_set bits (pieces_of size (length bits) xs)) ≡ length bits
length-fixed size bits xs = length-where_set bits (pieces_of size (length bits) xs) (sym (length-pieces size (length bits) xs)) ∙ length-pieces size (length bits) xs

-- the bytes of all slots
pub fixed_whole : (size : ℕ) (bits : List Bool) (xs bytes : List ℕ) (b : Bool) → length xs ≡ length bits * size → length bytes ≡ size
    → length (xs ++ bytes) ≡ length (bits ++ b ∷ []) * size
fixed_whole size bits xs bytes b whole fits =
    let both = length-append xs bytes in
    let more : length (bits ++ b ∷ []) * size ≡ (length bits + 1) * size = ap (λ n. n * size) (length_push bits b) in
    omega (arith, both, more, whole, fits)

pub fixed_grow : (size : ℕ) (bits : List Bool) (xs bytes : List ℕ) (b : Bool) (bits' : List Bool) (xs' : List ℕ) → bits' ≡ bits ++ b ∷ [] → xs' ≡ xs ++ bytes
    → length xs ≡ length bits * size → length bytes ≡ size
    → (length xs' ≡ length bits' * size) × (where_set bits' (pieces_of size (length bits') xs') ≡ where_set bits (pieces_of size (length bits) xs) ++ option_where b bytes ∷ [])
fixed_grow size bits xs bytes b bits' xs' eb ex whole fits =
    rw (eb, ex) (fixed_whole size bits xs bytes b whole fits, fixed_push size bits xs bytes b (length (bits ++ b ∷ [])) whole fits (length_push bits b))

-- the bytes with those of a null, as `resize` gives them
pub resized : (xs ys : List ℕ) (n k size : ℕ) → n ≡ length xs → k ≡ length xs → ys ≡ take (n + size) xs ++ replicate (n + size - k) 0 → ys ≡ xs ++ replicate size 0
resized xs ys n k size en ek is =
    let rest : n + size - k ≡ size = omega (arith, en, ek) in
    is ∙ ap₂ (λ zs m. zs ++ replicate m 0) (take_all (n + size) xs (omega (arith, en))) rest

pub ruleset fixed_pushes = (fixed_push, fixed_whole, length-fixed)
