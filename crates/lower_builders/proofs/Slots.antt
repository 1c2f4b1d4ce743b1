-- Slots by their bits and values.
use Rattle.std.proofs.Common.{arith, ◌<◌, zero, suc, refl, ◌≡◌, ℕ, ◌+◌, List, [], ◌∷◌, ◌++◌, Bool, true, false, length, map, sym, ap, ap₂, ◌∙◌}
use Rattle.std.specs.Prelude.{Option, Some, None, is_some, unwrap_or, replicate, if◌then◌else◌}
use Rattle.std.proofs.lemmas.List.{length-replicate, length_push, replicate_more}
use Rattle.lower_flat_arrays.specs.Validities.{ValidityFits}
use Rattle.lower_flat_arrays.specs.Options.{option_where, where_set, options}
use Rattle.lower_builders.specs.Validity.{all_set, as_validity, kept_bits, BitsKept, validity_bits}

-- the bits of slots that all have values
pub all_set-replicate : (n : ℕ) → all_set (replicate n true) ≡ true
all_set-replicate zero = refl
all_set-replicate (suc n) = all_set-replicate n

-- a null among them
pub all_set-null : (n : ℕ) → all_set (replicate n true ++ false ∷ []) ≡ false
all_set-null zero = refl
all_set-null (suc n) = all_set-null n

-- one bit more is set or not
pub all_set-push : (bits : List Bool) (b : Bool) → all_set bits ≡ false → all_set (bits ++ b ∷ []) ≡ false
all_set-push (true ∷ bits) b h = all_set-push bits b h
all_set-push (false ∷ bits) b h = refl
all_set-push [] b h = cc

-- no bits are kept
pub AreKept-none : (n : ℕ) → BitsKept n []
AreKept-none n = record {
  count = λ h. let no : ⊥ = omega (arith, h) in absurd no;
  null = λ h. let no : ⊥ = omega (arith, h) in absurd no;
}

pub AreKept-more : (n m : ℕ) (bits : List Bool) (b : Bool) → m ≡ n + 1 → 0 < length bits → BitsKept n bits → BitsKept m (bits ++ b ∷ [])
AreKept-more n m bits b more some kept = record {
  count = λ _. let count = kept.count some in omega (arith, length_push bits b, count, more);
  null = λ _. all_set-push bits b (kept.null some);
}

pub AreKept-empty : (m : ℕ) (bits : List Bool) → length bits ≡ 0 → BitsKept m bits
AreKept-empty m bits none = record {
  count = λ h. let no : ⊥ = omega (arith, h, none) in absurd no;
  null = λ h. let no : ⊥ = omega (arith, h, none) in absurd no;
}

pub AreKept-first : (n m : ℕ) → m ≡ n + 1 → BitsKept m (replicate n true ++ false ∷ [])
AreKept-first n m more = record {
  count = λ _. omega (arith, length_push (replicate n true) false, length-replicate n true, more);
  null = λ _. all_set-null n;
}

-- the number of the slots
pub length-bits_of : (n : ℕ) (bits : List Bool) → BitsKept n bits → length (kept_bits n bits) ≡ n
length-bits_of n [] kept = length-replicate n true
length-bits_of n (b ∷ bs) kept = kept.count (omega arith)

-- their bits, and one more
pub bits_of-more : (n m : ℕ) (bits : List Bool) (b : Bool) → 0 < length bits → kept_bits m (bits ++ b ∷ []) ≡ kept_bits n bits ++ b ∷ []
bits_of-more n m [] b some = let no : ⊥ = omega (arith, some) in absurd no
bits_of-more n m (a ∷ bs) b some = refl

pub bits_of-empty : (n : ℕ) (bits : List Bool) → length bits ≡ 0 → kept_bits n bits ≡ replicate n true
bits_of-empty n [] none = refl
bits_of-empty n (b ∷ bs) none = let no : ⊥ = omega (arith, none) in absurd no

pub bits_of-set : (n m : ℕ) (bits : List Bool) → m ≡ n + 1 → length bits ≡ 0 → kept_bits m bits ≡ kept_bits n bits ++ true ∷ []
bits_of-set n m bits more none =
    bits_of-empty m bits none ∙ ap (λ k. replicate k true) more ∙ sym (replicate_more n true) ∙ ap (λ xs. xs ++ true ∷ []) (sym (bits_of-empty n bits none))

pub bits_of-first : (n m : ℕ) (bits : List Bool) → length bits ≡ 0 → kept_bits m (replicate n true ++ false ∷ []) ≡ kept_bits n bits ++ false ∷ []
bits_of-first n m bits none = any (replicate n true) ∙ ap (λ xs. xs ++ false ∷ []) (sym (bits_of-empty n bits none))
  where
    any : (xs : List Bool) → kept_bits m (xs ++ false ∷ []) ≡ xs ++ false ∷ []
    any [] = refl
    any (x ∷ xs) = refl

-- without a null there is no bitmap
pub validity_of-set : (n : ℕ) (bits : List Bool) → length bits ≡ 0 → None ≡ as_validity (kept_bits n bits)
validity_of-set n bits none =
    sym (ap as_validity (bits_of-empty n bits none) ∙ ap (λ b. if b then None else Some (replicate n true)) (all_set-replicate n))

-- with one there is
pub validity_of-null : (n : ℕ) (bits : List Bool) → 0 < length bits → BitsKept n bits → Some bits ≡ as_validity (kept_bits n bits)
validity_of-null n [] some kept = let no : ⊥ = omega (arith, some) in absurd no
validity_of-null n (b ∷ bs) some kept = sym (ap (λ c. if c then None else Some (b ∷ bs)) (kept.null some))

pub ruleset bit_counts = (AreKept-none, AreKept-more, AreKept-empty, AreKept-first, length-bits_of, bits_of-more, bits_of-set, bits_of-first, validity_of-set, validity_of-null)

-- one slot more
pub where_set-push : {A : Type 0} (bits : List Bool) (xs : List A) (b : Bool) (x : A) → length bits ≡ length xs
    → where_set (bits ++ b ∷ []) (xs ++ x ∷ []) ≡ where_set bits xs ++ option_where b x ∷ []
where_set-push [] [] b x e = refl
where_set-push [] (y ∷ ys) b x e = let no : ⊥ = omega (arith, e) in absurd no
where_set-push (a ∷ bits) [] b x e = let no : ⊥ = omega (arith, e) in absurd no
where_set-push (a ∷ bits) (y ∷ ys) b x e = ap (λ zs. option_where a y ∷ zs) (where_set-push bits ys b x (omega (arith, e)))

-- the number of slots
pub length-where_set : {A : Type 0} (bits : List Bool) (xs : List A) → length bits ≡ length xs → length (where_set bits xs) ≡ length xs
length-where_set [] [] e = refl
length-where_set [] (y ∷ ys) e = let no : ⊥ = omega (arith, e) in absurd no
length-where_set (a ∷ bits) [] e = let no : ⊥ = omega (arith, e) in absurd no
length-where_set (a ∷ bits) (y ∷ ys) e = ap suc (length-where_set bits ys (omega (arith, e)))

-- the bits of the slots
is_some-where : {A : Type 0} (b : Bool) (x : A) → is_some (option_where b x) ≡ b
is_some-where true x = refl
is_some-where false x = refl

pub bits-where_set : {A : Type 0} (bits : List Bool) (xs : List A) → length bits ≡ length xs → validity_bits (where_set bits xs) ≡ bits
bits-where_set [] [] e = refl
bits-where_set [] (y ∷ ys) e = let no : ⊥ = omega (arith, e) in absurd no
bits-where_set (a ∷ bits) [] e = let no : ⊥ = omega (arith, e) in absurd no
bits-where_set (a ∷ bits) (y ∷ ys) e = ap₂ (λ b bs. b ∷ bs) (is_some-where a y) (bits-where_set bits ys (omega (arith, e)))

-- slots that all have values
all_options : {A : Type 0} (bits : List Bool) (xs : List A) → length bits ≡ length xs → all_set bits ≡ true → map Some xs ≡ where_set bits xs
all_options [] [] e h = refl
all_options [] (y ∷ ys) e h = let no : ⊥ = omega (arith, e) in absurd no
all_options (a ∷ bits) [] e h = let no : ⊥ = omega (arith, e) in absurd no
all_options (true ∷ bits) (y ∷ ys) e h = ap (λ zs. Some y ∷ zs) (all_options bits ys (omega (arith, e)) h)
all_options (false ∷ bits) (y ∷ ys) e h = let no : ⊥ = cc in absurd no

-- The slots of an array with the validity of these bits.
pub options-where : {A : Type 0} (bits : List Bool) (xs : List A) → length bits ≡ length xs → options (as_validity bits) xs ≡ where_set bits xs
options-where {A = A} bits xs e = by (all_set bits) refl
  where
    by : (b : Bool) → all_set bits ≡ b → options (as_validity bits) xs ≡ where_set bits xs
    by true h = ap (λ c. options (if c then None else Some bits) xs) h ∙ all_options bits xs e h
    by false h = ap (λ c. options (if c then None else Some bits) xs) h

-- a value that may be absent, as its bit and a value
pub option_where-unwrap : {A : Type 0} (o : Option A) (d : A) → option_where (is_some o) (unwrap_or o d) ≡ o
option_where-unwrap None d = refl
option_where-unwrap (Some x) d = refl

-- one slot more, as a builder stores it
pub slot_push : {A : Type 0} (bits : List Bool) (xs : List A) (o : Option A) (d : A) → length bits ≡ length xs
    → where_set (bits ++ is_some o ∷ []) (xs ++ unwrap_or o d ∷ []) ≡ where_set bits xs ++ o ∷ []
slot_push bits xs o d e =
    where_set-push bits xs (is_some o) (unwrap_or o d) e ∙ ap (λ x. where_set bits xs ++ x ∷ []) (option_where-unwrap o d)

pub ruleset slot_steps = (slot_push, length-where_set, bits-where_set, options-where)

-- The validity has a bit for each slot.
pub validity_fits : (bits : List Bool) (n : ℕ) → length bits ≡ n → ValidityFits (as_validity bits) n
validity_fits bits n h = by (all_set bits) refl
  where
    by : (c : Bool) → all_set bits ≡ c → ValidityFits (as_validity bits) n
    by true e = rw e tt
    by false e = rw e h
