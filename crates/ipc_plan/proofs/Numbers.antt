-- Numbers and their bytes.
use Rattle.std.proofs.Common.{arith, ◌≡◌, ℕ, ℤ, zero, suc, pos, ◌+◌, ◌*◌, ◌<◌, List, [], ◌∷◌, ◌++◌, length, map, take, drop, get_or, refl, sym, ap, ap₂, ◌∙◌, All}
use Rattle.std.specs.List.{flat_map}
use Rattle.std.proofs.lemmas.List.{length-map, take_at, drop_at, drop-drop}
use Rattle.std.proofs.lemmas.List.Elements.{All-head, All-tail}
use Rattle.lower_types.specs.NumberTypes.{Number, whole, wide, day_time, month_day_nano, width_of, number_in}
use Rattle.lower_types.specs.declared.Endianness.{Endianness}
use Rattle.lower_types.specs.declared.PrimitiveType.{PrimitiveType}
use Rattle.lower_types.specs.declared.PrimitiveType.TheVariants as Named
use Rattle.lower_types.proofs.NumberPieces.{length-spelt}
use Rattle.lower_flat_arrays.specs.Validities.{part}
use Rattle.lower_flat_arrays.proofs.Cuts.{map-part}
use Rattle.ipc_plan.specs.Levels.{AreRead, bytes_of_number}
use Rattle.ipc_plan.specs.Pieces.{number_bytes, slice_numbers, slice_type}
use Rattle.ipc_plan.specs.declared.pieces.NumberSlice.{NumberSlice}
use Rattle.ipc_plan.specs.declared.pieces.NumberSlice.TheVariants.{Int8, Int16, Int32, Int64, Int128, Int256, UInt8, UInt16, UInt32, UInt64, DaysMs, MonthDayNano}
use Rattle.ipc_plan.proofs.Sends.{spelt_map}

each_spelt : {X : Type 0} (order : Endianness) (p : PrimitiveType) (number : X → Number) (value : List ℕ → X) (spelt : X → List ℕ) (w : ℕ) → w ≡ width_of p
    → ((x : X) → length (spelt x) ≡ w) → ((bytes : List ℕ) → number (value bytes) ≡ number_in p order bytes) → ((bytes : List ℕ) → value (take w bytes) ≡ value bytes)
    → (fits : X → Type 0) → ((x : X) → fits x → value (spelt x) ≡ x) → (xs : List X) → All fits xs → (i : ℕ) → i < length (map number xs)
    → number_in p order (drop (width_of p * i) (flat_map spelt xs)) ≡ get_or (map number xs) i (whole (pos 0))
each_spelt order p number value spelt w same long reads first fits back [] all i h = absurd (omega (arith, h))
each_spelt order p number value spelt w same long reads first fits back (x ∷ xs) all zero h =
    let rest = flat_map spelt xs in
    let e : width_of p * zero ≡ 0 = omega arith in
    ap (λ k. number_in p order (drop k (spelt x ++ rest))) e
    ∙ sym (reads (spelt x ++ rest))
    ∙ ap number (sym (first (spelt x ++ rest)) ∙ ap value (take_at (spelt x) rest w (long x)) ∙ back x (All-head fits x xs all))
each_spelt order p number value spelt w same long reads first fits back (x ∷ xs) all (suc i) h =
    let rest = flat_map spelt xs in
    let e : width_of p * suc i ≡ w + width_of p * i = omega (arith, same) in
    ap (λ k. number_in p order (drop k (spelt x ++ rest))) e
    ∙ ap (number_in p order) (sym (drop-drop (width_of p * i) w (spelt x ++ rest)) ∙ ap (drop (width_of p * i)) (drop_at (spelt x) rest w (long x)))
    ∙ each_spelt order p number value spelt w same long reads first fits back xs (All-tail fits x xs all) i (omega (arith, h))

-- numbers are read as they were
pub numbers_read : {X : Type 0} (order : Endianness) (p : PrimitiveType) (number : X → Number) (value : List ℕ → X) (spelt : X → List ℕ) (w : ℕ) → w ≡ width_of p
    → ((x : X) → length (spelt x) ≡ w) → ((bytes : List ℕ) → number (value bytes) ≡ number_in p order bytes) → ((bytes : List ℕ) → value (take w bytes) ≡ value bytes)
    → (fits : X → Type 0) → ((x : X) → fits x → value (spelt x) ≡ x) → (xs : List X) → All fits xs → AreRead order p (map number xs) (flat_map spelt xs)
numbers_read order p number value spelt w same long reads first fits back xs all = record {
  count = length-spelt spelt w long xs ∙ ap₂ (λ a b. a * b) same (sym (length-map xs number));
  each = λ i l. each_spelt order p number value spelt w same long reads first fits back xs all i l;
}

-- numbers of any type in their bytes
pub slice_spelt : (order : Endianness) (xs : NumberSlice) → number_bytes order xs ≡ flat_map (bytes_of_number (slice_type xs) order) (slice_numbers xs)
slice_spelt order (Int8 xs) = sym (spelt_map (bytes_of_number Named.Int8 order) (λ x. whole x) xs.now)
slice_spelt order (Int16 xs) = sym (spelt_map (bytes_of_number Named.Int16 order) (λ x. whole x) xs.now)
slice_spelt order (Int32 xs) = sym (spelt_map (bytes_of_number Named.Int32 order) (λ x. whole x) xs.now)
slice_spelt order (Int64 xs) = sym (spelt_map (bytes_of_number Named.Int64 order) (λ x. whole x) xs.now)
slice_spelt order (Int128 xs) = sym (spelt_map (bytes_of_number Named.Int128 order) (λ x. whole x) xs.now)
slice_spelt order (Int256 xs) = sym (spelt_map (bytes_of_number Named.Int256 order) (λ x. wide x.high x.low) xs.now)
slice_spelt order (UInt8 xs) = sym (spelt_map (bytes_of_number Named.UInt8 order) (λ x. whole (pos x)) xs.now)
slice_spelt order (UInt16 xs) = sym (spelt_map (bytes_of_number Named.UInt16 order) (λ x. whole (pos x)) xs.now)
slice_spelt order (UInt32 xs) = sym (spelt_map (bytes_of_number Named.UInt32 order) (λ x. whole (pos x)) xs.now)
slice_spelt order (UInt64 xs) = sym (spelt_map (bytes_of_number Named.UInt64 order) (λ x. whole (pos x)) xs.now)
slice_spelt order (DaysMs xs) = sym (spelt_map (bytes_of_number Named.DaysMs order) (λ x. day_time x.days x.milliseconds) xs.now)
slice_spelt order (MonthDayNano xs) = sym (spelt_map (bytes_of_number Named.MonthDayNano order) (λ x. month_day_nano x.months x.days x.nanoseconds) xs.now)

map_twice : {X Y Z : Type 0} (g : Y → Z) (f : X → Y) (xs : List X) → map g (map f xs) ≡ map (λ x. g (f x)) xs
map_twice g f [] = refl
map_twice g f (x ∷ xs) = ap (λ ys. g (f x) ∷ ys) (map_twice g f xs)

-- keys, as numbers and as integers
pub key_numbers : {T : Type 0} (f : T → ℤ) (o n : ℕ) (xs : List T) → map (λ x. whole (f x)) (part o n xs) ≡ map (λ z. whole z) (part o n (map f xs))
key_numbers f o n xs = sym (map_twice (λ z. whole z) f (part o n xs)) ∙ ap (map (λ z. whole z)) (map-part f o n xs)

pub ruleset key_slices = (length-map)

pub ruleset number_slices = (map-part)

pub ruleset number_lengths = (length-map)
