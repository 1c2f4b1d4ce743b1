-- A column without children is read to the array that its entries say.
use Rattle.ipc_devices.specs.Device.{Device}
use Rattle.std.proofs.Common.{arith, ◌≡◌, refl, ℕ, zero, suc, ◌+◌, ◌*◌, ◌/◌, ◌<◌, ◌≤◌, List, ◌∷◌, map, length, take, drop, sym, ap, subst, ◌∙◌}
use Rattle.std.proofs.lemmas.List.{take-take, drop-take, drop-drop, length-map, length-take-le}
use Rattle.std.proofs.lemmas.List.FromFn.{length-map-range_with_len}
use Rattle.std.proofs.Math.Nat.{mul-add, mul-div_cancel_left}
use Rattle.std.specs.List.{range_with_len}
use Rattle.std.specs.Simd.{first_chunks}
use Rattle.lower.specs.TypeTrees.{TypeTree}
use Rattle.lower.specs.Physical.{physical}
use Rattle.lower.specs.declared.error.Error.{Error}
use Rattle.lower.specs.declared.error.Error.TheVariants.{OutOfSpec}
use Rattle.lower.specs.declared.error.Rule.TheVariants.{ValidityLength, ValuesLength, ZeroSize, PhysicalType as WrongType}
use Rattle.lower.specs.declared.datatypes.physical_type.PhysicalType.TheVariants.{FixedSizeBinary}
use Rattle.lower_types.specs.NumberTypes.{Number, width_of, number_in}
use Rattle.lower_types.specs.Numbers.{values_of}
use Rattle.lower_types.specs.declared.PrimitiveType.{PrimitiveType}
use Rattle.lower_types.specs.declared.PrimitiveType.TheVariants as Numbers
use Rattle.lower_types.specs.declared.Endianness.{Endianness}
use Rattle.lower_flat_arrays.specs.Validities.{Validity, ValidityFits}
use Rattle.lower_flat_arrays.specs.FixedBinaries.{byte_size, fixed_seen, BreaksFixedBinary}
use Rattle.lower_arrays.specs.Layouts.{numbers, fixed_bytes, layout, no_layouts}
use Rattle.lower_arrays.specs.Primitives.{primitive_layout}
use Rattle.lower_arrays.specs.Flat.{fixed_layout}
use Rattle.ipc_model.specs.Kinds.{number_kind, fixed_binary_kind}
use Rattle.ipc_model.specs.Entries.{Entries, bytes, Limit, rows}
use Rattle.ipc_model.specs.ReadArrays.{validity_of, array_at}
use Rattle.ipc_read_flat.specs.Bodies.{entries, no_values}
use Rattle.ipc_read_flat.specs.declared.read.body.Body.{Body}

pub order_is : {R : Type 0} (d : Device R) (b : Body R) → b.order ≡ (entries d b).order
unfolding entries
order_is d b = refl

-- ---- what pieces of bytes are read as

-- the whole pieces of the first bytes
first_chunks-take : (w n : ℕ) (xs : List ℕ) → first_chunks w n (take (w * n) xs) ≡ first_chunks w n xs
first_chunks-take w zero xs = refl
first_chunks-take w (suc n) xs =
    let e : w * suc n ≡ w + w * n = omega arith in
    let front : take w (take (w * suc n) xs) ≡ take w xs = take-take w (w * suc n) xs (omega (arith, e)) in
    let rest : drop w (take (w * suc n) xs) ≡ take (w * n) (drop w xs) = ap (λ k. drop w (take k xs)) e ∙ drop-take w (w * n) xs in
    λ i. front i ∷ (ap (λ ys. first_chunks w n ys) rest ∙ first_chunks-take w n (drop w xs)) i

values_read :
    {T : Type 0} (value : List ℕ → T) (w n : ℕ) (xs : List ℕ) → 0 < w → w * n ≤ length xs
    → values_of value w (take (w * n) xs) ≡ map value (first_chunks w n xs)
values_read value w n xs some long =
    let count : length (take (w * n) xs) / w ≡ n =
    ap (λ k. k / w) (length-take-le (w * n) xs long) ∙ mul-div_cancel_left n some
    in
    ap (λ k. map value (first_chunks w k (take (w * n) xs))) count ∙ ap (λ cs. map value cs) (first_chunks-take w n xs)

-- Each piece is read as the value in it.
pieces_read :
    {T U : Type 0} (f : T → U) (g : List ℕ → U) (value : List ℕ → T) (w : ℕ) (xs : List ℕ)
    → ((ys : List ℕ) → f (value ys) ≡ g ys) → ((ys : List ℕ) → value (take w ys) ≡ value ys) → (n j : ℕ)
    → map f (map value (first_chunks w n (drop (w * j) xs))) ≡ map (λ i. g (drop (w * i) xs)) (range_with_len j n)
pieces_read f g value w xs is first zero j = refl
pieces_read f g value w xs is first (suc n) j =
    let ys = drop (w * j) xs in
    let head : f (value (take w ys)) ≡ g ys = ap f (first ys) ∙ is ys in
    let e : w * j + w ≡ w * (j + 1) = omega (arith, mul-add w j 1) in
    let rest : drop w ys ≡ drop (w * (j + 1)) xs = drop-drop w (w * j) xs ∙ ap (λ k. drop k xs) e in
    let tail = ap (λ zs. map f (map value (first_chunks w n zs))) rest ∙ pieces_read f g value w xs is first n (j + 1) in
    λ i. head i ∷ tail i

-- The values in the first bytes.
pub pieces_are :
    {T U : Type 0} (f : T → U) (g : List ℕ → U) (value : List ℕ → T) (w n : ℕ) (xs : List ℕ) (v : List T)
    → ((ys : List ℕ) → f (value ys) ≡ g ys) → ((ys : List ℕ) → value (take w ys) ≡ value ys) → 0 < w → w * n ≤ length xs
    → v ≡ values_of value w (take (w * n) xs) → map f v ≡ map (λ i. g (drop (w * i) xs)) (range_with_len 0 n)
pieces_are f g value w n xs v is first some long read =
    ap (map f) (read ∙ values_read value w n xs some long)
    ∙ ap (λ k. map f (map value (first_chunks w n (drop k xs)))) (let z : 0 ≡ w * 0 = omega arith in z)
    ∙ pieces_read f g value w xs is first n 0

-- ---- numbers

pub some_width : (p : PrimitiveType) → 0 < width_of p
some_width Numbers.Int8 = omega arith
some_width Numbers.Int16 = omega arith
some_width Numbers.Int32 = omega arith
some_width Numbers.Int64 = omega arith
some_width Numbers.Int128 = omega arith
some_width Numbers.Int256 = omega arith
some_width Numbers.UInt8 = omega arith
some_width Numbers.UInt16 = omega arith
some_width Numbers.UInt32 = omega arith
some_width Numbers.UInt64 = omega arith
some_width Numbers.Float16 = omega arith
some_width Numbers.Float32 = omega arith
some_width Numbers.Float64 = omega arith
some_width Numbers.DaysMs = omega arith
some_width Numbers.MonthDayNano = omega arith

pub primitive_is :
    {T : Type 0} (p : PrimitiveType) (number : T → Number) (order : Endianness) (value : List ℕ → T) (w n : ℕ) (s : Entries) (u : TypeTree) (a b : ℕ) (limit : Limit) (v : List T) (m : Validity)
    → ((ys : List ℕ) → number (value ys) ≡ number_in p order ys) → ((ys : List ℕ) → value (take w ys) ≡ value ys)
    → w ≡ width_of p → 0 < w → order ≡ s.order → n ≡ rows s a limit → m ≡ validity_of s a b (rows s a limit)
    → w * n ≤ length (bytes s (b + 1)) → v ≡ values_of value w (take (w * n) (bytes s (b + 1)))
    → primitive_layout p number (record { type = u; values = v; validity = m }) ≡ array_at s no_values (number_kind p) u a b limit
primitive_is p number order value w n s u a b limit v m is first width some same count mask long read =
    let xs = bytes s (b + 1) in
    let values = pieces_are number (number_in p order) value w n xs v is first some long read in
    let len : length v ≡ rows s a limit =
    sym (length-map v number) ∙ ap length values ∙ length-map-range_with_len (λ i. number_in p order (drop (w * i) xs)) 0 n ∙ count
    in
    let all = values ∙ (λ k. map (λ i. number_in p (same k) (drop (width k * i) xs)) (range_with_len 0 (count k))) in
    λ i. layout (record { type = u; len = len i; validity = mask i; parts = numbers p (all i) }) no_layouts

-- ---- bytes of a fixed size

fixed_count : (n k : ℕ) (xs : List ℕ) → 0 < n → length xs ≡ n * k → length xs / n ≡ k
fixed_count n k xs some long = ap (λ m. m / n) long ∙ mul-div_cancel_left k some

pub fixed_is :
    (s : Entries) (u : TypeTree) (n k a b : ℕ) (limit : Limit) (xs : List ℕ) (m : Validity) → byte_size u ≡ n → 0 < n → k ≡ rows s a limit
    → m ≡ validity_of s a b (rows s a limit) → length xs ≡ n * k → xs ≡ take (n * k) (bytes s (b + 1))
    → fixed_layout (fixed_seen u xs m) ≡ array_at s no_values (fixed_binary_kind n) u a b limit
fixed_is s u n k a b limit xs m named some count mask long read =
    let len : length xs / byte_size u ≡ rows s a limit = ap (λ d. length xs / d) named ∙ fixed_count n k xs some long ∙ count in
    let all = read ∙ ap (λ j. take (n * j) (bytes s (b + 1))) count in
    λ i. layout (record { type = u; len = len i; validity = mask i; parts = fixed_bytes (named i) (all i) }) no_layouts

pub fixed_keeps :
    (u : TypeTree) (n k : ℕ) (xs : List ℕ) (m : Validity) (e : Error) → physical u ≡ FixedSizeBinary → byte_size u ≡ n → 0 < n → length xs ≡ n * k
    → ValidityFits m k → BreaksFixedBinary (fixed_seen u xs m) e → ⊥
fixed_keeps u n k xs m (OutOfSpec WrongType) lies named some long fits h = h lies
fixed_keeps u n k xs m (OutOfSpec ZeroSize) lies named some long fits h = omega (arith, named, h, some)
fixed_keeps u n k xs m (OutOfSpec ValuesLength) lies named some long fits h =
    let count : length xs / byte_size u ≡ k = ap (λ d. length xs / d) named ∙ fixed_count n k xs some long in
    let turned : n * k ≡ k * n = omega arith in
    h (long ∙ turned ∙ (λ i. sym count i * sym named i))
fixed_keeps u n k xs m (OutOfSpec ValidityLength) lies named some long fits h =
    let count : length xs / byte_size u ≡ k = ap (λ d. length xs / d) named ∙ fixed_count n k xs some long in
    h (subst (ValidityFits m) (sym count) fits)
fixed_keeps u n k xs m (OutOfSpec _) lies named some long fits h = absurd h
