-- A column of bytes or texts is read to the array that its entries say.
use Rattle.std.proofs.Common.{arith, ◌≡◌, refl, ℕ, ◌+◌, ◌-◌, ◌<◌, ◌≤◌, Bool, true, false, cond, List, [], ◌∷◌, map, length, take, drop, sym, ap, subst, ◌∙◌}
use Rattle.std.proofs.lemmas.List.{length-take-le, take-append-drop}
use Rattle.std.proofs.lemmas.List.FromFn.{get_or-map-range_with_len, length-map-range_with_len}
use Rattle.std.specs.List.{range_with_len}
use Rattle.std.specs.Prelude.{slice_index, slice_range}
use Rattle.std.specs.Str.{IsUtf8}
use Rattle.lower.specs.TypeTrees.{TypeTree}
use Rattle.lower.specs.Physical.{physical}
use Rattle.lower.specs.declared.error.Error.{Error}
use Rattle.lower.specs.declared.error.Error.TheVariants.{OutOfSpec}
use Rattle.lower.specs.declared.error.Rule.TheVariants.{ValidityLength, OffsetsPastValues, Utf8 as NotUtf8, PhysicalType as WrongType}
use Rattle.lower_types.specs.declared.PrimitiveType.{PrimitiveType}
use Rattle.lower_flat_arrays.specs.Validities.{Validity, ValidityFits}
use Rattle.lower_flat_arrays.specs.Spans.{spans_seen, span_count, span, EndsWithin, AreTexts}
use Rattle.lower_flat_arrays.specs.Texts.{texts_with, BreaksText}
use Rattle.lower_arrays.specs.Layouts.{bytes as byte_parts, texts as text_parts, layout, no_layouts}
use Rattle.lower_arrays.specs.Flat.{bytes_layout, texts_layout}
use Rattle.ipc_model.proofs.Extended.{offset_below}
use Rattle.ipc_model.proofs.Limits.{kept_high}
use Rattle.ipc_model.proofs.Prefixes.{slice-append}
use Rattle.ipc_model.specs.Kinds.{OffsetWidth, offset_width, binary_kind, utf8_kind}
use Rattle.ipc_model.specs.Entries.{Entries, bytes, Limit, rows, offset}
use Rattle.ipc_model.specs.Columns.{is_omitted, last_offset, HasBytes, bytes_at, AreTexts as HasTexts}
use Rattle.ipc_model.specs.ReadArrays.{validity_of, offsets_of, offset_type, array_at}
use Rattle.ipc_read_flat.specs.Bodies.{no_values}

-- ---- offsets

last_of : (s : Entries) (b w k : ℕ) (t : Bool) → slice_index (cond t (0 ∷ []) (map (λ i. offset s b w i) (range_with_len 0 (k + 1)))) (length (cond t (0 ∷ []) (map (λ i. offset s b w i) (range_with_len 0 (k + 1)))) - 1) ≡ cond t 0 (offset s b w k)
last_of s b w k true = refl
last_of s b w k false =
    let long = length-map-range_with_len (λ i. offset s b w i) 0 (k + 1) in
    let last : length (map (λ i. offset s b w i) (range_with_len 0 (k + 1))) - 1 ≡ k = omega (arith, long) in
    ap (λ j. slice_index (map (λ i. offset s b w i) (range_with_len 0 (k + 1))) j) last
    ∙ get_or-map-range_with_len (λ i. offset s b w i) 0 (k + 1) k k 0 (omega arith) (omega arith)

pub last_read : (s : Entries) (b w k n : ℕ) (os : List ℕ) → os ≡ offsets_of s b w k → n ≡ slice_index os (length os - 1) → n ≡ last_offset s b w k
last_read s b w k n os same e = e ∙ ap (λ xs. slice_index xs (length xs - 1)) same ∙ last_of s b w k (is_omitted s b k)

offset_is : (s : Entries) (b w k i : ℕ) → 0 < k → i ≤ k → slice_index (offsets_of s b w k) i ≡ offset s b w i
offset_is s b w k i some h =
    subst (λ (t : Bool). slice_index (cond t (0 ∷ []) (map (λ j. offset s b w j) (range_with_len 0 (k + 1)))) i ≡ offset s b w i)
    (sym (kept_high s b k some))
    (get_or-map-range_with_len (λ j. offset s b w j) 0 (k + 1) i i 0 (omega arith) (omega arith))

slice_first : (xs : List ℕ) (n x y : ℕ) → x ≤ y → y ≤ n → n ≤ length xs → slice_range (take n xs) x y ≡ slice_range xs x y
slice_first xs n x y h k l =
    sym (slice-append (take n xs) (drop n xs) x y h (omega (arith, k, length-take-le n xs l)))
    ∙ ap (λ zs. slice_range zs x y) (take-append-drop n xs)

bytes_is : (s : Entries) (b w k i n : ℕ) (os xs : List ℕ) → HasBytes s b w k → i < k → os ≡ offsets_of s b w k → n ≡ last_offset s b w k → xs ≡ take n (bytes s (b + 1))
    → span os xs i ≡ bytes_at s b w i
bytes_is s b w k i n os xs v h same last read =
    let some : 0 < k = omega arith in
    let held : xs ≡ take (last_offset s b w k) (bytes s (b + 1)) = read ∙ ap (λ m. take m (bytes s (b + 1))) last in
    ap (λ zs. span zs xs i) same
    ∙ ap (λ zs. span (offsets_of s b w k) zs i) held
    ∙ ap (λ x. slice_range (take (last_offset s b w k) (bytes s (b + 1))) x (slice_index (offsets_of s b w k) (i + 1))) (offset_is s b w k i some (omega arith))
    ∙ ap (λ y. slice_range (take (last_offset s b w k) (bytes s (b + 1))) (offset s b w i) y) (offset_is s b w k (i + 1) some (omega arith))
    ∙ slice_first (bytes s (b + 1)) (last_offset s b w k) (offset s b w i) (offset s b w (i + 1)) (v.offsets.rising i h)
    (offset_below s b w k (i + 1) v.offsets some (omega arith)) v.values.2

-- ---- bytes and texts

pub texts_are : (s : Entries) (b w k n : ℕ) (os xs : List ℕ) → HasBytes s b w k → HasTexts s b w k → length os ≡ k + 1 → os ≡ offsets_of s b w k → n ≡ last_offset s b w k
    → xs ≡ take n (bytes s (b + 1)) → AreTexts os xs
texts_are s b w k n os xs v t long same last read =
    record { each = λ i h. let lt : i < k = omega (arith, h, long) in subst IsUtf8 (sym (bytes_is s b w k i n os xs v lt same last read)) (t.each i lt) }

pub texts_were : (s : Entries) (b w k n : ℕ) (os xs : List ℕ) → HasBytes s b w k → AreTexts os xs → length os ≡ k + 1 → os ≡ offsets_of s b w k → n ≡ last_offset s b w k
    → xs ≡ take n (bytes s (b + 1)) → HasTexts s b w k
texts_were s b w k n os xs v t long same last read =
    record { each = λ i h. let lt : i + 1 < length os = omega (arith, h, long) in subst IsUtf8 (bytes_is s b w k i n os xs v h same last read) (t.each i lt) }

pub text_keeps : (p : PrimitiveType) (u : TypeTree) (os xs : List ℕ) (m : Validity) (e : Error) → physical u ≡ texts_with p → EndsWithin os xs → AreTexts os xs
    → ValidityFits m (span_count os) → BreaksText p (spans_seen u os xs m) e → ⊥
text_keeps p u os xs m (OutOfSpec WrongType) lies ends texts fits h = h lies
text_keeps p u os xs m (OutOfSpec OffsetsPastValues) lies ends texts fits h = h ends
text_keeps p u os xs m (OutOfSpec NotUtf8) lies ends texts fits h = h texts
text_keeps p u os xs m (OutOfSpec ValidityLength) lies ends texts fits h = h fits
text_keeps p u os xs m (OutOfSpec _) lies ends texts fits h = absurd h

module _ (p : PrimitiveType) (form : OffsetWidth) (s : Entries) (u : TypeTree) (a b k n : ℕ) (limit : Limit) (os xs : List ℕ) (m : Validity)
    (named : p ≡ offset_type form) (count : k ≡ rows s a limit) (same : os ≡ offsets_of s (b + 1) (offset_width form) k) (long : length os ≡ k + 1)
    (mask : m ≡ validity_of s a b (rows s a limit)) (last : n ≡ last_offset s (b + 1) (offset_width form) k) (read : xs ≡ take n (bytes s (b + 1 + 1))) where
  len : span_count os ≡ rows s a limit
  len = let e : span_count os ≡ k = omega (arith, long) in e ∙ count

  all : os ≡ offsets_of s (b + 1) (offset_width form) (rows s a limit)
  all = same ∙ ap (offsets_of s (b + 1) (offset_width form)) count

  held : xs ≡ take (last_offset s (b + 1) (offset_width form) (rows s a limit)) (bytes s (b + 1 + 1))
  held = read ∙ ap (λ j. take j (bytes s (b + 1 + 1))) (last ∙ ap (last_offset s (b + 1) (offset_width form)) count)

  pub binary_is : bytes_layout p (spans_seen u os xs m) ≡ array_at s no_values (binary_kind form) u a b limit
  binary_is = λ i. layout (record { type = u; len = len i; validity = mask i; parts = byte_parts (named i) (all i) (held i) }) no_layouts

  pub utf8_is : texts_layout p (spans_seen u os xs m) ≡ array_at s no_values (utf8_kind form) u a b limit
  utf8_is = λ i. layout (record { type = u; len = len i; validity = mask i; parts = text_parts (named i) (all i) (held i) }) no_layouts
