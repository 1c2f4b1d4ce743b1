-- Some slots of an array keep its rules.
use Rattle.std.proofs.Common.{arith, ◌≡◌, refl, ℕ, ℤ, pos, ◌+◌, ◌-◌, ◌*◌, ◌<◌, ◌≤◌, List, Option, Some, None, false, length, get_or, subst, sym, ap, ◌∙◌}
use Rattle.std.specs.Prelude.{option_map, slice_index}
use Rattle.std.proofs.Math.Nat.{add-mul}
use Rattle.std.proofs.lemmas.Nat.{mul-le}
use Rattle.lower.specs.TypeTrees.{TypeTree, FieldTrees, no_fields, more_fields}
use Rattle.lower.specs.declared.datatypes.IntegerType.{IntegerType}
use Rattle.lower.specs.declared.datatypes.UnionMode.{UnionMode}
use Rattle.lower.specs.declared.datatypes.UnionMode.TheVariants.{Dense, Sparse}
use Rattle.lower_flat_arrays.specs.Validities.{Validity, is_valid, part, cut_validity}
use Rattle.lower_flat_arrays.proofs.Cuts.{get_or-part, length-part, fits-cut}
use Rattle.lower_flat_arrays.proofs.SpanPlaces.{offset_last, count-cut, offsets-cut, ends-cut, texts-cut}
use Rattle.lower_arrays.specs.Layouts.{Parts, nothing, truths, numbers, fixed_bytes, bytes, texts, keys, choices, Level, Layout, layout, Layouts, no_layouts, more_layouts, len_of, lists, fixed_lists, maps, records}
use Rattle.lower_arrays.specs.Children.{child_count, lens_of, ChildTypes, AllHave, AllReach, HasChild}
use Rattle.lower_validation.specs.Keys.{KeyFits, KeysFit}
use Rattle.lower_validation.specs.Ids.{TypeIds, union_mode, child_number, NamesChild, IdsFit, AreNamed, OffsetsGiven}
use Rattle.lower_validation.specs.Places.{OffsetsFit}
use Rattle.lower_arrays.specs.Choices.{ChoicesFit}
use Rattle.lower_arrays.specs.Slots.{SpansFit, DictionaryFits, PartsFit, IsArray, AreArrays, ItemsFit}
use Rattle.lower_validation.specs.ListTypes.{last_offset}
use Rattle.lower_arrays.specs.Cuts.{cut_parts, cut_level, cut_below, cut, cut_each}

-- ---- children
pub types-cut : (fs : FieldTrees) (cs : Layouts) (o n : ℕ) → ChildTypes fs cs → ChildTypes fs (cut_each o n cs)
types-cut no_fields no_layouts o n k = tt
types-cut no_fields (more_layouts c cs) o n k = absurd k
types-cut (more_fields f fs) no_layouts o n k = absurd k
types-cut (more_fields f fs) (more_layouts (layout h ds) cs) o n k = (k.0, types-cut fs cs o n k.1)

have-cut : (cs : Layouts) (o n : ℕ) → AllHave n (cut_each o n cs)
have-cut no_layouts o n = tt
have-cut (more_layouts (layout h ds) cs) o n = (refl, have-cut cs o n)

some-cut : (cs : Layouts) (o n : ℕ) → HasChild cs → HasChild (cut_each o n cs)
some-cut no_layouts o n k = absurd k
some-cut (more_layouts c cs) o n k = tt

-- as many slots are at least as many, and fewer
pub have-reach : (cs : Layouts) (n m : ℕ) → n ≤ m → AllHave m cs → AllReach n cs
have-reach no_layouts n m l k = tt
have-reach (more_layouts c cs) n m l k = (omega (arith, l, k.0), have-reach cs n m l k.1)

reach-fewer : (cs : Layouts) (n m : ℕ) → n ≤ m → AllReach m cs → AllReach n cs
reach-fewer no_layouts n m l k = tt
reach-fewer (more_layouts c cs) n m l k = (omega (arith, l, k.0), reach-fewer cs n m l k.1)

-- ---- sizes and offsets
pub sizes_within : (o n m size : ℕ) → o + n ≤ m → o * size + n * size ≤ m * size
sizes_within o n m size h =
    let both : (o + n) * size ≡ o * size + n * size = add-mul o n size in
    let le : (o + n) * size ≤ m * size = mul-le (o + n) size m size h (omega arith) in
    omega (arith, both, le)

spans-cut : (os xs : List ℕ) (o n m : ℕ) → o + n ≤ m → SpansFit os xs m → SpansFit (part o (n + 1) os) xs n
spans-cut os xs o n m h k =
    let count = k.count in
    let room : o + n ≤ length os - 1 = omega (arith, h, count) in
    record {
      offsets = offsets-cut os xs o n k.offsets room;
      within = ends-cut os xs o n k.offsets room k.within;
      count = count-cut os xs o n k.offsets room;
    }

-- Each key that isn't null is still an index.
valid-cut : (v : Validity) (o n i : ℕ) → i < n → is_valid (cut_validity o n v) i ≡ is_valid v (o + i)
valid-cut None o n i h = refl
valid-cut (Some bits) o n i h = get_or-part o n bits i false h

keys-cut : (v : Validity) (ks : List ℤ) (m o n : ℕ) → o + n ≤ length ks → KeysFit v ks m → KeysFit (cut_validity o n v) (part o n ks) m
keys-cut v ks m o n room k = record {
  each = λ i l h.
      let lt : i < n = omega (arith, l, length-part o n ks room) in
      subst (λ z. KeyFits z m) (sym (get_or-part o n ks i (pos 0) lt))
      (k.each (o + i) (omega (arith, lt, room)) (sym (valid-cut v o n i lt) ∙ h));
}

dictionary-cut :
    (h : Level) (k : IntegerType) (ks : List ℤ) (cs : Layouts) (o n : ℕ) → o + n ≤ h.len → DictionaryFits h k ks cs
    → DictionaryFits (cut_level o n h) k (part o n ks) cs
dictionary-cut h k ks no_layouts o n f d = absurd d
dictionary-cut h k ks (more_layouts c (more_layouts e cs)) o n f d = absurd d
dictionary-cut h k ks (more_layouts c no_layouts) o n f d =
    let room : o + n ≤ length ks = omega (arith, f, d.2) in
    (d.0, d.1, length-part o n ks room, keys-cut h.validity ks (len_of c) o n room d.3)

-- ---- unions
count-each : (cs : Layouts) (o n : ℕ) → child_count (cut_each o n cs) ≡ child_count cs
count-each no_layouts o n = refl
count-each (more_layouts c cs) o n = let rest = count-each cs o n in omega (arith, rest)

names-cut : (zs : TypeIds) (ts : List ℤ) (m o n : ℕ) → o + n ≤ length ts → AreNamed zs ts m → AreNamed zs (part o n ts) m
names-cut zs ts m o n room k = record {
  each = λ i l.
      let lt : i < n = omega (arith, l, length-part o n ts room) in
      subst (NamesChild zs m) (sym (get_or-part o n ts i (pos 0) lt)) (k.each (o + i) (omega (arith, lt, room)));
}

given-none : (m : UnionMode) (a b : ℕ) → OffsetsGiven m None a → OffsetsGiven m None b
given-none Dense a b k = absurd k
given-none Sparse a b k = tt

given-count : (m : UnionMode) (os : List ℤ) (a : ℕ) → OffsetsGiven m (Some os) a → length os ≡ a
given-count Dense os a k = k
given-count Sparse os a k = absurd k

given-some : (m : UnionMode) (os ps : List ℤ) (a b : ℕ) → length ps ≡ b → OffsetsGiven m (Some os) a → OffsetsGiven m (Some ps) b
given-some Dense os ps a b e k = e
given-some Sparse os ps a b e k = absurd k

places-cut :
    (zs : TypeIds) (ts os : List ℤ) (ns : List ℕ) (o n : ℕ) → o + n ≤ length ts → OffsetsFit zs ts os ns
    → OffsetsFit zs (part o n ts) (part o n os) ns
places-cut zs ts os ns o n room k = record {
  each = λ i l.
      let lt : i < n = omega (arith, l, length-part o n ts room) in
      subst (λ z. KeyFits (get_or (part o n os) i (pos 0)) (get_or ns (child_number zs z) 0)) (sym (get_or-part o n ts i (pos 0) lt))
      (subst (λ z. KeyFits z (get_or ns (child_number zs (get_or ts (o + i) (pos 0))) 0)) (sym (get_or-part o n os i (pos 0) lt))
      (k.each (o + i) (omega (arith, lt, room))));
}

choices-cut :
    (t : TypeTree) (zs : TypeIds) (ts : List ℤ) (os : Option (List ℤ)) (cs : Layouts) (o n : ℕ) → o + n ≤ length ts
    → ChoicesFit t zs ts os cs
    → ChoicesFit t zs (part o n ts) (option_map (λ xs. part o n xs) os) (cut_below (choices zs ts os) o n (λ a b. cut_each a b cs) cs)
choices-cut t zs ts None cs o n room k =
    let count = count-each cs o n in
    let all = length-part o n ts room in
    record {
      lies = k.lies;
      named = k.named;
      some = omega (arith, count, k.some);
      few = omega (arith, count, k.few);
      types = types-cut _ cs o n k.types;
      ids = subst (IdsFit zs) (sym count) k.ids;
      names = subst (AreNamed zs (part o n ts)) (sym count) (names-cut zs ts (child_count cs) o n room k.names);
      given = given-none (union_mode t) (length ts) (length (part o n ts)) k.given;
      places = subst (λ m. AllHave m (cut_each o n cs)) (sym all) (have-cut cs o n);
    }
choices-cut t zs ts (Some os) cs o n room k =
    let all = length-part o n ts room in
    let count = given-count (union_mode t) os (length ts) k.given in
    let same : length (part o n os) ≡ length (part o n ts) = length-part o n os (omega (arith, room, count)) ∙ sym all in
    record {
      lies = k.lies;
      named = k.named;
      some = k.some;
      few = k.few;
      types = k.types;
      ids = k.ids;
      names = names-cut zs ts (child_count cs) o n room k.names;
      given = given-some (union_mode t) os (part o n os) (length ts) (length (part o n ts)) same k.given;
      places = places-cut zs ts os (lens_of cs) o n room k.places;
    }

last-cut : (os : List ℕ) (o n m : ℕ) → o + n ≤ m → (cs : Layouts) → ItemsFit os m cs → last_offset (part o (n + 1) os) ≤ last_offset os
last-cut os o n m h cs k =
    let count = k.count in
    let is = k.offsets in
    let some = is.some in
    let all : length (part o (n + 1) os) ≡ n + 1 = length-part o (n + 1) os (omega (arith, h, count, some)) in
    let last : length (part o (n + 1) os) - 1 ≡ n = omega (arith, all) in
    let there : slice_index (part o (n + 1) os) (length (part o (n + 1) os) - 1) ≡ slice_index os (o + n) =
    ap (slice_index (part o (n + 1) os)) last ∙ get_or-part o (n + 1) os n 0 (omega arith)
    in
    let le = offset_last os (o + n) is (omega (arith, h, count, some)) in
    omega (arith, there, le)

items-cut : (os : List ℕ) (o n m : ℕ) → o + n ≤ m → (cs : Layouts) → ItemsFit os m cs → ItemsFit (part o (n + 1) os) n cs
items-cut os o n m h cs k =
    let count = k.count in
    let room : o + n ≤ length os - 1 = omega (arith, h, count) in
    record {
      offsets = offsets-cut os os o n k.offsets room;
      within = reach-fewer cs (last_offset (part o (n + 1) os)) (last_offset os) (last-cut os o n m h cs k) k.within;
      count = count-cut os os o n k.offsets room;
    }

-- ---- levels
parts-cut :
    (h : Level) (p : Parts) (cs : Layouts) (o n : ℕ) → o + n ≤ h.len → PartsFit h p cs
    → PartsFit (cut_level o n h) (cut_parts o n p) (cut_below p o n (λ a b. cut_each a b cs) cs)
parts-cut h nothing no_layouts o n f k = (k.0, ap (cut_validity o n) k.1)
parts-cut h (truths xs) no_layouts o n f k = (k.0, length-part o n xs (omega (arith, f, k.1)))
parts-cut h (numbers p xs) no_layouts o n f k = (k.0, length-part o n xs (omega (arith, f, k.1)))
parts-cut h (fixed_bytes size xs) no_layouts o n f k =
    (k.0, k.1, k.2, length-part (o * size) (n * size) xs (omega (arith, sizes_within o n h.len size f, k.3)))
parts-cut h (bytes p os xs) no_layouts o n f k = (k.0, spans-cut os xs o n h.len f k.1)
parts-cut h (texts p os xs) no_layouts o n f k =
    let fit = k.1 in
    let count = fit.count in
    (k.0, spans-cut os xs o n h.len f fit, texts-cut os xs o n fit.offsets (omega (arith, f, count)) k.2)
parts-cut h (keys k ks) cs o n f d = dictionary-cut h k ks cs o n f d
parts-cut h (choices zs ts os) cs o n f k =
    let room : o + n ≤ length ts = omega (arith, f, k.1) in
    (ap (cut_validity o n) k.0, length-part o n ts room, choices-cut h.type zs ts os cs o n room k.2)
parts-cut h (lists _ p os) cs o n f k = (k.0, k.1, items-cut os o n h.len f cs k.2)
parts-cut h (fixed_lists size) cs o n f k = (k.0, k.1, k.2, types-cut _ cs (o * size) (n * size) k.3, have-cut cs (o * size) (n * size))
parts-cut h (maps os) cs o n f k = (k.0, k.1, k.2, items-cut os o n h.len f cs k.3)
parts-cut h records cs o n f k = (k.0, some-cut cs o n k.1, types-cut _ cs o n k.2, have-cut cs o n)
parts-cut h nothing (more_layouts c cs) o n f k = absurd k
parts-cut h (truths xs) (more_layouts c cs) o n f k = absurd k
parts-cut h (numbers p xs) (more_layouts c cs) o n f k = absurd k
parts-cut h (fixed_bytes size xs) (more_layouts c cs) o n f k = absurd k
parts-cut h (bytes p os xs) (more_layouts c cs) o n f k = absurd k
parts-cut h (texts p os xs) (more_layouts c cs) o n f k = absurd k

-- So many slots of the children cs, if each has enough, keep the rules.
abbrev CutKeeps : Layouts → Type 0
CutKeeps cs = (a b m : ℕ) → a + b ≤ m → AllHave m cs → AreArrays (cut_each a b cs)

below-cut :
    (h : Level) (p : Parts) (cs : Layouts) (o n : ℕ) → o + n ≤ h.len → PartsFit h p cs → AreArrays cs → CutKeeps cs
    → AreArrays (cut_below p o n (λ a b. cut_each a b cs) cs)
below-cut h nothing cs o n f k a g = a
below-cut h (truths xs) cs o n f k a g = a
below-cut h (numbers p xs) cs o n f k a g = a
below-cut h (fixed_bytes size xs) cs o n f k a g = a
below-cut h (bytes p os xs) cs o n f k a g = a
below-cut h (texts p os xs) cs o n f k a g = a
below-cut h (keys k ks) cs o n f d a g = a
below-cut h (choices zs ts None) cs o n f k a g = g o n h.len f (subst (λ m. AllHave m cs) k.1 k.2.places)
below-cut h (choices zs ts (Some os)) cs o n f k a g = a
below-cut h (lists _ p os) cs o n f k a g = a
below-cut h (fixed_lists size) cs o n f k a g = g (o * size) (n * size) (h.len * size) (sizes_within o n h.len size f) k.4
below-cut h (maps os) cs o n f k a g = a
below-cut h records cs o n f k a g = g o n h.len f k.3

mutual
  pub IsArray-cut : (l : Layout) (o n : ℕ) → o + n ≤ len_of l → IsArray l → IsArray (cut o n l)
  IsArray-cut (layout h cs) o n f a = (
    fits-cut h.validity o n h.len f a.0,
    parts-cut h h.parts cs o n f a.1,
    below-cut h h.parts cs o n f a.1 a.2 (λ b m k l e. AreArrays-cut cs b m k l e a.2),
  )

  pub AreArrays-cut : (cs : Layouts) (o n m : ℕ) → o + n ≤ m → AllHave m cs → AreArrays cs → AreArrays (cut_each o n cs)
  AreArrays-cut no_layouts o n m f k a = tt
  AreArrays-cut (more_layouts c cs) o n m f k a = (IsArray-cut c o n (omega (arith, f, k.0)) a.0, AreArrays-cut cs o n m f k.1 a.1)
