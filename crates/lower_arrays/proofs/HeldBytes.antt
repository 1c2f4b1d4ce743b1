-- Some slots of an array retain no more bytes than the array.
use Rattle.std.proofs.Common.{arith, ℕ, ℤ, ◌+◌, ◌*◌, ◌≤◌, List, Option, Some, None, length}
use Rattle.std.proofs.lemmas.List.{length-take, length-drop}
use Rattle.std.proofs.lemmas.Nat.{mul-le}
use Rattle.std.proofs.lemmas.Grind.{div_ceil_times}
use Rattle.std.specs.Prelude.{option_map, drop}
use Rattle.lower_types.specs.NumberTypes.{width_of}
use Rattle.lower_types.specs.declared.PrimitiveType.TheVariants as Named
use Rattle.lower.specs.TypeTrees.{plain}
use Rattle.lower.specs.Physical.{physical, integer}
use Rattle.lower_flat_arrays.specs.Validities.{Validity, part, cut_validity}
use Rattle.lower_arrays.specs.Layouts.{Parts, nothing, truths, numbers, fixed_bytes, bytes, texts, lists, fixed_lists, maps, records, choices, keys, Layout, layout, Layouts, no_layouts, more_layouts}
use Rattle.lower_arrays.specs.Cuts.{cut_parts, cut_below, cut, cut_each}
use Rattle.lower_arrays.specs.Held.{bytes_of_bits, validity_held, width_in, places_held, parts_held, below_held, held, all_held, HeldLaw}

fewer_bits : (a b : ℕ) → a ≤ b → bytes_of_bits a ≤ bytes_of_bits b
fewer_bits a b h =
    let x = div_ceil_times a 8 (omega arith) in
    let y = div_ceil_times b 8 (omega arith) in
    omega (arith, h, x.0, x.1, y.0, y.1)

fewer : {A : Type 0} (o n : ℕ) (xs : List A) → length (part o n xs) ≤ length xs
fewer o n xs = omega (arith, length-take n (drop o xs), length-drop o xs)

-- of items of w bytes each
fewer_items : {A : Type 0} (w o n : ℕ) (xs : List A) → w * length (part o n xs) ≤ w * length xs
fewer_items w o n xs = mul-le w (length (part o n xs)) w (length xs) (omega arith) (fewer o n xs)

validity-cut : (v : Validity) (o n : ℕ) → validity_held (cut_validity o n v) ≤ validity_held v
validity-cut None o n = omega arith
validity-cut (Some bits) o n = fewer_bits (length (part o n bits)) (length bits) (fewer o n bits)

places-cut : (os : Option (List ℤ)) (o n : ℕ) → places_held (option_map (λ xs. part o n xs) os) ≤ places_held os
places-cut None o n = omega arith
places-cut (Some os) o n = fewer_items (width_of Named.Int32) o n os

parts-cut : (p : Parts) (o n : ℕ) → parts_held (cut_parts o n p) ≤ parts_held p
parts-cut nothing o n = omega arith
parts-cut (truths xs) o n = fewer_bits (length (part o n xs)) (length xs) (fewer o n xs)
parts-cut (numbers p xs) o n = fewer_items (width_of p) o n xs
parts-cut (fixed_bytes size xs) o n = fewer (o * size) (n * size) xs
parts-cut (bytes p os xs) o n = let le = fewer_items (width_of p) o (n + 1) os in omega (arith, le)
parts-cut (texts p os xs) o n = let le = fewer_items (width_of p) o (n + 1) os in omega (arith, le)
parts-cut (lists _ p os) o n = fewer_items (width_of p) o (n + 1) os
parts-cut (fixed_lists size) o n = omega arith
parts-cut (maps os) o n = fewer_items (width_of Named.Int32) o (n + 1) os
parts-cut records o n = omega arith
parts-cut (choices ids ts os) o n =
    let le = places-cut os o n in
    let few = fewer o n ts in
    omega (arith, le, few)
parts-cut (keys k ks) o n = fewer_items (width_in (physical (plain (integer k)))) o n ks

-- Children that are cut retain no more.
below-cut :
    (p : Parts) (cs : Layouts) (o n : ℕ) → ((a b : ℕ) → all_held (cut_each a b cs) ≤ all_held cs)
    → below_held (cut_parts o n p) (all_held (cut_below p o n (λ a b. cut_each a b cs) cs)) ≤ below_held p (all_held cs)
below-cut nothing cs o n e = omega arith
below-cut (truths xs) cs o n e = omega arith
below-cut (numbers p xs) cs o n e = omega arith
below-cut (fixed_bytes size xs) cs o n e = omega arith
below-cut (bytes p os xs) cs o n e = omega arith
below-cut (texts p os xs) cs o n e = omega arith
below-cut (lists _ p os) cs o n e = omega arith
below-cut (fixed_lists size) cs o n e = e (o * size) (n * size)
below-cut (maps os) cs o n e = omega arith
below-cut records cs o n e = e o n
below-cut (choices ids ts None) cs o n e = e o n
below-cut (choices ids ts (Some os)) cs o n e = omega arith
below-cut (keys k ks) cs o n e = omega arith

mutual
  held-cut : (l : Layout) (o n : ℕ) → held (cut o n l) ≤ held l
  held-cut (layout h cs) o n =
      let own = validity-cut h.validity o n in
      let parts = parts-cut h.parts o n in
      let below = below-cut h.parts cs o n (λ a b. all-cut cs a b) in
      omega (arith, own, parts, below)

  all-cut : (cs : Layouts) (o n : ℕ) → all_held (cut_each o n cs) ≤ all_held cs
  all-cut no_layouts o n = omega arith
  all-cut (more_layouts c cs) o n =
      let first = held-cut c o n in
      let rest = all-cut cs o n in
      omega (arith, first, rest)

pub held_law : HeldLaw
held_law l o n = held-cut l o n
