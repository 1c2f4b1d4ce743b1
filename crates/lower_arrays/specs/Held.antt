-- How many bytes the slots of an array take, without those of a dictionary's values. An array
-- retains no more, unless a buffer of it is a part of larger memory, which it retains whole.
-- (Arrow columnar format, "Buffer Listing for Each Layout".)
use Rattle.std.specs.Prelude.{ℕ, ◌+◌, ◌*◌, ◌≤◌, ℤ, List, length, Option, None, Some}
use Rattle.std.specs.Int.{div_ceil}
use Rattle.lower_types.specs.NumberTypes.{width_of}
use Rattle.lower_types.specs.declared.PrimitiveType.TheVariants as Named
use Rattle.lower.specs.TypeTrees.{plain}
use Rattle.lower.specs.Physical.{physical, integer}
use Rattle.lower.specs.declared.datatypes.physical_type.PhysicalType.{PhysicalType}
use Rattle.lower.specs.declared.datatypes.physical_type.PhysicalType.TheVariants as Physicals
use Rattle.lower_flat_arrays.specs.Validities.{Validity}
use Rattle.lower_arrays.specs.Layouts.{Parts, nothing, truths, numbers, fixed_bytes, bytes, texts, lists, fixed_lists, maps, records, choices, keys, Layout, layout, Layouts, no_layouts, more_layouts}
use Rattle.lower_arrays.specs.Cuts.{cut}

-- How many bytes n bits take.
abbrev pub bytes_of_bits : ℕ → ℕ
bytes_of_bits n = div_ceil n 8

-- The bytes of a validity.
abbrev pub validity_held : Validity → ℕ
validity_held None = 0
validity_held (Some bits) = bytes_of_bits (length bits)

-- The width of numbers with this physical type.
abbrev pub width_in : PhysicalType → ℕ
width_in (Physicals.Primitive p) = width_of p
width_in _ = 0

-- The bytes of a dense union's offsets, 32 bits each.
abbrev pub places_held : Option (List ℤ) → ℕ
places_held None = 0
places_held (Some os) = width_of Named.Int32 * length os

-- The bytes of the parts of a level: bits, numbers, offsets and bytes.
abbrev pub parts_held : Parts → ℕ
parts_held nothing = 0
parts_held (truths xs) = bytes_of_bits (length xs)
parts_held (numbers p xs) = width_of p * length xs
parts_held (fixed_bytes size xs) = length xs
parts_held (bytes p os xs) = width_of p * length os + length xs
parts_held (texts p os xs) = width_of p * length os + length xs
parts_held (lists _ p os) = width_of p * length os
parts_held (fixed_lists size) = 0
parts_held (maps os) = width_of Named.Int32 * length os
parts_held records = 0
parts_held (choices ids ts os) = length ts + places_held os
parts_held (keys k ks) = width_in (physical (plain (integer k))) * length ks

-- The bytes that the children retain; the values of a dictionary don't count.
abbrev pub below_held : Parts → ℕ → ℕ
below_held (keys k ks) n = 0
below_held _ n = n

abbrev mutual
  -- The bytes that an array retains, at every level.
  pub held : Layout → ℕ
  held (layout h cs) = validity_held h.validity + parts_held h.parts + below_held h.parts (all_held cs)

  -- The bytes that some arrays retain, at every level.
  pub all_held : Layouts → ℕ
  all_held no_layouts = 0
  all_held (more_layouts c cs) = held c + all_held cs

-- Theorem: some slots of an array retain no more bytes than the array.
abbrev pub HeldLaw : Type 0
HeldLaw = (l : Layout) (o n : ℕ) → held (cut o n l) ≤ held l
