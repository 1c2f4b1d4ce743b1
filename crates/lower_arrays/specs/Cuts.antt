-- Some slots of an array, as an array.
-- (Arrow columnar format, "Physical Memory Layout".)
use Rattle.std.specs.Prelude.{ℕ, ◌+◌, ◌*◌, None, option_map}
use Rattle.lower_arrays.specs.Layouts.{Parts, nothing, truths, numbers, fixed_bytes, bytes, texts, keys, choices, Level, Layout, layout, Layouts, no_layouts, more_layouts, lists, fixed_lists, maps, records}
pub use Rattle.lower_flat_arrays.specs.Validities.{part, cut_validity}

-- The parts of n slots from index o on. Offsets keep the same bytes or the
-- same child, keys the same values.
abbrev pub cut_parts : ℕ → ℕ → Parts → Parts
cut_parts o n nothing = nothing
cut_parts o n (truths xs) = truths (part o n xs)
cut_parts o n (numbers p xs) = numbers p (part o n xs)
cut_parts o n (fixed_bytes size xs) = fixed_bytes size (part (o * size) (n * size) xs)
cut_parts o n (bytes p os xs) = bytes p (part o (n + 1) os) xs
cut_parts o n (texts p os xs) = texts p (part o (n + 1) os) xs
cut_parts o n (keys k ks) = keys k (part o n ks)
cut_parts o n (choices ids ts os) = choices ids (part o n ts) (option_map (λ xs. part o n xs) os)
cut_parts o n (lists named p os) = lists named p (part o (n + 1) os)
cut_parts o n (fixed_lists size) = fixed_lists size
cut_parts o n (maps os) = maps (part o (n + 1) os)
cut_parts o n records = records

-- The level of n slots from index o on.
abbrev pub cut_level : ℕ → ℕ → Level → Level
cut_level o n h = record { type = h.type; len = n; validity = cut_validity o n h.validity; parts = cut_parts o n h.parts }

-- The children of n slots from index o on. Children that correspond to the slots
-- are cut too: f gives their slots.
abbrev pub cut_below : Parts → ℕ → ℕ → (ℕ → ℕ → Layouts) → Layouts → Layouts
cut_below (choices ids ts None) o n f cs = f o n
cut_below (fixed_lists size) o n f cs = f (o * size) (n * size)
cut_below records o n f cs = f o n
cut_below _ o n f cs = cs

abbrev mutual
  -- The n slots of an array from index o on.
  pub cut : ℕ → ℕ → Layout → Layout
  cut o n (layout h cs) = layout (cut_level o n h) (cut_below h.parts o n (λ a b. cut_each a b cs) cs)

  -- The n slots of each child from index o on.
  pub cut_each : ℕ → ℕ → Layouts → Layouts
  cut_each o n no_layouts = no_layouts
  cut_each o n (more_layouts c cs) = more_layouts (cut o n c) (cut_each o n cs)
