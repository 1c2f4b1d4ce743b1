-- The kinds of arrays, by their parts.
-- (Arrow columnar format, "Physical Memory Layout".)
use Rattle.std.specs.Prelude.{◌≡◌, ℕ, List, []}
use Rattle.lower_types.specs.declared.PrimitiveType.{PrimitiveType}
use Rattle.lower_types.specs.declared.PrimitiveType.TheVariants.{Int32}
use Rattle.lower_flat_arrays.specs.Binaries.{bytes_with}
use Rattle.lower_flat_arrays.specs.Texts.{texts_with}
use Rattle.lower_validation.specs.ListTypes.{list_with}
use Rattle.lower_arrays.specs.Layouts.{Parts, truths, fixed_bytes, bytes, texts, lists, maps, choices, keys}

-- The slots are booleans.
abbrev pub AreTruths : Parts → Type 0
AreTruths (truths _) = Unit {0}
AreTruths _ = ⊥

-- The slots are byte strings of one length.
abbrev pub AreFixedBytes : Parts → Type 0
AreFixedBytes (fixed_bytes _ _) = Unit {0}
AreFixedBytes _ = ⊥

-- The slots are byte strings, with offsets as wide as those of the type p.
abbrev pub AreBytes : PrimitiveType → Parts → Type 0
AreBytes p (bytes q _ _) = bytes_with q ≡ bytes_with p
AreBytes p _ = ⊥

-- The slots are texts, with offsets as wide as those of the type p.
abbrev pub AreStrings : PrimitiveType → Parts → Type 0
AreStrings p (texts q _ _) = texts_with q ≡ texts_with p
AreStrings p _ = ⊥

-- The slots are lists or maps, with offsets as wide as those of the type p.
abbrev pub HaveOffsets : PrimitiveType → Parts → Type 0
HaveOffsets p (lists _ q _) = list_with q ≡ list_with p
HaveOffsets p (maps _) = list_with Int32 ≡ list_with p
HaveOffsets p _ = ⊥

-- The slots are of several types.
abbrev pub AreChoices : Parts → Type 0
AreChoices (choices _ _ _) = Unit {0}
AreChoices _ = ⊥

-- The slots are values of a dictionary.
abbrev pub AreKeys : Parts → Type 0
AreKeys (keys _ _) = Unit {0}
AreKeys _ = ⊥

-- The offsets of lists or maps.
abbrev pub offsets_in : Parts → List ℕ
offsets_in (lists _ _ os) = os
offsets_in (maps os) = os
offsets_in _ = []
