-- What contracts know of the offsets of lists.
-- (Arrow columnar format, "Variable-size List Layout".)
use Rattle.std.specs.Prelude.{ℕ, List}
use Rattle.lower_types.specs.declared.PrimitiveType.{PrimitiveType}
use Rattle.lower_types.specs.declared.PrimitiveType.TheVariants as Named
use Rattle.lower_validation.specs.declared.offsets.ListOffsets.{ListOffsets}
use Rattle.lower_validation.specs.declared.offsets.ListOffsets.TheVariants.{Small, Large}

-- The offsets of lists, of 32 or of 64 bits, as numbers.
abbrev pub list_places : ListOffsets → List ℕ
list_places (Small os) = os
list_places (Large os) = os

-- The type of the offsets of lists.
abbrev pub list_width : ListOffsets → PrimitiveType
list_width (Small _) = Named.Int32
list_width (Large _) = Named.Int64
