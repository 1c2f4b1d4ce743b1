-- Offsets of either width.
-- (Arrow columnar format, "Variable-size Binary Layout".)
use Rattle.std.specs.Prelude.{ℕ, List}
use Rattle.lower_types.specs.declared.PrimitiveType.{PrimitiveType}
use Rattle.lower_types.specs.declared.PrimitiveType.TheVariants as Named
use Rattle.ipc_plan.specs.declared.serialize.offsets.Offsets.{Offsets}
use Rattle.ipc_plan.specs.declared.serialize.offsets.Offsets.TheVariants.{Small, Large}

-- The offsets, as numbers.
abbrev pub places_of : Offsets → List ℕ
places_of (Small os) = os.now
places_of (Large os) = os.now

-- The type of the offsets.
abbrev pub type_of_offsets : Offsets → PrimitiveType
type_of_offsets (Small os) = Named.Int32
type_of_offsets (Large os) = Named.Int64
