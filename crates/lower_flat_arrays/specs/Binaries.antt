-- The rules of arrays of bytes.
-- (Arrow columnar format, "Variable-size Binary Layout".)
use Rattle.std.specs.Prelude.{◌≡◌}
use Rattle.lower.specs.Physical.{physical}
use Rattle.lower.specs.Offsets.{IsOffsets}
use Rattle.lower_types.specs.declared.PrimitiveType.{PrimitiveType}
use Rattle.lower_types.specs.declared.PrimitiveType.TheVariants.{Int64}
use Rattle.lower.specs.declared.datatypes.physical_type.PhysicalType.{PhysicalType}
use Rattle.lower.specs.declared.datatypes.physical_type.PhysicalType.TheVariants.{Binary, LargeBinary}
use Rattle.lower.specs.declared.error.Error.{Error}
use Rattle.lower.specs.declared.error.Error.TheVariants.{OutOfSpec}
use Rattle.lower.specs.declared.error.Rule.TheVariants.{ValidityLength, OffsetsPastValues, PhysicalType as WrongType}
use Rattle.lower_flat_arrays.specs.Validities.{ValidityFits}
use Rattle.lower_flat_arrays.specs.Spans.{SpansSeen, span_count, EndsWithin}

-- The physical type of bytes with offsets of the type p: the large form has offsets of 64 bits.
abbrev pub bytes_with : PrimitiveType → PhysicalType
bytes_with Int64 = LargeBinary
bytes_with _ = Binary

-- A valid array of bytes: its type is one of bytes with such offsets, the last offset is within the
-- bytes, and a validity has a bit for each slot.
pub record IsBinary (p : PrimitiveType) (a : SpansSeen) : Type 0 where
  pub lies : physical a.type ≡ bytes_with p
  pub offsets : IsOffsets a.offsets
  pub within : EndsWithin a.offsets a.values
  pub fits : ValidityFits a.validity (span_count a.offsets)

-- The array breaks the rule that the error names.
abbrev pub BreaksBinary : PrimitiveType → SpansSeen → Error → Type 0
BreaksBinary p a (OutOfSpec WrongType) = ¬ (physical a.type ≡ bytes_with p)
BreaksBinary p a (OutOfSpec OffsetsPastValues) = ¬ (EndsWithin a.offsets a.values)
BreaksBinary p a (OutOfSpec ValidityLength) = ¬ (ValidityFits a.validity (span_count a.offsets))
BreaksBinary p a (OutOfSpec _) = ⊥
