-- The rules of arrays of texts.
-- (Arrow columnar format, "Variable-size Binary Layout" and "Data Types": text is UTF-8.)
use Rattle.std.specs.Prelude.{◌≡◌}
use Rattle.lower.specs.Physical.{physical}
use Rattle.lower.specs.Offsets.{IsOffsets}
use Rattle.lower_types.specs.declared.PrimitiveType.{PrimitiveType}
use Rattle.lower_types.specs.declared.PrimitiveType.TheVariants.{Int64}
use Rattle.lower.specs.declared.datatypes.physical_type.PhysicalType.{PhysicalType}
use Rattle.lower.specs.declared.datatypes.physical_type.PhysicalType.TheVariants.{Utf8, LargeUtf8}
use Rattle.lower.specs.declared.error.Error.{Error}
use Rattle.lower.specs.declared.error.Error.TheVariants.{OutOfSpec}
use Rattle.lower.specs.declared.error.Rule.TheVariants.{ValidityLength, OffsetsPastValues, Utf8 as NotUtf8, PhysicalType as WrongType}
use Rattle.lower_flat_arrays.specs.Validities.{ValidityFits}
use Rattle.lower_flat_arrays.specs.Spans.{SpansSeen, span_count, EndsWithin, AreTexts}

-- The physical type of texts with offsets of the type p: the large form has offsets of 64 bits.
abbrev pub texts_with : PrimitiveType → PhysicalType
texts_with Int64 = LargeUtf8
texts_with _ = Utf8

-- A valid array of texts: its type is one of texts with such offsets, and the last offset is within
-- the bytes. Each slot, null or not, is UTF-8, and a validity has a bit for each slot.
pub record IsText (p : PrimitiveType) (a : SpansSeen) : Type 0 where
  pub lies : physical a.type ≡ texts_with p
  pub offsets : IsOffsets a.offsets
  pub within : EndsWithin a.offsets a.values
  pub texts : AreTexts a.offsets a.values
  pub fits : ValidityFits a.validity (span_count a.offsets)

-- The array breaks the rule that the error names.
abbrev pub BreaksText : PrimitiveType → SpansSeen → Error → Type 0
BreaksText p a (OutOfSpec WrongType) = ¬ (physical a.type ≡ texts_with p)
BreaksText p a (OutOfSpec OffsetsPastValues) = ¬ (EndsWithin a.offsets a.values)
BreaksText p a (OutOfSpec NotUtf8) = ¬ (AreTexts a.offsets a.values)
BreaksText p a (OutOfSpec ValidityLength) = ¬ (ValidityFits a.validity (span_count a.offsets))
BreaksText p a (OutOfSpec _) = ⊥
