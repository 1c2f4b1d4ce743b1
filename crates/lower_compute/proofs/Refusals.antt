-- Parts of an array that keep its rules aren't refused.
use Rattle.std.proofs.Common.{◌≡◌, ◌*◌, ◌<◌, arith, length}
use Rattle.lower.specs.Physical.{physical}
use Rattle.lower_types.specs.declared.PrimitiveType.{PrimitiveType}
use Rattle.lower.specs.declared.datatypes.physical_type.PhysicalType.TheVariants.{Primitive, FixedSizeBinary}
use Rattle.lower.specs.declared.error.Error.{Error}
use Rattle.lower.specs.declared.error.Error.TheVariants.{OutOfSpec}
use Rattle.lower.specs.declared.error.Rule.TheVariants.{ValidityLength, ValuesLength, ZeroSize, OffsetsPastValues, Utf8 as NotUtf8, PhysicalType as WrongType}
use Rattle.lower_flat_arrays.specs.Validities.{ValidityFits}
use Rattle.lower_flat_arrays.specs.Primitives.{PrimitiveSeen, BreaksPrimitive}
use Rattle.lower_flat_arrays.specs.Spans.{SpansSeen, span_count, EndsWithin, AreTexts}
use Rattle.lower_flat_arrays.specs.Binaries.{bytes_with, BreaksBinary}
use Rattle.lower_flat_arrays.specs.Texts.{texts_with, BreaksText}
use Rattle.lower_flat_arrays.specs.FixedBinaries.{FixedBinarySeen, BreaksFixedBinary, byte_size}

pub primitive_kept : {T : Type 0} (p : PrimitiveType) (a : PrimitiveSeen T) (e : Error) → physical a.type ≡ Primitive p → ValidityFits a.validity (length a.values) → BreaksPrimitive p a e → ⊥
primitive_kept p a (OutOfSpec WrongType) lies fits breaks = breaks lies
primitive_kept p a (OutOfSpec ValidityLength) lies fits breaks = breaks fits
primitive_kept p a (OutOfSpec _) lies fits breaks = breaks

pub fixed_kept : (a : FixedBinarySeen) (e : Error) → physical a.type ≡ FixedSizeBinary → 0 < byte_size a.type → length a.values ≡ a.len * a.size
    → ValidityFits a.validity a.len → BreaksFixedBinary a e → ⊥
fixed_kept a (OutOfSpec WrongType) lies some whole fits breaks = breaks lies
fixed_kept a (OutOfSpec ZeroSize) lies some whole fits breaks = omega (arith, some, breaks)
fixed_kept a (OutOfSpec ValuesLength) lies some whole fits breaks = breaks whole
fixed_kept a (OutOfSpec ValidityLength) lies some whole fits breaks = breaks fits
fixed_kept a (OutOfSpec _) lies some whole fits breaks = breaks

pub binary_kept : (p : PrimitiveType) (a : SpansSeen) (e : Error) → physical a.type ≡ bytes_with p → EndsWithin a.offsets a.values
    → ValidityFits a.validity (span_count a.offsets) → BreaksBinary p a e → ⊥
binary_kept p a (OutOfSpec WrongType) lies within fits breaks = breaks lies
binary_kept p a (OutOfSpec OffsetsPastValues) lies within fits breaks = breaks within
binary_kept p a (OutOfSpec ValidityLength) lies within fits breaks = breaks fits
binary_kept p a (OutOfSpec _) lies within fits breaks = breaks

pub text_kept : (p : PrimitiveType) (a : SpansSeen) (e : Error) → physical a.type ≡ texts_with p → EndsWithin a.offsets a.values → AreTexts a.offsets a.values
    → ValidityFits a.validity (span_count a.offsets) → BreaksText p a e → ⊥
text_kept p a (OutOfSpec WrongType) lies within texts fits breaks = breaks lies
text_kept p a (OutOfSpec OffsetsPastValues) lies within texts fits breaks = breaks within
text_kept p a (OutOfSpec NotUtf8) lies within texts fits breaks = breaks texts
text_kept p a (OutOfSpec ValidityLength) lies within texts fits breaks = breaks fits
text_kept p a (OutOfSpec _) lies within texts fits breaks = breaks
