-- Arrays that keep the rules break none.
use Rattle.std.proofs.Common.{arith}
use Rattle.lower.specs.declared.error.Error.{Error}
use Rattle.lower.specs.declared.error.Error.TheVariants.{OutOfSpec}
use Rattle.lower.specs.declared.error.Rule.TheVariants.{ValidityLength, OffsetsPastValues, ValuesLength, ZeroSize, Utf8 as NotUtf8, PhysicalType as WrongType}
use Rattle.lower_types.specs.declared.PrimitiveType.{PrimitiveType}
use Rattle.lower_flat_arrays.specs.Primitives.{PrimitiveSeen, IsPrimitive, BreaksPrimitive}
use Rattle.lower_flat_arrays.specs.Spans.{SpansSeen}
use Rattle.lower_flat_arrays.specs.Binaries.{IsBinary, BreaksBinary}
use Rattle.lower_flat_arrays.specs.Texts.{IsText, BreaksText}
use Rattle.lower_flat_arrays.specs.FixedBinaries.{FixedBinarySeen, IsFixedBinary, BreaksFixedBinary}
use Rattle.lower_flat_arrays.specs.Booleans.{BooleanSeen, IsBoolean, BreaksBoolean}

pub primitive_breaks_none : {T : Type 0} (p : PrimitiveType) (a : PrimitiveSeen T) (e : Error) → IsPrimitive p a → BreaksPrimitive p a e → ⊥
primitive_breaks_none p a (OutOfSpec WrongType) is breaks = breaks is.lies
primitive_breaks_none p a (OutOfSpec ValidityLength) is breaks = breaks is.fits
primitive_breaks_none p a (OutOfSpec _) is breaks = breaks

pub boolean_breaks_none : (a : BooleanSeen) (e : Error) → IsBoolean a → BreaksBoolean a e → ⊥
boolean_breaks_none a (OutOfSpec WrongType) is breaks = breaks is.lies
boolean_breaks_none a (OutOfSpec ValidityLength) is breaks = breaks is.fits
boolean_breaks_none a (OutOfSpec _) is breaks = breaks

pub binary_breaks_none : (p : PrimitiveType) (a : SpansSeen) (e : Error) → IsBinary p a → BreaksBinary p a e → ⊥
binary_breaks_none p a (OutOfSpec WrongType) is breaks = breaks is.lies
binary_breaks_none p a (OutOfSpec OffsetsPastValues) is breaks = breaks is.within
binary_breaks_none p a (OutOfSpec ValidityLength) is breaks = breaks is.fits
binary_breaks_none p a (OutOfSpec _) is breaks = breaks

pub text_breaks_none : (p : PrimitiveType) (a : SpansSeen) (e : Error) → IsText p a → BreaksText p a e → ⊥
text_breaks_none p a (OutOfSpec WrongType) is breaks = breaks is.lies
text_breaks_none p a (OutOfSpec OffsetsPastValues) is breaks = breaks is.within
text_breaks_none p a (OutOfSpec NotUtf8) is breaks = breaks is.texts
text_breaks_none p a (OutOfSpec ValidityLength) is breaks = breaks is.fits
text_breaks_none p a (OutOfSpec _) is breaks = breaks

pub fixed_breaks_none : (a : FixedBinarySeen) (e : Error) → IsFixedBinary a → BreaksFixedBinary a e → ⊥
fixed_breaks_none a (OutOfSpec WrongType) is breaks = breaks is.lies
fixed_breaks_none a (OutOfSpec ZeroSize) is breaks = let named = is.named in let positive = is.positive in omega (arith, named, positive, breaks)
fixed_breaks_none a (OutOfSpec ValuesLength) is breaks = breaks is.whole
fixed_breaks_none a (OutOfSpec ValidityLength) is breaks = breaks is.fits
fixed_breaks_none a (OutOfSpec _) is breaks = breaks
