-- Each child is smaller than its array.
use Rattle.std.specs.Prelude.{◌≤◌, max, ◌+◌, List, [], ◌∷◌, map}
use Rattle.std.proofs.Common.{arith}
use denote.Param.Weighed.{most}
use Rattle.lower_arrays.specs.Layouts.{layouts, height, heights}
use Rattle.lower_arrays.specs.AnyLayouts.{layout_of}
use Rattle.lower_arrays.specs.declared.array.AnyArray.{AnyArray}
use Rattle.lower_arrays.specs.declared.array.AnyArray.TheVariants.{Null, Boolean, Primitive, FixedSizeBinary, Binary, LargeBinary, Utf8, LargeUtf8, Dictionary, Union, List as ListOf, LargeList, FixedSizeList, Struct, Map}
use Rattle.lower_arrays.specs.declared.array.dictionary.DictionaryArray.TheDeep.{deep-AnyArray}

pub deep_le-height : (a : AnyArray) → deep-AnyArray a ≤ height (layout_of a) + 1
deep_le-height (Null a) = omega arith
deep_le-height (Boolean a) = omega arith
deep_le-height (Primitive a) = omega arith
deep_le-height (FixedSizeBinary a) = omega arith
deep_le-height (Binary a) = omega arith
deep_le-height (LargeBinary a) = omega arith
deep_le-height (Utf8 a) = omega arith
deep_le-height (LargeUtf8 a) = omega arith
deep_le-height (ListOf a) = omega arith
deep_le-height (LargeList a) = omega arith
deep_le-height (FixedSizeList a) = omega arith
deep_le-height (Struct a) = omega arith
deep_le-height (Union a) = omega arith
deep_le-height (Map a) = omega arith
deep_le-height (Dictionary a) = omega arith

pub one_child : (a : AnyArray) → max (deep-AnyArray a) 0 ≤ height (layout_of a) + 1
one_child a = omega (arith, deep_le-height a)

pub most_le-heights : (xs : List AnyArray) → most deep-AnyArray xs ≤ heights (layouts (map layout_of xs))
most_le-heights [] = omega arith
most_le-heights (x ∷ xs) = omega (arith, deep_le-height x, most_le-heights xs)
