-- The layout of an array of any kind.
-- (Arrow columnar format, "Physical Memory Layout".)
use Rattle.lower_types.specs.declared.PrimitiveType.TheVariants as Named
use Rattle.lower_arrays.specs.Layouts.{Layout}
use Rattle.lower_arrays.specs.Primitives.{numbers_layout}
use Rattle.lower_arrays.specs.Flat.{null_layout, boolean_layout, fixed_layout, bytes_layout, texts_layout}
use Rattle.lower_arrays.specs.Dictionaries.{dictionary_layout}
use Rattle.lower_arrays.specs.Unions.{union_layout}
use Rattle.lower_validation.specs.AnyNumbers.{numbers_seen}
use Rattle.lower_validation.specs.declared.numbers.AnyPrimitive.{AnyPrimitive}
use Rattle.lower_arrays.specs.declared.array.AnyArray.{AnyArray}
use Rattle.lower_arrays.specs.declared.array.AnyArray.TheVariants.{Null, Boolean, Primitive, FixedSizeBinary, Binary, LargeBinary, Utf8, LargeUtf8, Dictionary, Union, List as ListOf, LargeList, FixedSizeList, Struct, Map}
use Rattle.lower_arrays.specs.Lists.{list_layout_as}
use Rattle.lower_arrays.specs.FixedLists.{fixed_list_layout}
use Rattle.lower_arrays.specs.Structs.{struct_layout}
use Rattle.lower_arrays.specs.Maps.{map_layout}

-- The layout of an array of numbers of any type.
abbrev pub any_primitive_layout : AnyPrimitive → Layout
any_primitive_layout a = numbers_layout (numbers_seen a)

-- The layout of an array: its levels. The variant List names offsets of 32 bits and LargeList
-- offsets of 64 bits, whichever the array has; the other large variants have offsets of 64 bits.
abbrev pub layout_of : AnyArray → Layout
layout_of (Null a) = null_layout a
layout_of (Boolean a) = boolean_layout a
layout_of (Primitive a) = any_primitive_layout a
layout_of (FixedSizeBinary a) = fixed_layout a
layout_of (Binary a) = bytes_layout Named.Int32 a
layout_of (LargeBinary a) = bytes_layout Named.Int64 a
layout_of (Utf8 a) = texts_layout Named.Int32 a
layout_of (LargeUtf8 a) = texts_layout Named.Int64 a
layout_of (ListOf a) = list_layout_as Named.Int32 a
layout_of (LargeList a) = list_layout_as Named.Int64 a
layout_of (FixedSizeList a) = fixed_list_layout a
layout_of (Struct a) = struct_layout a
layout_of (Union a) = union_layout a
layout_of (Map a) = map_layout a
layout_of (Dictionary a) = dictionary_layout a
