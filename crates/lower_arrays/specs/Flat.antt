-- The layouts of the other arrays without children.
-- (Arrow columnar format, "Physical Memory Layout".)
use Rattle.std.specs.Prelude.{None, length}
use Rattle.lower_types.specs.declared.PrimitiveType.{PrimitiveType}
use Rattle.lower_flat_arrays.specs.Nulls.{NullSeen}
use Rattle.lower_flat_arrays.specs.Booleans.{BooleanSeen}
use Rattle.lower_flat_arrays.specs.FixedBinaries.{FixedBinarySeen}
use Rattle.lower_flat_arrays.specs.Spans.{SpansSeen, span_count}
use Rattle.lower_arrays.specs.Layouts.{nothing, truths, fixed_bytes, bytes, texts, Layout, layout, no_layouts}

-- The layout of an array of nulls.
abbrev pub null_layout : NullSeen → Layout
null_layout a = layout (record { type = a.type; len = a.len; validity = None; parts = nothing }) no_layouts

-- The layout of an array of booleans.
abbrev pub boolean_layout : BooleanSeen → Layout
boolean_layout a = layout (record { type = a.type; len = length a.values; validity = a.validity; parts = truths a.values }) no_layouts

-- The layout of an array of bytes of a fixed number.
abbrev pub fixed_layout : FixedBinarySeen → Layout
fixed_layout a = layout (record { type = a.type; len = a.len; validity = a.validity; parts = fixed_bytes a.size a.values }) no_layouts

-- The layout of an array of bytes, with offsets of the type p.
abbrev pub bytes_layout : PrimitiveType → SpansSeen → Layout
bytes_layout p a =
    layout (record { type = a.type; len = span_count a.offsets; validity = a.validity; parts = bytes p a.offsets a.values }) no_layouts

-- The layout of an array of texts, with offsets of the type p.
abbrev pub texts_layout : PrimitiveType → SpansSeen → Layout
texts_layout p a =
    layout (record { type = a.type; len = span_count a.offsets; validity = a.validity; parts = texts p a.offsets a.values }) no_layouts
