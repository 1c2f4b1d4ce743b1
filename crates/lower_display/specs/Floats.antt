-- Float columns, by their bits.
use Rattle.std.specs.Prelude.{ℕ, List}
use Rattle.lower_arrays.specs.Layouts.{Layout}
use Rattle.lower_arrays.specs.Slots.{Slot}
use Rattle.lower_arrays.specs.AnyLayouts.{layout_of}
use Rattle.lower_arrays.specs.Values.{value_slot}
use Rattle.lower_display.specs.declared.float.FloatDisplay.{FloatDisplay}
use Rattle.lower_display.specs.declared.float.FloatSlot.{FloatSlot}
use Rattle.lower_display.specs.declared.float.FloatType.{FloatType}

-- The column of bits.
abbrev pub float_slots : FloatDisplay → Layout
float_slots c = layout_of c.array.now

-- The type as which its slots print.
abbrev pub float_type : FloatDisplay → FloatType
float_type c = c.float

-- What a null prints.
abbrev pub float_null : FloatDisplay → List ℕ
float_null c = c.null.now

-- The slot that displays.
abbrev pub float_slot : FloatSlot → Slot
float_slot s = value_slot s.value
