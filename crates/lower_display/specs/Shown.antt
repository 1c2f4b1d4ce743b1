-- What columns and slots display.
use Rattle.std.specs.Prelude.{ℕ, List, Option, Some}
use Rattle.lower.specs.TypeTrees.{TypeTree}
use Rattle.lower.specs.TypeViews.{type_view}
use Rattle.lower_arrays.specs.Layouts.{len_of}
use Rattle.lower_arrays.specs.Slots.{slot_at}
use Rattle.lower_arrays.specs.AnyLayouts.{layout_of}
use Rattle.lower_arrays.specs.Values.{value_slot}
use Rattle.lower_display.specs.declared.display.ColumnDisplay.{ColumnDisplay}
use Rattle.lower_display.specs.declared.column.SlotDisplay.{SlotDisplay}
use Rattle.lower_display.specs.Texts.{slot_text}

-- How many slots a column has.
abbrev pub column_len : ColumnDisplay → ℕ
column_len c = len_of (layout_of c.array.now)

-- The type by which a column prints.
abbrev pub column_type : ColumnDisplay → TypeTree
column_type c = type_view c.kind.data_type.now

-- The text of slot i of a column.
abbrev pub column_text : ColumnDisplay → ℕ → List ℕ
column_text c i = slot_text (column_type c) c.null.now (slot_at (layout_of c.array.now) i)

-- What a slot displays.
abbrev pub shown_text : SlotDisplay → Option (List ℕ)
shown_text s = Some (slot_text (type_view s.kind.data_type.now) s.null.now (value_slot s.value))
