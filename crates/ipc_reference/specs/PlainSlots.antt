-- What the program's slots mean.
-- (Arrow columnar format, "Physical Memory Layout".)
use Rattle.std.specs.Prelude.{List, map}
use Rattle.lower_types.specs.NumberTypes.{whole}
use Rattle.lower_arrays.specs.Slots.{Slot, null_slot, number_slot, text_slot, list_slot, record_slot, slots_of}
use Rattle.ipc_reference.specs.declared.slots.PlainSlot.{PlainSlot, fold-PlainSlot}
use Rattle.ipc_reference.specs.declared.slots.PlainSlot.TheOpen.{PlainSlot-F}

-- One level of a slot, given its children.
abbrev pub slot_step : PlainSlot-F Slot → Slot
slot_step PlainSlot-F.Null = null_slot
slot_step (PlainSlot-F.Number z) = number_slot (whole z)
slot_step (PlainSlot-F.Text bytes) = text_slot bytes.items
slot_step (PlainSlot-F.List items) = list_slot (slots_of items.items)
slot_step (PlainSlot-F.Record fields) = record_slot (slots_of fields.items)

-- What one of the program's slots means.
abbrev pub slot_view : PlainSlot → Slot
slot_view = fold-PlainSlot Slot slot_step

-- What some of the program's slots mean.
abbrev pub slots_view : List PlainSlot → List Slot
slots_view xs = map slot_view xs
