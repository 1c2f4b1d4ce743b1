-- The entries of a batch, and the bytes of the device that they point to.
-- (Arrow columnar format, "RecordBatch message".)
use Rattle.ipc_devices.specs.Device.{Device}
use Rattle.std.specs.Prelude.{◌≡◌, ℕ, ◌+◌, ◌≤◌, ℤ, List, map, length, Option, None, Some, IsTrue}
use Rattle.std.specs.HashMap.{HashMap, get}
use Rattle.std.specs.Ordering.{int_eq}
use Rattle.std.specs.declared.sync.Arc.{Arc}
use Rattle.lower.specs.Normal.{norm}
use Rattle.lower.specs.TypeTrees.{null, plain}
use Rattle.lower_arrays.specs.AnyLayouts.{layout_of}
use Rattle.lower_arrays.specs.Layouts.{Layout, layout, no_layouts, nothing, type_of}
use Rattle.lower_arrays.specs.Slots.{slots}
use Rattle.lower_arrays.specs.declared.array.AnyArray.{AnyArray}
use Rattle.ipc_model.specs.Entries.{Entries, Dictionary, Dictionaries, part_at}
use Rattle.ipc_model.specs.ReadArrays.{whole_level}
use Rattle.ipc_read_flat.specs.declared.read.body.Body.{Body}
use Rattle.ipc_read_flat.specs.declared.read.body.Place.{Place}

-- The bytes of the device when reading began.
abbrev pub source : {R : Type 0} → Device R → Body R → List ℕ
source d b = (d.memory b.device.value).whole

-- An array as the values of a dictionary: its type in the normal form, and its slots.
abbrev pub dictionary_of : Layout → Dictionary
dictionary_of l = record { type = norm (type_of l); slots = slots l }

-- An id and its array, as a dictionary.
abbrev pub known_entry : {Z : Type 0} → ℤ × Arc AnyArray Z → ℤ × Dictionary
known_entry x = (x.0, dictionary_of (layout_of x.1.value))

-- The arrays of a map, which are the values of dictionaries, by their ids.
abbrev pub known_dictionaries : {Z S : Type 0} → HashMap ℤ (Arc AnyArray Z) S → Dictionaries
known_dictionaries m = map known_entry m.entries

-- What the columns of a batch are read from.
unfoldable pub entries : {R : Type 0} → Device R → Body R → Entries
entries d b = record {
  nodes = b.nodes;
  parts = map (part_at (source d b) b.base) b.buffers;
  order = b.order;
  extra = b.extra;
  dictionaries = known_dictionaries b.dictionaries.now;
}

-- The array of the values of a dictionary that isn't known: it has no slots.
abbrev pub no_values : Option ℤ → Layout
no_values id = layout (whole_level (plain null) 0 nothing) no_layouts

-- The array that was found under an id; one without slots if there is none.
abbrev pub array_found : {Z : Type 0} → Option (Arc AnyArray Z) → Layout
array_found None = no_values None
array_found (Some x) = layout_of x.value

-- The array that a map has under an id; one without slots if there is none.
abbrev pub array_under : {Z S : Type 0} → HashMap ℤ (Arc AnyArray Z) S → Option ℤ → Layout
array_under m None = no_values None
array_under m (Some id) = array_found (get int_eq m id)

-- The arrays of the dictionaries' values by id. An id without known
-- values has an array of no slots.
abbrev pub known : {R : Type 0} → Body R → Option ℤ → Layout
known b id = array_under b.dictionaries.now id

-- The batch has n nodes and m buffers from position p on.
pub record HasRoom {R : Type 0} (s : Body R) (p : Place) (n m : ℕ) : Type 0 where
  pub nodes_in : p.node + n ≤ length s.nodes
  pub buffers_in : p.buffer + m ≤ length s.buffers

-- A device whose bytes don't change has those that it had when reading began.
abbrev pub KeepsBytes : {R : Type 0} → Device R → R → Body R → Type 0
KeepsBytes d r b = IsTrue d.is_read_only → (d.memory r).whole ≡ source d b
