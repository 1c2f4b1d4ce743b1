-- The dictionaries that a writer remembers. Values are their normalised type and their slots
-- (`dictionary_of`): a reader of the messages knows no more of them.
-- (Arrow columnar format, "Dictionary messages".)
use Rattle.std.specs.Prelude.{◌≡◌, ◌≢◌, ℤ, Bool, true, false, IsTrue, IsSome, Option, Some, None, option_map, Result, Ok, Err}
use Rattle.std.specs.HashMap as hash
use Rattle.std.specs.Ordering.{int_eq}
use Rattle.ipc_devices.specs.declared.fault.Fault.{Fault}
use Rattle.ipc_devices.specs.declared.fault.Fault.TheVariants.{Argument, Memory}
use Rattle.ipc_devices.specs.declared.fault.ArgFault.TheVariants.{DictionaryReplaced}
use Rattle.lower_arrays.specs.AnyLayouts.{layout_of}
use Rattle.lower_arrays.specs.Layouts.{Layout, layout, no_layouts, more_layouts}
use Rattle.ipc_model.specs.Entries.{Dictionary}
pub use Rattle.ipc_stream_lemmas.specs.Remembered.{Remembered, nothing_remembered, remembering, dictionary_of}
use Rattle.ipc_tracker.specs.declared.tracker.DictionaryTracker.{DictionaryTracker}

-- Both have the same values under each id.
abbrev pub IsSameMemory : Remembered → Remembered → Type 0
IsSameMemory m n = (id : ℤ) → n id ≡ m id

-- The dictionaries that a tracker remembers.
abbrev pub remembered : DictionaryTracker → ℤ → Option Dictionary
remembered t id = option_map (λ values. dictionary_of (layout_of values.value)) (hash.get int_eq t.dictionaries id)

-- The values of an array of keys.
abbrev pub values_in : Layout → Layout
values_in (layout h no_layouts) = layout h no_layouts
values_in (layout h (more_layouts c cs)) = c

-- What a tracker returns for the values of an id. Ok(true): they are new, or changed, which
-- isn't allowed if they must stay. Ok(false): they are those remembered.
-- `DictionaryReplaced`: they are changed, and those remembered must stay. `Memory`: they are
-- new or changed, and an allocation failed.
abbrev pub Asks : Remembered → Bool → ℤ → Dictionary → Result Bool Fault → Type 0
Asks m fixed id d (Ok true) = (m id ≢ Some d) × (IsTrue fixed → m id ≡ None)
Asks m fixed id d (Ok false) = m id ≡ Some d
Asks m fixed id d (Err (Argument (DictionaryReplaced j))) = (j ≡ id) × IsTrue fixed × (m id ≢ Some d) × (m id ≢ None)
Asks m fixed id d (Err Memory) = m id ≢ Some d
Asks m fixed id d (Err _) = ⊥

-- If values differ from those that are remembered and must stay, exactly this error is
-- returned, and none of allocation.
pub record TellsReplaced (m : Remembered) (fixed : Bool) (id : ℤ) (d : Dictionary) (r : Result Bool Fault) : Type 0 where
  pub told : IsTrue fixed → IsSome (m id) → m id ≢ Some d → r ≡ Err (Argument (DictionaryReplaced id))

-- What is remembered after the result.
abbrev pub After : Remembered → ℤ → Dictionary → Result Bool Fault → Remembered → Type 0
After m id d (Ok true) after = IsSameMemory (remembering id d m) after
After m id d _ after = IsSameMemory m after

-- New values are remembered. Any other result, also an error, changes nothing.
pub record Inserts (m : Remembered) (fixed : Bool) (id : ℤ) (d : Dictionary) (r : Result Bool Fault) (after : Remembered) : Type 0 where
  pub asks : Asks m fixed id d r
  pub memory : After m id d r after
