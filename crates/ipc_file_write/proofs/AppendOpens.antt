-- What is known of a writer that appends to a file.
use Rattle.std.proofs.Common.{◌≡◌, ℕ, ℤ, IsTrue, Option, Some, None, refl, sym, ◌∙◌}
use Rattle.std.specs.HashMap.{HashMap, get}
use Rattle.std.specs.Option.{option_map}
use Rattle.std.specs.Ordering.{int_eq}
use Rattle.std.specs.declared.sync.Arc.{Arc}
use Rattle.ipc_devices.specs.Device.{Device, GoesTo}
use Rattle.lower_arrays.specs.AnyLayouts.{layout_of}
use Rattle.lower_arrays.specs.declared.array.AnyArray.{AnyArray}
use Rattle.ipc_read_flat.proofs.KnownValues.{dictionary_found}
use Rattle.ipc_read_flat.specs.Bodies.{known_dictionaries}
use Rattle.ipc_read.proofs.KnownDictionaries.{known_at}
use Rattle.ipc_model.specs.Files.{FileMetadata, file_dictionaries}
use Rattle.ipc_stream_lemmas.specs.Agreement.{AreAlike}
use Rattle.ipc_stream_lemmas.specs.Remembered.{dictionary_of}
use Rattle.ipc_write.specs.declared.stream.WriterState.TheVariants.{Started}
use Rattle.ipc_file_lemmas.specs.Appending.{goes_on}
use Rattle.ipc_file_write.specs.Appends.{GoesOn, MayGoOn}
use Rattle.ipc_file_write.specs.FileWriters.{FileSeen}

found-same : {Z : Type 0} (o : Option (Arc AnyArray Z)) → option_map (λ (values : Arc AnyArray Z). dictionary_of (layout_of values.value)) o ≡ dictionary_found o
found-same None = refl
found-same (Some x) = refl

-- The parts of a writer that appends to a file.
pub record IsMadeOf {W : Type 0} (m : FileMetadata) (w : FileSeen W) : Type 0 where
  pub state : w.state ≡ Started
  pub order : w.order ≡ m.schema.order
  pub fields : w.fields ≡ m.schema.fields
  pub metadata : w.metadata ≡ m.schema.metadata
  pub ids : w.ids ≡ m.schema.ids
  pub pairs : w.pairs ≡ m.pairs
  pub dictionaries : w.dictionaries ≡ m.dictionaries
  pub blocks : w.blocks ≡ m.blocks
  pub size : w.size ≡ m.size

pub opened : {W Z S : Type 0} (d : Device W) (m : FileMetadata) (device : W) (w : FileSeen W) (place : ℕ) (entries : HashMap ℤ (Arc AnyArray Z) S) → MayGoOn m → place ≡ goes_on m
    → (IsTrue d.is_memory → GoesTo (d.memory device) (d.memory w.device) place)
    → (IsTrue d.is_memory → AreAlike (file_dictionaries m (d.memory device).whole) (Some (known_dictionaries entries)))
    → ((id : ℤ) → w.remembers id ≡ option_map (λ (values : Arc AnyArray Z). dictionary_of (layout_of values.value)) (get int_eq entries id)) → w.place ≡ place → IsMadeOf m w
    → GoesOn d m device w
opened d m device w place entries may at sought alike remembers is_at made = record {
  may = may;
  state = made.state;
  order = made.order;
  fields = made.fields;
  metadata = made.metadata;
  ids = made.ids;
  pairs = made.pairs;
  dictionaries = made.dictionaries;
  blocks = made.blocks;
  size = made.size;
  place = is_at ∙ at;
  stands = λ k. let s = sought k in record { whole = s.whole; place = s.place ∙ at };
  remembers = λ k. record { found = known_dictionaries entries; alike = alike k; each = λ id. remembers id ∙ found-same (get int_eq entries id) ∙ sym (known_at entries id) };
}
