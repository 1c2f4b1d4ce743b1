-- How long the metadata of a schema's batches are.
-- (Arrow columnar format, "Encapsulated message format": the length of the
-- metadata is a signed 32-bit integer.)
use Rattle.std.specs.Prelude.{◌≡◌, ℤ, ◌^◌, ◌<◌, List, [], ◌∷◌, length}
use Rattle.std.specs.List.{AllByRecursion}
use Rattle.lower.specs.Normal.{norm}
use Rattle.lower.specs.TypeTrees.{FieldTrees, Pairs}
use Rattle.lower_arrays.specs.Layouts.{Layout, Level, layouts, type_of}
use Rattle.lower_arrays.specs.Slots.{AreArrays, IsArray}
use Rattle.ipc_base.specs.IdTrees.{IdTrees}
use Rattle.ipc_model.specs.Batches.{Place, places}
use Rattle.ipc_model.specs.Offers.{body_lengths}
use Rattle.ipc_model.specs.Writable.{IsWritable}
use Rattle.ipc_plan.specs.Batches.{AreLike}
use Rattle.ipc_encode.specs.Encoding.{levels_of, metadata_length}
use Rattle.ipc_encode.specs.declared.batches.BatchKind.{BatchKind}
use Rattle.ipc_encode.specs.declared.batches.BatchKind.TheVariants.{Record, Dictionary}

-- The length of the metadata of a batch of these levels fits.
abbrev pub AreShortMetadata : BatchKind → List Level → Type 0
AreShortMetadata kind hs = metadata_length kind (length hs) (length (body_lengths hs)) < 2 ^ 31

-- The length of the metadata of a dictionary batch fits, if its values have this field's
-- value type in the normal form.
abbrev pub HasShortValues : Place → Type 0
HasShortValues p = (id : ℤ) (l : Layout) → IsArray l → norm (type_of l) ≡ norm p.type → AreShortMetadata (Dictionary id) (levels_of (l ∷ []))

-- The length of the metadata of a record batch of these fields fits, and so does that
-- of each of their dictionaries.
pub record HasShortBatches (fs : FieldTrees) (is : IdTrees) : Type 0 where
  pub columns : (ls : List Layout) → AreArrays (layouts ls) → AreLike fs (layouts ls) → AreShortMetadata Record (levels_of ls)
  pub values : AllByRecursion HasShortValues (places fs is)

-- Theorem: the metadata of all batches of a schema that can be written fit.
abbrev pub ShortMetadataLaw : Type 0
ShortMetadataLaw = (fs : FieldTrees) (metadata : Pairs) (is : IdTrees) → IsWritable fs metadata is → HasShortBatches fs is
