-- Columns without a schema, as those of their own types.
use Rattle.std.proofs.Common.{List, [], ◌∷◌, refl}
use Rattle.std.specs.List.{AllByRecursion}
use Rattle.lower_arrays.specs.Layouts.{Layout, layouts}
use Rattle.lower_arrays.specs.Slots.{AreArrays}
use Rattle.ipc_base.specs.IdTrees.{IdTrees}
use Rattle.ipc_model.specs.Offers.{values_of}
use Rattle.ipc_model.specs.Writable.{IsWritable}
use Rattle.ipc_plan.specs.Batches.{AreLike}
use Rattle.ipc_tracker.specs.Laws.{HaveOneType}
use Rattle.ipc_tracker.specs.Places.{HaveIds, keyed_of}
use Rattle.ipc_chunks.proofs.Dictionaries.{have_ids, one_type_of, short_places}
use Rattle.ipc_chunks.proofs.MessageLengths.{HaveShortMetadata}
use Rattle.ipc_chunks.specs.Chunks.{encoded_fields}

-- the columns have the types of their own fields
pub own_like : (ls : List Layout) → AreLike (encoded_fields ls) (layouts ls)
own_like [] = tt
own_like (l ∷ ls) = (refl, own_like ls)

pub own_type : (ls : List Layout) (is : IdTrees) → AreArrays (layouts ls) → IsWritable (encoded_fields ls) [] is → HaveOneType (values_of (layouts ls) is)
own_type ls is arrays w = one_type_of (encoded_fields ls) [] is ls arrays w (own_like ls)

pub own_short : (ls : List Layout) (is : IdTrees) → AreArrays (layouts ls) → IsWritable (encoded_fields ls) [] is → AllByRecursion HaveShortMetadata (values_of (layouts ls) is)
own_short ls is arrays w = short_places (encoded_fields ls) [] is ls arrays w (own_like ls)

pub own_ids : (ls : List Layout) (is : IdTrees) → AreArrays (layouts ls) → IsWritable (encoded_fields ls) [] is → HaveIds (keyed_of (layouts ls) is)
own_ids ls is arrays w = have_ids (encoded_fields ls) [] is ls arrays w (own_like ls)
