-- Why a writer refuses a chunk's dictionaries if their schema can be written.
-- (Arrow columnar format, "Dictionary messages".)
use Rattle.std.specs.Prelude.{◌≡◌, Bool, IsTrue, List, [], ◌∷◌}
use Rattle.std.specs.List.{AllByRecursion}
use Rattle.ipc_devices.specs.declared.fault.Fault.{Fault}
use Rattle.ipc_devices.specs.declared.fault.Fault.TheVariants.{Argument, Memory}
use Rattle.ipc_devices.specs.declared.fault.ArgFault.TheVariants.{SharedDictionary, DictionaryReplaced, FieldsShape}
use Rattle.lower.specs.Normal.{norm}
use Rattle.lower_arrays.specs.Layouts.{Layout, layouts, type_of}
use Rattle.ipc_base.specs.IdTrees.{IdTrees}
use Rattle.ipc_model.specs.Accepted.{AreKept, AreShared}
use Rattle.ipc_model.specs.Offers.{FilledPlace, values_of, offer_of}
use Rattle.ipc_tracker.specs.Listings.{RefusesAll}
use Rattle.ipc_tracker.specs.Places.{keyed_of, HaveIds}
use Rattle.ipc_tracker.specs.Trackers.{Remembered}

-- Dictionary fields of one id have values of one type, in the normal form.
abbrev pub HaveOneType : List FilledPlace → Type 0
HaveOneType [] = Unit {0}
HaveOneType (p ∷ ps) = AllByRecursion (λ q. p.id ≡ q.id → norm (type_of p.values) ≡ norm (type_of q.values)) ps × HaveOneType ps

-- By each error, the condition of an accepted chunk that isn't met.
abbrev pub RefusesChunk : Remembered → Bool → List Layout → IdTrees → Fault → Type 0
RefusesChunk m fixed columns is Memory = Unit {0}
RefusesChunk m fixed columns is (Argument (SharedDictionary j)) = AreShared (offer_of columns is).dictionaries → ⊥
RefusesChunk m fixed columns is (Argument (DictionaryReplaced j)) =
    IsTrue fixed × (AllByRecursion (λ p. AreKept (m p.id) p.values) (offer_of columns is).dictionaries → ⊥)
RefusesChunk m fixed columns is (Argument FieldsShape) = HaveIds (keyed_of (layouts columns) is) → ⊥
RefusesChunk m fixed columns is _ = ⊥

-- Theorem: if dictionary fields of one id have one type, as in a schema that can be written, only
-- chunks that no writer accepts are refused.
abbrev pub RefusalLaw : Type 0
RefusalLaw = (m : Remembered) (fixed : Bool) (columns : List Layout) (is : IdTrees) (e : Fault) → HaveOneType (values_of (layouts columns) is)
    → RefusesAll m fixed columns is e → RefusesChunk m fixed columns is e
