-- What a dictionary batch is read as.
-- (Arrow columnar format, "Dictionary messages".)
use Rattle.std.specs.Prelude.{◌≡◌, ◌⊎◌, ℕ, ℤ, Bool, true, false, [], ◌∷◌, Option, None, Some, IsSome, IfSome, IsTrue, Result, Ok, Err}
use Rattle.std.specs.Option.{option_map}
use Rattle.std.specs.Ordering.{int_eq}
use Rattle.lower.specs.Counts.{nodes, buffers}
use Rattle.lower.specs.Normal.{norm}
use Rattle.lower.specs.TypeTrees.{TypeTree}
use Rattle.lower_types.specs.declared.Endianness.{Endianness}
use Rattle.lower_arrays.specs.AnyLayouts.{layout_of}
use Rattle.lower_arrays.specs.Cases.{HasListCases}
use Rattle.lower_arrays.specs.Layouts.{Layout, type_of}
use Rattle.lower_arrays.specs.declared.array.AnyArray.{AnyArray}
use Rattle.ipc_devices.specs.Faults.{Answers}
use Rattle.ipc_devices.specs.declared.fault.Fault.{Fault}
use Rattle.ipc_devices.specs.declared.fault.Fault.TheVariants.{OutOfSpec, NotYetImplemented}
use Rattle.ipc_devices.specs.declared.fault.Nyi.TheVariants.{Delta}
use Rattle.ipc_devices.specs.declared.fault.OutOfSpecKind.TheVariants.{InvalidFlatbufferIsDelta, InvalidFlatbufferId, InvalidFlatbufferData, MissingData, InvalidId}
use Rattle.ipc_devices.specs.declared.fault.TableFault.{TableFault}
use Rattle.ipc_table_views.specs.MessageSlots.{dictionary_batch_id, dictionary_batch_is_delta, dictionary_batch_data}
use Rattle.ipc_table_views.specs.Spot.{Spot}
use Rattle.ipc_model.specs.Batches.{Schema, kinds, Body, lists_of, record_meaning, Place, places, place_of, values_schema, dictionary_meaning}
use Rattle.ipc_model.specs.Entries.{Dictionary, Dictionaries, dictionary_at}
use Rattle.ipc_model.specs.Kinds.{Kind}
use Rattle.ipc_model.specs.TypeKinds.{kind_of}
use Rattle.ipc_read_flat.specs.Refusals.{IsFaultOf, IsColumnFault}
use Rattle.ipc_stream_lemmas.specs.Agreement.{KnowAlike}
use Rattle.ipc_read.specs.Chunks.{column_seen, HasMeaning}
use Rattle.ipc_read.specs.Refusals.{IsListFault, TellsColumns, TellsLists}
use Rattle.ipc_read.specs.Sizes.{chosen_listed}

-- ---- the values

-- The result is Ok exactly if a batch of one column has a meaning, unless an allocation or
-- the device fails. The array is then that column, of the type u: List if offsets have 32
-- bits, LargeList if they have 64.
abbrev pub GivesColumn : Schema → ℕ → Dictionaries → Body → Spot → TypeTree → Result AnyArray Fault → Type 0
GivesColumn schema extra known b t u r =
    Answers r (HasMeaning schema extra known b t None None)
    (λ x. (record_meaning schema extra known b t None None ≡ Some (column_seen x ∷ [])) × (type_of (layout_of x) ≡ u) × HasListCases (layout_of x))

-- ---- the head

-- The id of a dictionary batch that is no delta, and the batch of its values.
abbrev pub whole_head : Result ℤ TableFault → Result Bool TableFault → Result (Option Spot) TableFault → Option (ℤ × Spot)
whole_head (Ok id) (Ok false) (Ok (Some values)) = Some (id, values)
whole_head _ _ _ = None

-- The id of a dictionary batch that is no delta, and the batch of its values, by its table.
abbrev pub dictionary_head : Spot → Option (ℤ × Spot)
dictionary_head t = whole_head (dictionary_batch_id t) (dictionary_batch_is_delta t) (dictionary_batch_data t)

-- The encoded length of the buffers of a dictionary field's values; 0 without a field.
abbrev pub place_listed : ℕ → Endianness → Spot → Option Place → ℕ
place_listed extra order values None = 0
place_listed extra order values (Some p) = chosen_listed (lists_of values) extra (kinds (values_schema p order)) (0 ∷ [])

-- The encoded length of the buffers of the values of a dictionary batch with this head.
abbrev pub head_listed : Schema → ℕ → Option (ℤ × Spot) → ℕ
head_listed schema extra None = 0
head_listed schema extra (Some h) = place_listed extra schema.order h.1 (place_of (places schema.fields schema.ids) h.0)

-- The encoded length of the buffers of a dictionary batch's values.
abbrev pub values_listed : Schema → ℕ → Spot → ℕ
values_listed schema extra t = head_listed schema extra (dictionary_head t)

-- ---- the batch

-- The result is Ok exactly if the dictionary batch has a meaning, unless an allocation or the
-- device fails. The dictionaries known then are those after it.
abbrev pub GivesDictionary : {X : Type 0} → Schema → ℕ → Dictionaries → Body → Spot → Result X Fault → Dictionaries → Type 0
GivesDictionary schema extra known b t r after =
    Answers r (IsSome (dictionary_meaning schema extra known b t)) (λ _. IfSome (dictionary_meaning schema extra known b t) (λ ds. KnowAlike ds after))

-- A dictionary batch that is no delta has set the values under its id, which is that of a field;
-- those under other ids stay. If the bytes that were read are known, the values are of the type of
-- the first field with this id, both in the normal form.
pub record PutsValues (known : Bool) (schema : Schema) (t : Spot) (before after : Dictionaries) : Type 0 where
  pub id : ℤ
  pub values : Spot
  pub place : Place
  pub head : dictionary_head t ≡ Some (id, values)
  pub placed : place_of (places schema.fields schema.ids) id ≡ Some place
  pub there : IsSome (dictionary_at after id)
  pub typed : IsTrue known → option_map (λ (d : Dictionary). d.type) (dictionary_at after id) ≡ Some (norm place.type)
  pub others : (other : ℤ) → int_eq id other ≡ false → dictionary_at after other ≡ dictionary_at before other

-- The array that a dictionary batch has set under its id is List if its offsets have 32 bits,
-- and LargeList if they have 64.
abbrev pub PutsCases : Spot → (Option ℤ → Layout) → Type 0
PutsCases t after = IfSome (dictionary_head t) (λ h. HasListCases (after (Some h.0)))

-- ---- errors

-- The errors of a dictionary's values: those of the batch's lists, or of their column.
abbrev pub IsValuesFault : Kind → Fault → Type 0
IsValuesFault t e = IsListFault e ⊎ IsFaultOf t e

-- The errors of a dictionary batch itself: it is invalid, without values, or a delta.
abbrev pub IsHeadFault : Fault → Type 0
IsHeadFault (OutOfSpec (InvalidFlatbufferIsDelta e)) = Unit {0}
IsHeadFault (OutOfSpec (InvalidFlatbufferId e)) = Unit {0}
IsHeadFault (OutOfSpec (InvalidFlatbufferData e)) = Unit {0}
IsHeadFault (OutOfSpec MissingData) = Unit {0}
IsHeadFault (NotYetImplemented Delta) = Unit {0}
IsHeadFault _ = ⊥

-- By each of these errors: which field of the table is invalid, and how; that the batch is a
-- delta; or that there are no values.
abbrev pub RefusesHead : Spot → Fault → Type 0
RefusesHead t (OutOfSpec (InvalidFlatbufferIsDelta e)) = dictionary_batch_is_delta t ≡ Err e
RefusesHead t (NotYetImplemented Delta) = dictionary_batch_is_delta t ≡ Ok true
RefusesHead t (OutOfSpec (InvalidFlatbufferId e)) = dictionary_batch_id t ≡ Err e
RefusesHead t (OutOfSpec (InvalidFlatbufferData e)) = dictionary_batch_data t ≡ Err e
RefusesHead t (OutOfSpec MissingData) = dictionary_batch_data t ≡ Ok None
RefusesHead t _ = ⊥

-- By the dictionary field of a batch's id, the errors of the batch: no field has the
-- id, or an error of the values.
abbrev pub BlamesPlace : ℤ → Option Place → Fault → Type 0
BlamesPlace id None e = e ≡ OutOfSpec (InvalidId id)
BlamesPlace id (Some p) e = IsValuesFault (kind_of p.type None p.ids) e

-- By the head of a dictionary batch, its errors: those of the head, or of its field.
abbrev pub BlamesHead : Schema → Spot → Option (ℤ × Spot) → Fault → Type 0
BlamesHead schema t None e = RefusesHead t e
BlamesHead schema t (Some h) e = BlamesPlace h.0 (place_of (places schema.fields schema.ids) h.0) e

-- The errors of this dictionary batch. An error of the head is true of it. If the head is valid and
-- no field has its id, the error names the id. If a field has the id, it is an error of the values,
-- which have the type of that field.
abbrev pub BlamesDictionary : Schema → Spot → Fault → Type 0
BlamesDictionary schema t e = BlamesHead schema t (dictionary_head t) e

-- If a field has the id of the values, what an error of the values says of the table of their
-- batch. Their column takes as many nodes and buffers as the field's type.
abbrev pub TellsPlace : (extra : ℕ) → (values : Spot) → (size : ℕ) → Option Place → Fault → Type 0
TellsPlace extra values size None e = Unit {0}
TellsPlace extra values size (Some p) e = TellsLists values size (nodes p.type) (buffers extra p.type) e

-- What an error of the values says of the table of their batch, if the dictionary batch has a head.
abbrev pub TellsHead : Schema → (extra size : ℕ) → Option (ℤ × Spot) → Fault → Type 0
TellsHead schema extra size None e = Unit {0}
TellsHead schema extra size (Some h) e = TellsPlace extra h.1 size (place_of (places schema.fields schema.ids) h.0) e

-- What an error of a dictionary batch, whose body has this length, says of the batch of its values,
-- if it has a head and a field has its id.
abbrev pub TellsValues : Schema → (extra : ℕ) → Spot → (size : ℕ) → Fault → Type 0
TellsValues schema extra t size e = TellsHead schema extra size (dictionary_head t) e

-- What an error of a dictionary batch says of its values' entries, and of
-- the dictionaries that are known.
abbrev pub TellsOfValues : (known : Bool) → Schema → (extra : ℕ) → Dictionaries → Body → Spot → Fault → Type 0
TellsOfValues known schema extra ds b t e =
    IfSome (dictionary_head t) (λ h. IfSome (place_of (places schema.fields schema.ids) h.0) (λ _. TellsColumns known schema.order extra ds b h.1 e))

-- The errors of any dictionary batch; an id that no field has is reported
-- as an id without a dictionary.
abbrev pub IsDictionaryFault : Fault → Type 0
IsDictionaryFault e = IsHeadFault e ⊎ (IsListFault e ⊎ IsColumnFault e)
