-- What was read of the columns of a body, in the requested order.
use Rattle.std.proofs.Common.{true, ◌≡◌, ℕ, List, length, Option, None, Some, Ok, Err, refl, sym, subst}
use Rattle.lower.specs.TypeTrees.{Pairs}
use Rattle.lower.specs.TypeViews.{fields_view}
use Rattle.lower.specs.declared.datatypes.Field.{Field}
use Rattle.lower_types.specs.declared.Endianness.{Endianness}
use Rattle.lower_arrays.specs.declared.array.AnyArray.{AnyArray}
use Rattle.ipc_base.specs.IdTrees.{IdTrees}
use Rattle.ipc_devices.specs.Faults.{OwnFault}
use Rattle.ipc_devices.specs.declared.fault.Fault.{Fault}
use Rattle.ipc_devices.specs.declared.fault.Fault.TheVariants.{Memory}
use Rattle.ipc_table_views.specs.Spot.{Spot}
use Rattle.ipc_table_views.specs.declared.schema.MetadataVersion.{MetadataVersion}
use Rattle.ipc_model.specs.Batches.{chosen, extra_of, lists_of}
use Rattle.ipc_model.specs.Kinds.{count}
use Rattle.ipc_model.specs.Streams.{Known}
use Rattle.ipc_model.specs.TypeKinds.{kinds_of}
use Rattle.ipc_projection.specs.ChosenColumns.{AreAsMany, AreOrdered, AreShuffled, asked_by, rising_by}
use Rattle.ipc_projection.specs.declared.read.chosen.ChosenColumns.{ChosenColumns}
use Rattle.ipc_read.proofs.AskedColumns.{faults_in_order}
use Rattle.ipc_read.proofs.AskedSums.{held_in_order}
use Rattle.ipc_read.proofs.Fields.{field_count}
use Rattle.ipc_read.specs.Chunks.{GivesBatch}
use Rattle.ipc_read.specs.HeldChunks.{HoldChosen}
use Rattle.ipc_read.specs.Refusals.{IsFaultOfBatch, TellsBatch, TellsColumns}
use Rattle.ipc_readers.proofs.AskedBatches.{given_in_order, refused_in_order}
use Rattle.ipc_readers.proofs.Bodies.{asks, bare, batch_faults, columns_give, first}
use Rattle.ipc_readers.specs.ChosenStreams.{Request}
use Rattle.ipc_readers.specs.Refusals.{IsStreamFault}
use Rattle.ipc_readers.specs.Streams.{GivesHeld, HoldsRecord}

module _ (c : Option ChosenColumns) (ds : List Field) (ms : Pairs) (is : IdTrees) (o : Endianness) (version : MetadataVersion) (same : AreShuffled c) where
  -- The errors that the columns in ascending order can have.
  abbrev pub Blames : Fault → Type 0
  Blames e = OwnFault e (IsFaultOfBatch (kinds_of (fields_view ds) is) (chosen (rising_by c) (length ds)) e)

  asked_faults : (e : Fault) → Blames e → OwnFault e (IsFaultOfBatch (kinds_of (fields_view ds) is) (chosen (asked_by c) (count (kinds_of (fields_view ds) is))) e)
  asked_faults e only =
      let ts = kinds_of (fields_view ds) is in
      faults_in_order ts e (count ts) c same
      (subst (λ (n : ℕ). OwnFault e (IsFaultOfBatch ts (chosen (rising_by c) n) e)) (sym (field_count ds is)) only)

  pub stream_faults : (e : Fault) → Blames e → OwnFault e (IsStreamFault (asks (fields_view ds) ms is o version (asked_by c)) e)
  stream_faults e only = batch_faults (fields_view ds) ms is o version (asked_by c) e (asked_faults e only)

  asked_holds : (t : Spot) (most : ℕ) (read given : List AnyArray) → AreAsMany c (length read) → AreOrdered c read given
      → HoldChosen most (lists_of t) (extra_of version) (kinds_of (fields_view ds) is) (chosen (rising_by c) (length ds)) read
      → HoldsRecord (asks (fields_view ds) ms is o version (asked_by c)) t most given
  asked_holds t most read given many moved h =
      let ts = kinds_of (fields_view ds) is in
      held_in_order c (count ts) most (lists_of t) (extra_of version) ts read given same many moved
      (subst (λ (n : ℕ). HoldChosen most (lists_of t) (extra_of version) ts (chosen (rising_by c) n) read) (sym (field_count ds is)) h)

  module _ (k : Known) (t : Spot) (body : List ℕ) where
    pub given_columns : (read given : List AnyArray) → AreAsMany c (length read) → AreOrdered c read given
        → HoldChosen (length body) (lists_of t) (extra_of version) (kinds_of (fields_view ds) is) (chosen (rising_by c) (length ds)) read
        → GivesBatch (bare (fields_view ds) is o) (extra_of version) k.dictionaries (first body (length body)) t (rising_by c) None (Ok read)
        → GivesHeld (asks (fields_view ds) ms is o version (asked_by c)) k 3 t body (Ok (Some given)) (record { dictionaries = k.dictionaries; count = 0 })
    given_columns read given many moved holds g =
        columns_give (fields_view ds) ms is o version (asked_by c) k t body (Ok given) (record { dictionaries = k.dictionaries; count = 0 }) (refl, refl) tt tt tt (asked_holds t (length body) read given many moved holds)
        (given_in_order c (bare (fields_view ds) is o) (extra_of version) k.dictionaries (first body (length body)) t read given same many moved g)

    pub refused_columns : (e : Fault) → Blames e → TellsBatch (bare (fields_view ds) is o) (extra_of version) t (length body) e
        → TellsColumns true o (extra_of version) k.dictionaries (first body (length body)) t e
        → GivesBatch (bare (fields_view ds) is o) (extra_of version) k.dictionaries (first body (length body)) t (rising_by c) None (Err e)
        → GivesHeld (asks (fields_view ds) ms is o version (asked_by c)) k 3 t body (Err e) k
    refused_columns e only told named g =
        columns_give (fields_view ds) ms is o version (asked_by c) k t body (Err e) k tt (asked_faults e only) told named tt
        (refused_in_order c (bare (fields_view ds) is o) (extra_of version) k.dictionaries (first body (length body)) t e same g)

-- An error of allocation says nothing of the body.
pub no_memory : (h : Request) (k : Known) (tag : ℕ) (t : Spot) (body : List ℕ) (e : Fault) (l : Known) → e ≡ Memory → GivesHeld h k tag t body (Err e) l
no_memory h k tag t body e l is =
    subst (λ (x : Fault). GivesHeld h k tag t body (Err x) l) (sym is) (record { each = λ ys. record { each = λ s at. tt } })
