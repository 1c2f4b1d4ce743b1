-- Which condition a refused chunk doesn't meet.
use Rattle.std.proofs.Common.{◌≡◌, Bool, List, [], ◌∷◌, sym, subst, arith, inl, inr}
use Rattle.lower.specs.TypeTrees.{TypeTree}
use Rattle.lower_arrays.specs.Layouts.{Layout, layouts, len_of}
use Rattle.lower_arrays.specs.Slots.{AreArrays}
use Rattle.ipc_base.specs.Chunks.{row_count}
use Rattle.ipc_base.specs.IdTrees.{IdTrees}
use Rattle.ipc_devices.specs.Faults.{OwnFault}
use Rattle.ipc_devices.specs.declared.fault.ArgFault.TheVariants.{ColumnCount, DictionaryReplaced, FieldsShape, NotWritable, SharedDictionary, TooLarge, TooLong}
use Rattle.ipc_devices.specs.declared.fault.Fault.{Fault}
use Rattle.ipc_devices.specs.declared.fault.Fault.TheVariants.{Argument, Memory}
use Rattle.ipc_encode.proofs.ShortMetadata.{short_metadata_law}
use Rattle.ipc_encode.specs.Encoding.{RefusesBatch, levels_of}
use Rattle.ipc_encode.specs.declared.batches.BatchKind.TheVariants.{Record}
use Rattle.ipc_model.specs.Accepted.{fields_of}
use Rattle.ipc_model.specs.Offers.{FilledPlace, values_of}
use Rattle.ipc_model.specs.Writable.{IsWritable}
use Rattle.ipc_tracker.proofs.Refusals.{refusal_law}
use Rattle.ipc_tracker.specs.Listings.{ListsUnwritten, RefusesAll}
use Rattle.ipc_tracker.specs.Trackers.{Remembered, dictionary_of, remembering}
use Rattle.ipc_chunks.proofs.Acceptance.{fit_number, types_same}
use Rattle.ipc_chunks.proofs.MessageLengths.{last_body, last_lens, rows_short, some_large, some_long}
use Rattle.ipc_chunks.proofs.Types.{own_ids, own_like, own_short, own_type}
use Rattle.ipc_chunks.specs.Chunks.{RefusesChunk, RefusesColumns, encoded_fields}
use Rattle.ipc_chunks.specs.Messages.{RefusesMessages, RefusesSome, RefusesValues}
use Rattle.ipc_chunks.specs.Laws.{IsTaken, Misses, MissesLaw}

-- ---- the values to write are among the dictionary fields

pub some_listed : (m : Remembered) (ps ws : List FilledPlace) (e : Fault) → ListsUnwritten m ps ws → RefusesSome ws e → RefusesSome ps e
some_listed m [] ws e l h = subst (λ (vs : List FilledPlace). RefusesSome vs e) l h
some_listed m (p ∷ ps) ws e (inl l) h = inr (some_listed m ps ws e l.1 h)
some_listed m (p ∷ ps) ws e (inr l) h =
    elim (subst (λ (vs : List FilledPlace). RefusesSome vs e) l.2 h) [
      | inl here ↦ inl here
      | inr rest ↦ inr (some_listed (remembering p.id (dictionary_of p.values) m) ps l.1 e l.3 rest)
    ]

-- ---- errors

columns_miss : (m : Remembered) (fixed : Bool) (columns : List Layout) (is : IdTrees) (e : Fault) → RefusesColumns columns is e → Misses m fixed columns is e
columns_miss m fixed columns is Memory h = tt
columns_miss m fixed columns is (Argument ColumnCount) h = h
columns_miss m fixed columns is (Argument FieldsShape) h = h.1
columns_miss m fixed columns is (Argument NotWritable) h = h.1
columns_miss m fixed columns is _ h = absurd h

places_miss : (m : Remembered) (fixed : Bool) (columns : List Layout) (is : IdTrees) (e : Fault) → AreArrays (layouts columns) → IsWritable (encoded_fields columns) [] is → RefusesAll m fixed columns is e
    → Misses m fixed columns is e
places_miss m fixed columns is Memory arrays w h = tt
places_miss m fixed columns is (Argument (SharedDictionary j)) arrays w h = refusal_law m fixed columns is (Argument (SharedDictionary j)) (own_type columns is arrays w) h
places_miss m fixed columns is (Argument (DictionaryReplaced j)) arrays w h = refusal_law m fixed columns is (Argument (DictionaryReplaced j)) (own_type columns is arrays w) h
places_miss m fixed columns is (Argument FieldsShape) arrays w h = absurd (h (own_ids columns is arrays w))
places_miss m fixed columns is _ arrays w h = absurd h

-- what refuses a message
abbrev pub IsOfMessage : Fault → Type 0
IsOfMessage Memory = Unit {0}
IsOfMessage (Argument TooLong) = Unit {0}
IsOfMessage (Argument TooLarge) = Unit {0}
IsOfMessage _ = ⊥

of_values : (p : FilledPlace) (e : Fault) → RefusesValues p e → IsOfMessage e
of_values p Memory h = tt
of_values p (Argument TooLong) h = tt
of_values p (Argument TooLarge) h = tt
of_values p _ h = absurd h

pub of_some : (ps : List FilledPlace) (e : Fault) → RefusesSome ps e → IsOfMessage e
of_some [] e h = absurd h
of_some (p ∷ ps) e (inl h) = of_values p e h
of_some (p ∷ ps) e (inr h) = of_some ps e h

some_miss : (m : Remembered) (fixed : Bool) (columns : List Layout) (is : IdTrees) (e : Fault) → AreArrays (layouts columns) → IsWritable (encoded_fields columns) [] is
    → RefusesSome (values_of (layouts columns) is) e → IsOfMessage e → Misses m fixed columns is e
some_miss m fixed columns is Memory arrays w h k = tt
some_miss m fixed columns is (Argument TooLong) arrays w h k = λ s. some_long (values_of (layouts columns) is) columns h s
some_miss m fixed columns is (Argument TooLarge) arrays w h k = λ s. some_large (values_of (layouts columns) is) columns (own_short columns is arrays w) h s
some_miss m fixed columns is _ arrays w h k = absurd k

record_miss : (m : Remembered) (fixed : Bool) (columns : List Layout) (is : IdTrees) (e : Fault) → AreArrays (layouts columns) → IsWritable (encoded_fields columns) [] is
    → RefusesBatch Record (row_count len_of columns) (levels_of columns) e → Misses m fixed columns is e
record_miss m fixed columns is Memory arrays w h = tt
record_miss m fixed columns is (Argument TooLong) arrays w h = λ s.
    let short = last_lens (values_of (layouts columns) is) columns s in
    h (rows_short columns short) short
record_miss m fixed columns is (Argument TooLarge) arrays w (inl big) = λ s.
    let fits = last_body (values_of (layouts columns) is) columns s in omega (arith, big, fits)
record_miss m fixed columns is (Argument TooLarge) arrays w (inr long) = λ s.
    let short = (short_metadata_law (encoded_fields columns) [] is w).columns columns arrays (own_like columns) in omega (arith, long, short)
record_miss m fixed columns is _ arrays w h = absurd h

memory_miss : (m : Remembered) (fixed : Bool) (columns : List Layout) (is : IdTrees) (e : Fault) → e ≡ Memory → Misses m fixed columns is e
memory_miss m fixed columns is e h = subst (λ (f : Fault). Misses m fixed columns is f) (sym h) tt

places_some : (m : Remembered) (fixed : Bool) (columns : List Layout) (is : IdTrees) (e : Fault) → AreArrays (layouts columns) → IsWritable (encoded_fields columns) [] is
    → RefusesSome (values_of (layouts columns) is) e → Misses m fixed columns is e
places_some m fixed columns is e arrays w h = some_miss m fixed columns is e arrays w h (of_some (values_of (layouts columns) is) e h)

listed_miss : (m : Remembered) (fixed : Bool) (columns : List Layout) (is : IdTrees) (e : Fault) (ws : List FilledPlace) → AreArrays (layouts columns) → IsWritable (encoded_fields columns) [] is
    → ListsUnwritten m (values_of (layouts columns) is) ws → RefusesMessages ws columns e → Misses m fixed columns is e
listed_miss m fixed columns is e ws arrays w l (inl (inl h)) = places_some m fixed columns is e arrays w (some_listed m (values_of (layouts columns) is) ws e l h)
listed_miss m fixed columns is e ws arrays w l (inl (inr h)) = memory_miss m fixed columns is e h
listed_miss m fixed columns is e ws arrays w l (inr h) = record_miss m fixed columns is e arrays w h

chunk_misses : (m : Remembered) (fixed : Bool) (columns : List Layout) (is : IdTrees) (e : Fault) → AreArrays (layouts columns) → RefusesChunk m fixed columns is e → Misses m fixed columns is e
chunk_misses m fixed columns is e arrays (inl h) = columns_miss m fixed columns is e h
chunk_misses m fixed columns is e arrays (inr (w, inl (inl h))) = places_miss m fixed columns is e arrays w h
chunk_misses m fixed columns is e arrays (inr (w, inl (inr h))) = places_some m fixed columns is e arrays w h
chunk_misses m fixed columns is e arrays (inr (w, inr (inl h))) = listed_miss m fixed columns is e h.list arrays w h.lists.lists h.refused
chunk_misses m fixed columns is e arrays (inr (w, inr (inr h))) = memory_miss m fixed columns is e h

-- ---- what isn't accepted

own_writable : (m : Remembered) (fixed : Bool) (columns : List Layout) (is : IdTrees) → IsTaken m fixed columns is → IsWritable (encoded_fields columns) [] is
own_writable m fixed columns is t = subst (λ (ts : List TypeTree). IsWritable (fields_of ts) [] is) (types_same columns is) t.accepted.writable

not_taken : (m : Remembered) (fixed : Bool) (columns : List Layout) (is : IdTrees) (e : Fault) → Misses m fixed columns is e → OwnFault e (IsTaken m fixed columns is → ⊥)
not_taken m fixed columns is Memory h = tt
not_taken m fixed columns is (Argument ColumnCount) h = λ t. h (fit_number columns is (own_writable m fixed columns is t).fits)
not_taken m fixed columns is (Argument FieldsShape) h = λ t. h (own_writable m fixed columns is t).fits
not_taken m fixed columns is (Argument NotWritable) h = λ t. h (own_writable m fixed columns is t)
not_taken m fixed columns is (Argument (SharedDictionary j)) h = λ t. h t.accepted.accepted.shared
not_taken m fixed columns is (Argument (DictionaryReplaced j)) h = λ t. h.1 (t.kept h.0)
not_taken m fixed columns is (Argument TooLong) h = λ t. h t.accepted.accepted.nodes
not_taken m fixed columns is (Argument TooLarge) h = λ t. h t.accepted.accepted.bodies
not_taken m fixed columns is _ h = absurd h

pub misses_law : MissesLaw
misses_law m fixed columns is e arrays h =
    let missed = chunk_misses m fixed columns is e arrays h in
    (missed, not_taken m fixed columns is e missed)
