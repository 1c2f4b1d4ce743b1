-- The exact result of `write` of a stream writer.
use Rattle.std.proofs.Common.{◌≡◌, ℕ, arith, false, List, length, map, Option, None, Some, IfSome, IsSomeAnd, ◌⊎◌, inl, inr, Result, Ok, Err, sym, ap, ◌∙◌, subst}
use Rattle.lower.specs.TypeTrees.{FieldTrees, Pairs, TypeTree}
use Rattle.lower_arrays.specs.AnyLayouts.{layout_of}
use Rattle.lower_arrays.specs.Layouts.{Layout, layouts, len_of}
use Rattle.lower_arrays.specs.declared.array.AnyArray.{AnyArray}
use Rattle.ipc_base.specs.Chunks.{row_count}
use Rattle.ipc_base.specs.IdTrees.{IdTrees}
use Rattle.ipc_chunks.proofs.MessageLengths.{last_body, last_lens, rows_short, some_large, some_long}
use Rattle.ipc_chunks.proofs.Refusals.{IsOfMessage, of_some, some_listed}
use Rattle.ipc_chunks.specs.Messages.{RefusesMessages, RefusesPlaces, RefusesSome}
use Rattle.ipc_devices.specs.Faults.{OnIo, OwnFault}
use Rattle.ipc_devices.specs.declared.fault.ArgFault.TheVariants.{ColumnCount, ColumnType, DictionaryReplaced, FieldsDiffer, FieldsShape, SharedDictionary, TooLarge, TooLong}
use Rattle.ipc_devices.specs.declared.fault.Fault.{Fault}
use Rattle.ipc_devices.specs.declared.fault.Fault.TheVariants.{Argument, Io, Memory, State}
use Rattle.ipc_encode.proofs.ShortMetadata.{short_metadata_law}
use Rattle.ipc_devices.specs.declared.fault.StateFault.{StateFault}
use Rattle.ipc_encode.specs.Encoding.{IsEncodable, RefusesBatch, levels_of}
use Rattle.ipc_encode.specs.declared.batches.BatchKind.TheVariants.{Record}
use Rattle.ipc_model.specs.Offers.{FilledPlace, values_of}
use Rattle.ipc_model.specs.Writable.{IsWritable}
use Rattle.ipc_tracker.proofs.Refusals.{refusal_law}
use Rattle.ipc_tracker.specs.Listings.{RefusesAll}
use Rattle.ipc_write.specs.Meaning.{normal_types}
use Rattle.ipc_write.specs.Messages.{RefusesHanding}
use Rattle.ipc_write.specs.Writers.{FitTypes, HaveTypes, MayBeWritten, MayList, MissesWrite, RefusesChunk, RefusesState, RefusesTypes, RefusesWrite, StateComesFirst, WriterSeen, WritesExactly, fault_unless_new, fault_unless_started}
use Rattle.ipc_write.specs.declared.stream.WriterState.TheVariants.{New, Started}
use Rattle.ipc_write.proofs.Acceptance.{accepted, have_types, like_fields, same_count}
use Rattle.ipc_chunks.proofs.Dictionaries.{have_ids, one_type_of, short_places}

-- ---- which condition isn't met

module _ {W : Type 0} (w : WriterSeen W) (columns : List AnyArray) (ids : Option IdTrees) (fs : FieldTrees) (es : Pairs) (writable : IsWritable fs es w.ids) (same : normal_types fs ≡ w.types) where
  -- the columns have the types of the fields
  have_of : FitTypes w columns → HaveTypes columns (normal_types fs)
  have_of f = subst (λ (types : List TypeTree). HaveTypes columns types) (sym same) f.have

  types_miss : (HaveTypes columns w.types → ⊥) → MissesWrite w fs columns ids (Argument ColumnType)
  types_miss h = λ t. h (subst (λ (types : List TypeTree). HaveTypes columns types) same (have_types columns fs w.ids t))

  count_miss : (length columns ≡ length w.types → ⊥) → MissesWrite w fs columns ids (Argument ColumnCount)
  count_miss h = λ t. h (same_count columns fs w.ids t ∙ ap (λ (types : List TypeTree). length types) same)

  shared_miss : (j : _) → FitTypes w columns → RefusesAll w.dictionaries false (map layout_of columns) w.ids (Argument (SharedDictionary j)) → MissesWrite w fs columns ids (Argument (SharedDictionary j))
  shared_miss j f h =
      refusal_law w.dictionaries false (map layout_of columns) w.ids (Argument (SharedDictionary j))
      (one_type_of fs es w.ids (map layout_of columns) f.arrays writable (like_fields columns fs (have_of f))) h

  no_shape : FitTypes w columns → RefusesAll w.dictionaries false (map layout_of columns) w.ids (Argument FieldsShape) → ⊥
  no_shape f h = h (have_ids fs es w.ids (map layout_of columns) f.arrays writable (like_fields columns fs (have_of f)))

  long_miss : FitTypes w columns
      → RefusesSome (values_of (layouts (map layout_of columns)) w.ids) (Argument TooLong)
      ⊎ RefusesBatch Record (row_count len_of (map layout_of columns)) (levels_of (map layout_of columns)) (Argument TooLong) → MissesWrite w fs columns ids (Argument TooLong)
  long_miss f (inl h) = λ s. some_long (values_of (layouts (map layout_of columns)) w.ids) (map layout_of columns) h s
  long_miss f (inr h) = λ s.
      let short = last_lens (values_of (layouts (map layout_of columns)) w.ids) (map layout_of columns) s in
      h (rows_short (map layout_of columns) short) short

  large_miss : FitTypes w columns
      → RefusesSome (values_of (layouts (map layout_of columns)) w.ids) (Argument TooLarge)
      ⊎ RefusesBatch Record (row_count len_of (map layout_of columns)) (levels_of (map layout_of columns)) (Argument TooLarge) → MissesWrite w fs columns ids (Argument TooLarge)
  large_miss f (inl h) = λ s.
      some_large (values_of (layouts (map layout_of columns)) w.ids) (map layout_of columns)
      (short_places fs es w.ids (map layout_of columns) f.arrays writable (like_fields columns fs (have_of f))) h s
  large_miss f (inr (inl big)) = λ s. let fits = last_body (values_of (layouts (map layout_of columns)) w.ids) (map layout_of columns) s in omega (arith, big, fits)
  large_miss f (inr (inr long)) = λ s.
      let short = (short_metadata_law fs es w.ids writable).columns (map layout_of columns) f.arrays (like_fields columns fs (have_of f)) in omega (arith, long, short)

  other_ids_given : (given : Option IdTrees) → IsSomeAnd given (λ g. ¬ (g ≡ w.ids)) → IfSome given (λ g. g ≡ w.ids) → ⊥
  other_ids_given None h e = h
  other_ids_given (Some g) h e = h e

  pub missed : (e : Fault) → RefusesChunk w columns ids e → MissesWrite w fs columns ids e
  missed (State x) h = λ started. let none = ap fault_unless_started started in absurd cc
  missed (Argument FieldsDiffer) h = λ e. other_ids_given ids h e
  missed (Argument ColumnCount) h = count_miss h
  missed (Argument ColumnType) h = types_miss h
  missed (Argument (SharedDictionary j)) h = shared_miss j h.0 h.1
  missed (Argument FieldsShape) h = absurd (no_shape h.0 h.1)
  missed (Argument TooLong) h = long_miss h.0 h.1
  missed (Argument TooLarge) h = large_miss h.0 h.1
  missed Memory h = tt
  missed _ h = absurd h

  -- So the chunk isn't accepted.
  pub not_taken : (e : Fault) → MissesWrite w fs columns ids e → OwnFault e (¬ MayBeWritten w fs columns ids)
  not_taken (State x) h = λ t. h t.started
  not_taken (Argument FieldsDiffer) h = λ t. h t.same_ids
  not_taken (Argument ColumnCount) h = λ t. h t.accepted.count
  not_taken (Argument ColumnType) h = λ t. h t.accepted.types
  not_taken (Argument (SharedDictionary j)) h = λ t. h t.accepted.shared
  not_taken (Argument TooLong) h = λ t. h t.accepted.nodes
  not_taken (Argument TooLarge) h = λ t. h t.accepted.bodies
  not_taken Memory h = tt
  not_taken (Io x) h = tt
  not_taken _ h = absurd h

-- a chunk that is refused
pub refused_exactly : {W : Type 0} (w : WriterSeen W) (columns : List AnyArray) (ids : Option IdTrees) (e : Fault) → RefusesChunk w columns ids e → WritesExactly w columns ids (Err e)
refused_exactly w columns ids e h = record {
  exact = λ fs es writable same.
      let m = missed w columns ids fs es writable same e h in
      (m, not_taken w columns ids fs es writable same e m);
}

-- a device that failed
pub failed_exactly : {W : Type 0} (w : WriterSeen W) (columns : List AnyArray) (ids : Option IdTrees) (x : _) → WritesExactly w columns ids (Err (Io x))
failed_exactly w columns ids x = record { exact = λ fs es writable same. (tt, tt) }

pub taken_exactly : {W : Type 0} (w : WriterSeen W) (columns : List AnyArray) (ids : Option IdTrees) (u : Unit {0}) → ((fs : FieldTrees) → normal_types fs ≡ w.types → MayBeWritten w fs columns ids)
    → WritesExactly w columns ids (Ok u)
taken_exactly w columns ids u h = record { exact = λ fs es writable same. h fs same }

-- ---- refusals in a writer's words

pub refused_chunk_write : {W : Type 0} (w : WriterSeen W) (columns : List AnyArray) (ids : Option IdTrees) (e : Fault) → RefusesChunk w columns ids e → RefusesWrite w columns ids e
refused_chunk_write w columns ids (Io x) h = absurd h
refused_chunk_write w columns ids _ h = h

-- What refuses a chunk is no error of a device.
pub chunk_not_io : {W : Type 0} (w : WriterSeen W) (columns : List AnyArray) (ids : Option IdTrees) (e : Fault) → RefusesChunk w columns ids e → (P : Type 0) → OnIo {X = Unit {0}} (Err e) P
chunk_not_io w columns ids (Io x) h P = absurd h
chunk_not_io w columns ids _ h P = tt

pub refuses_ids : {W : Type 0} (w : WriterSeen W) (columns : List AnyArray) (ids : Option IdTrees) (e : Fault)
    → (e ≡ Argument FieldsDiffer) × IsSomeAnd ids (λ given. ¬ (given ≡ w.ids)) → RefusesChunk w columns ids e
refuses_ids w columns ids e h = rw h.0 h.1

-- a state that refuses
pub refuses_state : {W : Type 0} (w : WriterSeen W) (columns : List AnyArray) (ids : Option IdTrees) (e : Fault) → RefusesState (fault_unless_started w.state) e → RefusesChunk w columns ids e
refuses_state w columns ids (State x) h = h
refuses_state w columns ids _ h = absurd h

-- types that are refused
pub refuses_types : {W : Type 0} (w : WriterSeen W) (columns : List AnyArray) (ids : Option IdTrees) (e : Fault) → RefusesTypes columns w.types e → RefusesChunk w columns ids e
refuses_types w columns ids (Argument ColumnCount) h = h
refuses_types w columns ids (Argument ColumnType) h = h
refuses_types w columns ids _ h = absurd h

-- Errors of messages.
of_batch : (columns : List Layout) (e : Fault) → RefusesBatch Record (row_count len_of columns) (levels_of columns) e → IsOfMessage e
of_batch columns Memory h = tt
of_batch columns (Argument TooLong) h = tt
of_batch columns (Argument TooLarge) h = tt
of_batch columns _ h = absurd h

pub of_messages : (list : List FilledPlace) (columns : List Layout) (e : Fault) → RefusesMessages list columns e → IsOfMessage e
of_messages list columns e (inl (inl h)) = of_some list e h
of_messages list columns e (inl (inr h)) = subst (λ (f : Fault). IsOfMessage f) (sym h) tt
of_messages list columns e (inr h) = of_batch columns e h

pub some_refuse : {W : Type 0} (w : WriterSeen W) (columns : List AnyArray) (ids : Option IdTrees) (e : Fault) → FitTypes w columns → RefusesSome (values_of (layouts (map layout_of columns)) w.ids) e → IsOfMessage e
    → RefusesChunk w columns ids e
some_refuse w columns ids Memory f h k = tt
some_refuse w columns ids (Argument TooLong) f h k = (f, inl h)
some_refuse w columns ids (Argument TooLarge) f h k = (f, inl h)
some_refuse w columns ids _ f h k = absurd k

-- dictionaries that are refused
pub all_refuse : {W : Type 0} (w : WriterSeen W) (columns : List AnyArray) (ids : Option IdTrees) (e : Fault) → FitTypes w columns → RefusesAll w.dictionaries false (map layout_of columns) w.ids e → RefusesChunk w columns ids e
all_refuse w columns ids Memory f h = tt
all_refuse w columns ids (Argument (SharedDictionary j)) f h = (f, h)
all_refuse w columns ids (Argument (DictionaryReplaced j)) f h = let free = h.0 in absurd cc
all_refuse w columns ids (Argument FieldsShape) f h = (f, h)
all_refuse w columns ids _ f h = absurd h

pub refuses_places : {W : Type 0} (w : WriterSeen W) (columns : List AnyArray) (ids : Option IdTrees) (fixed : _) (e : Fault) → fixed ≡ false → FitTypes w columns
    → RefusesPlaces w.dictionaries fixed (map layout_of columns) w.ids e → RefusesChunk w columns ids e
refuses_places w columns ids fixed e free f (inl h) = all_refuse w columns ids e f (subst (λ (b : _). RefusesAll w.dictionaries b (map layout_of columns) w.ids e) free h)
refuses_places w columns ids fixed e free f (inr h) = some_refuse w columns ids e f h (of_some (values_of (layouts (map layout_of columns)) w.ids) e h)

pub record_refuse : {W : Type 0} (w : WriterSeen W) (columns : List AnyArray) (ids : Option IdTrees) (e : Fault) → FitTypes w columns
    → RefusesBatch Record (row_count len_of (map layout_of columns)) (levels_of (map layout_of columns)) e → RefusesChunk w columns ids e
record_refuse w columns ids Memory f h = tt
record_refuse w columns ids (Argument TooLong) f h = (f, inr h)
record_refuse w columns ids (Argument TooLarge) f h = (f, inr h)
record_refuse w columns ids _ f h = absurd h

-- messages that aren't encoded
pub refuses_messages : {W : Type 0} (w : WriterSeen W) (columns : List AnyArray) (ids : Option IdTrees) (list : List FilledPlace) (e : Fault) → MayList w columns ids list
    → RefusesMessages list (map layout_of columns) e → RefusesChunk w columns ids e
refuses_messages w columns ids list e may (inl (inl h)) =
    let some = some_listed w.dictionaries (values_of (layouts (map layout_of columns)) w.ids) list e may.lists.lists h in
    some_refuse w columns ids e may.fits some (of_some (values_of (layouts (map layout_of columns)) w.ids) e some)
refuses_messages w columns ids list e may (inl (inr h)) = subst (λ (f : Fault). RefusesChunk w columns ids f) (sym h) tt
refuses_messages w columns ids list e may (inr h) = record_refuse w columns ids e may.fits h

-- Messages that aren't sent, or a device that failed.
pub refuses_handing : {W : Type 0} (w : WriterSeen W) (columns : List AnyArray) (ids : Option IdTrees) (list : List FilledPlace) (e : Fault) → MayList w columns ids list
    → RefusesHanding list (map layout_of columns) e → RefusesWrite w columns ids e
refuses_handing w columns ids list (Io x) may h = tt
refuses_handing w columns ids list _ may h = refuses_messages w columns ids list _ may h

pub handing_exactly : {W : Type 0} (w : WriterSeen W) (columns : List AnyArray) (ids : Option IdTrees) (list : List FilledPlace) (e : Fault) → MayList w columns ids list
    → RefusesHanding list (map layout_of columns) e → WritesExactly w columns ids (Err e)
handing_exactly w columns ids list (Io x) may h = failed_exactly w columns ids x
handing_exactly w columns ids list _ may h = refused_exactly w columns ids _ (refuses_messages w columns ids list _ may h)

-- a chunk that may be written
pub may_be_written : {W : Type 0} (w : WriterSeen W) (columns : List AnyArray) (ids : Option IdTrees) (list : List FilledPlace) (rows : ℕ) → MayList w columns ids list → IsEncodable Record rows (levels_of (map layout_of columns))
    → (fs : FieldTrees) → normal_types fs ≡ w.types → MayBeWritten w fs columns ids
may_be_written w columns ids list rows may said fs same = record {
  started = may.was;
  same_ids = may.ids_same;
  accepted = accepted fs w.ids columns w.dictionaries false list rows (subst (λ (types : List TypeTree). HaveTypes columns types) (sym same) may.fits.have) may.lists may.lengths said;
}

-- An allocation that failed.
pub memory_refused : {W : Type 0} (w : WriterSeen W) (columns : List AnyArray) (ids : Option IdTrees) (e : Fault) → e ≡ Memory → RefusesChunk w columns ids e
memory_refused w columns ids e h = subst (λ (f : Fault). RefusesChunk w columns ids f) (sym h) tt

-- ---- the state comes first

pub first_refused : {X W : Type 0} (own : Option StateFault) (a b : WriterSeen W) (e : Fault) (r : Result X Fault) → r ≡ Err e → IfSome own (λ f. r ≡ Err (State f)) → b ≡ a → StateComesFirst own a (Err e) b
first_refused None a b e r was h same = tt
first_refused (Some f) a b e r was h same = let is : e ≡ State f = cc in (ap (λ (x : Fault). Err x) is, same)

pub first_passed : {W : Type 0} (a b : WriterSeen W) (r : Result (Unit {0}) Fault) → a.state ≡ Started → StateComesFirst (fault_unless_started a.state) a r b
first_passed a b r was = rw was tt

pub first_new : {W : Type 0} (a b : WriterSeen W) (r : Result (Unit {0}) Fault) → a.state ≡ New → StateComesFirst (fault_unless_new a.state) a r b
first_new a b r was = rw was tt

pub state_answered : {X : Type 0} (own : Option StateFault) (e : Fault) (r : Result X Fault) → r ≡ Err e → RefusesState own e → IfSome own (λ f. r ≡ Err (State f))
state_answered own (State x) r was h = rw h was
state_answered own _ r was h = absurd h
