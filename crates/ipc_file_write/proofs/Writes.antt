-- What `write` does to its device, to what its writer remembers, and to what the bytes mean.
use Rattle.std.proofs.Common.{◌≡◌, ℕ, ◌+◌, Bool, true, List, [], ◌∷◌, ◌++◌, length, map, Option, Result, Ok, Err, inl, inr, refl, sym, ap, subst, ◌∙◌}
use Rattle.lower.specs.TypeTrees.{FieldTree, FieldTrees, Pairs, TypeTree, more_fields}
use Rattle.lower.specs.TypeViews.{fields_view, type_view}
use Rattle.lower.specs.Normal.{norm}
use Rattle.lower.specs.declared.datatypes.Field.{Field}
use Rattle.lower_types.specs.declared.Endianness.{Endianness}
use Rattle.lower_arrays.specs.AnyLayouts.{layout_of}
use Rattle.lower_arrays.specs.Layouts.{Layout, layouts, len_of}
use Rattle.lower_arrays.specs.declared.array.AnyArray.{AnyArray}
use Rattle.ipc_base.proofs.IdLists.{view-field}
use Rattle.ipc_base.specs.Chunks.{row_count}
use Rattle.ipc_base.specs.IdTrees.{IdTrees}
use Rattle.ipc_devices.specs.Faults.{OnIo}
use Rattle.ipc_devices.specs.declared.fault.Fault.{Fault}
use Rattle.ipc_devices.specs.declared.fault.ArgFault.TheVariants.{DictionaryReplaced, FieldsShape, SharedDictionary}
use Rattle.ipc_devices.specs.declared.fault.Fault.TheVariants.{Argument, Io, Memory as NoMemory}
use Rattle.ipc_encode.specs.Encoding.{IsEncodable, levels_of}
use Rattle.ipc_encode.specs.declared.batches.BatchKind.TheVariants.{Record}
use Rattle.ipc_model.specs.Batches.{Chunk}
use Rattle.ipc_model.specs.Offers.{FilledPlace, IsAcceptedChunk, values_of}
use Rattle.ipc_stream_lemmas.specs.Messages.{chunk_written}
use Rattle.ipc_tracker.specs.Listings.{ListsAll, RefusesAll, remembering_all}
use Rattle.ipc_tracker.specs.Trackers.{IsSameMemory}
use Rattle.ipc_table_views.specs.declared.file.Block.{Block}
use Rattle.ipc_write.proofs.Acceptance.{accepted}
use Rattle.ipc_write.specs.Meaning.{normal_types}
use Rattle.ipc_chunks.proofs.Refusals.{IsOfMessage, of_some}
use Rattle.ipc_chunks.specs.Messages.{AreMessages, Message, RefusesMessages, RefusesPlaces as DictionariesRefused}
use Rattle.ipc_devices.specs.Device.{Device}
use Rattle.ipc_write.proofs.Refusals.{of_messages, some_refuse}
use Rattle.ipc_write.specs.Messages.{messages_bytes}
use Rattle.ipc_write.specs.Sending.{Delivers}
use Rattle.ipc_write.specs.Writers.{FitTypes}
use Rattle.ipc_write.specs.declared.stream.WriterState.{WriterState}
use Rattle.ipc_write.specs.declared.stream.WriterState.TheVariants.{Failed, Started}
use Rattle.ipc_file_lemmas.specs.FileBytes.{Sent, chunk_bytes, sent_bytes}
use Rattle.ipc_file_write.specs.Blocks.{HasBlocksFrom, RefusesBlockRoom, sent}
use Rattle.ipc_file_write.specs.FileWriters.{FileSeen, IsSameFile, Kept}
use Rattle.ipc_file_write.specs.Writes.{Appends, HandsChunk, MayList, RefusesChunk, RefusesBlocks, RefusesSending, SendsColumns, TakesChunk, WhereSent, as_stream, field_normal}
use Rattle.ipc_file_write.specs.declared.blocks.Placed.{Placed}
use Rattle.ipc_write.proofs.Deliveries.{delivered_as, failed_as}
use Rattle.ipc_file_write.proofs.EncodedMessages.{sends_chunk}
use Rattle.ipc_file_write.proofs.Exactness.{dictionary_blocks_count, values_count}
use Rattle.ipc_file_write.specs.Keeping.{StaysWritable}
use Rattle.ipc_file_write.proofs.Keeping.{failed_keeps, same_keeps}
use Rattle.ipc_file_write.proofs.FileStates.{SameBlocks, finish_broken, kept_step, stays, written}

-- the types of fields in their normal form
pub normal_fields : (fs : List Field) → map field_normal fs ≡ normal_types (fields_view fs)
normal_fields [] = refl
normal_fields (f ∷ fs) =
    ap (λ (ts : List TypeTree). norm (type_view f.data_type) ∷ ts) (normal_fields fs) ∙ ap (λ (t : FieldTree). normal_types (more_fields t (fields_view fs))) (sym (view-field f))

-- ---- refused

pub chunk_not_io : {W : Type 0} (w : FileSeen W) (columns : List AnyArray) (ids : Option IdTrees) (e : Fault) → RefusesChunk w columns ids e → (P : Type 0) → OnIo {X = Unit {0}} (Err e) P
chunk_not_io w columns ids (Io x) (inl h) P = absurd h
chunk_not_io w columns ids (Io x) (inr h) P = absurd h
chunk_not_io w columns ids _ h P = tt

none_sent : (e : Fault) (P : Type 0) → ((Q : Type 0) → OnIo {X = Unit {0}} (Err e) Q) → WhereSent {X = Unit {0}} (Err e) P
none_sent (Io x) P not_io = not_io P
none_sent _ P not_io = tt

-- ---- errors of its parts

of_message : (e : Fault) → IsOfMessage e → (P : Type 0) → OnIo {X = Unit {0}} (Err e) P
of_message (Io x) h P = absurd h
of_message _ h P = tt

pub messages_not_io : (list : List FilledPlace) (columns : List Layout) (e : Fault) → RefusesMessages list columns e → (P : Type 0) → OnIo {X = Unit {0}} (Err e) P
messages_not_io list columns e h P = of_message e (of_messages list columns e h) P

pub places_not_io : (place : ℕ) (ws : List Sent) (e : Fault) → RefusesBlockRoom place ws e → (P : Type 0) → OnIo {X = Unit {0}} (Err e) P
places_not_io place [] (Io x) h P = absurd h
places_not_io place (w ∷ ws) (Io x) (inl h) P = absurd h
places_not_io place (w ∷ ws) (Io x) (inr h) P = places_not_io (place + length (sent_bytes w)) ws (Io x) h P
places_not_io place ws _ h P = tt

all_refuse : {W : Type 0} (w : FileSeen W) (columns : List AnyArray) (ids : Option IdTrees) (e : Fault) → FitTypes (as_stream w) columns → RefusesAll w.remembers true (map layout_of columns) w.ids e → RefusesChunk w columns ids e
all_refuse w columns ids NoMemory f h = inl tt
all_refuse w columns ids (Argument (SharedDictionary j)) f h = inl (f, h)
all_refuse w columns ids (Argument (DictionaryReplaced j)) f h = inr (f, h)
all_refuse w columns ids (Argument FieldsShape) f h = inl (f, h)
all_refuse w columns ids _ f h = absurd h

pub room_not_io : (count added : ℕ) (e : Fault) → RefusesBlocks count added e → (P : Type 0) → OnIo {X = Unit {0}} (Err e) P
room_not_io count added (Io x) h P = absurd h
room_not_io count added _ h P = tt

pub memory_not_io : (e : Fault) → e ≡ NoMemory → (P : Type 0) → OnIo {X = Unit {0}} (Err e) P
memory_not_io e h P = subst (λ (f : Fault). OnIo {X = Unit {0}} (Err f) P) (sym h) tt

-- dictionaries that are refused
pub refuses_places : {W : Type 0} (w : FileSeen W) (columns : List AnyArray) (ids : Option IdTrees) (fixed : Bool) (e : Fault) → fixed ≡ true → FitTypes (as_stream w) columns
    → DictionariesRefused w.remembers fixed (map layout_of columns) w.ids e → RefusesChunk w columns ids e
refuses_places w columns ids fixed e is f (inl h) = all_refuse w columns ids e f (subst (λ (b : Bool). RefusesAll w.remembers b (map layout_of columns) w.ids e) is h)
refuses_places w columns ids fixed e is f (inr h) = inl (some_refuse (as_stream w) columns ids e f h (of_some (values_of (layouts (map layout_of columns)) w.ids) e h))

module _ {W : Type 0} (d : Device W) (a b : FileSeen W) where
  -- before anything was sent
  pub refused_columns : (e : Fault) (columns : List AnyArray) → Kept a b → IsSameFile a b → ((P : Type 0) → OnIo {X = Unit {0}} (Err e) P) → SendsColumns d a (Err e) b columns
  refused_columns e columns kept same not_io = record {
    list = [];
    dictionaries = [];
    own = record { metadata = []; body = [] };
    lists = none_sent e _ not_io;
    are = none_sent e _ not_io;
    takes = tt;
    step = kept_step d a b e _ kept same not_io;
  }

  kept_of : SameBlocks a b → b.device ≡ a.device → b.state ≡ a.state → b.place ≡ a.place → Kept a b
  kept_of same device state place = record {
    device = device;
    state = state;
    ids = same.ids;
    pairs = same.pairs;
    remembers = same.remembers;
    dictionaries = same.dictionaries;
    blocks = same.blocks;
    place = place;
  }

  file_of : SameBlocks a b → b.chosen ≡ a.chosen → IsSameFile a b
  file_of same chosen = record { order = same.order; fields = same.fields; metadata = same.metadata; chosen = chosen; pairs = same.pairs; size = same.size }

  -- there was no room
  pub room_refused : (e : Fault) (columns : List AnyArray) → SameBlocks a b → b.chosen ≡ a.chosen → b.device ≡ a.device → b.state ≡ a.state → b.place ≡ a.place → ((P : Type 0) → OnIo {X = Unit {0}} (Err e) P)
      → SendsColumns d a (Err e) b columns
  room_refused e columns same chosen device state place not_io = refused_columns e columns (kept_of same device state place) (file_of same chosen) not_io

  pub room_kept : (e : Fault) (chunk : Chunk) → a.state ≡ Started → SameBlocks a b → b.device ≡ a.device → b.state ≡ a.state → b.place ≡ a.place → Appends d a (Err e) b chunk
  room_kept e chunk was same device state place = record {
    appended = λ k is_stream base cs h. tt;
    kept = λ k is_stream base cs h. stays d a b was (state ∙ was) same place device is_stream base cs h;
  }

  -- ---- sent to a device

  -- The device failed, or nothing was sent.
  pub columns_unsent : (e : Fault) (columns : List AnyArray) (list : List FilledPlace) → ListsAll a.remembers true (map layout_of columns) a.ids list
      → HandsChunk d a.order (map layout_of columns) list a.place a.device a.state (Err e) b.device b.state → SameBlocks a b → b.chosen ≡ a.chosen → b.place ≡ a.place
      → SendsColumns d a (Err e) b columns
  columns_unsent (Io x) columns list lists h same chosen place = record {
    list = list;
    dictionaries = h.dictionaries;
    own = h.own;
    lists = lists;
    are = h.are;
    takes = tt;
    step = record {
      same = file_of same chosen;
      monotone = h.sends.monotone;
      io = (h.failed, h.sends.failed);
      answered = h.sends.only;
      refused = tt;
      done = tt;
      all_sent = λ k. tt;
      some_sent = h.sends.part;
      names = h.sends.names;
    };
  }
  columns_unsent _ columns list lists h same chosen place = refused_columns _ columns (kept_of same h.unsent.0 h.unsent.1 place) (file_of same chosen) (λ P. tt)

  pub columns_kept : (e : Fault) (columns : List AnyArray) (list : List FilledPlace) (chunk : Chunk) → a.state ≡ Started
      → HandsChunk d a.order (map layout_of columns) list a.place a.device a.state (Err e) b.device b.state → SameBlocks a b → b.place ≡ a.place → Appends d a (Err e) b chunk
  columns_kept (Io x) columns list chunk was h same place = record {
    appended = λ k is_stream base cs g. tt;
    kept = λ k is_stream base cs g.
        (finish_broken d a b (Io x) (chunk_bytes (map sent h.dictionaries) (sent h.own)) was h.failed same
        (failed_as {X = Placed} {Y = Unit {0}} d a.device b.device (Io x) _ h.sends)).kept k is_stream base cs g;
  }
  columns_kept _ columns list chunk was h same place = room_kept _ chunk was same h.unsent.0 h.unsent.1 place

  -- All bytes were sent.
  takes_columns : (p : Placed) (columns : List AnyArray) (list : List FilledPlace) → a.state ≡ Started
      → (h : HandsChunk d a.order (map layout_of columns) list a.place a.device a.state (Ok p) b.device b.state)
      → b.ids ≡ a.ids → b.pairs ≡ a.pairs → IsSameMemory (remembering_all list a.remembers) b.remembers → b.dictionaries ≡ a.dictionaries ++ p.dictionaries.items → b.blocks ≡ a.blocks ++ p.record_batch ∷ [] → b.place ≡ p.end
      → TakesChunk a b list (map sent h.dictionaries) (sent h.own)
  takes_columns p columns list was h ids pairs remembers dictionaries blocks place = record {
    was = was;
    is = h.stays ∙ was;
    ids = ids;
    pairs = pairs;
    remembers = remembers;
    dictionaries = dictionaries ∙ ap (λ (bs : List Block). a.dictionaries ++ bs) h.placed.dictionaries_are;
    blocks = blocks ∙ ap (λ (x : Block). a.blocks ++ x ∷ []) h.placed.record_is;
    place = place ∙ h.placed.end_is;
  }

  pub columns_sent : (p : Placed) (columns : List AnyArray) (list : List FilledPlace) → a.state ≡ Started → ListsAll a.remembers true (map layout_of columns) a.ids list
      → HandsChunk d a.order (map layout_of columns) list a.place a.device a.state (Ok p) b.device b.state → IsSameFile a b
      → b.ids ≡ a.ids → b.pairs ≡ a.pairs → IsSameMemory (remembering_all list a.remembers) b.remembers → b.dictionaries ≡ a.dictionaries ++ p.dictionaries.items → b.blocks ≡ a.blocks ++ p.record_batch ∷ [] → b.place ≡ p.end
      → SendsColumns d a (Ok tt) b columns
  columns_sent p columns list was lists h same ids pairs remembers dictionaries blocks place = record {
    list = list;
    dictionaries = h.dictionaries;
    own = h.own;
    lists = lists;
    are = h.are;
    takes = takes_columns p columns list was h ids pairs remembers dictionaries blocks place;
    step = record { same = same; monotone = h.sends.monotone; io = tt; answered = tt; refused = tt; done = h.sends.done; all_sent = h.sends.memory; some_sent = h.sends.part; names = h.sends.names };
  }

  -- so the file has the chunk
  pub columns_appended : (p : Placed) (columns : List AnyArray) (ids : Option IdTrees) (list : List FilledPlace) → MayList a columns ids list
      → HandsChunk d a.order (map layout_of columns) list a.place a.device a.state (Ok p) b.device b.state → IsSameFile a b
      → b.ids ≡ a.ids → b.pairs ≡ a.pairs → IsSameMemory (remembering_all list a.remembers) b.remembers → b.dictionaries ≡ a.dictionaries ++ p.dictionaries.items → b.blocks ≡ a.blocks ++ p.record_batch ∷ [] → b.place ≡ p.end
      → Appends d a (Ok tt) b (chunk_written (map layout_of columns))
  columns_appended p columns ids_given list may h same ids pairs remembers dictionaries blocks place = record {
    appended =
        let is_accepted : IsAcceptedChunk a.fields a.ids (map layout_of columns) =
        accepted a.fields a.ids columns a.remembers true list (row_count len_of (map layout_of columns)) may.fits.have may.lists may.lengths h.said in
        let takes = takes_columns p columns list may.was h ids pairs remembers dictionaries blocks place in
        let sends = sends_chunk a.order a.fields a.ids a.remembers b.remembers (map layout_of columns) list h.dictionaries h.own is_accepted may.lists remembers h.are in
        written d a b (map layout_of columns) (map sent h.dictionaries) (sent h.own) (chunk_bytes (map sent h.dictionaries) (sent h.own)) may.was takes.is sends
        same.order same.fields same.metadata ids pairs same.size takes.dictionaries takes.blocks takes.place refl
        (delivered_as {X = Placed} {Y = Unit {0}} d a.device b.device p tt _ h.sends);
    kept = λ k is_stream base cs g. tt;
  }

-- ---- what is sent to a device

module _ {W : Type 0} (d : Device W) (order : Endianness) (columns : List Layout) (list : List FilledPlace) (place : ℕ) (w w' : W) (s s' : WriterState) where
  -- Messages that aren't made, or have no block.
  pub hands_refused : (e : Fault) → RefusesSending order columns list place e → ((P : Type 0) → OnIo {X = Unit {0}} (Err e) P) → HandsChunk d order columns list place w s (Err e) w s
  hands_refused (Io x) h not_io = absurd (not_io ⊥)
  hands_refused _ h not_io = record { dictionaries = []; own = record { metadata = []; body = [] }; are = tt; said = tt; placed = tt; refuses = inr h; unsent = (refl, refl); stays = tt; failed = tt; sends = tt }

  -- a device that failed
  pub hands_failed : (e : Fault) (ds : List Message) (own : Message) → AreMessages order columns list ds own → messages_bytes (ds ++ own ∷ []) ≡ chunk_bytes (map sent ds) (sent own)
      → Delivers {X = Unit {0}} d (messages_bytes (ds ++ own ∷ [])) w (Err e) w' → s' ≡ Failed
      → HandsChunk d order columns list place w s (Err e) w' s'
  hands_failed (Io x) ds own are same h failed = record {
    dictionaries = ds;
    own = own;
    are = are;
    said = tt;
    placed = tt;
    refuses = inl tt;
    unsent = tt;
    stays = tt;
    failed = failed;
    sends =
        failed_as {X = Unit {0}} {Y = Placed} d w w' (Io x) _
        (subst (λ (bytes : List ℕ). Delivers {X = Unit {0}} d bytes w (Err (Io x)) w') same h);
  }
  hands_failed _ ds own are same h failed = absurd h.only

  pub hands_all : (p : Placed) (ds : List Message) (own : Message) → AreMessages order columns list ds own → messages_bytes (ds ++ own ∷ []) ≡ chunk_bytes (map sent ds) (sent own)
      → IsEncodable Record (row_count len_of columns) (levels_of columns) → HasBlocksFrom place (map sent ds) (sent own) p
      → Delivers {X = Unit {0}} d (messages_bytes (ds ++ own ∷ [])) w (Ok tt) w' → s' ≡ s
      → HandsChunk d order columns list place w s (Ok p) w' s'
  hands_all p ds own are same said placed h kept = record {
    dictionaries = ds;
    own = own;
    are = are;
    said = said;
    placed = placed;
    refuses = tt;
    unsent = tt;
    stays = kept;
    failed = tt;
    sends =
        delivered_as {X = Unit {0}} {Y = Placed} d w w' tt p _
        (subst (λ (bytes : List ℕ). Delivers {X = Unit {0}} d bytes w (Ok tt) w') same h);
  }

  -- a block for each dictionary
  pub blocks_taken : (p : Placed) → HandsChunk d order columns list place w s (Ok p) w' s' → length p.dictionaries.items ≡ length list
  blocks_taken p h =
      let blocks = ap (λ (bs : List Block). length bs) h.placed.dictionaries_are in
      let count = dictionary_blocks_count place h.dictionaries in
      let values = values_count order list h.dictionaries h.are.values in
      blocks ∙ count ∙ values

  -- The writer can still be finished, or has failed.
  pub hands_keep : (r : Result Placed Fault) (fs : FieldTrees) (es : Pairs) (is : IdTrees) (pairs : Pairs) → HandsChunk d order columns list place w s r w' s' → ∥ StaysWritable s fs es is pairs ∥₁
      → ∥ StaysWritable s' fs es is pairs ∥₁
  hands_keep (Ok p) fs es is pairs h keeps = same_keeps s s' fs es is pairs keeps h.stays
  hands_keep (Err (Io x)) fs es is pairs h keeps = failed_keeps s' fs es is pairs h.failed
  hands_keep (Err _) fs es is pairs h keeps = same_keeps s s' fs es is pairs keeps h.unsent.1
