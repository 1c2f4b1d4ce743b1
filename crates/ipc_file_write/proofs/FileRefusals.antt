-- The exact result of `write` of a file writer.
use Rattle.std.proofs.Common.{◌≡◌, ◌⊎◌, ℕ, ◌+◌, ◌^◌, ◌<◌, ◌≤◌, true, List, [], ◌∷◌, ◌++◌, length, map, Option, IfSome, Result, Ok, Err, refl, sym, ap, subst, inl, inr, arith, length-append}
use Rattle.std.specs.List.{AllByRecursion}
use Rattle.lower_arrays.specs.AnyLayouts.{layout_of}
use Rattle.lower_arrays.specs.Layouts.{Layout, layouts, len_of}
use Rattle.lower_arrays.specs.declared.array.AnyArray.{AnyArray}
use Rattle.lower_types.specs.declared.Endianness.{Endianness}
use Rattle.ipc_base.specs.Chunks.{row_count}
use Rattle.ipc_base.specs.IdTrees.{IdTrees}
use Rattle.ipc_devices.specs.Faults.{IsIo, OwnFault}
use Rattle.ipc_devices.specs.declared.fault.ArgFault.TheVariants.{ColumnCount, ColumnType, DictionaryReplaced, FieldsDiffer, SharedDictionary, TooLarge, TooLong}
use Rattle.ipc_devices.specs.declared.fault.Fault.{Fault}
use Rattle.ipc_devices.specs.declared.fault.Fault.TheVariants.{Argument, Io, Memory, State}
use Rattle.ipc_devices.specs.declared.fault.StateFault.{StateFault}
use Rattle.ipc_encode.specs.Encoding.{IsEncodable, IsEncoded, levels_of}
use Rattle.ipc_encode.specs.declared.batches.BatchKind.{BatchKind}
use Rattle.ipc_encode.specs.declared.batches.BatchKind.TheVariants.{Record, Dictionary}
use Rattle.ipc_model.specs.Accepted.{most_blocks}
use Rattle.ipc_model.specs.Entries.{Dictionaries}
use Rattle.ipc_model.specs.Offers.{FilledPlace, offer_of, values_of}
use Rattle.ipc_model.specs.Writable.{IsWritable}
use Rattle.ipc_stream_lemmas.specs.Remembered.{KnowsRemembered}
use Rattle.ipc_tracker.proofs.Refusals.{refusal_law}
use Rattle.ipc_write.proofs.Acceptance.{accepted, like_fields}
use Rattle.ipc_chunks.proofs.Dictionaries.{one_type_of}
use Rattle.ipc_chunks.proofs.Refusals.{of_some, some_listed}
use Rattle.ipc_write.proofs.Refusals.{missed, record_refuse, some_refuse}
use Rattle.ipc_chunks.specs.Messages.{AreAllValues, AreMessages, Message, RefusesMessages}
use Rattle.ipc_write.specs.Writers.{RefusesChunk as StreamRefuses, fault_unless_started}
use Rattle.ipc_write.specs.declared.stream.WriterState.TheVariants.{Started}
use Rattle.ipc_file_lemmas.specs.FileBytes.{Sent, all_bytes, sent_bytes}
use Rattle.ipc_file_write.specs.Blocks.{HasBlocksFrom, RefusesPlace, RefusesBlockRoom, sent}
use Rattle.ipc_file_write.specs.FileWriters.{FileSeen}
use Rattle.ipc_file_write.specs.Writes.{AnswersWrite, HasNoPlace, MayBeWritten, MayList, MissesWrite, RefusesChunk, RefusesBlocks, RefusesSending, WritesExactly, as_stream, block_count}
use Rattle.ipc_file_write.specs.declared.blocks.Placed.{Placed}
use Rattle.ipc_file_write.proofs.Exactness.{blocks_count, blocks_end, chunk_places, chunks_long, kept_known, kept_remembered, lists_one, values_count}
use Rattle.ipc_file_write.proofs.PlacedMessages.{bytes_more}
use Rattle.ipc_file_write.proofs.StartsAndEnds.{state_fault}

-- ---- messages without a block

-- The offset of its body fits in 32 signed bits.
abbrev IsShortHead : Sent → Type 0
IsShortHead w = 8 + length w.metadata < 2 ^ 31

short_head : (kind : BatchKind) (order : Endianness) (ls : List Layout) (n : ℕ) (m : Message) → IsEncoded kind order ls n m.metadata m.body → IsShortHead (sent m)
short_head Record order ls n m h = let long = h.metadata_are.long in let small = h.metadata_are.small in omega (arith, long, small)
short_head (Dictionary id) order ls n m h = let long = h.metadata_are.long in let small = h.metadata_are.small in omega (arith, long, small)

short_heads : (order : Endianness) (columns : List Layout) (ps : List FilledPlace) (ds : List Message) (own : Message) → AreAllValues order ps ds → IsShortHead (sent own) → AllByRecursion IsShortHead (map sent ds ++ sent own ∷ [])
short_heads order columns [] [] own h s = (s, tt)
short_heads order columns [] (d ∷ ds) own h s = absurd h
short_heads order columns (p ∷ ps) [] own h s = absurd h
short_heads order columns (p ∷ ps) (d ∷ ds) own h s = (short_head (Dictionary p.id) order (p.values ∷ []) (len_of p.values) d h.0, short_heads order columns ps ds own h.1 s)

-- The messages would end too far.
abbrev PassesEnd : ℕ → List Sent → Fault → Type 0
PassesEnd place ws e = (e ≡ Memory) ⊎ ((e ≡ Argument TooLarge) × (2 ^ 63 ≤ place + length (all_bytes ws)))

passes_more : (place : ℕ) (w : Sent) (ws : List Sent) (e : Fault) → PassesEnd (place + length (sent_bytes w)) ws e → PassesEnd place (w ∷ ws) e
passes_more place w ws e (inl h) = inl h
passes_more place w ws e (inr h) = inr (h.0, let far = h.1 in omega (arith, far, length-append (sent_bytes w) (all_bytes ws)))

here_far : (place : ℕ) (w : Sent) (ws : List Sent) → IsShortHead w → (2 ^ 31 ≤ 8 + length w.metadata) ⊎ (2 ^ 63 ≤ place + length (sent_bytes w)) → 2 ^ 63 ≤ place + length (all_bytes (w ∷ ws))
here_far place w ws s (inl h) = absurd (omega (arith, s, h))
here_far place w ws s (inr h) = omega (arith, h, length-append (sent_bytes w) (all_bytes ws))

here_passes : (place : ℕ) (w : Sent) (ws : List Sent) (e : Fault) → IsShortHead w → RefusesPlace place w e → PassesEnd place (w ∷ ws) e
here_passes place w ws (Argument TooLarge) s h = inr (refl, here_far place w ws s h)
here_passes place w ws _ s h = absurd h

passes_end : (place : ℕ) (ws : List Sent) (e : Fault) → AllByRecursion IsShortHead ws → RefusesBlockRoom place ws e → PassesEnd place ws e
passes_end place ws Memory s h = inl refl
passes_end place [] e s h = absurd h
passes_end place (w ∷ ws) e s (inl h) = here_passes place w ws e s.0 h
passes_end place (w ∷ ws) e s (inr h) = passes_more place w ws e (passes_end (place + length (sent_bytes w)) ws e s.1 h)

-- ---- which condition isn't met

module _ {W : Type 0} (w : FileSeen W) (known : Dictionaries) (columns : List AnyArray) (ids : Option IdTrees) (agrees : KnowsRemembered w.remembers known) (writable : IsWritable w.fields w.metadata w.ids) where
  chunk_missed : (e : Fault) → RefusesChunk w columns ids e → MissesWrite w known columns ids e
  chunk_missed (Argument (DictionaryReplaced j)) (inl h) = absurd h
  chunk_missed (Argument (DictionaryReplaced j)) (inr h) =
      let replaced = refusal_law w.remembers true (map layout_of columns) w.ids (Argument (DictionaryReplaced j))
      (one_type_of w.fields w.metadata w.ids (map layout_of columns) h.0.arrays writable (like_fields columns w.fields h.0.have)) h.1 in
      λ kept. replaced.1 (kept_remembered w.remembers known (offer_of (map layout_of columns) w.ids).dictionaries agrees kept)
  chunk_missed (Argument TooLarge) (inl h) = λ x. missed (as_stream w) columns ids w.fields w.metadata writable refl (Argument TooLarge) h x.0
  chunk_missed (Argument TooLarge) (inr h) = absurd h
  chunk_missed e (inl h) = missed (as_stream w) columns ids w.fields w.metadata writable refl e h
  chunk_missed _ (inr h) = absurd h

  -- There is no room for the blocks of the dictionaries to write, and for that of the record.
  pub room_missed : (list : List FilledPlace) (e : Fault) → MayList w columns ids list → RefusesBlocks (block_count w) (length list) e → MissesWrite w known columns ids e
  room_missed list (Argument TooLarge) may h = λ x.
      let m = x.1.messages in
      let same = lists_one w.remembers (values_of (layouts (map layout_of columns)) w.ids) list m.list may.lists.lists m.lists in
      let count = ap (λ (ps : List FilledPlace). length ps) same in
      let values = values_count w.order m.list m.dictionaries m.are.values in
      let blocks = blocks_count w.place m.dictionaries m.own in
      let few = x.1.few in
      omega (arith, h, count, values, blocks, few)
  room_missed list Memory may h = tt
  room_missed list _ may h = absurd h

  -- The messages are made, and one of them has no block.
  place_missed : (list : List FilledPlace) (e : Fault) → MayList w columns ids list → HasNoPlace w.order (map layout_of columns) list w.place e → MissesWrite w known columns ids e
  place_missed list e may h =
      let own_short = short_head Record w.order (map layout_of columns) (row_count len_of (map layout_of columns)) h.own h.are.record_is in
      elim (passes_end w.place (map sent h.dictionaries ++ sent h.own ∷ []) e (short_heads w.order (map layout_of columns) list h.dictionaries h.own h.are.values own_short) h.refused) [
        | inl none ↦ subst (λ (f : Fault). MissesWrite w known columns ids f) (sym none) tt
        | inr far ↦ subst (λ (f : Fault). MissesWrite w known columns ids f) (sym far.0) (λ x.
            let m = x.1.messages in
            let same = lists_one w.remembers (values_of (layouts (map layout_of columns)) w.ids) m.list list m.lists may.lists.lists in
            let are = subst (λ (ps : List FilledPlace). AreMessages w.order (map layout_of columns) ps m.dictionaries m.own) same m.are in
            let long = chunks_long w.order (map layout_of columns) list h.dictionaries m.dictionaries h.own m.own h.are are in
            let last = bytes_more (map sent h.dictionaries) (sent h.own) in
            let both = length-append (all_bytes (map sent h.dictionaries)) (sent_bytes (sent h.own)) in
            let end = blocks_end w.place (map sent m.dictionaries) (sent m.own) _ x.1.places in
            let beyond = far.1 in
            absurd (omega (arith, long, last, both, end, beyond)))
      ]

  messages_refuse : (list : List FilledPlace) (e : Fault) → MayList w columns ids list → RefusesMessages list (map layout_of columns) e → StreamRefuses (as_stream w) columns ids e
  messages_refuse list e may (inl (inl h)) =
      let some = some_listed w.remembers (values_of (layouts (map layout_of columns)) w.ids) list e may.lists.lists h in
      some_refuse (as_stream w) columns ids e may.fits some (of_some (values_of (layouts (map layout_of columns)) w.ids) e some)
  messages_refuse list e may (inl (inr h)) = subst (λ (f : Fault). StreamRefuses (as_stream w) columns ids f) (sym h) tt
  messages_refuse list e may (inr h) = record_refuse (as_stream w) columns ids e may.fits h

  pub sending_missed : (list : List FilledPlace) (e : Fault) → MayList w columns ids list → RefusesSending w.order (map layout_of columns) list w.place e → MissesWrite w known columns ids e
  sending_missed list e may (inl h) = chunk_missed e (inl (messages_refuse list e may h))
  sending_missed list e may (inr h) = place_missed list e may h

  -- So the chunk isn't accepted.
  pub not_taken : (e : Fault) → MissesWrite w known columns ids e → OwnFault e (¬ MayBeWritten w known columns ids)
  not_taken (State x) h = λ t. h t.started
  not_taken (Argument FieldsDiffer) h = λ t. h t.same_ids
  not_taken (Argument ColumnCount) h = λ t. h t.accepted.accepted.count
  not_taken (Argument ColumnType) h = λ t. h t.accepted.accepted.types
  not_taken (Argument (SharedDictionary j)) h = λ t. h t.accepted.accepted.shared
  not_taken (Argument TooLong) h = λ t. h t.accepted.accepted.nodes
  not_taken (Argument TooLarge) h = λ t. h (t.accepted.accepted.bodies, record { messages = t.messages; few = t.accepted.few; places = t.accepted.places })
  not_taken (Argument (DictionaryReplaced j)) h = λ t. h t.accepted.kept
  not_taken Memory h = tt
  not_taken (Io x) h = tt
  not_taken _ h = absurd h

  pub answers_missed : (e : Fault) → MissesWrite w known columns ids e → AnswersWrite w known columns ids (Err e)
  answers_missed e h = (h, not_taken e h)

  pub answers_chunk : (e : Fault) → RefusesChunk w columns ids e → AnswersWrite w known columns ids (Err e)
  answers_chunk e h = answers_missed e (chunk_missed e h)

-- a writer whose state refuses
pub answers_state : {W : Type 0} (w : FileSeen W) (known : Dictionaries) (columns : List AnyArray) (ids : Option IdTrees) (x : StateFault) → (w.state ≡ Started → ⊥) → AnswersWrite w known columns ids (Err (State x))
answers_state w known columns ids x h = (h, λ t. h t.started)

-- a device that failed
pub answers_io : {W : Type 0} (w : FileSeen W) (known : Dictionaries) (columns : List AnyArray) (ids : Option IdTrees) (x : _) → AnswersWrite w known columns ids (Err (Io x))
answers_io w known columns ids x = (tt, tt)

-- a chunk that was sent
pub answers_sent : {W : Type 0} (w : FileSeen W) (known : Dictionaries) (columns : List AnyArray) (ids : Option IdTrees) (list : List FilledPlace) (ds : List Message) (own : Message) (p : Placed) → KnowsRemembered w.remembers known
    → MayList w columns ids list → AreMessages w.order (map layout_of columns) list ds own → IsEncodable Record (row_count len_of (map layout_of columns)) (levels_of (map layout_of columns)) → HasBlocksFrom w.place (map sent ds) (sent own) p
    → block_count w + length list + 1 ≤ most_blocks → MayBeWritten w known columns ids
answers_sent w known columns ids list ds own p agrees may are said placed few =
    let values = values_count w.order list ds are.values in
    let blocks = blocks_count w.place ds own in
    let end = placed.end_is in
    let short = placed.short in
    let kept = may.lists.kept refl in
    record {
      started = may.was;
      same_ids = may.ids_same;
      messages = record { list = list; dictionaries = ds; own = own; lists = may.lists.lists; are = are };
      accepted = record {
        accepted = accepted w.fields w.ids columns w.remembers true list (row_count len_of (map layout_of columns)) may.fits.have may.lists may.lengths said;
        kept = kept_known w.remembers known (offer_of (map layout_of columns) w.ids).dictionaries agrees kept;
        few = omega (arith, few, values, blocks);
        places =
            chunk_places w.order (map layout_of columns) w.remembers known (values_of (layouts (map layout_of columns)) w.ids) list ds own w.place agrees kept may.lists.found may.lists.lists are
            (omega (arith, end, short));
      };
    }

-- ---- by each list of what is remembered

-- What follows if a schema can be written, follows if it isn't true that it can't be.
not_denied : {W : Type 0} (w : FileSeen W) (known : Dictionaries) (columns : List AnyArray) (ids : Option IdTrees) (e : Fault) → ¬ (¬ IsWritable w.fields w.metadata w.ids)
    → (IsWritable w.fields w.metadata w.ids → AnswersWrite w known columns ids (Err e)) → AnswersWrite w known columns ids (Err e)
not_denied w known columns ids (State x) nn f = (λ h. nn (λ k. (f k).0 h), λ t. nn (λ k. (f k).1 t))
not_denied w known columns ids (Argument FieldsDiffer) nn f = (λ h. nn (λ k. (f k).0 h), λ t. nn (λ k. (f k).1 t))
not_denied w known columns ids (Argument ColumnCount) nn f = (λ h. nn (λ k. (f k).0 h), λ t. nn (λ k. (f k).1 t))
not_denied w known columns ids (Argument ColumnType) nn f = (λ h. nn (λ k. (f k).0 h), λ t. nn (λ k. (f k).1 t))
not_denied w known columns ids (Argument (SharedDictionary j)) nn f = (λ h. nn (λ k. (f k).0 h), λ t. nn (λ k. (f k).1 t))
not_denied w known columns ids (Argument (DictionaryReplaced j)) nn f = (λ h. nn (λ k. (f k).0 h), λ t. nn (λ k. (f k).1 t))
not_denied w known columns ids (Argument TooLong) nn f = (λ h. nn (λ k. (f k).0 h), λ t. nn (λ k. (f k).1 t))
not_denied w known columns ids (Argument TooLarge) nn f = (λ h. nn (λ k. (f k).0 h), λ t. nn (λ k. (f k).1 t))
not_denied w known columns ids Memory nn f = (tt, tt)
not_denied w known columns ids (Io x) nn f = (tt, tt)
not_denied w known columns ids _ nn f = absurd (nn (λ k. (f k).0))

module _ {W : Type 0} (w : FileSeen W) (columns : List AnyArray) (ids : Option IdTrees) (known : Dictionaries) (agrees : KnowsRemembered w.remembers known) where
  pub refused_exactly : {X : Type 0} (e : Fault) (r : Result X Fault) → r ≡ Err e → IfSome (fault_unless_started w.state) (λ f. r ≡ Err (State f)) → (w.state ≡ Started → ¬ (¬ IsWritable w.fields w.metadata w.ids))
      → RefusesChunk w columns ids e → WritesExactly w columns ids (Err e)
  refused_exactly e r was first writable h = record {
    known = known;
    agrees = agrees;
    exact = λ ds same. elim (state_fault w.state e r was first) [
      | inl started ↦ not_denied w ds columns ids e (writable started) (λ k. answers_chunk w ds columns ids same k e h)
      | inr other ↦ subst (λ (f : Fault). AnswersWrite w ds columns ids (Err f)) (sym other.2) (answers_state w ds columns ids other.1 other.0)
    ];
  }

  pub room_exactly : (list : List FilledPlace) (e : Fault) (count : ℕ) → MayList w columns ids list → ¬ (¬ IsWritable w.fields w.metadata w.ids) → count ≡ length list → RefusesBlocks (block_count w) count e → WritesExactly w columns ids (Err e)
  room_exactly list e count may writable same h = record {
    known = known;
    agrees = agrees;
    exact = λ ds agree.
        not_denied w ds columns ids e writable (λ k.
        answers_missed w ds columns ids agree k e (room_missed w ds columns ids agree k list e may (subst (λ (n : ℕ). RefusesBlocks (block_count w) n e) same h)));
  }

  pub memory_exactly : (e : Fault) → e ≡ Memory → WritesExactly w columns ids (Err e)
  memory_exactly e h = record { known = known; agrees = agrees; exact = λ ds agree. subst (λ (f : Fault). AnswersWrite w ds columns ids (Err f)) (sym h) (tt, tt) }

  pub sending_exactly : (list : List FilledPlace) (e : Fault) → MayList w columns ids list → ¬ (¬ IsWritable w.fields w.metadata w.ids) → IsIo e ⊎ RefusesSending w.order (map layout_of columns) list w.place e → WritesExactly w columns ids (Err e)
  sending_exactly list (Io x) may writable h = record { known = known; agrees = agrees; exact = λ ds agree. answers_io w ds columns ids x }
  sending_exactly list e may writable (inl h) = absurd h
  sending_exactly list e may writable (inr h) = record {
    known = known;
    agrees = agrees;
    exact = λ ds agree. not_denied w ds columns ids e writable (λ k. answers_missed w ds columns ids agree k e (sending_missed w ds columns ids agree k list e may h));
  }

  pub sent_exactly : (list : List FilledPlace) (dictionaries : List Message) (own : Message) (p : Placed) (count : ℕ) → MayList w columns ids list → AreMessages w.order (map layout_of columns) list dictionaries own
      → IsEncodable Record (row_count len_of (map layout_of columns)) (levels_of (map layout_of columns)) → HasBlocksFrom w.place (map sent dictionaries) (sent own) p → count ≡ length list → block_count w + count + 1 ≤ most_blocks → WritesExactly w columns ids (Ok tt)
  sent_exactly list dictionaries own p count may are said placed same few = record {
    known = known;
    agrees = agrees;
    exact = λ ds agree. answers_sent w ds columns ids list dictionaries own p agree may are said placed (omega (arith, few, same));
  }
