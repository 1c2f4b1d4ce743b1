use Rattle.std.proofs.Common.{rules, arith, length, ◌≡◌, ◌∙◌, ◌++◌, ◌∷◌, [], Err, List, map, refl, ap, subst}
use Rattle.lower_arrays.specs.AnyLayouts.{layout_of}
use Rattle.lower_arrays.specs.declared.array.AnyArray.{AnyArray}
use Rattle.ipc_chunks.proofs.SameMessages.{remembered_with_room}
use Rattle.ipc_tracker.specs.Listings.{listed}
use Rattle.ipc_tracker.specs.Trackers.{remembered}
use Rattle.ipc_table_views.specs.declared.file.Block.{Block}
use Rattle.ipc_write.specs.Writers.{fault_unless_started, seen_ids}
use Rattle.ipc_file_write.specs.FileWriters.{seen}
use Rattle.ipc_file_write.specs.Writes.{MayList, RefusesChunk}
use Rattle.ipc_file_write.proofs.Writes.{blocks_taken, chunk_not_io, columns_appended, columns_kept, columns_sent, columns_unsent, memory_not_io, refused_columns, room_kept, room_not_io, room_refused}
use Rattle.ipc_file_write.proofs.Exactness.{count_listed, tracker_agrees, tracker_known}
use Rattle.ipc_file_write.proofs.FileRefusals.{memory_exactly, refused_exactly, room_exactly, sending_exactly, sent_exactly}
use Rattle.ipc_file_write.proofs.Keeping.{started_schema}
use Rattle.ipc_file_write.proofs.Naming.{chunk_names, memory_names, room_names, sending_names}
use Rattle.ipc_file_write.proofs.StartsAndEnds.{first_passed, first_refused}
use Rattle.ipc_file_write.proofs.file.FileWriter.write.Goals as goal

-- ---- refused before any dictionary was chosen

pub returns-in_err-dictionaries-clause-writes : goal.returns-in_err-dictionaries-clause-writes
returns-in_err-dictionaries-clause-writes g c =
    let a = seen c.args.self.now in
    let fault = c.in_err-dictionaries.field-0.0 in
    let e : c.from_residual.result ≡ Err fault = search rules in
    let only : RefusesChunk a c.args.columns.now (seen_ids c.args.ipc_fields) fault =
    subst (λ (cs : List AnyArray). RefusesChunk a cs (seen_ids c.args.ipc_fields) fault) c.arrays.ensures.columns c.in_err-dictionaries.ensures.only in
    rw e (record {
      exact =
          refused_exactly a c.args.columns.now (seen_ids c.args.ipc_fields) (tracker_known c.args.self.now.dictionary_tracker) (tracker_agrees c.args.self.now.dictionary_tracker) fault (Err fault) refl c.in_err-dictionaries.ensures.first
          (λ was. started_schema a.state a.fields a.metadata a.ids a.pairs c.args.self.now.writable was) only;
      causes = chunk_names a c.args.columns.now (seen_ids c.args.ipc_fields) fault only;
      device =
          refused_columns g.W.Failures.device a a fault c.args.columns.now
          (record { device = refl; state = refl; ids = refl; pairs = refl; remembers = λ id. refl; dictionaries = refl; blocks = refl; place = refl }) (record { order = refl; fields = refl; metadata = refl; chosen = refl; pairs = refl; size = refl })
          (chunk_not_io a c.args.columns.now (seen_ids c.args.ipc_fields) fault only);
      state = first_refused (fault_unless_started c.args.self.now.state) a _ fault (Err fault) refl c.in_err-dictionaries.ensures.first refl;
      content = record { appended = λ k is_stream base cs h. tt; kept = λ k is_stream base cs h. h };
    })

-- ---- no room for the blocks

pub returns-in_err-make_room-clause-writes : goal.returns-in_err-make_room-clause-writes
returns-in_err-make_room-clause-writes g c =
    let a = seen c.args.self.now in
    let fault = c.in_err-make_room.field-0.0 in
    let e : c.from_residual-in_err-make_room.result ≡ Err fault = search rules in
    let list = map listed c.in_ok-dictionaries.dictionaries.items in
    let columns = c.args.columns.now in
    let may : MayList a columns (seen_ids c.args.ipc_fields) list =
    subst (λ (cs : List AnyArray). MayList a cs (seen_ids c.args.ipc_fields) list) c.arrays.ensures.columns c.in_ok-dictionaries.ensures.ok in
    rw e (record {
      exact =
          room_exactly a columns (seen_ids c.args.ipc_fields) (tracker_known c.args.self.now.dictionary_tracker) (tracker_agrees c.args.self.now.dictionary_tracker) list fault _ may
          (started_schema a.state a.fields a.metadata a.ids a.pairs c.args.self.now.writable may.was) (count_listed c.in_ok-dictionaries.dictionaries.items c.len-count.result (search rules)) c.in_err-make_room.ensures.only;
      causes = room_names a columns _ _ fault c.in_err-make_room.ensures.only;
      device =
          room_refused g.W.Failures.device a _ fault columns
          (record { order = refl; fields = refl; metadata = refl; ids = refl; pairs = refl; remembers = λ id. refl; dictionaries = c.make_room.ensures.same_dictionaries; blocks = c.make_room.ensures.same_records; size = refl })
          refl refl refl refl (room_not_io _ _ fault c.in_err-make_room.ensures.only);
      state = first_passed a _ _ may.was;
      content =
          room_kept g.W.Failures.device a _ fault _ may.was
          (record { order = refl; fields = refl; metadata = refl; ids = refl; pairs = refl; remembers = λ id. refl; dictionaries = c.make_room.ensures.same_dictionaries; blocks = c.make_room.ensures.same_records; size = refl }) refl refl refl;
    })

-- ---- nor to remember the dictionaries

pub returns-in_err-make_room-2-clause-writes : goal.returns-in_err-make_room-2-clause-writes
returns-in_err-make_room-2-clause-writes g c =
    let a = seen c.args.self.now in
    let fault = c.in_err-make_room-2.field-0.0 in
    let was = c.in_ok-dictionaries.ensures.ok.was in
    let e : c.from_residual-in_err-make_room-2.result ≡ Err fault = search rules in
    rw e (record {
      exact = memory_exactly a c.args.columns.now (seen_ids c.args.ipc_fields) (tracker_known c.args.self.now.dictionary_tracker) (tracker_agrees c.args.self.now.dictionary_tracker) fault c.in_err-make_room-2.ensures.only;
      causes = memory_names a c.args.columns.now fault c.in_err-make_room-2.ensures.only;
      device =
          room_refused g.W.Failures.device a _ fault c.args.columns.now
          (record { order = refl; fields = refl; metadata = refl; ids = refl; pairs = refl; remembers = c.make_room-2.ensures.same; dictionaries = c.make_room.ensures.same_dictionaries; blocks = c.make_room.ensures.same_records; size = refl })
          refl refl refl refl (memory_not_io fault c.in_err-make_room-2.ensures.only);
      state = first_passed a _ _ was;
      content =
          room_kept g.W.Failures.device a _ fault _ was
          (record { order = refl; fields = refl; metadata = refl; ids = refl; pairs = refl; remembers = c.make_room-2.ensures.same; dictionaries = c.make_room.ensures.same_dictionaries; blocks = c.make_room.ensures.same_records; size = refl }) refl refl refl;
    })

-- ---- sent to the device

pub returns-in_err-placed-clause-writes : goal.returns-in_err-placed-clause-writes
returns-in_err-placed-clause-writes g c =
    let a = seen c.args.self.now in
    let fault = c.in_err-placed.field-0.0 in
    let e : c.from_residual-in_err-placed.result ≡ Err fault = search rules in
    let list = map listed c.in_ok-dictionaries.dictionaries.items in
    let columns = c.args.columns.now in
    let may : MayList a columns (seen_ids c.args.ipc_fields) list =
    subst (λ (cs : List AnyArray). MayList a cs (seen_ids c.args.ipc_fields) list) c.arrays.ensures.columns c.in_ok-dictionaries.ensures.ok in
    let hands = rw c.deref.ensures.value at c.in_err-placed.ensures in
    rw e (record {
      exact =
          sending_exactly a columns (seen_ids c.args.ipc_fields) (tracker_known c.args.self.now.dictionary_tracker) (tracker_agrees c.args.self.now.dictionary_tracker) list fault may
          (started_schema a.state a.fields a.metadata a.ids a.pairs c.args.self.now.writable may.was) hands.refuses;
      causes = sending_names a columns list fault hands.refuses;
      device =
          columns_unsent g.W.Failures.device a _ fault columns list may.lists (rw c.deref.ensures.value at c.in_err-placed.ensures)
          (record { order = refl; fields = refl; metadata = refl; ids = refl; pairs = refl; remembers = c.make_room-2.ensures.same; dictionaries = c.make_room.ensures.same_dictionaries; blocks = c.make_room.ensures.same_records; size = refl }) refl refl;
      state = first_passed a _ _ may.was;
      content =
          columns_kept g.W.Failures.device a _ fault columns list _ may.was (rw c.deref.ensures.value at c.in_err-placed.ensures)
          (record { order = refl; fields = refl; metadata = refl; ids = refl; pairs = refl; remembers = c.make_room-2.ensures.same; dictionaries = c.make_room.ensures.same_dictionaries; blocks = c.make_room.ensures.same_records; size = refl }) refl;
    })

-- ---- sent

pub add_all-requires : goal.add_all-requires
add_all-requires g c =
    let hands = rw c.deref.ensures.value at c.in_ok-placed.ensures in
    let taken =
    blocks_taken g.W.Failures.device _ (map layout_of c.args.columns.now) (map listed c.in_ok-dictionaries.dictionaries.items) _ _ _ _ _ c.in_ok-placed.placed hands in
    let count = count_listed c.in_ok-dictionaries.dictionaries.items c.len-count.result (search rules) in
    let room = c.in_ok-make_room.ensures.dictionary_room in
    let added = ap (λ (bs : List Block). length bs) c.deref-2.ensures.value in
    omega (arith, taken, count, room, added)

pub returns-clause-writes : goal.returns-clause-writes
returns-clause-writes g c =
    let a = seen c.args.self.now in
    let list = map listed c.in_ok-dictionaries.dictionaries.items in
    let columns = c.args.columns.now in
    let may : MayList a columns (seen_ids c.args.ipc_fields) list =
    subst (λ (cs : List AnyArray). MayList a cs (seen_ids c.args.ipc_fields) list) c.arrays.ensures.columns c.in_ok-dictionaries.ensures.ok in
    let hands = rw c.deref.ensures.value at c.in_ok-placed.ensures in
    let remembers =
    remembered_with_room list (remembered c.args.self.now.dictionary_tracker) (remembered c.make_room-2.new.self) (remembered c.remember_all.new.self) c.make_room-2.ensures.same c.remember_all.ensures.memory in
    let dictionaries = rw c.deref-2.ensures.value at c.add_all.ensures in
    let blocks = c.add.ensures in
    record {
      exact =
          sent_exactly a columns (seen_ids c.args.ipc_fields) (tracker_known c.args.self.now.dictionary_tracker) (tracker_agrees c.args.self.now.dictionary_tracker) list hands.dictionaries hands.own c.in_ok-placed.placed _ may hands.are
          hands.said hands.placed (count_listed c.in_ok-dictionaries.dictionaries.items c.len-count.result (search rules)) c.in_ok-make_room.ensures.few;
      causes = tt;
      device =
          columns_sent g.W.Failures.device a _ c.in_ok-placed.placed columns list may.was may.lists (rw c.deref.ensures.value at c.in_ok-placed.ensures)
          (record { order = refl; fields = refl; metadata = refl; chosen = refl; pairs = refl; size = refl }) refl refl remembers (dictionaries ∙ ap (λ (bs : List Block). bs ++ c.in_ok-placed.placed.dictionaries.items) c.make_room.ensures.same_dictionaries)
          (blocks ∙ ap (λ (bs : List Block). bs ++ c.in_ok-placed.placed.record_batch ∷ []) c.make_room.ensures.same_records) refl;
      state = first_passed a _ _ may.was;
      content =
          columns_appended g.W.Failures.device a _ c.in_ok-placed.placed columns (seen_ids c.args.ipc_fields) list may (rw c.deref.ensures.value at c.in_ok-placed.ensures)
          (record { order = refl; fields = refl; metadata = refl; chosen = refl; pairs = refl; size = refl }) refl refl remembers (dictionaries ∙ ap (λ (bs : List Block). bs ++ c.in_ok-placed.placed.dictionaries.items) c.make_room.ensures.same_dictionaries)
          (blocks ∙ ap (λ (bs : List Block). bs ++ c.in_ok-placed.placed.record_batch ∷ []) c.make_room.ensures.same_records) refl;
    }
