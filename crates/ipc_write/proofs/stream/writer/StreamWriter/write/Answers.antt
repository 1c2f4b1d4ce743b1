use Rattle.std.proofs.Common.{rules, ◌≡◌, ◌∙◌, Err, List, map, refl, subst}
use Rattle.lower_arrays.specs.AnyLayouts.{layout_of}
use Rattle.lower_arrays.specs.Layouts.{len_of}
use Rattle.lower_arrays.specs.declared.array.AnyArray.{AnyArray}
use Rattle.ipc_base.specs.Chunks.{row_count}
use Rattle.ipc_chunks.proofs.SameMessages.{remembered_with_room}
use Rattle.ipc_tracker.specs.Listings.{listed}
use Rattle.ipc_tracker.specs.Trackers.{remembered}
use Rattle.ipc_write.specs.Writers.{MayList, RefusesChunk, fault_unless_started, seen, seen_ids}
use Rattle.ipc_write.proofs.Agreements.{chunk_appended, chunk_not_appended, chunk_refused}
use Rattle.ipc_write.proofs.Refusals.{chunk_not_io, first_passed, first_refused, handing_exactly, may_be_written, memory_refused, refused_chunk_write, refused_exactly, refuses_handing, taken_exactly}
use Rattle.ipc_write.proofs.WriterSteps.{chunk_sent, chunk_unsent, refused_chunk}
use Rattle.ipc_write.proofs.stream.writer.StreamWriter.write.Goals as goal

-- ---- refused before any dictionary was chosen

pub returns-in_err-dictionaries : goal.returns-in_err-dictionaries
returns-in_err-dictionaries g c =
    let fault = c.in_err-dictionaries.field-0.0 in
    let e : c.from_residual.result ≡ Err fault = search rules in
    let only : RefusesChunk (seen c.args.self.now) c.args.columns.now (seen_ids c.args.ipc_fields) fault =
    subst (λ (cs : List AnyArray). RefusesChunk (seen c.args.self.now) cs (seen_ids c.args.ipc_fields) fault) c.arrays.ensures.columns c.in_err-dictionaries.ensures.only in
    rw e (record {
      exact = refused_exactly (seen c.args.self.now) c.args.columns.now (seen_ids c.args.ipc_fields) fault only;
      causes = refused_chunk_write (seen c.args.self.now) c.args.columns.now (seen_ids c.args.ipc_fields) fault only;
      device =
          refused_chunk _ _ _ _ _ (record { device = refl; state = refl; types = refl; ids = refl; dictionaries = λ id. refl }) refl
          (chunk_not_io (seen c.args.self.now) c.args.columns.now (seen_ids c.args.ipc_fields) fault only);
      state = record {
        first = first_refused (fault_unless_started c.args.self.now.state) (seen c.args.self.now) _ fault (Err fault) refl c.in_err-dictionaries.ensures.first refl;
        ok = tt;
      };
      content = chunk_refused _ _ _ fault c.args.columns.now (record { device = refl; state = refl; types = refl; ids = refl; dictionaries = λ id. refl }) refl;
    })

-- ---- no memory to remember them

pub returns-in_err-make_room : goal.returns-in_err-make_room
returns-in_err-make_room g c =
    let fault = c.in_err-make_room.field-0.0 in
    let e : c.from_residual-in_err-make_room.result ≡ Err fault = search rules in
    let only : RefusesChunk (seen c.args.self.now) c.args.columns.now (seen_ids c.args.ipc_fields) fault =
    memory_refused (seen c.args.self.now) c.args.columns.now (seen_ids c.args.ipc_fields) fault c.in_err-make_room.ensures.only in
    rw e (record {
      exact = refused_exactly (seen c.args.self.now) c.args.columns.now (seen_ids c.args.ipc_fields) fault only;
      causes = refused_chunk_write (seen c.args.self.now) c.args.columns.now (seen_ids c.args.ipc_fields) fault only;
      device =
          refused_chunk _ _ _ _ _ (record { device = refl; state = refl; types = refl; ids = refl; dictionaries = c.make_room.ensures.same }) refl
          (chunk_not_io (seen c.args.self.now) c.args.columns.now (seen_ids c.args.ipc_fields) fault only);
      state = record { first = first_passed (seen c.args.self.now) _ _ c.in_ok-dictionaries.ensures.ok.was; ok = tt };
      content = chunk_refused _ _ _ fault c.args.columns.now (record { device = refl; state = refl; types = refl; ids = refl; dictionaries = c.make_room.ensures.same }) refl;
    })

-- ---- sent to the device

pub returns-in_err-send_chunk : goal.returns-in_err-send_chunk
returns-in_err-send_chunk g c =
    let fault = c.in_err-send_chunk.field-0.0 in
    let e : c.from_residual-in_err-send_chunk.result ≡ Err fault = search rules in
    let list = map listed c.in_ok-dictionaries.dictionaries.items in
    let columns = c.args.columns.now in
    let may : MayList (seen c.args.self.now) columns (seen_ids c.args.ipc_fields) list =
    subst (λ (cs : List AnyArray). MayList (seen c.args.self.now) cs (seen_ids c.args.ipc_fields) list) c.arrays.ensures.columns c.in_ok-dictionaries.ensures.ok in
    let sent = c.in_err-send_chunk.ensures in
    rw e (record {
      exact = handing_exactly (seen c.args.self.now) columns (seen_ids c.args.ipc_fields) list fault may (rw c.deref.ensures.value at sent.takes);
      causes = refuses_handing (seen c.args.self.now) columns (seen_ids c.args.ipc_fields) list fault may (rw c.deref.ensures.value at sent.takes);
      device =
          chunk_unsent g.W.Failures.device (seen c.args.self.now) _ fault columns (seen_ids c.args.ipc_fields) list may
          (rw c.deref.ensures.value at sent.sends) sent.state refl refl c.make_room.ensures.same refl;
      state = record { first = first_passed (seen c.args.self.now) _ _ c.in_ok-dictionaries.ensures.ok.was; ok = tt };
      content =
          chunk_not_appended g.W.Failures.device (seen c.args.self.now) _ fault columns may.was
          (chunk_unsent g.W.Failures.device (seen c.args.self.now) _ fault columns (seen_ids c.args.ipc_fields) list may
          (rw c.deref.ensures.value at sent.sends) sent.state refl refl c.make_room.ensures.same refl);
    })

-- ---- sent

pub returns : goal.returns
returns g c =
    let list = map listed c.in_ok-dictionaries.dictionaries.items in
    let columns = c.args.columns.now in
    let may : MayList (seen c.args.self.now) columns (seen_ids c.args.ipc_fields) list =
    subst (λ (cs : List AnyArray). MayList (seen c.args.self.now) cs (seen_ids c.args.ipc_fields) list) c.arrays.ensures.columns c.in_ok-dictionaries.ensures.ok in
    let remembers =
    remembered_with_room list (remembered c.args.self.now.dictionary_tracker) (remembered c.make_room.new.self) (remembered c.remember_all.new.self) c.make_room.ensures.same c.remember_all.ensures.memory in
    record {
      exact =
          taken_exactly (seen c.args.self.now) columns (seen_ids c.args.ipc_fields) tt
          (may_be_written (seen c.args.self.now) columns (seen_ids c.args.ipc_fields) list (row_count len_of (map layout_of columns)) may c.in_ok-send_chunk.ensures.takes);
      causes = tt;
      device =
          chunk_sent g.W.Failures.device (seen c.args.self.now) _ tt columns (seen_ids c.args.ipc_fields) list may
          (rw c.deref.ensures.value at c.in_ok-send_chunk.ensures.sends) remembers refl;
      state = record {
        first = first_passed (seen c.args.self.now) _ _ c.in_ok-dictionaries.ensures.ok.was;
        ok = record { was = may.was; is = c.in_ok-send_chunk.ensures.state ∙ may.was; types = refl; ids_stay = refl; ids_same = may.ids_same; fits = may.fits.have };
      };
      content =
          chunk_appended g.W.Failures.device (seen c.args.self.now) _ tt columns (seen_ids c.args.ipc_fields) may.was (c.in_ok-send_chunk.ensures.state ∙ may.was) refl refl
          (may_be_written (seen c.args.self.now) columns (seen_ids c.args.ipc_fields) list (row_count len_of (map layout_of columns)) may c.in_ok-send_chunk.ensures.takes)
          (chunk_sent g.W.Failures.device (seen c.args.self.now) _ tt columns (seen_ids c.args.ipc_fields) list may
          (rw c.deref.ensures.value at c.in_ok-send_chunk.ensures.sends) remembers refl);
    }
