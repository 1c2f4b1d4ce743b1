use Rattle.std.proofs.Common.{rules, ◌≡◌, Err, Bool, List, map, subst, inl}
use Rattle.lower.specs.TypeTrees.{TypeTree}
use Rattle.lower_arrays.specs.AnyLayouts.{layout_of}
use Rattle.ipc_chunks.specs.Messages.{RefusesPlaces}
use Rattle.ipc_tracker.specs.Listings.{ListsAll, listed}
use Rattle.ipc_write.proofs.Acceptance.{are_arrays}
use Rattle.ipc_write.proofs.Refusals.{refuses_ids, refuses_state, refuses_types, state_answered}
use Rattle.ipc_write.specs.Writers.{FitTypes, HaveTypes, RefusesTypes, fault_unless_started, seen_ids}
use Rattle.ipc_file_write.specs.FileWriters.{seen}
use Rattle.ipc_file_write.specs.Writes.{as_stream}
use Rattle.ipc_file_write.proofs.Writes.{normal_fields, refuses_places}
use Rattle.ipc_file_write.proofs.file.FileWriter.check_write.Goals as goal

pub returns-in_err-check_started-clause-first : goal.returns-in_err-check_started-clause-first
returns-in_err-check_started-clause-first g c =
    let fault = c.in_err-check_started.field-0.0 in
    let e : c.from_residual.result ≡ Err fault = search rules in
    state_answered (fault_unless_started c.args.self.now.state) fault c.from_residual.result e c.in_err-check_started.ensures.only

pub returns-in_err-check_started-clause-only : goal.returns-in_err-check_started-clause-only
returns-in_err-check_started-clause-only g c =
    let fault = c.in_err-check_started.field-0.0 in
    let e : c.from_residual.result ≡ Err fault = search rules in
    rw e (inl (refuses_state (as_stream (seen c.args.self.now)) c.args.columns.now _ fault c.in_err-check_started.ensures.only))

pub returns-in_err-check_ids-clause-only : goal.returns-in_err-check_ids-clause-only
returns-in_err-check_ids-clause-only g c =
    let fault = c.in_err-check_ids.field-0.0 in
    let e : c.from_residual-in_err-check_ids.result ≡ Err fault = search rules in
    rw e (inl (refuses_ids (as_stream (seen c.args.self.now)) c.args.columns.now _ fault (rw c.deref.ensures.value at c.in_err-check_ids.ensures.only)))

pub returns-in_err-check_types-clause-only : goal.returns-in_err-check_types-clause-only
returns-in_err-check_types-clause-only g c =
    let fault = c.in_err-check_types.field-0.0 in
    let e : c.from_residual-in_err-check_types.result ≡ Err fault = search rules in
    let refused : RefusesTypes c.args.columns.now (as_stream (seen c.args.self.now)).types fault =
    subst (λ (ts : List TypeTree). RefusesTypes c.args.columns.now ts fault) (normal_fields c.args.self.now.schema.fields.items) (rw c.deref-2.ensures.value at c.in_err-check_types.ensures.only) in
    rw e (inl (refuses_types (as_stream (seen c.args.self.now)) c.args.columns.now _ fault refused))

pub returns-in_err-list-clause-only : goal.returns-in_err-list-clause-only
returns-in_err-list-clause-only g c =
    let w = seen c.args.self.now in
    let columns = c.args.columns.now in
    let fault = c.in_err-list.field-0.0 in
    let e : c.from_residual-in_err-list.result ≡ Err fault = search rules in
    let have : HaveTypes columns (as_stream w).types = subst (λ (ts : List TypeTree). HaveTypes columns ts) (normal_fields c.args.self.now.schema.fields.items) (rw c.deref-2.ensures.value at c.in_ok-check_types.ensures.ok) in
    let fits : FitTypes (as_stream w) columns = record { have = have; arrays = are_arrays columns c.in_ok-check_types.ensures.arrays } in
    let refused : RefusesPlaces w.remembers c.args.self.now.dictionary_tracker.cannot_replace (map layout_of columns) w.ids fault = rw c.deref-3.ensures.value at c.in_err-list.ensures.refused in
    rw e (refuses_places w columns (seen_ids c.args.ipc_fields) c.args.self.now.dictionary_tracker.cannot_replace fault c.args.self.now.keeps fits refused)

pub returns-clause-ok : goal.returns-clause-ok
returns-clause-ok g c =
    let w = seen c.args.self.now in
    let columns = c.args.columns.now in
    let list = map listed c.in_ok-list.list.items in
    let have : HaveTypes columns (as_stream w).types = subst (λ (ts : List TypeTree). HaveTypes columns ts) (normal_fields c.args.self.now.schema.fields.items) (rw c.deref-2.ensures.value at c.in_ok-check_types.ensures.ok) in
    let lists : ListsAll w.remembers c.args.self.now.dictionary_tracker.cannot_replace (map layout_of columns) w.ids list = rw c.deref-3.ensures.value at c.in_ok-list.ensures.lists in
    record {
      was = c.in_ok-check_started.ensures.ok;
      ids_same = rw c.deref.ensures.value at c.in_ok-check_ids.ensures.ok;
      fits = record { have = have; arrays = are_arrays columns c.in_ok-check_types.ensures.arrays };
      lists = subst (λ (fixed : Bool). ListsAll w.remembers fixed (map layout_of columns) w.ids list) c.args.self.now.keeps lists;
      lengths = rw c.deref-3.ensures.value at c.in_ok-list.ensures.lengths;
    }
