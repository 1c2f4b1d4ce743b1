use Rattle.std.proofs.Common.{◌≡◌, List, ℕ, None, Some, subst}
use Rattle.std.specs.Prelude.{not}
use Rattle.std.proofs.lemmas.Result.{err_from_is_err_and}
use Rattle.lower.specs.TypeViews.{fields_view, pairs_of}
use Rattle.ipc_devices.specs.Faults.{OwnFault}
use Rattle.ipc_model.specs.WriterStates.{answered}
use Rattle.ipc_model.specs.Writers.{taken}
use Rattle.ipc_schema_write.specs.WriterAnswers.{byte_order}
use Rattle.ipc_write.specs.Calls.{ended_as}
use Rattle.ipc_write.specs.Writers.{chosen_ids}
use Rattle.ipc_file_round_trip.proofs.Trips.{never_refused}
use Rattle.ipc_file_round_trip.proofs.ReadBack.{written_law}
use Rattle.ipc_file_round_trip.specs.Reading.{file_by, file_read}
use Rattle.ipc_file_round_trip.proofs.round_trip.file_round_trip.Goals as goal

pub returns : goal.returns
returns c =
    let fields = fields_view c.args.schema.fields.items in
    let written = c.in_ok-written.written in
    let read : file_by None None written.bytes.items ≡ Some (file_read c.in_ok-file.file) =
    subst (λ (xs : List ℕ). file_by None None xs ≡ Some (file_read c.in_ok-file.file)) c.deref.ensures.value c.in_ok-file.ensures.meaning in
    record {
      exact =
          written_law written.bytes.items (byte_order (not c.args.options.big_endian)) fields (pairs_of c.args.schema.metadata.entries) (chosen_ids c.args.ipc_fields fields) (pairs_of c.args.custom_metadata.entries)
          (taken (answered (ended_as c.args.calls.now written.answers.items))) c.in_ok-file.file c.in_ok-written.ensures.content read;
      causes = tt;
      means = record { bytes = written.bytes.items; written = c.in_ok-written.ensures.content; read = read };
      run = c.in_ok-written.ensures.state;
    }

pub returns-in_err-written : goal.returns-in_err-written
returns-in_err-written c =
    let p = err_from_is_err_and c.from_residual.result c.from_residual.ensures.1 in
    rw (p.1, p.2) (record { exact = tt; causes = c.in_err-written.ensures.causes; means = tt; run = tt })

pub returns-in_err-file : goal.returns-in_err-file
returns-in_err-file c =
    let fields = fields_view c.args.schema.fields.items in
    let bytes = c.in_ok-written.written.bytes.items in
    let fault = c.in_err-file.field-0.0 in
    let refused : OwnFault fault (file_by None None bytes ≡ None) = subst (λ (xs : List ℕ). OwnFault fault (file_by None None xs ≡ None)) c.deref.ensures.value c.in_err-file.ensures.meaning in
    let p = err_from_is_err_and c.from_residual-in_err-file.result c.from_residual-in_err-file.ensures.1 in
    rw (p.1, p.2) (record {
      exact = tt;
      causes =
          never_refused (byte_order (not c.args.options.big_endian)) fields (pairs_of c.args.schema.metadata.entries) (chosen_ids c.args.ipc_fields fields) (pairs_of c.args.custom_metadata.entries) c.args.calls.now bytes _ fault
          c.in_ok-written.ensures.content c.in_err-file.ensures.device refused;
      means = tt;
      run = tt;
    })
