use Rattle.std.proofs.Common.{None}
use Rattle.std.proofs.lemmas.Result.{err_from_is_err_and}
use Rattle.ipc_devices.proofs.Claims.{claims_through}
use Rattle.ipc_readers.proofs.OfMemory.{other_answer}
use Rattle.ipc_files.specs.Footers.{file_seen}
use Rattle.ipc_files.specs.declared.read.file.metadata.FileMetadata.{FileMetadata}
use Rattle.ipc_file_round_trip.proofs.Files.{answer_reason, file_given, metadata_reason, no_metadata}
use Rattle.ipc_file_round_trip.specs.declared.read.WholeFile.{WholeFile}
use Rattle.ipc_file_round_trip.proofs.read.read_file.Goals as goal

pub returns-clause-meaning : goal.returns-clause-meaning
returns-clause-meaning c =
    let m = c.in_ok-metadata.metadata in
    file_given None None c.args.bytes.now m c.read_by.result c.in_ok-metadata.ensures.meaning c.read_by.ensures.described c.read_by.ensures.chunks

pub returns-clause-reason : goal.returns-clause-reason
returns-clause-reason c = answer_reason None None c.args.bytes.now (file_seen c.in_ok-metadata.metadata) c.read_by.result c.in_ok-metadata.ensures.meaning c.read_by.ensures.reason

pub returns-in_err-metadata : goal.returns-in_err-metadata
returns-in_err-metadata c =
    let fault = c.in_err-metadata.field-0.0 in
    let said = c.in_err-metadata.ensures in
    let p = err_from_is_err_and c.from_residual.result c.from_residual.ensures.1 in
    rw (p.1, p.2) (record {
      meaning = claims_through fault _ _ (no_metadata None None c.args.bytes.now) said.meaning;
      reason = metadata_reason None None c.args.bytes.now fault said.meaning said.reason;
      device = other_answer FileMetadata WholeFile fault _ said.device;
    })
