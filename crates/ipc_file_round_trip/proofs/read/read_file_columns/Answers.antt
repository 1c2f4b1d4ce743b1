use Rattle.std.proofs.Common.{rules, ◌≡◌, ℕ, length, Option, sym, subst}
use Rattle.std.proofs.lemmas.Bool.{false≢true}
use Rattle.std.proofs.lemmas.Result.{err_from_is_err_and}
use Rattle.ipc_model.specs.Batches.{IsProjection}
use Rattle.ipc_readers.proofs.OfMemory.{other_answer}
use Rattle.ipc_files.specs.Footers.{file_seen}
use Rattle.ipc_files.specs.declared.read.file.metadata.FileMetadata.{FileMetadata}
use Rattle.ipc_projection.specs.ChosenColumns.{items_of}
use Rattle.ipc_file_round_trip.proofs.Files.{chunks_reason, columns_given, columns_refused, metadata_reason, metadata_refused, names_others, rows_same}
use Rattle.ipc_file_round_trip.specs.Reading.{chunks_of}
use Rattle.ipc_file_round_trip.specs.declared.read.WholeFile.{WholeFile}
use Rattle.ipc_file_round_trip.proofs.read.read_file_columns.Goals as goal

pub returns-in_err-metadata : goal.returns-in_err-metadata
returns-in_err-metadata c =
    let fault = c.in_err-metadata.field-0.0 in
    let said = c.in_err-metadata.ensures in
    let asked = items_of c.args.projection in
    let p = err_from_is_err_and c.from_residual.result c.from_residual.ensures.1 in
    rw (p.1, p.2) (record {
      exact = metadata_refused asked c.args.limit c.args.bytes.now fault said.meaning;
      causes = metadata_reason asked c.args.limit c.args.bytes.now fault said.meaning said.reason;
      device = other_answer FileMetadata (Option WholeFile) fault _ said.device;
      rows = tt;
    })

pub returns-then-not-are_there : goal.returns-then-not-are_there
returns-then-not-are_there c =
    let m = c.in_ok-metadata.metadata in
    let asked = items_of c.args.projection in
    let many : c.len.result ≡ length m.schema.fields.items = search rules in
    record {
      exact =
          names_others asked c.args.bytes.now m c.in_ok-metadata.ensures.meaning
          (λ is. false≢true (c.if-not-are_there.ensures.1 (subst (λ (n : ℕ). IsProjection asked n) (sym many) is)));
      causes = tt;
      device = tt;
      rows = tt;
    }

pub returns : goal.returns
returns c =
    let m = c.in_ok-metadata.metadata in
    let asked = items_of c.args.projection in
    let is : IsProjection asked (length m.schema.fields.items) = search rules in
    let f = c.in_ok-file.file in
    let gave = c.in_ok-file.ensures in
    record {
      exact = columns_given asked c.args.limit c.args.bytes.now m f is c.in_ok-metadata.ensures.meaning gave.described gave.chunks;
      causes = tt;
      device = tt;
      rows = rows_same asked c.args.limit c.args.bytes.now (file_seen m) (file_seen f.metadata) (chunks_of f) gave.described gave.rows;
    }

pub returns-in_err-file : goal.returns-in_err-file
returns-in_err-file c =
    let fault = c.in_err-file.field-0.0 in
    let m = c.in_ok-metadata.metadata in
    let there = c.in_ok-metadata.ensures.meaning in
    let asked = items_of c.args.projection in
    let is : IsProjection asked (length m.schema.fields.items) = search rules in
    let p = err_from_is_err_and c.from_residual-in_err-file.result c.from_residual-in_err-file.ensures.1 in
    rw (p.1, p.2) (record {
      exact = columns_refused asked c.args.limit c.args.bytes.now m fault is there c.in_err-file.ensures.chunks;
      causes = chunks_reason asked c.args.limit c.args.bytes.now (file_seen m) fault there c.in_err-file.ensures.reason;
      device = other_answer WholeFile (Option WholeFile) fault _ c.in_err-file.ensures.device;
      rows = tt;
    })
