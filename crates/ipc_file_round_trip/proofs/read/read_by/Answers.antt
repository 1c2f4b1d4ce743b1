use Rattle.std.proofs.Common.{◌≡◌, List, refl, ap}
use Rattle.std.proofs.lemmas.Result.{err_from_is_err_and}
use Rattle.std.specs.Prelude.{Vec}
use Rattle.std.specs.declared.alloc.Global.{Global}
use Rattle.lower_arrays.specs.declared.array.AnyArray.{AnyArray}
use Rattle.ipc_readers.proofs.OfMemory.{no_failure}
use Rattle.ipc_projection.specs.ChosenColumns.{items_of}
use Rattle.ipc_file_round_trip.proofs.Files.{file_same}
use Rattle.ipc_file_round_trip.proofs.Readings.{chunks_read, chunks_refused, rows_read}
use Rattle.ipc_file_round_trip.proofs.Reasons.{all_reason}
use Rattle.ipc_file_round_trip.specs.declared.read.WholeFile.{WholeFile}
use Rattle.ipc_file_round_trip.proofs.read.read_by.Goals as goal
use Rattle.ipc_round_trip.proofs.Streams.{slices}

pub returns : goal.returns
returns c =
    let copied = c.in_ok-copy.ensures in
    let whole : c.new-input.result.inner.now ≡ c.args.bytes.now = ap (λ f. f.inner.now) c.new-input.ensures in
    let asked = items_of c.args.projection in
    record {
      described = file_same c.in_ok-copy.copy c.args.metadata copied.copy.schema copied.copy.ids copied.copy.blocks copied.dictionaries copied.copy.size copied.copy.pairs;
      chunks =
          chunks_read slices (λ k. refl) refl c.in_ok-reader.reader c.new-input.result c.args.metadata asked c.args.limit c.args.bytes.now
          c.in_ok-reader.ensures.ok whole c.in_ok-chunks.chunks.items c.in_ok-chunks.ensures.all;
      rows =
          rows_read slices (λ k. refl) refl c.in_ok-reader.reader c.new-input.result c.args.metadata asked c.args.limit c.args.bytes.now
          c.in_ok-reader.ensures.ok whole c.in_ok-chunks.chunks.items c.in_ok-chunks.ensures.all;
      reason = tt;
      device = tt;
    }

pub returns-in_err-chunks : goal.returns-in_err-chunks
returns-in_err-chunks c =
    let fault = c.in_err-chunks.field-0.0 in
    let whole : c.new-input.result.inner.now ≡ c.args.bytes.now = ap (λ f. f.inner.now) c.new-input.ensures in
    let p = err_from_is_err_and c.from_residual-in_err-chunks.result c.from_residual-in_err-chunks.ensures.1 in
    rw (p.1, p.2) (record {
      described = tt;
      chunks =
          chunks_refused slices (λ k. refl) refl c.in_ok-reader.reader c.new-input.result c.args.metadata (items_of c.args.projection) c.args.limit
          c.args.bytes.now c.in_ok-reader.ensures.ok whole fault c.in_err-chunks.ensures.refused;
      rows = tt;
      reason =
          all_reason slices (λ k. refl) refl c.in_ok-reader.reader c.new-input.result c.args.metadata (items_of c.args.projection) c.args.limit
          c.args.bytes.now c.in_ok-reader.ensures.ok whole fault c.in_err-chunks.ensures.refused;
      device = no_failure (Vec (List AnyArray) Global) WholeFile fault c.in_err-chunks.ensures.failed;
    })
