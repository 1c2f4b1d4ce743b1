use Rattle.std.proofs.Common.{◌≡◌, List, Ok, Err, refl, ap}
use Rattle.std.proofs.lemmas.Result.{err_from_is_err_and}
use Rattle.std.specs.Prelude.{Vec}
use Rattle.std.specs.declared.alloc.Global.{Global}
use Rattle.lower_arrays.specs.declared.array.AnyArray.{AnyArray}
use Rattle.ipc_devices.proofs.Claims.{both_claimed}
use Rattle.ipc_devices.specs.Device.{after}
use Rattle.ipc_readers.proofs.OfMemory.{no_failure}
use Rattle.ipc_round_trip.proofs.Streams.{blames_front, blames_message, ends_same, head_same, new_ahead, refused_chunks, refuses_stream, slice_metadata, slice_metadata_own, slices, unreadable, whole_stream}
use Rattle.ipc_round_trip.specs.declared.read.WholeStream.{WholeStream}
use Rattle.ipc_round_trip.proofs.read.read_stream.Goals as goal

pub returns : goal.returns
returns c =
    let copied = c.in_ok-copy.ensures in
    let begins = c.in_ok-reader.ensures.made.unread in
    let all = c.in_ok-chunks.ensures.exact refl begins.unfinished in
    let heads = head_same c.in_ok-copy.copy c.in_ok-metadata.metadata copied.schema copied.version copied.ids in
    let ahead = new_ahead slices c.read_stream_metadata.new.reader c.in_ok-copy.copy c.in_ok-metadata.metadata c.in_ok-reader.reader begins heads c.in_ok-reader.ensures.made.asked in
    let front : after (record { whole = c.new-input.result.inner.now; place = c.new-input.result.position }) ≡ c.args.bytes.now =
    ap (λ f. after (record { whole = f.inner.now; place = f.position })) c.new-input.ensures in
    record {
      meant = _;
      stream = whole_stream c.args.bytes.now _ _ c.in_ok-metadata.metadata front
          (slice_metadata (Ok c.in_ok-metadata.metadata) c.new-input.result c.read_stream_metadata.new.reader c.in_ok-metadata.ensures.gives);
      chunks = all.chunks _ ahead;
      end = ends_same _ _ _ c.is_finished.ensures (all.end _ ahead);
    }

pub returns-in_err-metadata : goal.returns-in_err-metadata
returns-in_err-metadata c =
    let fault = c.in_err-metadata.field-0.0 in
    let gave = c.in_err-metadata.ensures.gives in
    let old = c.new-input.result in
    let new = c.read_stream_metadata.new.reader in
    let front : after (record { whole = old.inner.now; place = old.position }) ≡ c.args.bytes.now =
    ap (λ f. after (record { whole = f.inner.now; place = f.position })) c.new-input.ensures in
    let p = err_from_is_err_and c.from_residual.result c.from_residual.ensures.1 in
    rw (p.1, p.2) (refuses_stream fault _ (slice_metadata_own WholeStream fault old new gave)
    (both_claimed fault _ _ (unreadable c.args.bytes.now _ _ fault front (slice_metadata (Err fault) old new gave))
    (blames_front c.args.bytes.now _ _ _ _ fault front (slice_metadata (Err fault) old new gave))))

pub returns-in_err-chunks : goal.returns-in_err-chunks
returns-in_err-chunks c =
    let fault = c.in_err-chunks.field-0.0 in
    let copied = c.in_ok-copy.ensures in
    let begins = c.in_ok-reader.ensures.made.unread in
    let heads = head_same c.in_ok-copy.copy c.in_ok-metadata.metadata copied.schema copied.version copied.ids in
    let front : after (record { whole = c.new-input.result.inner.now; place = c.new-input.result.position }) ≡ c.args.bytes.now =
    ap (λ f. after (record { whole = f.inner.now; place = f.position })) c.new-input.ensures in
    let schema = slice_metadata (Ok c.in_ok-metadata.metadata) c.new-input.result c.read_stream_metadata.new.reader c.in_ok-metadata.ensures.gives in
    let p = err_from_is_err_and c.from_residual-in_err-chunks.result c.from_residual-in_err-chunks.ensures.1 in
    rw (p.1, p.2) (refuses_stream fault _ (no_failure (Vec (List AnyArray) Global) WholeStream fault c.in_err-chunks.ensures.device.failed)
    (both_claimed fault _ _
    (refused_chunks slices c.read_stream_metadata.new.reader c.args.bytes.now _ c.in_ok-copy.copy c.in_ok-metadata.metadata c.in_ok-reader.reader fault front schema
    begins heads c.in_ok-reader.ensures.made.asked (c.in_err-chunks.ensures.causes.refused refl begins.unfinished))
    (blames_message c.read_stream_metadata.new.reader c.args.bytes.now _ _ c.in_ok-copy.copy c.in_ok-metadata.metadata c.in_ok-reader.reader _ fault begins heads c.in_ok-reader.ensures.made.asked
    (whole_stream c.args.bytes.now _ _ c.in_ok-metadata.metadata front schema) c.in_err-chunks.ensures.causes.only)))
