use Rattle.std.proofs.Common.{rules, ◌≡◌, ◌∙◌, ℕ, List, length, Some, Ok, Err, refl, sym, ap, subst}
use Rattle.std.proofs.lemmas.Bool.{false≢true}
use Rattle.std.proofs.lemmas.Result.{err_from_is_err_and}
use Rattle.std.specs.Prelude.{Vec}
use Rattle.std.specs.declared.alloc.Global.{Global}
use Rattle.lower_arrays.specs.declared.array.AnyArray.{AnyArray}
use Rattle.ipc_devices.proofs.Claims.{both_claimed}
use Rattle.ipc_devices.specs.Device.{after}
use Rattle.ipc_model.specs.Batches.{IsProjection}
use Rattle.ipc_model.specs.Streams.{Head, Meant, nothing_known}
use Rattle.ipc_readers.proofs.OfMemory.{no_failure}
use Rattle.ipc_readers.specs.ChosenStreams.{chosen_meaning}
use Rattle.ipc_readers.specs.Streams.{head_of}
use Rattle.ipc_round_trip.proofs.Chosen.{chosen_whole, names_others, none_readable, refused_columns}
use Rattle.ipc_round_trip.proofs.Streams.{blames_front, blames_message, chosen_ahead, ends_same, head_same, refuses_stream, slice_memory, slice_metadata, slice_metadata_own, slices}
use Rattle.ipc_round_trip.specs.declared.read.WholeStream.{WholeStream}
use Rattle.ipc_round_trip.proofs.columns.read_stream_columns.Goals as goal

pub returns : goal.returns
returns c =
    let js : List ℕ = c.args.projection.items in
    let m = c.in_ok-metadata.metadata in
    let copied = c.in_ok-copy.ensures in
    let begins = c.in_ok-reader.ensures.made.unread in
    let all = c.in_ok-chunks.ensures.exact refl begins.unfinished in
    let heads : head_of c.in_ok-copy.copy ≡ head_of m = head_same c.in_ok-copy.copy m copied.schema copied.version copied.ids in
    let device = c.read_stream_metadata.new.reader in
    let meant : Meant = chosen_meaning (record { head = head_of m; projection = Some js }) nothing_known (after (slice_memory device)) in
    let ahead = chosen_ahead slices device m m c.in_ok-reader.reader (Some js) begins refl c.in_ok-reader.ensures.made.asked in
    let front : after (record { whole = c.new-input.result.inner.now; place = c.new-input.result.position }) ≡ c.args.bytes.now =
    ap (λ f. after (record { whole = f.inner.now; place = f.position })) c.new-input.ensures in
    record {
      meant = meant;
      stream = chosen_whole (Some js) c.args.bytes.now _ _ m front (slice_metadata (Ok m) c.new-input.result device c.in_ok-metadata.ensures.gives)
          ∙ ap (λ (h : Head). Some (record { head = h; meant = meant })) (sym heads);
      chunks = all.chunks meant ahead;
      end = ends_same _ _ _ c.is_finished.ensures (all.end meant ahead);
    }

pub returns-in_err-metadata : goal.returns-in_err-metadata
returns-in_err-metadata c =
    let fault = c.in_err-metadata.field-0.0 in
    let gave = c.in_err-metadata.ensures.gives in
    let old = c.new-input.result in
    let new = c.read_stream_metadata.new.reader in
    let front : after (record { whole = old.inner.now; place = old.position }) ≡ c.args.bytes.now =
    ap (λ f. after (record { whole = f.inner.now; place = f.position })) c.new-input.ensures in
    let p = err_from_is_err_and c.from_residual.result c.from_residual.ensures.1 in
    rw (p.1, p.2) (refuses_stream fault _ (slice_metadata_own WholeStream fault old new gave)
    (both_claimed fault _ _ (none_readable (Some c.args.projection.items) c.args.bytes.now _ _ fault front (slice_metadata (Err fault) old new gave))
    (blames_front c.args.bytes.now _ _ _ _ fault front (slice_metadata (Err fault) old new gave))))

pub returns-in_err-chunks : goal.returns-in_err-chunks
returns-in_err-chunks c =
    let js : List ℕ = c.args.projection.items in
    let fault = c.in_err-chunks.field-0.0 in
    let m = c.in_ok-metadata.metadata in
    let begins = c.in_ok-reader.ensures.made.unread in
    let front : after (record { whole = c.new-input.result.inner.now; place = c.new-input.result.position }) ≡ c.args.bytes.now =
    ap (λ f. after (record { whole = f.inner.now; place = f.position })) c.new-input.ensures in
    let schema = slice_metadata (Ok m) c.new-input.result c.read_stream_metadata.new.reader c.in_ok-metadata.ensures.gives in
    let p = err_from_is_err_and c.from_residual-in_err-chunks.result c.from_residual-in_err-chunks.ensures.1 in
    rw (p.1, p.2) (refuses_stream fault _ (no_failure (Vec (List AnyArray) Global) WholeStream fault c.in_err-chunks.ensures.device.failed)
    (both_claimed fault _ _
    (refused_columns slices c.read_stream_metadata.new.reader (Some js) c.args.bytes.now _ m c.in_ok-reader.reader fault front schema
    begins c.in_ok-reader.ensures.made.asked (c.in_err-chunks.ensures.causes.refused refl begins.unfinished))
    (blames_message c.read_stream_metadata.new.reader c.args.bytes.now _ _ m m c.in_ok-reader.reader (Some js) fault begins refl c.in_ok-reader.ensures.made.asked
    (chosen_whole (Some js) c.args.bytes.now _ _ m front schema) c.in_err-chunks.ensures.causes.only)))

pub returns-then-not-is_projection : goal.returns-then-not-is_projection
returns-then-not-is_projection c =
    let js : List ℕ = c.args.projection.items in
    let m = c.in_ok-metadata.metadata in
    let items_are : c.deref.result.now ≡ js = search rules in
    let count_is : c.len.result ≡ length m.schema.fields.items = search rules in
    let front : after (record { whole = c.new-input.result.inner.now; place = c.new-input.result.position }) ≡ c.args.bytes.now =
    ap (λ f. after (record { whole = f.inner.now; place = f.position })) c.new-input.ensures in
    names_others js c.args.bytes.now _ _ m front (slice_metadata (Ok m) c.new-input.result c.read_stream_metadata.new.reader c.in_ok-metadata.ensures.gives)
    (λ is. false≢true (c.if-not-is_projection.ensures.1
    (subst (λ (xs : List ℕ). IsProjection (Some xs) c.len.result) (sym items_are) (subst (λ (n : ℕ). IsProjection (Some js) n) (sym count_is) is))))
