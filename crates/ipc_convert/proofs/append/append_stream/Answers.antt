use Rattle.std.proofs.Common.{ap, inr, subst, ◌∙◌}
use Rattle.std.proofs.lemmas.Result.{err_from_is_err_and}
use Rattle.ipc_devices.specs.Faults.{OwnFault}
use Rattle.ipc_file_write.specs.Appends.{GoesOn}
use Rattle.ipc_file_write.specs.FileWriters.{seen}
use Rattle.ipc_readers.specs.Streams.{device_of}
use Rattle.lower.specs.Normal.{norm_schema}
use Rattle.ipc_base.specs.IdTrees.{all_ids_view}
use Rattle.ipc_files.specs.Footers.{file_seen}
use Rattle.ipc_files.specs.Files.{FileReason}
use Rattle.ipc_convert.proofs.AppendFaults.{appended_refused, file_not_gone_on, no_metadata, other_schema}
use Rattle.ipc_convert.proofs.Appended.{stream_appended}
use Rattle.ipc_convert.proofs.Answered.{either_answered, memory_answers_none, none_of_devices, of_sink, of_source}
use Rattle.ipc_convert.proofs.Conversions.{stream_taken_so}
use Rattle.ipc_convert.proofs.CopyFaults.{ended_by, memory_alone, stream_blocks_stop}
use Rattle.ipc_convert.proofs.Failing.{file_fails, front_fails, memory_says_none, never_io, output_fails, output_opens_not, output_read_fails}
use Rattle.ipc_convert.proofs.Refused.{front_refused}
use Rattle.ipc_convert.proofs.SameDevices.{file_named, still_flushed, takes_named}
use Rattle.ipc_convert.specs.Copies.{TakesStream}
use Rattle.ipc_convert.specs.Refusals.{AppendedCause}
use Rattle.ipc_convert.specs.Sources.{StreamCame, StreamStopped}
use Rattle.ipc_convert.proofs.Unfailed.{front_unfailed, takes_unfailed, where_ok}
use Rattle.ipc_convert.proofs.append.append_stream.Goals as goal

pub returns : goal.returns
returns g c =
    let takes : TakesStream g.R.Reads.gives c.args.input c.into_inner-2.result =
    stream_taken_so g.R.Reads.gives g.F.Failures.device g.met.R.Reads.laws.in_order
    c.args.input c.read_stream_metadata.new.reader _ c.in_ok-metadata-2.metadata c.in_ok-reader.reader c.copy_chunks-copied.new.source
    c.in_ok-writer.writer c.copy_chunks-copied.new.sink c.finish_file.new.writer c.copy_chunks-copied.result c.in_ok-finish_file.field-0
    c.in_ok-metadata-2.ensures.gives c.in_ok-reader.ensures.made.unread c.in_ok-reader.ensures.made.asked c.copy_chunks-copied.ensures.copied c.in_ok-finish_file.ensures.ends c.into_inner-2.ensures in
    let made = c.in_ok-writer.ensures in
    let same = c.in_ok-check_schema.ensures.exact in
    let ends = c.in_ok-finish_file.ensures.ends in
    let copied = where_ok _ c.copy_chunks-copied.result c.in_ok-finish_file.field-0 ends.all c.copy_chunks-copied.ensures.done in
    record {
      exact = λ k front.
          stream_appended g.R.Reads.gives g.F.Failures.device g.met.R.Reads.laws.in_order
          c.args.file c.read_file_metadata.new.reader _ c.args.input c.read_stream_metadata.new.reader _ (file_seen c.in_ok-metadata.metadata) c.in_ok-metadata-2.metadata c.in_ok-reader.reader c.copy_chunks-copied.new.source
          c.in_ok-writer.writer c.copy_chunks-copied.new.sink c.finish_file.new.writer c.copy_chunks-copied.result c.in_ok-finish_file.field-0
          k (c.in_ok-metadata.ensures.from_start k front) (c.in_ok-metadata.ensures.device.whole (g.met.F.Seeks.known_still k)) made.state.goes_on made.content.means made.content.again
          c.in_ok-metadata-2.ensures.gives c.in_ok-reader.ensures.made.unread c.in_ok-reader.ensures.made.asked
          (same.0.0 ∙ ap norm_schema (c.schema.ensures ∙ (λ i. (made.state.goes_on.fields i, made.state.goes_on.metadata i))), same.0.1 ∙ ap all_ids_view c.deref.ensures.value ∙ ap (λ x. x.0) c.in_ok-ids.ensures)
          c.copy_chunks-copied.ensures.copied c.in_ok-finish_file.ensures.ends c.into_inner-2.ensures c.into_inner.ensures;
      flushed = still_flushed g.F.Failures.device _ _ c.into_inner.ensures ends.sends.flushed;
      causes = λ there front. tt;
      device = record {
        done = (
          ap g.F.Failures.device.failures c.into_inner.ensures ∙ ends.sends.step.done ∙ copied.1 ∙ c.in_ok-writer.ensures.state.done ∙ c.in_ok-metadata.ensures.device.told,
          takes_unfailed g.R.Reads.gives g.R.Failures.device.failures g.met.R.Reads.laws.fails c.args.input _ takes,
        );
        names = (
          ap g.F.Failures.device.names c.into_inner.ensures
              ∙ file_named g.F.Failures.device (StreamCame g.R.Reads.gives) (StreamStopped g.R.Reads.gives) c.in_ok-reader.reader c.copy_chunks-copied.new.source
              c.in_ok-writer.writer c.copy_chunks-copied.new.sink c.finish_file.new.writer c.copy_chunks-copied.result c.in_ok-finish_file.field-0 c.copy_chunks-copied.ensures.copied ends
              ∙ c.in_ok-writer.ensures.state.names ∙ c.in_ok-metadata.ensures.device.names,
          takes_named g.R.Reads.gives g.R.Failures.device.names g.met.R.Reads.laws.names c.args.input _ takes,
        );
        failed = tt;
        answered = tt;
      };
      takes = takes;
    }

pub returns-in_err-metadata : goal.returns-in_err-metadata
returns-in_err-metadata g c =
    let p = err_from_is_err_and c.from_residual.result c.from_residual.ensures.1 in
    rw (p.1, p.2) (record {
      exact = λ k front. tt;
      flushed = tt;
      causes = λ k front.
          let reason = subst (λ n. OwnFault c.in_err-metadata.field-0.0 (FileReason n (g.F.Failures.device.memory c.args.file).whole c.in_err-metadata.field-0.0)) front (c.in_err-metadata.ensures.causes.reason k) in
          no_metadata _ _ c.in_err-metadata.field-0.0 _ (c.in_err-metadata.ensures.from_start k front) reason;
      device = record { done = tt; names = tt; failed = output_fails g.F.Failures.device c.args.file c.in_err-metadata.field-0.0 _ (output_read_fails g.F.Failures.device c.args.file c.read_file_metadata.new.reader c.in_err-metadata.field-0.0 c.in_err-metadata.ensures.device.failed); answered = of_sink c.in_err-metadata.field-0.0 _ _ c.in_err-metadata.ensures.device.answered };
      takes = tt;
    })

pub returns-in_err-writer : goal.returns-in_err-writer
returns-in_err-writer g c =
    let p = err_from_is_err_and c.from_residual-in_err-writer.result c.from_residual-in_err-writer.ensures.1 in
    rw (p.1, p.2) (record {
      exact = λ k front. tt;
      flushed = tt;
      causes = λ k front.
          file_not_gone_on g.F.Failures.device c.args.file c.read_file_metadata.new.reader (file_seen c.in_ok-metadata.metadata) c.in_err-writer.field-0.0 _
          (c.in_ok-metadata.ensures.from_start k front) (c.in_ok-metadata.ensures.device.whole (g.met.F.Seeks.known_still k)) c.in_err-writer.ensures.causes.only;
      device = record {
        done = tt;
        names = tt;
        failed =
            output_fails g.F.Failures.device c.args.file c.in_err-writer.field-0.0 _
            (output_opens_not g.F.Failures.device c.args.file c.read_file_metadata.new.reader c.in_err-writer.field-0.0 c.in_ok-metadata.ensures.device.told c.in_err-writer.ensures.device);
        answered = of_sink c.in_err-writer.field-0.0 _ _ c.in_err-writer.ensures.answered;
      };
      takes = tt;
    })

pub returns-in_err-metadata-2 : goal.returns-in_err-metadata-2
returns-in_err-metadata-2 g c =
    let p = err_from_is_err_and c.from_residual-in_err-metadata-2.result c.from_residual-in_err-metadata-2.ensures.1 in
    rw (p.1, p.2) (record {
      exact = λ k front. tt;
      flushed = tt;
      causes = λ k front.
          appended_refused g.F.Failures.device c.args.file c.read_file_metadata.new.reader (file_seen c.in_ok-metadata.metadata) g.R.Reads.gives g.R.Failures.device c.args.input c.in_err-metadata-2.field-0.0 _
          (c.in_ok-metadata.ensures.from_start k front) (c.in_ok-metadata.ensures.device.whole (g.met.F.Seeks.known_still k))
          (front_refused g.R.Reads.gives g.R.Failures.device g.met.R.Reads.laws.ahead c.args.input _ c.in_err-metadata-2.field-0.0
          (AppendedCause g.F.Failures.device (file_seen c.in_ok-metadata.metadata) c.read_file_metadata.new.reader) c.in_err-metadata-2.ensures.gives);
      device = record { done = tt; names = tt; failed = front_fails g.R.Reads.gives g.R.Failures.device.failures g.met.R.Reads.laws.fails c.args.input c.read_stream_metadata.new.reader c.in_err-metadata-2.field-0.0 _ c.in_err-metadata-2.ensures.gives; answered = of_source c.in_err-metadata-2.field-0.0 _ _ c.in_err-metadata-2.ensures.answered };
      takes = tt;
    })

pub returns-in_err-check_schema : goal.returns-in_err-check_schema
returns-in_err-check_schema g c =
    let p = err_from_is_err_and c.from_residual-in_err-check_schema.result c.from_residual-in_err-check_schema.ensures.1 in
    let made = c.in_ok-writer.ensures in
    rw (p.1, p.2) (record {
      exact = λ k front. tt;
      flushed = tt;
      causes = λ k front.
          appended_refused g.F.Failures.device c.args.file c.read_file_metadata.new.reader (file_seen c.in_ok-metadata.metadata) g.R.Reads.gives g.R.Failures.device c.args.input c.in_err-check_schema.field-0.0 _
          (c.in_ok-metadata.ensures.from_start k front) (c.in_ok-metadata.ensures.device.whole (g.met.F.Seeks.known_still k))
          (other_schema g.F.Failures.device (file_seen c.in_ok-metadata.metadata) c.read_file_metadata.new.reader g.R.Reads.gives g.R.Failures.device g.met.R.Reads.laws.ahead c.args.input _ c.in_ok-metadata-2.metadata c.in_err-check_schema.field-0.0
          _ _ c.in_ok-metadata-2.ensures.gives (c.schema.ensures ∙ (λ i. (made.state.goes_on.fields i, made.state.goes_on.metadata i))) (ap all_ids_view c.deref.ensures.value ∙ ap (λ x. x.0) c.in_ok-ids.ensures)
          c.in_err-check_schema.ensures.only c.in_err-check_schema.ensures.exact);
      device = record { done = tt; names = tt; failed = never_io c.in_err-check_schema.field-0.0 _ c.in_err-check_schema.ensures.own; answered = none_of_devices c.in_err-check_schema.field-0.0 _ c.in_err-check_schema.ensures.own };
      takes = tt;
    })

pub returns-in_err-reader : goal.returns-in_err-reader
returns-in_err-reader g c =
    let p = err_from_is_err_and c.from_residual-in_err-reader.result c.from_residual-in_err-reader.ensures.1 in
    rw (p.1, p.2) (record {
      exact = λ k front. tt;
      flushed = tt;
      causes = λ k front. memory_alone c.in_err-reader.field-0.0 _ c.in_err-reader.ensures.only.0;
      device = record { done = tt; names = tt; failed = memory_says_none c.in_err-reader.field-0.0 _ c.in_err-reader.ensures.only.0; answered = memory_answers_none c.in_err-reader.field-0.0 _ c.in_err-reader.ensures.only.0 };
      takes = tt;
    })

pub returns-in_err-finish_file : goal.returns-in_err-finish_file
returns-in_err-finish_file g c =
    let p = err_from_is_err_and c.from_residual-in_err-finish_file.result c.from_residual-in_err-finish_file.ensures.1 in
    let m = file_seen c.in_ok-metadata.metadata in
    let device = c.read_file_metadata.new.reader in
    rw (p.1, p.2) (record {
      exact = λ k front. tt;
      flushed = tt;
      causes = λ k front.
          appended_refused g.F.Failures.device c.args.file device m g.R.Reads.gives g.R.Failures.device c.args.input c.in_err-finish_file.field-0.0 _
          (c.in_ok-metadata.ensures.from_start k front) (c.in_ok-metadata.ensures.device.whole (g.met.F.Seeks.known_still k))
          (stream_blocks_stop g.F.Failures.device (GoesOn g.F.Failures.device m device)
          c.in_ok-writer.writer c.copy_chunks-copied.new.sink c.finish_file.new.writer c.in_err-finish_file.field-0.0 c.in_ok-writer.ensures.state.goes_on
          g.R.Reads.gives g.R.Failures.device g.met.R.Reads.laws.in_order g.met.R.Reads.laws.ahead c.args.input c.read_stream_metadata.new.reader c.in_ok-metadata-2.metadata c.in_ok-reader.reader c.copy_chunks-copied.new.source
          c.in_ok-metadata-2.ensures.gives c.in_ok-reader.ensures.made.unread c.in_ok-reader.ensures.made.asked (AppendedCause g.F.Failures.device m device) (λ first no. inr no)
          c.copy_chunks-copied.result c.copy_chunks-copied.ensures.stops c.copy_chunks-copied.ensures.copied c.in_err-finish_file.ensures.anyway);
      device = record {
        done = tt;
        names = tt;
        failed =
            file_fails g.F.Failures.device c.args.file g.R.Failures.device.failures c.args.input (λ r. device_of r) (λ w. (seen w).device) c.in_ok-reader.reader c.copy_chunks-copied.new.source c.in_ok-writer.writer c.copy_chunks-copied.new.sink
            (front_unfailed g.R.Reads.gives g.R.Failures.device.failures g.met.R.Reads.laws.fails c.args.input c.read_stream_metadata.new.reader c.in_ok-metadata-2.metadata c.in_ok-reader.reader c.in_ok-metadata-2.ensures.gives c.in_ok-reader.ensures.made.unread)
            (c.in_ok-writer.ensures.state.done ∙ c.in_ok-metadata.ensures.device.told) c.finish_file.new.writer c.copy_chunks-copied.result c.in_err-finish_file.field-0.0 _
            (ended_by g.F.Failures.device c.copy_chunks-copied.result c.in_err-finish_file.field-0.0 (seen c.copy_chunks-copied.new.sink) (seen c.finish_file.new.writer) c.in_err-finish_file.ensures.anyway)
            c.copy_chunks-copied.ensures.failed c.copy_chunks-copied.ensures.done c.in_err-finish_file.ensures.failed;
        answered =
            either_answered c.copy_chunks-copied.result c.in_err-finish_file.field-0.0 _ _ _ (ended_by g.F.Failures.device c.copy_chunks-copied.result c.in_err-finish_file.field-0.0 (seen c.copy_chunks-copied.new.sink) (seen c.finish_file.new.writer) c.in_err-finish_file.ensures.anyway)
            c.copy_chunks-copied.ensures.answered c.in_err-finish_file.ensures.answered;
      };
      takes = tt;
    })
