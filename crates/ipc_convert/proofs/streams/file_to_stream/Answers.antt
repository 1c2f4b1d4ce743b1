use Rattle.std.proofs.Common.{Err, ap, subst, ◌∙◌}
use Rattle.ipc_devices.specs.Faults.{OwnFault}
use Rattle.ipc_files.specs.Files.{FileReason}
use Rattle.std.proofs.lemmas.Result.{err_from_is_err_and}
use Rattle.ipc_file_readers.specs.Readers as blocks
use Rattle.ipc_write.specs.Writers.{order_of, seen}
use Rattle.ipc_convert.proofs.Answered.{memory_answers_none, of_sink, of_source}
use Rattle.ipc_convert.proofs.Conversions.{file_streamed}
use Rattle.ipc_convert.proofs.CopyFaults.{file_copy_stops, file_front_refused, file_start_stops, memory_alone}
use Rattle.ipc_convert.proofs.Failing.{copy_fails, end_fails, input_fails, memory_says_none, output_fails, send_fails, stream_step_fails}
use Rattle.ipc_convert.proofs.Refused.{mark_refused}
use Rattle.ipc_convert.proofs.SameDevices.{ended_flushed, ended_named, source_named, source_over, still_flushed}
use Rattle.ipc_convert.specs.Refusals.{AsStreamCause}
use Rattle.ipc_convert.specs.Sinks.{StreamTook}
use Rattle.ipc_convert.proofs.Unfailed.{stays_handed}
use Rattle.ipc_convert.proofs.streams.file_to_stream.Goals as goal

pub returns : goal.returns
returns g c =
    let begins = c.in_ok-reader.ensures.ok in
    let made = c.new-writer.ensures in
    record {
      exact = λ k there front.
          file_streamed g.F.Failures.device g.W.Failures.device (order_of c.args.write_options)
          c.args.file c.read_file_metadata.new.reader c.args.out _ c.in_ok-metadata.metadata c.metadata.result.now c.in_ok-reader.reader c.copy_chunks.new.source _
          c.new-writer.result c.start.new.self c.copy_chunks.new.sink c.end_stream.new.writer c.in_ok-ending.ending _
          there k (c.in_ok-metadata.ensures.from_start there front) (c.in_ok-metadata.ensures.device.whole (g.met.F.Seeks.known_still there)) begins (c.metadata.ensures ∙ begins.described) (ap (λ x. x.0) c.in_ok-ids.ensures)
          made.device made.order made.means c.in_ok-start.ensures.content c.in_ok-start.ensures.state.ok.is c.in_ok-ending.ensures.copied c.in_ok-end_stream.ensures.ends
          c.into_inner.ensures;
      flushed =
          still_flushed g.W.Failures.device _ _ c.into_inner.ensures
          (ended_flushed g.W.Failures.device c.in_ok-ending.ending (seen c.copy_chunks.new.sink) (seen c.end_stream.new.writer)
          (source_over g.F.Failures.device (StreamTook g.W.Failures.device) c.in_ok-reader.reader c.copy_chunks.new.source c.start.new.self c.copy_chunks.new.sink c.in_ok-ending.ending c.in_ok-ending.ensures.copied)
          c.in_ok-end_stream.ensures.ends);
      causes = λ there front. tt;
      device = record {
        done = (
          ap g.F.Failures.device.failures c.into_inner-file.ensures ∙ c.in_ok-ending.ensures.done.0 ∙ ap g.F.Failures.device.failures c.in_ok-reader.ensures.ok.device ∙ c.in_ok-metadata.ensures.device.told,
          stays_handed g.W.Failures.device.failures c.args.out (seen c.new-writer.result).device (seen c.start.new.self).device (seen c.copy_chunks.new.sink).device (seen c.end_stream.new.writer).device _
              c.new-writer.ensures.device c.in_ok-start.ensures.device.step.done c.in_ok-ending.ensures.done.1 c.in_ok-end_stream.ensures.done c.into_inner.ensures,
        );
        names = (
          ap g.F.Failures.device.names c.into_inner-file.ensures
              ∙ source_named g.F.Failures.device (StreamTook g.W.Failures.device) c.in_ok-reader.reader c.copy_chunks.new.source c.start.new.self c.copy_chunks.new.sink c.in_ok-ending.ending c.in_ok-ending.ensures.copied
              ∙ ap g.F.Failures.device.names c.in_ok-reader.ensures.ok.device ∙ c.in_ok-metadata.ensures.device.names,
          stays_handed g.W.Failures.device.names c.args.out (seen c.new-writer.result).device (seen c.start.new.self).device (seen c.copy_chunks.new.sink).device (seen c.end_stream.new.writer).device _
              c.new-writer.ensures.device c.in_ok-start.ensures.device.step.names c.in_ok-ending.ensures.copied.handed.took_all.names
              (ended_named g.W.Failures.device c.in_ok-ending.ending (seen c.copy_chunks.new.sink) (seen c.end_stream.new.writer) c.in_ok-end_stream.ensures.ends) c.into_inner.ensures,
        );
        failed = tt;
        answered = tt;
      };
    }

pub returns-in_err-metadata : goal.returns-in_err-metadata
returns-in_err-metadata g c =
    let p = err_from_is_err_and c.from_residual.result c.from_residual.ensures.1 in
    rw (p.1, p.2) (record {
      exact = λ k. tt;
      flushed = tt;
      causes = λ there front.
          let reason = subst (λ n. OwnFault c.in_err-metadata.field-0.0 (FileReason n (g.F.Failures.device.memory c.args.file).whole c.in_err-metadata.field-0.0)) front (c.in_err-metadata.ensures.causes.reason there) in
          file_front_refused (g.F.Failures.device.memory c.args.file).whole c.in_err-metadata.field-0.0 (λ first schema pairs fault. AsStreamCause first schema fault) (c.in_err-metadata.ensures.from_start there front) reason;
      device = record { done = tt; names = tt; failed = input_fails g.F.Failures.device.failures c.args.file c.read_file_metadata.new.reader c.in_err-metadata.field-0.0 _ c.in_err-metadata.ensures.device.failed; answered = of_source c.in_err-metadata.field-0.0 _ _ c.in_err-metadata.ensures.device.answered };
    })

pub returns-in_err-reader : goal.returns-in_err-reader
returns-in_err-reader g c =
    let p = err_from_is_err_and c.from_residual-in_err-reader.result c.from_residual-in_err-reader.ensures.1 in
    rw (p.1, p.2) (record {
      exact = λ k. tt;
      flushed = tt;
      causes = λ there front. memory_alone c.in_err-reader.field-0.0 _ c.in_err-reader.ensures.only.0;
      device = record { done = tt; names = tt; failed = memory_says_none c.in_err-reader.field-0.0 _ c.in_err-reader.ensures.only.0; answered = memory_answers_none c.in_err-reader.field-0.0 _ c.in_err-reader.ensures.only.0 };
    })

pub returns-in_err-start : goal.returns-in_err-start
returns-in_err-start g c =
    let p = err_from_is_err_and c.from_residual-in_err-start.result c.from_residual-in_err-start.ensures.1 in
    let begins = c.in_ok-reader.ensures.ok in
    rw (p.1, p.2) (record {
      exact = λ k. tt;
      flushed = tt;
      causes = λ there front.
          file_start_stops g.W.Failures.device g.F.Failures.device there c.args.file c.read_file_metadata.new.reader c.in_ok-metadata.metadata c.in_ok-reader.reader c.in_err-start.field-0.0
          (c.in_ok-metadata.ensures.from_start there front) (c.in_ok-metadata.ensures.device.whole (g.met.F.Seeks.known_still there)) begins
          c.metadata.result.now _ (c.metadata.ensures ∙ begins.described) (ap (λ x. x.0) c.in_ok-ids.ensures) _ c.new-writer.ensures.state c.in_err-start.ensures.causes;
      device = record {
        done = tt;
        names = tt;
        failed =
            output_fails g.W.Failures.device c.args.out c.in_err-start.field-0.0 _
            (send_fails g.W.Failures.device c.args.out (seen c.new-writer.result).device (seen c.start.new.self).device c.in_err-start.field-0.0 (ap g.W.Failures.device.failures c.new-writer.ensures.device)
            (stream_step_fails g.W.Failures.device (seen c.new-writer.result) (Err c.in_err-start.field-0.0) (seen c.start.new.self) _ _ c.in_err-start.ensures.device.step));
        answered = of_sink c.in_err-start.field-0.0 _ _ c.in_err-start.ensures.device.step.answered;
      };
    })

pub returns-in_err-ending : goal.returns-in_err-ending
returns-in_err-ending g c =
    let p = err_from_is_err_and c.from_residual-in_err-ending.result c.from_residual-in_err-ending.ensures.1 in
    let begins = c.in_ok-reader.ensures.ok in
    rw (p.1, p.2) (record {
      exact = λ k. tt;
      flushed = tt;
      causes = λ there front.
          file_copy_stops g.W.Failures.device g.F.Failures.device there c.args.file c.read_file_metadata.new.reader c.in_ok-metadata.metadata c.in_ok-reader.reader c.in_err-ending.field-0.0
          (c.in_ok-metadata.ensures.from_start there front) (c.in_ok-metadata.ensures.device.whole (g.met.F.Seeks.known_still there)) begins
          c.metadata.result.now _ (c.metadata.ensures ∙ begins.described) (ap (λ x. x.0) c.in_ok-ids.ensures) c.new-writer.result c.start.new.self c.in_ok-start.ensures.state.ok c.in_err-ending.ensures.stops;
      device = record {
        done = tt;
        names = tt;
        failed =
            copy_fails g.W.Failures.device c.args.out g.F.Failures.device.failures c.args.file (λ r. blocks.device_of r) (λ w. (seen w).device) c.in_ok-reader.reader c.copy_chunks.new.source c.start.new.self c.copy_chunks.new.sink
            (ap g.F.Failures.device.failures c.in_ok-reader.ensures.ok.device ∙ c.in_ok-metadata.ensures.device.told)
            (c.in_ok-start.ensures.device.step.done ∙ ap g.W.Failures.device.failures c.new-writer.ensures.device) c.in_err-ending.field-0.0 c.in_err-ending.ensures.failed;
        answered = c.in_err-ending.ensures.answered;
      };
    })

pub returns-in_err-end_stream : goal.returns-in_err-end_stream
returns-in_err-end_stream g c =
    let p = err_from_is_err_and c.from_residual-in_err-end_stream.result c.from_residual-in_err-end_stream.ensures.1 in
    rw (p.1, p.2) (record {
      exact = λ k. tt;
      flushed = tt;
      causes = λ there front.
          mark_refused _ c.in_err-end_stream.field-0.0 _ (c.in_ok-ending.ensures.copied.handed.took_all.state ∙ c.in_ok-start.ensures.state.ok.is) c.in_err-end_stream.ensures.only;
      device = record {
        done = tt;
        names = tt;
        failed =
            end_fails g.W.Failures.device c.args.out g.F.Failures.device.failures c.args.file (λ r. blocks.device_of r) (λ w. (seen w).device) c.in_ok-reader.reader c.copy_chunks.new.source c.start.new.self c.copy_chunks.new.sink
            (ap g.F.Failures.device.failures c.in_ok-reader.ensures.ok.device ∙ c.in_ok-metadata.ensures.device.told)
            (c.in_ok-start.ensures.device.step.done ∙ ap g.W.Failures.device.failures c.new-writer.ensures.device) c.end_stream.new.writer c.in_err-end_stream.field-0.0 c.in_ok-ending.ensures.done c.in_err-end_stream.ensures.failed;
        answered = of_sink c.in_err-end_stream.field-0.0 _ _ c.in_err-end_stream.ensures.answered;
      };
    })
