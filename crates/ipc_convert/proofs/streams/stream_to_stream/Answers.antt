use Rattle.std.proofs.Common.{Err, ap, ◌∙◌}
use Rattle.std.proofs.lemmas.Result.{err_from_is_err_and}
use Rattle.ipc_readers.specs.Streams.{device_of}
use Rattle.ipc_write.specs.Writers.{order_of, seen}
use Rattle.ipc_convert.proofs.Answered.{memory_answers_none, of_sink, of_source}
use Rattle.ipc_convert.proofs.Conversions.{stream_streamed, stream_taken}
use Rattle.ipc_convert.proofs.CopyFaults.{memory_alone, stream_copy_stops, stream_start_stops}
use Rattle.ipc_convert.proofs.Failing.{copy_fails, end_fails, front_fails, memory_says_none, output_fails, send_fails, stream_step_fails}
use Rattle.ipc_convert.proofs.Refused.{front_refused, mark_refused}
use Rattle.ipc_convert.proofs.SameDevices.{ended_named, takes_named}
use Rattle.ipc_convert.specs.Copies.{TakesStream}
use Rattle.ipc_convert.specs.Refusals.{AsStreamCause}
use Rattle.ipc_convert.specs.Sinks.{StreamTook}
use Rattle.ipc_convert.proofs.Unfailed.{front_unfailed, stays_handed, takes_unfailed}
use Rattle.ipc_convert.proofs.streams.stream_to_stream.Goals as goal

pub returns : goal.returns
returns g c =
    let takes : TakesStream g.R.Reads.gives c.args.input c.into_inner.result =
    stream_taken g.R.Reads.gives (StreamTook g.W.Failures.device) g.met.R.Reads.laws.in_order c.args.input c.read_stream_metadata.new.reader _ c.in_ok-metadata.metadata
    c.in_ok-reader.reader c.copy_chunks.new.source c.start.new.self c.copy_chunks.new.sink c.in_ok-ending.ending c.in_ok-metadata.ensures.gives c.in_ok-reader.ensures.made.unread c.in_ok-reader.ensures.made.asked
    c.in_ok-ending.ensures.copied c.into_inner.ensures in
    let begins = c.in_ok-reader.ensures.made.unread in
    let made = c.new-writer.ensures in
    record {
      exact = λ k.
          stream_streamed g.R.Reads.gives g.W.Failures.device (order_of c.args.write_options) g.met.R.Reads.laws.in_order
          c.args.input c.read_stream_metadata.new.reader _ c.args.out _ c.in_ok-metadata.metadata c.metadata.result.now c.in_ok-reader.reader c.copy_chunks.new.source _
          c.new-writer.result c.start.new.self c.copy_chunks.new.sink c.end_stream.new.writer c.in_ok-ending.ending _
          k c.in_ok-metadata.ensures.gives begins c.in_ok-reader.ensures.made.asked (c.metadata.ensures ∙ begins.described) (ap (λ x. x.0) c.in_ok-ids.ensures)
          made.device made.order made.means c.in_ok-start.ensures.content c.in_ok-start.ensures.state.ok.is c.in_ok-ending.ensures.copied c.in_ok-end_stream.ensures.ends
          c.into_inner.ensures c.into_inner-2.ensures;
      causes = tt;
      device = record {
        done = (
          takes_unfailed g.R.Reads.gives g.R.Failures.device.failures g.met.R.Reads.laws.fails c.args.input _ takes,
          stays_handed g.W.Failures.device.failures c.args.out (seen c.new-writer.result).device (seen c.start.new.self).device (seen c.copy_chunks.new.sink).device (seen c.end_stream.new.writer).device _
              c.new-writer.ensures.device c.in_ok-start.ensures.device.step.done c.in_ok-ending.ensures.done.1 c.in_ok-end_stream.ensures.done c.into_inner-2.ensures,
        );
        names = (
          takes_named g.R.Reads.gives g.R.Failures.device.names g.met.R.Reads.laws.names c.args.input _ takes,
          stays_handed g.W.Failures.device.names c.args.out (seen c.new-writer.result).device (seen c.start.new.self).device (seen c.copy_chunks.new.sink).device (seen c.end_stream.new.writer).device _
              c.new-writer.ensures.device c.in_ok-start.ensures.device.step.names c.in_ok-ending.ensures.copied.handed.took_all.names
              (ended_named g.W.Failures.device c.in_ok-ending.ending (seen c.copy_chunks.new.sink) (seen c.end_stream.new.writer) c.in_ok-end_stream.ensures.ends) c.into_inner-2.ensures,
        );
        failed = tt;
        answered = tt;
      };
      takes = takes;
    }

pub returns-in_err-metadata : goal.returns-in_err-metadata
returns-in_err-metadata g c =
    let p = err_from_is_err_and c.from_residual.result c.from_residual.ensures.1 in
    rw (p.1, p.2) (record {
      exact = λ k. tt;
      causes = front_refused g.R.Reads.gives g.R.Failures.device g.met.R.Reads.laws.ahead c.args.input _ c.in_err-metadata.field-0.0 AsStreamCause c.in_err-metadata.ensures.gives;
      device = record { done = tt; names = tt; failed = front_fails g.R.Reads.gives g.R.Failures.device.failures g.met.R.Reads.laws.fails c.args.input c.read_stream_metadata.new.reader c.in_err-metadata.field-0.0 _ c.in_err-metadata.ensures.gives; answered = of_source c.in_err-metadata.field-0.0 _ _ c.in_err-metadata.ensures.answered };
      takes = tt;
    })

pub returns-in_err-reader : goal.returns-in_err-reader
returns-in_err-reader g c =
    let p = err_from_is_err_and c.from_residual-in_err-reader.result c.from_residual-in_err-reader.ensures.1 in
    rw (p.1, p.2) (record {
      exact = λ k. tt;
      causes = memory_alone c.in_err-reader.field-0.0 _ c.in_err-reader.ensures.only.0;
      device = record { done = tt; names = tt; failed = memory_says_none c.in_err-reader.field-0.0 _ c.in_err-reader.ensures.only.0; answered = memory_answers_none c.in_err-reader.field-0.0 _ c.in_err-reader.ensures.only.0 };
      takes = tt;
    })

pub returns-in_err-start : goal.returns-in_err-start
returns-in_err-start g c =
    let p = err_from_is_err_and c.from_residual-in_err-start.result c.from_residual-in_err-start.ensures.1 in
    let begins = c.in_ok-reader.ensures.made.unread in
    rw (p.1, p.2) (record {
      exact = λ k. tt;
      causes =
          stream_start_stops g.W.Failures.device g.R.Reads.gives g.R.Failures.device g.met.R.Reads.laws.in_order g.met.R.Reads.laws.ahead
          c.args.input c.read_stream_metadata.new.reader c.in_ok-metadata.metadata c.in_ok-reader.reader c.in_err-start.field-0.0 c.in_ok-metadata.ensures.gives begins c.in_ok-reader.ensures.made.asked
          c.metadata.result.now _ (c.metadata.ensures ∙ begins.described) (ap (λ x. x.0) c.in_ok-ids.ensures) _ c.new-writer.ensures.state c.in_err-start.ensures.causes;
      device = record {
        done = tt;
        names = tt;
        failed =
            output_fails g.W.Failures.device c.args.out c.in_err-start.field-0.0 _
            (send_fails g.W.Failures.device c.args.out (seen c.new-writer.result).device (seen c.start.new.self).device c.in_err-start.field-0.0 (ap g.W.Failures.device.failures c.new-writer.ensures.device)
            (stream_step_fails g.W.Failures.device (seen c.new-writer.result) (Err c.in_err-start.field-0.0) (seen c.start.new.self) _ _ c.in_err-start.ensures.device.step));
        answered = of_sink c.in_err-start.field-0.0 _ _ c.in_err-start.ensures.device.step.answered;
      };
      takes = tt;
    })

pub returns-in_err-ending : goal.returns-in_err-ending
returns-in_err-ending g c =
    let p = err_from_is_err_and c.from_residual-in_err-ending.result c.from_residual-in_err-ending.ensures.1 in
    let begins = c.in_ok-reader.ensures.made.unread in
    rw (p.1, p.2) (record {
      exact = λ k. tt;
      causes =
          stream_copy_stops g.W.Failures.device g.R.Reads.gives g.R.Failures.device g.met.R.Reads.laws.in_order g.met.R.Reads.laws.ahead
          c.args.input c.read_stream_metadata.new.reader c.in_ok-metadata.metadata c.in_ok-reader.reader c.in_err-ending.field-0.0 c.in_ok-metadata.ensures.gives begins c.in_ok-reader.ensures.made.asked
          c.metadata.result.now _ (c.metadata.ensures ∙ begins.described) (ap (λ x. x.0) c.in_ok-ids.ensures) c.new-writer.result c.start.new.self c.in_ok-start.ensures.state.ok c.in_err-ending.ensures.stops;
      device = record {
        done = tt;
        names = tt;
        failed =
            copy_fails g.W.Failures.device c.args.out g.R.Failures.device.failures c.args.input (λ r. device_of r) (λ w. (seen w).device) c.in_ok-reader.reader c.copy_chunks.new.source c.start.new.self c.copy_chunks.new.sink
            (front_unfailed g.R.Reads.gives g.R.Failures.device.failures g.met.R.Reads.laws.fails c.args.input c.read_stream_metadata.new.reader c.in_ok-metadata.metadata c.in_ok-reader.reader c.in_ok-metadata.ensures.gives c.in_ok-reader.ensures.made.unread)
            (c.in_ok-start.ensures.device.step.done ∙ ap g.W.Failures.device.failures c.new-writer.ensures.device) c.in_err-ending.field-0.0 c.in_err-ending.ensures.failed;
        answered = c.in_err-ending.ensures.answered;
      };
      takes = tt;
    })

pub returns-in_err-end_stream : goal.returns-in_err-end_stream
returns-in_err-end_stream g c =
    let p = err_from_is_err_and c.from_residual-in_err-end_stream.result c.from_residual-in_err-end_stream.ensures.1 in
    rw (p.1, p.2) (record {
      exact = λ k. tt;
      causes = mark_refused _ c.in_err-end_stream.field-0.0 _ (c.in_ok-ending.ensures.copied.handed.took_all.state ∙ c.in_ok-start.ensures.state.ok.is) c.in_err-end_stream.ensures.only;
      device = record {
        done = tt;
        names = tt;
        failed =
            end_fails g.W.Failures.device c.args.out g.R.Failures.device.failures c.args.input (λ r. device_of r) (λ w. (seen w).device) c.in_ok-reader.reader c.copy_chunks.new.source c.start.new.self c.copy_chunks.new.sink
            (front_unfailed g.R.Reads.gives g.R.Failures.device.failures g.met.R.Reads.laws.fails c.args.input c.read_stream_metadata.new.reader c.in_ok-metadata.metadata c.in_ok-reader.reader c.in_ok-metadata.ensures.gives c.in_ok-reader.ensures.made.unread)
            (c.in_ok-start.ensures.device.step.done ∙ ap g.W.Failures.device.failures c.new-writer.ensures.device) c.end_stream.new.writer c.in_err-end_stream.field-0.0 c.in_ok-ending.ensures.done c.in_err-end_stream.ensures.failed;
        answered = of_sink c.in_err-end_stream.field-0.0 _ _ c.in_err-end_stream.ensures.answered;
      };
      takes = tt;
    })
