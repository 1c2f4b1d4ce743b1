use Rattle.std.proofs.Common.{[], ap, inl, inr, ◌∙◌}
use Rattle.std.proofs.lemmas.Result.{err_from_is_err_and}
use Rattle.lower.specs.TypeViews.{pairs_of}
use Rattle.ipc_devices.proofs.Claims.{claims_through}
use Rattle.ipc_write.specs.Writers.{order_of}
use Rattle.ipc_readers.specs.Streams.{device_of, head_of}
use Rattle.ipc_convert.proofs.Answered.{either_answered, memory_answers_none, of_sink, of_source}
use Rattle.ipc_convert.proofs.Conversions.{stream_filed, stream_taken_so}
use Rattle.ipc_convert.proofs.CopyFaults.{ended_by, memory_alone, same_begun, same_refused, stream_blocks_stop}
use Rattle.ipc_convert.proofs.Failing.{file_fails, front_fails, memory_says_none, output_fails}
use Rattle.ipc_convert.proofs.Refused.{front_refused, schema_refused}
use Rattle.ipc_convert.proofs.SameDevices.{file_named, still_flushed, takes_named}
use Rattle.ipc_convert.specs.Copies.{TakesStream}
use Rattle.ipc_convert.specs.Refusals.{AsFileCause}
use Rattle.ipc_convert.specs.Sources.{StreamCame, StreamStopped}
use Rattle.ipc_file_write.specs.FileWriters.{seen}
use Rattle.ipc_convert.specs.Steps.{BeginsFile}
use Rattle.ipc_convert.proofs.Unfailed.{front_unfailed, takes_unfailed, where_ok}
use Rattle.ipc_convert.proofs.files.stream_to_file.Goals as goal

pub returns : goal.returns
returns g c =
    let takes : TakesStream g.R.Reads.gives c.args.input c.into_inner.result =
    stream_taken_so g.R.Reads.gives g.W.Failures.device g.met.R.Reads.laws.in_order
    c.args.input c.read_stream_metadata.new.reader _ c.in_ok-metadata.metadata c.in_ok-reader.reader c.copy_chunks-copied.new.source
    c.in_ok-writer.writer c.copy_chunks-copied.new.sink c.finish_file.new.writer c.copy_chunks-copied.result c.in_ok-finish_file.field-0
    c.in_ok-metadata.ensures.gives c.in_ok-reader.ensures.made.unread c.in_ok-reader.ensures.made.asked c.copy_chunks-copied.ensures.copied c.in_ok-finish_file.ensures.ends c.into_inner.ensures in
    let ends = c.in_ok-finish_file.ensures.ends in
    let copied = where_ok _ c.copy_chunks-copied.result c.in_ok-finish_file.field-0 ends.all c.copy_chunks-copied.ensures.done in
    record {
      exact = λ k.
          stream_filed g.R.Reads.gives g.W.Failures.device (order_of c.args.write_options) g.met.R.Reads.laws.in_order
          c.args.input c.read_stream_metadata.new.reader _ c.args.out _ c.in_ok-metadata.metadata c.in_ok-reader.reader c.copy_chunks-copied.new.source _ _ _ _
          c.in_ok-writer.writer c.copy_chunks-copied.new.sink c.finish_file.new.writer c.copy_chunks-copied.result c.in_ok-finish_file.field-0
          k c.in_ok-metadata.ensures.gives c.in_ok-reader.ensures.made.unread c.in_ok-reader.ensures.made.asked (ap (λ x. x.0) c.in_ok-schema.ensures) (ap (λ x. x.1) c.in_ok-schema.ensures) (ap (λ x. x.0) c.in_ok-ids.ensures)
          (ap pairs_of c.new-pairs.ensures.empty) c.in_ok-writer.ensures.begins c.copy_chunks-copied.ensures.copied c.in_ok-finish_file.ensures.ends c.into_inner.ensures c.into_inner-2.ensures;
      flushed = still_flushed g.W.Failures.device _ _ c.into_inner-2.ensures ends.sends.flushed;
      causes = tt;
      device = record {
        done = (
          takes_unfailed g.R.Reads.gives g.R.Failures.device.failures g.met.R.Reads.laws.fails c.args.input _ takes,
          ap g.W.Failures.device.failures c.into_inner-2.ensures ∙ ends.sends.step.done ∙ copied.1 ∙ c.in_ok-writer.ensures.done,
        );
        names = (
          takes_named g.R.Reads.gives g.R.Failures.device.names g.met.R.Reads.laws.names c.args.input _ takes,
          ap g.W.Failures.device.names c.into_inner-2.ensures
              ∙ file_named g.W.Failures.device (StreamCame g.R.Reads.gives) (StreamStopped g.R.Reads.gives) c.in_ok-reader.reader c.copy_chunks-copied.new.source
              c.in_ok-writer.writer c.copy_chunks-copied.new.sink c.finish_file.new.writer c.copy_chunks-copied.result c.in_ok-finish_file.field-0 c.copy_chunks-copied.ensures.copied ends
              ∙ c.in_ok-writer.ensures.begins.names,
        );
        failed = tt;
        answered = tt;
      };
      takes = takes;
    }

pub returns-in_err-metadata : goal.returns-in_err-metadata
returns-in_err-metadata g c =
    let p = err_from_is_err_and c.from_residual.result c.from_residual.ensures.1 in
    rw (p.1, p.2) (record {
      exact = λ k. tt;
      flushed = tt;
      causes =
          front_refused g.R.Reads.gives g.R.Failures.device g.met.R.Reads.laws.ahead c.args.input _ c.in_err-metadata.field-0.0
          (AsFileCause g.W.Failures.device c.args.out (order_of c.args.write_options) []) c.in_err-metadata.ensures.gives;
      device = record { done = tt; names = tt; failed = front_fails g.R.Reads.gives g.R.Failures.device.failures g.met.R.Reads.laws.fails c.args.input c.read_stream_metadata.new.reader c.in_err-metadata.field-0.0 _ c.in_err-metadata.ensures.gives; answered = of_source c.in_err-metadata.field-0.0 _ _ c.in_err-metadata.ensures.answered };
      takes = tt;
    })

pub returns-in_err-reader : goal.returns-in_err-reader
returns-in_err-reader g c =
    let p = err_from_is_err_and c.from_residual-in_err-reader.result c.from_residual-in_err-reader.ensures.1 in
    rw (p.1, p.2) (record {
      exact = λ k. tt;
      flushed = tt;
      causes = memory_alone c.in_err-reader.field-0.0 _ c.in_err-reader.ensures.only.0;
      device = record { done = tt; names = tt; failed = memory_says_none c.in_err-reader.field-0.0 _ c.in_err-reader.ensures.only.0; answered = memory_answers_none c.in_err-reader.field-0.0 _ c.in_err-reader.ensures.only.0 };
      takes = tt;
    })

pub returns-in_err-writer : goal.returns-in_err-writer
returns-in_err-writer g c =
    let p = err_from_is_err_and c.from_residual-in_err-writer.result c.from_residual-in_err-writer.ensures.1 in
    rw (p.1, p.2) (record {
      exact = λ k. tt;
      flushed = tt;
      causes =
          claims_through c.in_err-writer.field-0.0 _ _ (λ no.
          schema_refused g.R.Reads.gives g.R.Failures.device g.met.R.Reads.laws.ahead c.args.input c.read_stream_metadata.new.reader c.in_ok-metadata.metadata c.in_err-writer.field-0.0
          (AsFileCause g.W.Failures.device c.args.out (order_of c.args.write_options) []) c.in_ok-metadata.ensures.gives
          (λ first. inl (same_refused _ _ _ _ _ _ _ _ c.in_err-writer.field-0.0 (ap (λ x. x.0) c.in_ok-schema.ensures) (ap (λ x. x.1) c.in_ok-schema.ensures) (ap (λ x. x.0) c.in_ok-ids.ensures) (ap pairs_of c.new-pairs.ensures.empty) no)))
          c.in_err-writer.ensures.only;
      device = record { done = tt; names = tt; failed = output_fails g.W.Failures.device c.args.out c.in_err-writer.field-0.0 _ c.in_err-writer.ensures.failed; answered = of_sink c.in_err-writer.field-0.0 _ _ c.in_err-writer.ensures.answered };
      takes = tt;
    })

pub returns-in_err-finish_file : goal.returns-in_err-finish_file
returns-in_err-finish_file g c =
    let p = err_from_is_err_and c.from_residual-in_err-finish_file.result c.from_residual-in_err-finish_file.ensures.1 in
    let m = c.in_ok-metadata.metadata in
    rw (p.1, p.2) (record {
      exact = λ k. tt;
      flushed = tt;
      causes =
          stream_blocks_stop g.W.Failures.device
          (BeginsFile g.W.Failures.device c.args.out (order_of c.args.write_options) (head_of m).schema.fields (head_of m).schema.metadata (head_of m).schema.ids [])
          c.in_ok-writer.writer c.copy_chunks-copied.new.sink c.finish_file.new.writer c.in_err-finish_file.field-0.0
          (same_begun _ _ _ _ _ _ _ _ _ _ _ _ (ap (λ x. x.0) c.in_ok-schema.ensures) (ap (λ x. x.1) c.in_ok-schema.ensures) (ap (λ x. x.0) c.in_ok-ids.ensures) (ap pairs_of c.new-pairs.ensures.empty) c.in_ok-writer.ensures.begins)
          g.R.Reads.gives g.R.Failures.device g.met.R.Reads.laws.in_order g.met.R.Reads.laws.ahead c.args.input c.read_stream_metadata.new.reader m c.in_ok-reader.reader c.copy_chunks-copied.new.source
          c.in_ok-metadata.ensures.gives c.in_ok-reader.ensures.made.unread c.in_ok-reader.ensures.made.asked (AsFileCause g.W.Failures.device c.args.out (order_of c.args.write_options) []) (λ first no. inr no)
          c.copy_chunks-copied.result c.copy_chunks-copied.ensures.stops c.copy_chunks-copied.ensures.copied c.in_err-finish_file.ensures.anyway;
      device = record {
        done = tt;
        names = tt;
        failed =
            file_fails g.W.Failures.device c.args.out g.R.Failures.device.failures c.args.input (λ r. device_of r) (λ w. (seen w).device) c.in_ok-reader.reader c.copy_chunks-copied.new.source c.in_ok-writer.writer c.copy_chunks-copied.new.sink
            (front_unfailed g.R.Reads.gives g.R.Failures.device.failures g.met.R.Reads.laws.fails c.args.input c.read_stream_metadata.new.reader c.in_ok-metadata.metadata c.in_ok-reader.reader c.in_ok-metadata.ensures.gives c.in_ok-reader.ensures.made.unread)
            c.in_ok-writer.ensures.done c.finish_file.new.writer c.copy_chunks-copied.result c.in_err-finish_file.field-0.0 _
            (ended_by g.W.Failures.device c.copy_chunks-copied.result c.in_err-finish_file.field-0.0 (seen c.copy_chunks-copied.new.sink) (seen c.finish_file.new.writer) c.in_err-finish_file.ensures.anyway)
            c.copy_chunks-copied.ensures.failed c.copy_chunks-copied.ensures.done c.in_err-finish_file.ensures.failed;
        answered =
            either_answered c.copy_chunks-copied.result c.in_err-finish_file.field-0.0 _ _ _ (ended_by g.W.Failures.device c.copy_chunks-copied.result c.in_err-finish_file.field-0.0 (seen c.copy_chunks-copied.new.sink) (seen c.finish_file.new.writer) c.in_err-finish_file.ensures.anyway)
            c.copy_chunks-copied.ensures.answered c.in_err-finish_file.ensures.answered;
      };
      takes = tt;
    })
