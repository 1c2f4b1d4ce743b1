use Rattle.std.proofs.Common.{ap, inl, inr, subst, ◌∙◌}
use Rattle.std.proofs.lemmas.Result.{err_from_is_err_and}
use Rattle.ipc_devices.proofs.Claims.{claims_through}
use Rattle.ipc_devices.specs.Faults.{OwnFault}
use Rattle.ipc_files.specs.Files.{FileReason}
use Rattle.ipc_file_readers.specs.Readers as blocks
use Rattle.ipc_files.specs.Footers.{file_seen}
use Rattle.ipc_write.specs.Writers.{order_of}
use Rattle.ipc_convert.proofs.Answered.{either_answered, memory_answers_none, of_sink, of_source}
use Rattle.ipc_convert.proofs.Conversions.{file_filed}
use Rattle.ipc_convert.proofs.CopyFaults.{ended_by, file_blocks_stop, file_front_refused, memory_alone, same_begun, same_refused}
use Rattle.ipc_convert.proofs.Failing.{file_fails, input_fails, memory_says_none, output_fails}
use Rattle.ipc_convert.proofs.Refused.{file_schema_refused}
use Rattle.ipc_convert.proofs.SameDevices.{file_named, source_named_so, still_flushed}
use Rattle.ipc_convert.specs.Refusals.{AsFileCause}
use Rattle.ipc_convert.specs.Sources.{FileCame, FileStopped}
use Rattle.ipc_file_write.specs.FileWriters.{seen}
use Rattle.ipc_convert.specs.Steps.{BeginsFile}
use Rattle.ipc_convert.proofs.Unfailed.{where_ok}
use Rattle.ipc_convert.proofs.files.file_to_file.Goals as goal

pub returns : goal.returns
returns g c =
    let ends = c.in_ok-finish_file.ensures.ends in
    let copied = where_ok _ c.copy_chunks-copied.result c.in_ok-finish_file.field-0 ends.all c.copy_chunks-copied.ensures.done in
    record {
      exact = λ k there front.
          file_filed g.F.Failures.device g.W.Failures.device (order_of c.args.write_options)
          c.args.file c.read_file_metadata.new.reader c.args.out _ c.in_ok-metadata.metadata c.in_ok-reader.reader c.copy_chunks-copied.new.source _ _ _ _
          c.in_ok-writer.writer c.copy_chunks-copied.new.sink c.finish_file.new.writer c.copy_chunks-copied.result c.in_ok-finish_file.field-0
          there k (c.in_ok-metadata.ensures.from_start there front) (c.in_ok-metadata.ensures.device.whole (g.met.F.Seeks.known_still there)) c.in_ok-reader.ensures.ok
          (ap (λ x. x.0) c.in_ok-schema.ensures) (ap (λ x. x.1) c.in_ok-schema.ensures) (ap (λ x. x.0) c.in_ok-ids.ensures) c.in_ok-pairs.ensures
          c.in_ok-writer.ensures.begins c.copy_chunks-copied.ensures.copied c.in_ok-finish_file.ensures.ends c.into_inner.ensures;
      flushed = still_flushed g.W.Failures.device _ _ c.into_inner.ensures ends.sends.flushed;
      causes = λ there front. tt;
      device = record {
        done = (
          ap g.F.Failures.device.failures c.into_inner-file.ensures ∙ copied.0 ∙ ap g.F.Failures.device.failures c.in_ok-reader.ensures.ok.device ∙ c.in_ok-metadata.ensures.device.told,
          ap g.W.Failures.device.failures c.into_inner.ensures ∙ ends.sends.step.done ∙ copied.1 ∙ c.in_ok-writer.ensures.done,
        );
        names = (
          ap g.F.Failures.device.names c.into_inner-file.ensures
              ∙ source_named_so g.F.Failures.device g.W.Failures.device c.in_ok-reader.reader c.copy_chunks-copied.new.source c.in_ok-writer.writer c.copy_chunks-copied.new.sink
              c.copy_chunks-copied.result c.in_ok-finish_file.field-0 ends.all c.copy_chunks-copied.ensures.copied
              ∙ ap g.F.Failures.device.names c.in_ok-reader.ensures.ok.device ∙ c.in_ok-metadata.ensures.device.names,
          ap g.W.Failures.device.names c.into_inner.ensures
              ∙ file_named g.W.Failures.device (FileCame g.F.Failures.device) (FileStopped g.F.Failures.device) c.in_ok-reader.reader c.copy_chunks-copied.new.source
              c.in_ok-writer.writer c.copy_chunks-copied.new.sink c.finish_file.new.writer c.copy_chunks-copied.result c.in_ok-finish_file.field-0 c.copy_chunks-copied.ensures.copied ends
              ∙ c.in_ok-writer.ensures.begins.names,
        );
        failed = tt;
        answered = tt;
      };
    }

pub returns-in_err-metadata : goal.returns-in_err-metadata
returns-in_err-metadata g c =
    let p = err_from_is_err_and c.from_residual.result c.from_residual.ensures.1 in
    rw (p.1, p.2) (record {
      exact = λ k. tt;
      flushed = tt;
      causes = λ there front.
          let reason = subst (λ n. OwnFault c.in_err-metadata.field-0.0 (FileReason n (g.F.Failures.device.memory c.args.file).whole c.in_err-metadata.field-0.0)) front (c.in_err-metadata.ensures.causes.reason there) in
          file_front_refused (g.F.Failures.device.memory c.args.file).whole c.in_err-metadata.field-0.0
          (λ first schema pairs. AsFileCause g.W.Failures.device c.args.out (order_of c.args.write_options) pairs first schema) (c.in_err-metadata.ensures.from_start there front) reason;
      device = record { done = tt; names = tt; failed = input_fails g.F.Failures.device.failures c.args.file c.read_file_metadata.new.reader c.in_err-metadata.field-0.0 _ c.in_err-metadata.ensures.device.failed; answered = of_source c.in_err-metadata.field-0.0 _ _ c.in_err-metadata.ensures.device.answered };
    })

pub returns-in_err-reader : goal.returns-in_err-reader
returns-in_err-reader g c =
    let p = err_from_is_err_and c.from_residual-in_err-reader.result c.from_residual-in_err-reader.ensures.1 in
    rw (p.1, p.2) (record {
      exact = λ k. tt;
      flushed = tt;
      causes = λ there front. memory_alone c.in_err-reader.field-0.0 _ c.in_err-reader.ensures.only.0;
      device = record { done = tt; names = tt; failed = memory_says_none c.in_err-reader.field-0.0 _ c.in_err-reader.ensures.only.0; answered = memory_answers_none c.in_err-reader.field-0.0 _ c.in_err-reader.ensures.only.0 };
    })

pub returns-in_err-writer : goal.returns-in_err-writer
returns-in_err-writer g c =
    let p = err_from_is_err_and c.from_residual-in_err-writer.result c.from_residual-in_err-writer.ensures.1 in
    rw (p.1, p.2) (record {
      exact = λ k. tt;
      flushed = tt;
      causes = λ there front.
          claims_through c.in_err-writer.field-0.0 _ _ (λ no.
          file_schema_refused g.F.Failures.device there c.args.file c.read_file_metadata.new.reader c.in_ok-metadata.metadata c.in_ok-reader.reader c.in_err-writer.field-0.0
          (c.in_ok-metadata.ensures.from_start there front) (c.in_ok-metadata.ensures.device.whole (g.met.F.Seeks.known_still there)) c.in_ok-reader.ensures.ok
          (λ first schema pairs. AsFileCause g.W.Failures.device c.args.out (order_of c.args.write_options) pairs first schema)
          (λ first. inl (same_refused _ _ _ _ _ _ _ _ c.in_err-writer.field-0.0 (ap (λ x. x.0) c.in_ok-schema.ensures) (ap (λ x. x.1) c.in_ok-schema.ensures) (ap (λ x. x.0) c.in_ok-ids.ensures) c.in_ok-pairs.ensures no)))
          c.in_err-writer.ensures.only;
      device = record { done = tt; names = tt; failed = output_fails g.W.Failures.device c.args.out c.in_err-writer.field-0.0 _ c.in_err-writer.ensures.failed; answered = of_sink c.in_err-writer.field-0.0 _ _ c.in_err-writer.ensures.answered };
    })

pub returns-in_err-finish_file : goal.returns-in_err-finish_file
returns-in_err-finish_file g c =
    let p = err_from_is_err_and c.from_residual-in_err-finish_file.result c.from_residual-in_err-finish_file.ensures.1 in
    let m = file_seen c.in_ok-metadata.metadata in
    rw (p.1, p.2) (record {
      exact = λ k. tt;
      flushed = tt;
      causes = λ there front.
          file_blocks_stop g.W.Failures.device
          (BeginsFile g.W.Failures.device c.args.out (order_of c.args.write_options) m.schema.fields m.schema.metadata m.schema.ids m.pairs)
          c.in_ok-writer.writer c.copy_chunks-copied.new.sink c.finish_file.new.writer c.in_err-finish_file.field-0.0
          (same_begun _ _ _ _ _ _ _ _ _ _ _ _ (ap (λ x. x.0) c.in_ok-schema.ensures) (ap (λ x. x.1) c.in_ok-schema.ensures) (ap (λ x. x.0) c.in_ok-ids.ensures) c.in_ok-pairs.ensures c.in_ok-writer.ensures.begins)
          g.F.Failures.device there c.args.file c.read_file_metadata.new.reader c.in_ok-metadata.metadata c.in_ok-reader.reader c.copy_chunks-copied.new.source
          (c.in_ok-metadata.ensures.from_start there front) (c.in_ok-metadata.ensures.device.whole (g.met.F.Seeks.known_still there)) c.in_ok-reader.ensures.ok
          (λ first schema pairs. AsFileCause g.W.Failures.device c.args.out (order_of c.args.write_options) pairs first schema) (λ first no. inr no)
          c.copy_chunks-copied.result c.copy_chunks-copied.ensures.stops c.copy_chunks-copied.ensures.copied c.in_err-finish_file.ensures.anyway;
      device = record {
        done = tt;
        names = tt;
        failed =
            file_fails g.W.Failures.device c.args.out g.F.Failures.device.failures c.args.file (λ r. blocks.device_of r) (λ w. (seen w).device) c.in_ok-reader.reader c.copy_chunks-copied.new.source c.in_ok-writer.writer c.copy_chunks-copied.new.sink
            (ap g.F.Failures.device.failures c.in_ok-reader.ensures.ok.device ∙ c.in_ok-metadata.ensures.device.told)
            c.in_ok-writer.ensures.done c.finish_file.new.writer c.copy_chunks-copied.result c.in_err-finish_file.field-0.0 _
            (ended_by g.W.Failures.device c.copy_chunks-copied.result c.in_err-finish_file.field-0.0 (seen c.copy_chunks-copied.new.sink) (seen c.finish_file.new.writer) c.in_err-finish_file.ensures.anyway)
            c.copy_chunks-copied.ensures.failed c.copy_chunks-copied.ensures.done c.in_err-finish_file.ensures.failed;
        answered =
            either_answered c.copy_chunks-copied.result c.in_err-finish_file.field-0.0 _ _ _ (ended_by g.W.Failures.device c.copy_chunks-copied.result c.in_err-finish_file.field-0.0 (seen c.copy_chunks-copied.new.sink) (seen c.finish_file.new.writer) c.in_err-finish_file.ensures.anyway)
            c.copy_chunks-copied.ensures.answered c.in_err-finish_file.ensures.answered;
      };
    })
