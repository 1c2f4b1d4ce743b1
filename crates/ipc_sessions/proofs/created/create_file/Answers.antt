use Rattle.std.proofs.Common.{ℕ, Vec, Global, ap, ◌∙◌}
use Rattle.std.proofs.lemmas.Result.{err_from_is_err_and}
use Rattle.std.specs.Prelude.{not}
use Rattle.lower.specs.TypeViews.{fields_view, pairs_of}
use Rattle.ipc_schema_write.specs.WriterAnswers.{byte_order}
use Rattle.ipc_write.specs.Writers.{chosen_ids}
use Rattle.ipc_file_write.specs.FileWriters.{seen}
use Rattle.ipc_file_write.proofs.WrittenFiles.{ending_full}
use Rattle.ipc_sessions.proofs.Creation.{beginning_full, begun, created, creation, end_refused, pairs_refused, start_refused}
use Rattle.ipc_sessions.proofs.created.create_file.Goals as goal

pub returns : goal.returns
returns c =
    let fields = fields_view c.args.schema.fields.items in
    let empty = ap (λ (v : Vec ℕ Global). v.items) c.in_ok-writer.ensures.made.device ∙ c.new.ensures.items in
    record {
      exact =
          created (seen c.in_ok-writer.writer) (seen c.set_custom_metadata.new.self) (seen c.start.new.self) (seen c.write_chunks.new.writer) (seen c.finish.new.self) c.into_inner-bytes.result fields (pairs_of c.args.schema.metadata.entries)
          (chosen_ids c.args.ipc_fields fields) (byte_order (not c.args.options.big_endian)) (pairs_of c.args.custom_metadata.entries) _ c.in_ok-writer.ensures.made.file c.in_ok-writer.ensures.made.content empty
          c.in_ok-set_custom_metadata.ensures.sets.state.ok c.in_ok-set_custom_metadata.ensures.sets.content c.in_ok-start.ensures.starts.device.step.same c.in_ok-start.ensures.starts.state.ok c.in_ok-start.ensures.starts.content c.in_ok-answers.ensures.takes
          c.in_ok-finish.ensures.finishes.device.step.same c.in_ok-finish.ensures.finishes.state.ok c.in_ok-finish.ensures.finishes.content c.into_inner-bytes.ensures;
      causes = tt;
      calls =
          creation (seen c.in_ok-writer.writer) (seen c.set_custom_metadata.new.self) (seen c.start.new.self) (seen c.write_chunks.new.writer) fields (pairs_of c.args.schema.metadata.entries) (chosen_ids c.args.ipc_fields fields)
          (byte_order (not c.args.options.big_endian)) (pairs_of c.args.custom_metadata.entries) c.args.chunks.now c.in_ok-answers.answers.items c.in_ok-writer.ensures.made.file c.in_ok-set_custom_metadata.ensures.sets.state.ok
          c.in_ok-start.ensures.starts.device.step.same c.in_ok-start.ensures.starts.state.ok
          (begun (seen c.in_ok-writer.writer) (seen c.set_custom_metadata.new.self) (seen c.start.new.self) c.in_ok-writer.ensures.made.content empty c.in_ok-set_custom_metadata.ensures.sets.content c.in_ok-start.ensures.starts.content)
          c.in_ok-answers.ensures.made;
    }

pub returns-in_err-set_custom_metadata : goal.returns-in_err-set_custom_metadata
returns-in_err-set_custom_metadata c =
    let fields = fields_view c.args.schema.fields.items in
    let file = c.in_ok-writer.ensures.made.file in
    let p = err_from_is_err_and c.from_residual-in_err-set_custom_metadata.result c.from_residual-in_err-set_custom_metadata.ensures.1 in
    rw (p.1, p.2) (record {
      exact = tt;
      causes =
          pairs_refused fields (pairs_of c.args.schema.metadata.entries) (chosen_ids c.args.ipc_fields fields) (byte_order (not c.args.options.big_endian)) (pairs_of c.args.custom_metadata.entries) c.args.chunks.now
          (seen c.in_ok-writer.writer) _ c.in_ok-writer.ensures.made.state file.fields_are file.metadata_are c.in_err-set_custom_metadata.ensures.sets.causes;
      calls = tt;
    })

pub returns-in_err-start : goal.returns-in_err-start
returns-in_err-start c =
    let fields = fields_view c.args.schema.fields.items in
    let file = c.in_ok-writer.ensures.made.file in
    let takes = c.in_ok-set_custom_metadata.ensures.sets.state.ok in
    let p = err_from_is_err_and c.from_residual-in_err-start.result c.from_residual-in_err-start.ensures.1 in
    rw (p.1, p.2) (record {
      exact = tt;
      causes =
          start_refused fields (pairs_of c.args.schema.metadata.entries) (chosen_ids c.args.ipc_fields fields) (byte_order (not c.args.options.big_endian)) (pairs_of c.args.custom_metadata.entries) c.args.chunks.now
          (seen c.set_custom_metadata.new.self) c.in_err-start.field-0.0 (takes.state ∙ c.in_ok-writer.ensures.made.state)
          (record { fields_are = takes.fields ∙ file.fields_are; metadata_are = takes.metadata ∙ file.metadata_are; chosen_are = takes.chosen ∙ file.chosen_are; order_is = takes.order ∙ file.order_is; pairs_are = takes.are })
          c.in_err-start.ensures.starts.exact.0 (beginning_full (seen c.set_custom_metadata.new.self) (seen c.start.new.self) c.in_err-start.field-0.0 c.in_err-start.ensures.starts.device);
      calls = tt;
    })

pub returns-in_err-finish : goal.returns-in_err-finish
returns-in_err-finish c =
    let fields = fields_view c.args.schema.fields.items in
    let es = pairs_of c.args.schema.metadata.entries in
    let is = chosen_ids c.args.ipc_fields fields in
    let order = byte_order (not c.args.options.big_endian) in
    let ps = pairs_of c.args.custom_metadata.entries in
    let new = seen c.in_ok-writer.writer in
    let paired = seen c.set_custom_metadata.new.self in
    let opened = seen c.start.new.self in
    let takes = c.in_ok-set_custom_metadata.ensures.sets in
    let starts = c.in_ok-start.ensures.starts in
    let empty = ap (λ (v : Vec ℕ Global). v.items) c.in_ok-writer.ensures.made.device ∙ c.new.ensures.items in
    let made =
    creation new paired opened (seen c.write_chunks.new.writer) fields es is order ps c.args.chunks.now c.in_ok-answers.answers.items c.in_ok-writer.ensures.made.file takes.state.ok starts.device.step.same starts.state.ok
    (begun new paired opened c.in_ok-writer.ensures.made.content empty takes.content starts.content) c.in_ok-answers.ensures.made in
    let e = c.in_err-finish.ensures.finishes in
    let p = err_from_is_err_and c.from_residual-in_err-finish.result c.from_residual-in_err-finish.ensures.1 in
    rw (p.1, p.2) (record {
      exact = tt;
      causes =
          end_refused fields es is order ps c.args.chunks.now c.in_ok-answers.answers.items made (seen c.finish.new.self) c.in_err-finish.field-0.0 e.state.first e.causes e.exact.0
          (ending_full (seen c.write_chunks.new.writer) (seen c.finish.new.self) c.in_err-finish.field-0.0 e.device);
      calls = tt;
    })
