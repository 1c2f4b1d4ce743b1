use Rattle.std.proofs.Common.{ℕ, Vec, Global, ap, ◌∙◌}
use Rattle.std.proofs.lemmas.Result.{err_from_is_err_and}
use Rattle.lower.specs.TypeViews.{fields_view, pairs_of}
use Rattle.ipc_schema_write.specs.WriterAnswers.{byte_order}
use Rattle.std.specs.Prelude.{not}
use Rattle.ipc_write.specs.Writers.{chosen_ids}
use Rattle.ipc_file_write.specs.FileWriters.{seen}
use Rattle.ipc_file_write.proofs.CallLists.{file_written_by}
use Rattle.ipc_file_write.proofs.WrittenFiles.{end_refused, left_after, pairs_refused}
use Rattle.ipc_file_write.proofs.calls.write_file.Goals as goal

pub returns : goal.returns
returns c =
    let fields = fields_view c.args.schema.fields.items in
    let order = byte_order (not c.args.options.big_endian) in
    let made = c.in_ok-writer.ensures.made in
    let takes = c.in_ok-set_custom_metadata.ensures.sets in
    let empty = ap (λ (v : Vec ℕ Global). v.items) made.device ∙ c.new.ensures.items in
    let ran = c.in_ok-answers.ensures.ran in
    let last = seen c.run_calls.new.writer in
    record {
      causes = tt;
      state = record {
        last = last;
        leave =
            left_after (seen c.in_ok-writer.writer) (seen c.set_custom_metadata.new.self) last c.args.calls.now c.in_ok-answers.answers.items fields (pairs_of c.args.schema.metadata.entries) (chosen_ids c.args.ipc_fields fields)
            order (pairs_of c.args.custom_metadata.entries) made.file made.state made.content empty takes.state.ok takes.content
            ran.made;
        state = c.in_ok-bytes.ensures.state;
      };
      content =
          file_written_by (seen c.in_ok-writer.writer) (seen c.set_custom_metadata.new.self) last c.in_ok-bytes.bytes.items fields (pairs_of c.args.schema.metadata.entries) (chosen_ids c.args.ipc_fields fields)
          order (pairs_of c.args.custom_metadata.entries) _ made.file made.state made.content empty takes.state.ok
          takes.content ran.same ran.chosen ran.content c.in_ok-bytes.ensures.ok;
    }

pub returns-in_err-set_custom_metadata : goal.returns-in_err-set_custom_metadata
returns-in_err-set_custom_metadata c =
    let fields = fields_view c.args.schema.fields.items in
    let made = c.in_ok-writer.ensures.made in
    let p = err_from_is_err_and c.from_residual-in_err-set_custom_metadata.result c.from_residual-in_err-set_custom_metadata.ensures.1 in
    rw (p.1, p.2) (record {
      causes =
          pairs_refused (byte_order (not c.args.options.big_endian)) fields (pairs_of c.args.schema.metadata.entries) (chosen_ids c.args.ipc_fields fields) (pairs_of c.args.custom_metadata.entries) c.args.calls.now
          (seen c.in_ok-writer.writer) _ made.state made.file.fields_are made.file.metadata_are c.in_err-set_custom_metadata.ensures.sets.causes;
      state = tt;
      content = tt;
    })

-- An allocation failed.
pub returns-in_err-answers : goal.returns-in_err-answers
returns-in_err-answers c =
    let p = err_from_is_err_and c.from_residual-in_err-answers.result c.from_residual-in_err-answers.ensures.1 in
    rw (p.1, p.2) (record { causes = tt; state = tt; content = tt })

pub returns-in_err-bytes : goal.returns-in_err-bytes
returns-in_err-bytes c =
    let fields = fields_view c.args.schema.fields.items in
    let es = pairs_of c.args.schema.metadata.entries in
    let is = chosen_ids c.args.ipc_fields fields in
    let order = byte_order (not c.args.options.big_endian) in
    let ps = pairs_of c.args.custom_metadata.entries in
    let last = seen c.run_calls.new.writer in
    let answers = c.in_ok-answers.answers.items in
    let made = c.in_ok-writer.ensures.made in
    let empty = ap (λ (v : Vec ℕ Global). v.items) made.device ∙ c.new.ensures.items in
    let takes = c.in_ok-set_custom_metadata.ensures.sets in
    let left =
    left_after (seen c.in_ok-writer.writer) (seen c.set_custom_metadata.new.self) last c.args.calls.now answers fields es is order ps made.file made.state made.content
    empty takes.state.ok takes.content c.in_ok-answers.ensures.ran.made in
    let p = err_from_is_err_and c.from_residual-in_err-bytes.result c.from_residual-in_err-bytes.ensures.1 in
    rw (p.1, p.2) (record {
      causes = end_refused order fields es is ps c.args.calls.now answers last _ left c.in_err-bytes.ensures.only;
      state = tt;
      content = tt;
    })
