use Rattle.std.proofs.Common.{◌∙◌, subst, sym}
use Rattle.std.proofs.lemmas.Result.{err_from_is_err_and}
use Rattle.ipc_encode.specs.declared.common.EncodedData.{EncodedData}
use Rattle.ipc_file_write.specs.Appends.{AreEmptyScratches}
use Rattle.ipc_file_write.specs.FileWriters.{seen}
use Rattle.ipc_file_write.proofs.StartsAndEnds.{begin_fails, begins_at}
use Rattle.ipc_file_write.proofs.file.FileWriter.try_new.Goals as goal

pub returns-in_err-start : goal.returns-in_err-start
returns-in_err-start g c =
    let made = c.in_ok-file.ensures.made in
    let starts = c.in_err-start.ensures.starts in
    let p = err_from_is_err_and c.from_residual-in_err-start.result c.from_residual-in_err-start.ensures.1 in
    rw (p.1, p.2)
    (record {
      exact = record {
        new = seen c.in_ok-file.file;
        state = made.state;
        device_is = made.device;
        file = made.file;
        nothing = made.content;
        sends = tt;
        starts = tt;
        may = tt;
        failed = begin_fails g.W.Failures.device (seen c.in_ok-file.file) (seen c.start.new.self) c.in_err-start.field-0.0 starts.device;
        only = starts.causes;
        misses = starts.exact;
      };
      state = tt;
      file = tt;
      content = λ k. tt;
      scratches = tt;
    })

pub returns : goal.returns
returns g c =
    let made = c.in_ok-file.ensures.made in
    let starts = c.in_ok-start.ensures.starts in
    let is = made.file in
    let same = starts.device.step.same in
    record {
      exact = record {
        new = seen c.in_ok-file.file;
        state = made.state;
        device_is = made.device;
        file = made.file;
        nothing = made.content;
        sends = starts.device;
        starts = starts.state.ok;
        may = starts.exact;
        failed = tt;
        only = tt;
        misses = tt;
      };
      state = starts.state.ok.is;
      file = record {
        fields_are = same.fields ∙ is.fields_are;
        metadata_are = same.metadata ∙ is.metadata_are;
        chosen_are = same.chosen ∙ is.chosen_are;
        order_is = same.order ∙ is.order_is;
        pairs_are = same.pairs ∙ is.pairs_are;
      };
      content = begins_at g.W.Failures.device c.args.writer (seen c.in_ok-file.file) (seen c.start.new.self) made.device made.content starts.content;
      scratches = subst (λ (s : EncodedData). AreEmptyScratches s) (sym c.in_ok-start.ensures.scratches) c.in_ok-file.ensures.scratches;
    }
