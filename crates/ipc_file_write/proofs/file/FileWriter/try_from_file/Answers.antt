use Rattle.std.proofs.Common.{◌∙◌}
use Rattle.std.proofs.lemmas.Result.{err_from_is_err_and}
use Rattle.ipc_files.specs.Footers.{file_seen}
use Rattle.ipc_file_write.specs.Appends.{GoesOn}
use Rattle.ipc_file_write.specs.FileWriters.{seen}
use Rattle.ipc_file_write.proofs.AppendEnds.{device_fails}
use Rattle.ipc_file_write.proofs.Appends.{goes_on_any, goes_on_with, never_refused, same_failures, same_names}
use Rattle.ipc_file_write.proofs.file.FileWriter.try_from_file.Goals as goal

pub returns-in_err-prepared : goal.returns-in_err-prepared
returns-in_err-prepared g c =
    let fault = c.in_err-prepared.field-0.0 in
    let p = err_from_is_err_and c.from_residual.result c.from_residual.ensures.1 in
    rw (p.1, p.2) (record {
      causes = record {
        only = c.in_err-prepared.ensures.only;
        always = never_refused g.W.Failures.device (file_seen c.args.metadata) c.args.writer fault c.in_err-prepared.ensures.only;
      };
      device = device_fails g.W.Failures.device.failures c.args.writer c.prepare.new.device fault c.in_err-prepared.ensures.device.failed;
      answered = c.in_err-prepared.ensures.device.answered;
      state = tt;
      content = tt;
      scratches = tt;
    })

pub returns : goal.returns
returns g c =
    let m = file_seen c.args.metadata in
    let w = seen c.resume.result in
    let went : GoesOn g.W.Failures.device m c.args.writer w = rw c.resume.ensures.writer c.in_ok-prepared.ensures.ok in
    record {
      causes = tt;
      device = tt;
      answered = tt;
      state = record {
        goes_on = went;
        done = same_failures g.W.Failures.device.failures _ _ c.in_ok-prepared.prepared c.resume.ensures.writer ∙ c.in_ok-prepared.ensures.device.told;
        names = same_names g.W.Failures.device.names _ _ c.in_ok-prepared.prepared c.resume.ensures.writer ∙ c.in_ok-prepared.ensures.device.names;
      };
      content = record {
        means = goes_on_with g.W.Failures.device m c.args.writer w went;
        again = goes_on_any g.W.Failures.device m c.args.writer w went;
      };
      scratches = c.resume.ensures.scratches;
    }
