use Rattle.std.proofs.Common.{◌∙◌}
use Rattle.std.proofs.lemmas.Result.{err_from_is_err_and}
use Rattle.ipc_files.specs.Footers.{file_seen}
use Rattle.ipc_file_write.proofs.AppendEnds.{device_fails}
use Rattle.ipc_file_write.proofs.Appends.{goes_on_any, goes_on_with, same_failures, same_names}
use Rattle.ipc_file_write.specs.Appends.{GoesOn}
use Rattle.ipc_file_write.specs.FileWriters.{seen}
use Rattle.ipc_sessions.proofs.Ends.{done_from}
use Rattle.ipc_sessions.proofs.Going.{adds_ok, keeps_old, refuses_no_old}
use Rattle.ipc_sessions.proofs.sessions.append_to_file.Goals as goal

pub returns-in_err-prepared : goal.returns-in_err-prepared
returns-in_err-prepared g c =
    let p = err_from_is_err_and c.from_residual.result c.from_residual.ensures.1 in
    rw (p.1, p.2) (record {
      exact = λ k is. tt;
      causes = record {
        always = λ k is. refuses_no_old (file_seen c.args.metadata) _ g.W.Failures.device.is_memory c.in_err-prepared.field-0.0 k is c.in_err-prepared.ensures.only;
        only = c.in_err-prepared.ensures.only;
      };
      device = device_fails g.W.Failures.device.failures c.args.device c.prepare.new.device c.in_err-prepared.field-0.0 c.in_err-prepared.ensures.device.failed;
      answered = c.in_err-prepared.ensures.device.answered;
      calls = tt;
      state = λ k is. tt;
    })

pub returns-in_err-session : goal.returns-in_err-session
returns-in_err-session g c =
    let p = err_from_is_err_and c.from_residual-in_err-session.result c.from_residual-in_err-session.ensures.1 in
    rw (p.1, p.2, c.in_err-session.ensures.only) (record {
      exact = λ k is. tt;
      causes = record { always = λ k is. tt; only = tt };
      device = tt;
      answered = tt;
      calls = tt;
      state = λ k is. tt;
    })

pub returns : goal.returns
returns g c =
    let m = file_seen c.args.metadata in
    let writer = seen c.resume-writer.result in
    let session = c.in_ok-session.session in
    let ends = c.in_ok-session.ensures.made in
    let went : GoesOn g.W.Failures.device m c.args.device writer = rw c.resume-writer.ensures.writer c.in_ok-prepared.ensures.ok in
    record {
      exact = λ k is.
          adds_ok g.W.Failures.device m c.args.device writer session.device _ went k is session.end ends.leaves
          (goes_on_any g.W.Failures.device m c.args.device writer went) (goes_on_with g.W.Failures.device m c.args.device writer went);
      causes = tt;
      device = tt;
      answered = tt;
      calls = record {
        opened = writer;
        goes_on = went;
        calls = ends;
        done = done_from g.W.Failures.device.failures session.end session.device writer.device c.args.device ends.done (same_failures g.W.Failures.device.failures _ _ c.in_ok-prepared.prepared c.resume-writer.ensures.writer ∙ c.in_ok-prepared.ensures.device.told);
        names = ends.names ∙ same_names g.W.Failures.device.names _ _ c.in_ok-prepared.prepared c.resume-writer.ensures.writer ∙ c.in_ok-prepared.ensures.device.names;
      };
      state = λ k is. keeps_old g.W.Failures.device m c.args.device writer session.device _ went k is session.end ends.leaves;
    }
