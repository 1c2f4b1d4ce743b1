use Rattle.std.proofs.Common.{ℕ, List, OnOk, ap, refl, ◌∙◌, subst}
use Rattle.std.proofs.lemmas.Result.{err_from_is_err_and}
use Rattle.ipc_file_write.proofs.AppendEnds.{device_fails}
use Rattle.ipc_file_write.proofs.Appends.{goes_on_any, goes_on_with, same_failures, same_names}
use Rattle.ipc_file_write.specs.Appends.{GoesOn}
use Rattle.ipc_file_write.specs.FileWriters.{seen}
use Rattle.ipc_model.specs.Files.{FileMetadata, metadata_of}
use Rattle.ipc_sessions.specs.Sessions.{GainsChunks, KeepsOld, taken_of}
use Rattle.ipc_sessions.proofs.Ends.{done_from}
use Rattle.ipc_sessions.proofs.Going.{adds_ok, as_read, keeps_old, session_refuses_no_old}
use Rattle.ipc_sessions.proofs.sessions.append_session.Goals as goal

pub returns-in_err-prepared : goal.returns-in_err-prepared
returns-in_err-prepared g c =
    let p = err_from_is_err_and c.from_residual.result c.from_residual.ensures.1 in
    rw (p.1, p.2) (record {
      exact = λ k. tt;
      causes = record {
        always = λ k. session_refuses_no_old g.W.Failures.device.is_memory (g.W.Failures.device.memory c.args.device).whole c.in_err-prepared.field-0.0 k c.in_err-prepared.ensures.only;
        only = c.in_err-prepared.ensures.only;
      };
      device = device_fails g.W.Failures.device.failures c.args.device c.prepare_session.new.device c.in_err-prepared.field-0.0 c.in_err-prepared.ensures.device.failed;
      answered = c.in_err-prepared.ensures.device.answered;
      calls = tt;
      state = λ k. tt;
    })

pub returns-in_err-session : goal.returns-in_err-session
returns-in_err-session g c =
    let p = err_from_is_err_and c.from_residual-in_err-session.result c.from_residual-in_err-session.ensures.1 in
    rw (p.1, p.2, c.in_err-session.ensures.only) (record {
      exact = λ k. tt;
      causes = record { always = λ k m is. tt; only = tt };
      device = tt;
      answered = tt;
      calls = tt;
      state = λ k. tt;
    })

pub returns : goal.returns
returns g c =
    let there = c.in_ok-prepared.ensures.ok in
    let writer = seen c.resume-writer.result in
    let session = c.in_ok-session.session in
    let left = session.device in
    let ends = c.in_ok-session.ensures.made in
    let old = (g.W.Failures.device.memory c.args.device).whole in
    let went : GoesOn g.W.Failures.device there.metadata there.read writer = rw c.resume-writer.ensures.writer there.opens.goes_on in
    record {
      exact = λ k.
          let is = ap metadata_of (there.same k) ∙ there.metadata_is k in
          subst (λ (xs : List ℕ). OnOk session.end (GainsChunks xs (g.W.Failures.device.memory left).whole (taken_of c.args.chunks.now session.answers.items))) (there.same k)
          (adds_ok g.W.Failures.device there.metadata there.read writer left _ went k is session.end ends.leaves
          (goes_on_any g.W.Failures.device there.metadata there.read writer went) (goes_on_with g.W.Failures.device there.metadata there.read writer went));
      causes = tt;
      device = tt;
      answered = tt;
      calls = record {
        read = there.read;
        same = there.same;
        metadata = there.metadata;
        metadata_is = there.metadata_is;
        session = record {
          opened = writer;
          goes_on = went;
          calls = ends;
          done = done_from g.W.Failures.device.failures session.end left writer.device there.read ends.done (same_failures g.W.Failures.device.failures _ _ c.in_ok-prepared.prepared c.resume-writer.ensures.writer ∙ there.opens.done);
          names = ends.names ∙ same_names g.W.Failures.device.names _ _ c.in_ok-prepared.prepared c.resume-writer.ensures.writer ∙ there.opens.names;
        };
        done = done_from g.W.Failures.device.failures session.end left writer.device c.args.device ends.done (same_failures g.W.Failures.device.failures _ _ c.in_ok-prepared.prepared c.resume-writer.ensures.writer ∙ c.in_ok-prepared.ensures.device.told);
        names = ends.names ∙ same_names g.W.Failures.device.names _ _ c.in_ok-prepared.prepared c.resume-writer.ensures.writer ∙ c.in_ok-prepared.ensures.device.names;
      };
      state = λ k.
          as_read (λ (m : FileMetadata) (xs : List ℕ). KeepsOld m xs (g.W.Failures.device.memory left).whole) old old (g.W.Failures.device.memory there.read).whole there.metadata refl (there.same k) (there.metadata_is k)
          (λ is. keeps_old g.W.Failures.device there.metadata there.read writer left _ went k is session.end ends.leaves);
    }
