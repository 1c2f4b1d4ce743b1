use Rattle.ipc_file_write.specs.FileWriters.{seen}
use Rattle.ipc_sessions.proofs.Ends.{ends_session}
use Rattle.ipc_sessions.proofs.sessions.end_session.Goals as goal

pub returns-clause-made : goal.returns-clause-made
returns-clause-made g c =
    rw c.into_inner-device.ensures
    (ends_session g.W.Failures.device (seen c.args.writer) (seen c.write_chunks.new.writer) (seen c.finish-end.new.self) c.args.chunks.now
    c.in_ok-answers.answers.items c.finish-end.result c.in_ok-answers.ensures.made c.finish-end.ensures.finishes)
