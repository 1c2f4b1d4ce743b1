use Rattle.ipc_file_write.specs.FileWriters.{seen}
use Rattle.ipc_sessions.proofs.Writes.{writes_chunk}
use Rattle.ipc_sessions.proofs.sessions.write_chunk.Goals as goal

pub returns : goal.returns
returns g c =
    writes_chunk g.W.Failures.device (seen c.args.writer.now) (seen c.write.new.self) c.args.chunk.now c.write.result c.write.ensures.writes.device
    c.write.ensures.writes.exact c.write.ensures.writes.causes c.write.ensures.writes.content
