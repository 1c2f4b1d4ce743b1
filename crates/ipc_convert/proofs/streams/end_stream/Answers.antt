use Rattle.ipc_write.specs.Writers.{seen}
use Rattle.ipc_convert.proofs.Taken.{ended_over}
use Rattle.ipc_convert.proofs.streams.end_stream.Goals as goal

pub returns-in-Over-clause-ends : goal.returns-in-Over-clause-ends
returns-in-Over-clause-ends g c =
    rw c.in-Over.is (ended_over g.W.Failures.device (seen c.args.writer.now) (seen c.finish.new.self) c.finish.result c.finish.ensures.state.ok c.finish.ensures.content c.finish.ensures.device.names c.finish.ensures.flushed)
