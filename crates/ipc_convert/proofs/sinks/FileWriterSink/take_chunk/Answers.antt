use Rattle.ipc_file_write.specs.FileWriters.{seen}
use Rattle.ipc_sessions.proofs.Writes.{writes_chunk}
use Rattle.ipc_convert.proofs.Failing.{file_step_fails}
use Rattle.ipc_convert.proofs.Taken.{file_kept, file_refuses, file_took}
use Rattle.ipc_convert.proofs.sinks.FileWriterSink.take_chunk.Goals as goal

pub returns-clause-taken : goal.returns-clause-taken
returns-clause-taken g c =
    file_took g.W.Failures.device (seen c.args.self.now) (seen c.write.new.self) _ c.write.result
    (writes_chunk g.W.Failures.device (seen c.args.self.now) (seen c.write.new.self) _ c.write.result c.write.ensures.writes.device
    c.write.ensures.writes.exact c.write.ensures.writes.causes c.write.ensures.writes.content)
    c.write.ensures.writes.device

pub returns-clause-done : goal.returns-clause-done
returns-clause-done g c = c.write.ensures.writes.device.step.done

pub returns-clause-failed : goal.returns-clause-failed
returns-clause-failed g c =
    file_step_fails g.W.Failures.device (seen c.args.self.now) c.write.result (seen c.write.new.self) _ c.write.ensures.writes.device.step

pub returns-clause-kept : goal.returns-clause-kept
returns-clause-kept g c =
    file_kept g.W.Failures.device (seen c.args.self.now) (seen c.write.new.self) _ c.write.result
    (writes_chunk g.W.Failures.device (seen c.args.self.now) (seen c.write.new.self) _ c.write.result c.write.ensures.writes.device
    c.write.ensures.writes.exact c.write.ensures.writes.causes c.write.ensures.writes.content)
    c.write.ensures.writes.device

pub returns-clause-refused : goal.returns-clause-refused
returns-clause-refused g c = file_refuses (seen c.args.self.now) _ c.write.result c.write.ensures.writes.exact c.write.ensures.writes.causes

pub returns-clause-answered : goal.returns-clause-answered
returns-clause-answered g c = c.write.ensures.writes.device.step.answered
