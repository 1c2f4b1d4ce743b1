use Rattle.ipc_write.specs.Writers.{seen}
use Rattle.ipc_convert.proofs.Failing.{stream_step_fails}
use Rattle.ipc_convert.proofs.Taken.{stream_kept, stream_refuses, stream_took}
use Rattle.ipc_convert.proofs.sinks.StreamWriterSink.take_chunk.Goals as goal

pub returns-clause-taken : goal.returns-clause-taken
returns-clause-taken g c = stream_took g.W.Failures.device (seen c.args.self.now) (seen c.write.new.self) _ _ c.write.result c.write.ensures.content c.write.ensures.state.ok c.write.ensures.device.step.names

pub returns-clause-done : goal.returns-clause-done
returns-clause-done g c = c.write.ensures.device.step.done

pub returns-clause-failed : goal.returns-clause-failed
returns-clause-failed g c =
    stream_step_fails g.W.Failures.device (seen c.args.self.now) c.write.result (seen c.write.new.self) _ _ c.write.ensures.device.step

pub returns-clause-kept : goal.returns-clause-kept
returns-clause-kept g c =
    stream_kept g.W.Failures.device (seen c.args.self.now) (seen c.write.new.self) _ c.write.result c.write.ensures.content c.write.ensures.device

pub returns-clause-refused : goal.returns-clause-refused
returns-clause-refused g c = stream_refuses (seen c.args.self.now) _ c.write.result c.write.ensures.exact c.write.ensures.causes

pub returns-clause-answered : goal.returns-clause-answered
returns-clause-answered g c = c.write.ensures.device.step.answered
