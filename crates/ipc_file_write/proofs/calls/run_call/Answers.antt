use Rattle.ipc_file_write.specs.FileWriters.{seen}
use Rattle.ipc_file_write.proofs.CallLists.{finish_moves, start_moves, write_moves}
use Rattle.ipc_file_write.proofs.calls.run_call.Goals as goal

pub returns-in-Start-clause-moves : goal.returns-in-Start-clause-moves
returns-in-Start-clause-moves g c =
    rw c.in-Start.is
    (start_moves g.W.Failures.device (seen c.args.writer.now) _ c.start.result c.start.ensures.starts.state.first c.start.ensures.starts.device c.start.ensures.starts.state.ok c.start.ensures.starts.content)

pub returns-in-Write-clause-moves : goal.returns-in-Write-clause-moves
returns-in-Write-clause-moves g c =
    rw c.in-Write.is
    (write_moves g.W.Failures.device (seen c.args.writer.now) _ _ c.write.result c.write.ensures.writes.state c.write.ensures.writes.device c.write.ensures.writes.content)

pub returns-in-Finish-clause-moves : goal.returns-in-Finish-clause-moves
returns-in-Finish-clause-moves g c =
    rw c.in-Finish.is
    (finish_moves g.W.Failures.device (seen c.args.writer.now) _ c.finish.result c.finish.ensures.finishes.state.first c.finish.ensures.finishes.device c.finish.ensures.finishes.state.ok c.finish.ensures.finishes.content)
