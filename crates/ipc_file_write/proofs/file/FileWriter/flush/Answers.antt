use Rattle.std.proofs.Common.{refl}
use Rattle.ipc_file_write.specs.FileWriters.{seen}
use Rattle.ipc_file_write.proofs.FileStates.{flush_remains}
use Rattle.ipc_file_write.proofs.file.FileWriter.flush.Goals as goal

pub returns-clause-flushes : goal.returns-clause-flushes
returns-clause-flushes g c =
    let f = c.flush.ensures in
    record {
      causes = f.only;
      device = f.flushes;
      state = record { first = f.first; state = f.state; same = refl };
      content = flush_remains g.W.Failures.device (seen c.args.self.now) _ c.flush.result f.flushes f.state refl;
    }
