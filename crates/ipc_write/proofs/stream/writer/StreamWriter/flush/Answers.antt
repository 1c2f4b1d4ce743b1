use Rattle.std.proofs.Common.{refl}
use Rattle.ipc_write.specs.Writers.{seen}
use Rattle.ipc_write.proofs.Agreements.{flush_remains}
use Rattle.ipc_write.proofs.stream.writer.StreamWriter.flush.Goals as goal

pub returns : goal.returns
returns g c =
    let f = c.flush.ensures in
    record {
      causes = f.only;
      device = f.flushes;
      state = record { first = f.first; state = f.state; same = refl };
      content = flush_remains g.W.Failures.device (seen c.args.self.now) _ c.flush.result f.flushes f.state refl;
    }
