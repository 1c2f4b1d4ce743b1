use Rattle.std.proofs.Common.{rules}
use Rattle.ipc_devices.proofs.MemoryReads.{skip_given}
use Rattle.ipc_devices.proofs.memory.MemFileReads.skip.Goals as goal

pub returns : goal.returns
returns g c = record { gives = skip_given (g.B.Bytes.bytes c.args.self.now.inner) c.args.self.now.position c.args.self.now.given c.args.count _ _ (search rules) c.saturating_add-self.ensures }
