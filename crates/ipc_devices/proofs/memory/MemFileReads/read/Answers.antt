use Rattle.ipc_devices.proofs.MemoryReads.{read_given, none_given, idle_given}
use Rattle.ipc_devices.proofs.Places.{reads_front}
use Rattle.ipc_devices.proofs.memory.MemFileReads.read.Goals as goal
use Rattle.std.proofs.Common.{rules, arith, ◌≡◌, length, drop, min}

pub returns-clause-memory : goal.returns-clause-memory
returns-clause-memory g c = λ _. reads_front (g.B.Bytes.bytes c.args.self.now.inner) _ c.args.buf.now c.args.self.now.position _ (search (rules)) (search rules) (search rules)

pub returns-clause-gives : goal.returns-clause-gives
returns-clause-gives g c =
    let bytes = g.B.Bytes.bytes c.args.self.now.inner in
    let place = c.args.self.now.position in
    let old = c.args.buf.now in
    let count : c.copy_front-n.result ≡ min (length (drop place bytes)) (length old) = search rules in
    let size : length c.copy_front-n.new.to ≡ length old = search rules in
    record {
      some = λ _. read_given bytes c.copy_front-n.new.to old place c.args.self.now.given _ _ count (search rules) c.saturating_add-self.ensures;
      none = λ z h. none_given bytes place c.args.self.now.given _ _ (length old) count (omega (arith, h, size)) z c.saturating_add-self.ensures;
      idle = λ z. idle_given bytes place c.args.self.now.given _ _ (length old) count (omega (arith, z, size)) c.saturating_add-self.ensures;
    }
