use Rattle.std.proofs.Common.{rules, arith, ◌≡◌, ◌≤◌, length, take, drop, length-drop}
use Rattle.ipc_devices.proofs.MemoryReads.{front_given}
use Rattle.ipc_devices.proofs.memory.MemFileReads.share.Goals as goal

pub returns-clause-gives : goal.returns-clause-gives
returns-clause-gives g c =
    let bytes = g.B.Bytes.bytes c.args.self.now.inner in
    let place = c.args.self.now.position in
    let count = c.args.count in
    let shared : c.in_ok-shared.shared ≡ take count (drop place bytes) = search rules in
    let room : count ≤ length (drop place bytes) = grind (rules, arith, length-drop place bytes) in
    rw shared (front_given bytes place c.args.self.now.given count _ room c.saturating_add-self.ensures)
