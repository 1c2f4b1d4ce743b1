use Rattle.std.proofs.Common.{rules, ◌≡◌, ◌*◌, List, ◌++◌, length, ℕ}
use Rattle.lower_types.specs.Numbers.{values_of}
use Rattle.ipc_devices.specs.Device.{after}
use Rattle.ipc_devices.specs.Gives.{going}
use Rattle.ipc_read_flat.proofs.Pieces.{numbers_shown}
use Rattle.ipc_read_flat.proofs.read.read_basic.take_shown.Goals as goal

pub returns-clause-memory : goal.returns-clause-memory
returns-clause-memory g c known =
    let w = g.T.NativeType.width in
    let f = g.T.NativeType.value c.args.order in
    let bytes : List ℕ = c.in-Some-pass.bytes.now in
    let end = c.pass.follows.lender-at-none in
    let gave : g.R.Reads.gives c.args.reader.now bytes going end = search rules in
    let front : after (g.R.Failures.device.memory c.args.reader.now) ≡ bytes ++ after (g.R.Failures.device.memory end) = g.met.R.Reads.laws.ahead c.args.reader.now bytes going end known gave in
    let count : length bytes ≡ w * c.args.count = search rules in
    let values : c.append-appended.new.out.items ≡ values_of f w bytes = search rules in
    numbers_shown f w (w * c.args.count) (after (g.R.Failures.device.memory c.args.reader.now)) bytes (after (g.R.Failures.device.memory end)) c.append-appended.new.out.items front count values
