use Rattle.std.proofs.Common.{rules, arith, ◌≡◌, ◌*◌, ◌<◌, ap, refl}
use Rattle.ipc_devices.specs.Faults.{OwnFault}
use Rattle.ipc_devices.specs.declared.fault.Fault.TheVariants.{OutOfSpec}
use Rattle.ipc_devices.specs.declared.fault.OutOfSpecKind.TheVariants.{InvalidBitmap}
use Rattle.ipc_model.specs.Entries.{IsSize, size, bytes_for}
use Rattle.ipc_read_flat.specs.Bodies.{entries}
use Rattle.ipc_read_flat.specs.Refusals.{TellsEntries}
use Rattle.ipc_read_flat.proofs.Fetches.{failing}
use Rattle.ipc_read_flat.proofs.Reasons.{offset_fetched, bits_fetched, fewer_bits, listed_found}
use Rattle.ipc_read_flat.proofs.read.read_basic.check_bits.Goals as goal

pub returns-in_err-natural-clause-tells : goal.returns-in_err-natural-clause-tells
returns-in_err-natural-clause-tells g c =
    let fault = c.in_err-natural.field-0.0 in
    let denied : OwnFault fault (IsSize c.get-entry.result.offset → ⊥) = search rules in
    failing c.from_residual.result fault (λ e. OwnFault e (TellsEntries g.R.Failures.device.is_memory (entries g.R.Failures.device c.args.body.now) e)) c.from_residual.ensures
    (offset_fetched g.R.Failures.device c.args.body.now c.args.index c.get-entry.result c.requires.inside c.get-entry.ensures fault c.in_err-natural.ensures.only denied)

pub returns-then-div_ceil-listed-clause-tells : goal.returns-then-div_ceil-listed-clause-tells
returns-then-div_ceil-listed-clause-tells g c =
    let listed : c.size_of-listed.result ≡ size c.get-entry.result.length = search rules in
    let bytes : c.div_ceil.result ≡ bytes_for c.args.count = search rules in
    let more : c.size_of-listed.result < c.div_ceil.result = search rules in
    bits_fetched g.R.Failures.device c.args.body.now c.args.index c.get-entry.result c.requires.inside c.get-entry.ensures c.args.count (c.size_of-listed.result * 8)
    (OutOfSpec (InvalidBitmap c.args.count (c.size_of-listed.result * 8))) (ap (λ n. n * 8) listed) (fewer_bits c.size_of-listed.result c.args.count (omega (arith, more, bytes))) refl

pub returns-then-div_ceil-listed-clause-refused : goal.returns-then-div_ceil-listed-clause-refused
returns-then-div_ceil-listed-clause-refused g c = λ need.
    let listed : c.size_of-listed.result ≡ size c.get-entry.result.length = search rules in
    let bytes : c.div_ceil.result ≡ bytes_for c.args.count = search rules in
    let more : c.size_of-listed.result < c.div_ceil.result = search rules in
    let there = listed_found g.R.Failures.device c.args.body.now c.args.index c.get-entry.result c.requires.inside c.get-entry.ensures in
    absurd (omega (arith, need.1, there, listed, bytes, more))
