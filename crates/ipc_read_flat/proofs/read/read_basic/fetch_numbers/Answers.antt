use Rattle.std.proofs.Common.{◌≡◌, ◌-◌, ◌^◌, min, take, ◌+◌, ◌*◌, ◌<◌, ◌≤◌, Vec, Global, rules, arith, ap, sym, subst, ◌∙◌}
use Rattle.std.proofs.Math.Nat.{mul-pos}
use Rattle.std.proofs.lemmas.Option.{get_or_from_slice_get}
use Rattle.lower_types.specs.Numbers.{values_of}
use Rattle.ipc_table_views.specs.declared.schema.Buffer.{Buffer}
use Rattle.ipc_model.specs.Entries.{IsSize, size, bytes}
use Rattle.ipc_devices.specs.Faults.{OwnFault}
use Rattle.ipc_read_flat.specs.Bodies.{entries}
use Rattle.ipc_read_flat.specs.Refusals.{TellsEntries}
use Rattle.ipc_read_flat.proofs.Fetches.{fetched, entry, failing}
use Rattle.ipc_read_flat.proofs.Reasons.{ended_fetched, offset_fetched, short_fetched}
use Rattle.ipc_read_flat.proofs.read.read_basic.fetch_numbers.Goals as goal

pub returns-clause-memory : goal.returns-clause-memory
returns-clause-memory g c = λ k.
    let w = g.T.NativeType.width in
    let value = g.T.NativeType.value c.args.body.now.order in
    let is : c.width-width.result ≡ w = c.width-width.ensures.value in
    let some : 0 < w = omega (arith, is, c.width-width.ensures.bounds.0) in
    let got : entry c.args.body.now.buffers c.args.index ≡ c.get-entry.result = get_or_from_slice_get c.args.body.now.buffers c.args.index c.get-entry.result _ c.get-entry.ensures in
    let listed : c.size_of-listed.result ≡ size c.get-entry.result.length = search rules in
    let fits : c.width-width.result * c.args.count ≤ c.size_of-listed.result = search rules in
    let long : w * c.args.count ≤ size (entry c.args.body.now.buffers c.args.index).length =
    omega (arith, fits, listed ∙ ap (λ (e : Buffer). size e.length) (sym got), ap (λ n. n * c.args.count) is)
    in
    let natural : IsSize c.get-entry.result.offset = search rules in
    let offset : c.in_ok-offset.offset ≡ size c.get-entry.result.offset = search rules in
    fetched (λ xs (v : Vec g.row.T.Denot Global). v.items ≡ values_of value w xs) g.R.Failures.device c.args.body.now c.args.index (w * c.args.count)
    _ _ c.read_numbers_at.result c.requires.inside (subst (λ (e : Buffer). IsSize e.offset) (sym got) natural)
    (ap (λ n. c.args.body.now.base + n) (offset ∙ ap (λ (e : Buffer). size e.offset) (sym got))) long (mul-pos some (omega arith))
    (c.requires.stands (g.met.R.Seeks.known_still k)) (c.read_numbers_at.ensures.memory k)

pub returns-clause-tells : goal.returns-clause-tells
returns-clause-tells g c =
    let listed : c.size_of-listed.result ≡ size c.get-entry.result.length = search rules in
    let is : c.width-width.result ≡ g.T.NativeType.width = c.width-width.ensures.value in
    let fits : c.width-width.result * c.args.count ≤ c.size_of-listed.result = search rules in
    let long : g.T.NativeType.width * c.args.count ≤ size c.get-entry.result.length = omega (arith, fits, listed, ap (λ n. n * c.args.count) is) in
    let natural : IsSize c.get-entry.result.offset = search rules in
    ended_fetched g.R.Failures.device c.args.body.now c.args.index c.get-entry.result c.requires.inside c.get-entry.ensures (g.T.NativeType.width * c.args.count)
    c.read_numbers_at.result (λ (v : Vec g.row.T.Denot Global). v.items ≡ values_of (g.T.NativeType.value c.args.body.now.order) g.T.NativeType.width (take (g.T.NativeType.width * c.args.count) (bytes (entries g.R.Failures.device c.args.body.now) c.args.index))) natural long c.read_numbers_at.ensures.only (returns-clause-memory g c)

pub returns-in_err-offset-clause-tells : goal.returns-in_err-offset-clause-tells
returns-in_err-offset-clause-tells g c =
    let fault = c.in_err-offset.field-0.0 in
    let denied : OwnFault fault (IsSize c.get-entry.result.offset → ⊥) = search rules in
    failing c.from_residual.result fault (λ e. OwnFault e (TellsEntries g.R.Failures.device.is_memory (entries g.R.Failures.device c.args.body.now) e)) c.from_residual.ensures
    (offset_fetched g.R.Failures.device c.args.body.now c.args.index c.get-entry.result c.requires.inside c.get-entry.ensures fault
    c.in_err-offset.ensures.only denied)

pub returns-then-not-fit-clause-tells : goal.returns-then-not-fit-clause-tells
returns-then-not-fit-clause-tells g c =
    let needed = min (c.args.count * c.width-width.result) (2 ^ 64 - 1) in
    let is : c.width-width.result ≡ g.T.NativeType.width = c.width-width.ensures.value in
    let more : c.size_of-listed.result < c.width-width.result * c.args.count = search rules in
    let listed : c.size_of-listed.result ≡ size c.get-entry.result.length = search rules in
    let small : c.size_of-listed.result < 2 ^ 63 = c.size_of-listed.ensures.small in
    short_fetched g.R.Failures.device c.args.body.now c.args.index c.get-entry.result c.requires.inside c.get-entry.ensures c.args.count needed c.size_of-listed.result
    c.too_short.result listed (omega (arith, more, small)) c.too_short.ensures.told
