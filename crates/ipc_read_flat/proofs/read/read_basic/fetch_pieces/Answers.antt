use Rattle.std.proofs.Common.{◌≡◌, ◌-◌, ◌^◌, min, take, ◌+◌, ◌*◌, ◌<◌, ◌≤◌, List, ℕ, rules, arith, ap, sym, subst, ◌∙◌}
use Rattle.std.proofs.Math.Nat.{mul-pos}
use Rattle.std.proofs.lemmas.Option.{get_or_from_slice_get}
use Rattle.ipc_table_views.specs.declared.schema.Buffer.{Buffer}
use Rattle.ipc_model.specs.Entries.{IsSize, size, bytes}
use Rattle.ipc_devices.specs.Faults.{OwnFault}
use Rattle.ipc_read_flat.specs.Bodies.{entries}
use Rattle.ipc_read_flat.specs.Refusals.{TellsEntries}
use Rattle.ipc_read_flat.proofs.Fetches.{fetched, entry, failing}
use Rattle.ipc_read_flat.proofs.Reasons.{ended_fetched, offset_fetched, short_fetched}
use Rattle.ipc_read_flat.proofs.read.read_basic.fetch_pieces.Goals as goal

pub returns-clause-memory : goal.returns-clause-memory
returns-clause-memory g c = λ k.
    let n = c.args.width * c.args.count in
    let got : entry c.args.body.now.buffers c.args.index ≡ c.get-entry.result = get_or_from_slice_get c.args.body.now.buffers c.args.index c.get-entry.result _ c.get-entry.ensures in
    let listed : c.size_of-listed.result ≡ size c.get-entry.result.length = search rules in
    let fits : n ≤ c.size_of-listed.result = search rules in
    let long : n ≤ size (entry c.args.body.now.buffers c.args.index).length =
    omega (arith, fits, listed ∙ ap (λ (e : Buffer). size e.length) (sym got))
    in
    let natural : IsSize c.get-entry.result.offset = search rules in
    let offset : c.in_ok-offset.offset ≡ size c.get-entry.result.offset = search rules in
    let some : 0 < n = mul-pos c.requires.some (omega arith) in
    fetched (λ xs (v : List ℕ). v ≡ xs) g.R.Failures.device c.args.body.now c.args.index n
    _ _ c.read_bytes_at.result c.requires.inside (subst (λ (e : Buffer). IsSize e.offset) (sym got) natural)
    (ap (λ m. c.args.body.now.base + m) (offset ∙ ap (λ (e : Buffer). size e.offset) (sym got))) long some
    (c.requires.stands (g.met.R.Seeks.known_still k)) (c.read_bytes_at.ensures.memory k)

pub returns-clause-tells : goal.returns-clause-tells
returns-clause-tells g c =
    let listed : c.size_of-listed.result ≡ size c.get-entry.result.length = search rules in
    let fits : c.args.width * c.args.count ≤ c.size_of-listed.result = search rules in
    let long : c.args.width * c.args.count ≤ size c.get-entry.result.length = omega (arith, fits, listed) in
    let natural : IsSize c.get-entry.result.offset = search rules in
    ended_fetched g.R.Failures.device c.args.body.now c.args.index c.get-entry.result c.requires.inside c.get-entry.ensures (c.args.width * c.args.count)
    c.read_bytes_at.result (λ (v : List ℕ). v ≡ take (c.args.width * c.args.count) (bytes (entries g.R.Failures.device c.args.body.now) c.args.index)) natural long c.read_bytes_at.ensures.only (returns-clause-memory g c)

pub returns-in_err-offset-clause-tells : goal.returns-in_err-offset-clause-tells
returns-in_err-offset-clause-tells g c =
    let fault = c.in_err-offset.field-0.0 in
    let denied : OwnFault fault (IsSize c.get-entry.result.offset → ⊥) = search rules in
    failing c.from_residual.result fault (λ e. OwnFault e (TellsEntries g.R.Failures.device.is_memory (entries g.R.Failures.device c.args.body.now) e)) c.from_residual.ensures
    (offset_fetched g.R.Failures.device c.args.body.now c.args.index c.get-entry.result c.requires.inside c.get-entry.ensures fault
    c.in_err-offset.ensures.only denied)

pub returns-then-not-fit-clause-tells : goal.returns-then-not-fit-clause-tells
returns-then-not-fit-clause-tells g c =
    let needed = min (c.args.count * c.args.width) (2 ^ 64 - 1) in
    let more : c.size_of-listed.result < c.args.width * c.args.count = search rules in
    let listed : c.size_of-listed.result ≡ size c.get-entry.result.length = search rules in
    let small : c.size_of-listed.result < 2 ^ 63 = c.size_of-listed.ensures.small in
    short_fetched g.R.Failures.device c.args.body.now c.args.index c.get-entry.result c.requires.inside c.get-entry.ensures c.args.count needed c.size_of-listed.result
    c.too_short.result listed (omega (arith, more, small)) c.too_short.ensures.told
