use Rattle.std.proofs.Common.{arith, ◌≡◌, ◌+◌, ◌*◌, ◌-◌, ◌/◌, min, ap₂, ◌%◌, ◌^◌, sym, ap, ◌∙◌}
use Rattle.std.specs.Prelude.{slice_index}
use Rattle.std.proofs.lemmas.Grind.{common_steps}
use Rattle.ipc_plan.specs.Pieces.{packed_byte}
use Rattle.ipc_plan.proofs.Packing.{next_byte, whole_byte, part_byte}
use Rattle.ipc_plan.proofs.sending.pack.Goals as goal

pub inner-preserved : goal.inner-preserved
inner-preserved c =
    let xs = c.args.bytes.now in
    let k = c.inner.k in
    let at = c.args.at in
    let e : c.joined.result ≡ packed_byte xs c.args.start c.args.count (at + k) = c.joined.ensures ∙ sym (whole_byte xs c.args.start c.args.count (at + k) (omega arith)) in
    next_byte (packed_byte xs c.args.start c.args.count) at k c.inner.to c.joined.result (grind (arith, common_steps)) e c.inner.invariant

pub rest-preserved : goal.rest-preserved
rest-preserved c =
    let xs = c.args.bytes.now in
    let k = c.rest.k in
    let at = c.args.at in
    let e : c.lowest.result ≡ packed_byte xs c.args.start c.args.count (at + k) =
    c.lowest.ensures
    ∙ ap (λ n. n % 2 ^ min 8 (c.args.count - 8 * (at + k))) (c.joined-byte.ensures ∙ ap₂ (λ lo hi. ((lo + 256 * hi) / 2 ^ c.args.start) % 256) c.byte_or_zero.ensures c.byte_or_zero-in-rest.ensures)
    ∙ part_byte ((slice_index xs (at + k) + 256 * slice_index xs (at + k + 1)) / 2 ^ c.args.start) (c.args.count - 8 * (at + k)) in
    next_byte (packed_byte xs c.args.start c.args.count) at k c.rest.to c.lowest.result (grind (arith, common_steps)) e c.rest.invariant
