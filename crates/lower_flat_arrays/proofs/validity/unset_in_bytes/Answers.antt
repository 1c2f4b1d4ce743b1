use Rattle.std.proofs.Common.{arith, rules, ◌≡◌, ◌<◌}
use Rattle.std.specs.Prelude.{slice_index}
use Rattle.std.specs.Int.{w8, count_zeros}
use Rattle.lower_flat_arrays.proofs.Unset.{one_more}
use Rattle.lower_flat_arrays.proofs.validity.unset_in_bytes.Goals as goal

pub loop-byte-preserved : goal.loop-byte-preserved
loop-byte-preserved c =
    let bytes = c.args.bytes.now in
    let i = c.loop-byte.byte-index in
    let small : slice_index bytes i < 256 = search rules in
    let more = one_more bytes i small in
    let here : c.count_zeros.result ≡ count_zeros w8 (slice_index bytes i) = search rules in
    let before = c.loop-byte.invariant.0 in
    let bound = c.loop-byte.invariant.1 in
    let few = c.count_zeros.ensures.bound in
    (omega (arith, more, here, before), omega (arith, bound, few))
