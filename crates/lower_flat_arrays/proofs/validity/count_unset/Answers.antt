use Rattle.std.proofs.Common.{arith, rules, ◌≡◌, ◌+◌, ◌-◌, ◌*◌, ◌≤◌, length}
use Rattle.lower_flat_arrays.proofs.Unset.{unset_of_parts}
use Rattle.lower_flat_arrays.proofs.validity.count_unset.Goals as goal

pub returns : goal.returns
returns c =
    let bits = c.args.bits.now in
    let bytes = c.as_slice-start.result.0.now in
    let start = c.as_slice-start.result.1 in
    let len = c.as_slice-start.result.2 in
    let k = length bytes - 2 in
    let h = 8 - start in
    let small = c.as_slice-start.ensures.start in
    let count = c.as_slice-start.ensures.whole in
    let long = c.if-bytes-le2.false in
    let whole : start + h ≡ 8 = omega (arith, small) in
    let fits : h + 8 * k ≤ len = omega (arith, small, count, long) in
    let all = unset_of_parts bits bytes start len h k c.as_slice-start.ensures.bits whole fits in
    search (rules, all)
