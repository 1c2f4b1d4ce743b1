use Rattle.std.proofs.Common.{arith, rules, ◌≡◌, ◌<◌, length, get_or, true, false}
use Rattle.lower_flat_arrays.proofs.Unset.{one_unset, one_set}
use Rattle.lower_flat_arrays.proofs.validity.unset_between.Goals.{then-not-get_bit, else-not-get_bit}
use Rattle.lower_flat_arrays.proofs.validity.unset_between.Goals as goal

pub loop-i-preserved : goal.loop-i-preserved
loop-i-preserved c =
    let bits = c.args.bits.now in
    let i = c.loop-i.i in
    let inv = c.loop-i.invariant in
    let after = inv.2 in
    let inside : i < length bits = omega (arith, c.loop-i-test.true, c.requires.inside) in
    elim c.if-not-get_bit.branch [
      | then-not-get_bit w ↦
          let bit : get_or bits i false ≡ false = search rules in
          let step = one_unset bits c.args.from i after inside bit in
          let now = w.count-is in
          let before = inv.0 in
          let few = inv.1 in
          (omega (arith, step, now, before), omega (arith, now, few, after), omega (arith, after))
      | else-not-get_bit w ↦
          let bit : get_or bits i false ≡ true = search rules in
          let step = one_set bits c.args.from i after inside bit in
          let now = w.count-is in
          let before = inv.0 in
          let few = inv.1 in
          (omega (arith, step, now, before), omega (arith, now, few, after), omega (arith, after))
    ]
