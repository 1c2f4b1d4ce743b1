use Rattle.std.proofs.Common.{arith, ◌∙◌}
use Rattle.lower_flat_arrays.proofs.SameRows.{numbers_tell}
use Rattle.lower_flat_arrays.proofs.equality.PrimitiveArrayToColumn.has_same_values.Goals as goal

pub returns : goal.returns
returns g c =
    let left = c.as_slice.ensures ∙ c.values.ensures.numbers in
    let right = c.as_slice-2.ensures ∙ c.values-2.ensures.numbers in
    let told = rw (left, right) at c.has_same_numbers.ensures in
    let tell = numbers_tell g.T.NativeType.number c.args.self.now c.args.other.now c.requires c.values.ensures.valid.fits c.values-2.ensures.valid.fits (omega arith) (omega arith) in
    (λ yes. tell.0 (told.0 yes), λ all. told.1 (tell.1 all))
