use Rattle.std.proofs.Common.{arith, ◌∙◌}
use Rattle.lower_flat_arrays.proofs.SameRows.{fixed_tell}
use Rattle.lower_flat_arrays.proofs.equality.FixedSizeBinaryArrayToColumn.has_same_values.Goals as goal

pub returns : goal.returns
returns c =
    let left = c.as_slice.ensures ∙ c.values.ensures.bytes in
    let right = c.as_slice-2.ensures ∙ c.values-2.ensures.bytes in
    let told = rw (left, right) at c.has_same_bytes.ensures in
    let tell = fixed_tell c.args.self.now c.args.other.now c.requires (omega arith) c.values.ensures.valid c.values-2.ensures.valid (omega arith) (omega arith) in
    (λ yes. tell.0 (told.0 yes), λ all. told.1 (tell.1 all))
