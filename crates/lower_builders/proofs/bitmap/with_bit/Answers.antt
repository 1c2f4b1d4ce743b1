use Rattle.std.proofs.Common.{sym, ap, ◌∙◌, nat_eq, w8}
use Rattle.std.proofs.lemmas.Nat.Bits.{bit_at_set_same, bit_at_set_other, bit_at_clear_same, bit_at_clear_other}
use Rattle.lower_builders.proofs.bitmap.with_bit.Goals as goal

pub returns-then-bit-clause-there : goal.returns-then-bit-clause-there
returns-then-bit-clause-there c = ap (λ x. nat_eq x 1) (bit_at_set_same w8 c.args.byte c.args.k c.requires) ∙ sym c.if-bit.true

pub returns-then-bit-clause-others : goal.returns-then-bit-clause-others
returns-then-bit-clause-others c i below other = bit_at_set_other w8 c.args.byte c.args.k c.requires i other

pub returns-else-bit-clause-there : goal.returns-else-bit-clause-there
returns-else-bit-clause-there c = ap (λ x. nat_eq x 1) (bit_at_clear_same w8 c.args.byte c.args.k c.requires) ∙ sym c.if-bit.false

pub returns-else-bit-clause-others : goal.returns-else-bit-clause-others
returns-else-bit-clause-others c i below other = bit_at_clear_other w8 c.args.byte c.args.k c.requires i below other
