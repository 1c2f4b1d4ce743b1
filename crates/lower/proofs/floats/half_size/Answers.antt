use Rattle.std.proofs.Common.{◌≡◌, arith}
use Rattle.lower.proofs.Halves.{infinite, undefined}
use Rattle.lower.proofs.floats.half_size.Goals as goal

pub returns-then-fraction-eq0 : goal.returns-then-fraction-eq0
returns-then-fraction-eq0 c = infinite c.args.exponent c.args.fraction (omega arith) (omega arith)

pub returns-else-fraction-eq0 : goal.returns-else-fraction-eq0
returns-else-fraction-eq0 c = undefined c.args.exponent c.args.fraction (omega arith) (λ (zero : c.args.fraction ≡ 0). omega arith)
