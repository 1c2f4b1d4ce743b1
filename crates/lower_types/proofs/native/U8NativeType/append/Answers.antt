use Rattle.std.proofs.Common.{rules}
use Rattle.lower_types.proofs.NumberPieces.{values_of-bytes}
use Rattle.lower_types.proofs.native.U8NativeType.append.Goals as goal

pub returns-clause-items : goal.returns-clause-items
returns-clause-items c = rw (values_of-bytes c.args._order c.args.bytes.now) (search rules)
