use Rattle.std.proofs.Common.{◌∙◌, sym}
use Rattle.lower_types.proofs.NumberPieces.{spelt-bytes}
use Rattle.lower_types.proofs.native.U8NativeType.put.Goals as goal

pub returns : goal.returns
returns c = c.copy_from_slice.ensures.after ∙ sym (spelt-bytes c.args._order c.args.values.now)
