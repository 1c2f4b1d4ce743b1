use Rattle.std.proofs.Common.{sym, ◌∙◌}
use Rattle.ipc_plan.proofs.Clearing.{none_kept, one_kept}
use Rattle.ipc_plan.proofs.Growing.{one_piece, no_piece}
use Rattle.ipc_plan.proofs.plan.push_piece.Goals as goal

pub returns-then-len-eq0-clause-bytes : goal.returns-then-len-eq0-clause-bytes
returns-then-len-eq0-clause-bytes c = λ order e. no_piece order c.args.pieces.now.items c.args.piece (sym e ∙ c.if-len-eq0.true)

pub returns-clause-bytes : goal.returns-clause-bytes
returns-clause-bytes c = λ order e. one_piece order c.args.pieces.now.items c.push.new.self.items c.args.piece c.args.len c.args.zeros e c.requires c.in_ok-push.ensures.items

pub returns-then-len-eq0-clause-adds : goal.returns-then-len-eq0-clause-adds
returns-then-len-eq0-clause-adds c = none_kept c.args.pieces.now.items c.args.piece c.args.len c.if-len-eq0.true

pub returns-clause-adds : goal.returns-clause-adds
returns-clause-adds c = one_kept c.args.pieces.now.items c.push.new.self.items c.args.piece c.args.len c.args.zeros c.if-len-eq0.false c.requires c.in_ok-push.ensures.items
