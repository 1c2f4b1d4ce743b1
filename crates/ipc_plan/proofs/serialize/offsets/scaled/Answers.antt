use Rattle.std.proofs.Common.{arith}
use Rattle.std.proofs.lemmas.Nat.{mul-le}
use Rattle.ipc_plan.proofs.serialize.offsets.scaled.Goals as goal

pub returns-clause-within : goal.returns-clause-within
returns-clause-within c = let le = mul-le c.args.place c.args.size c.args.count c.args.size c.requires.inside (omega arith) in omega (arith, le, c.requires.all)
