use Rattle.std.proofs.Common.{◌≡◌, ◌+◌, drop}
use Rattle.ipc_tables.specs.Weights.{pairs_weight}
use Rattle.ipc_schema_write.proofs.weights.weigh_pairs.Given as goal

abbrev pub invariant-loop-pair : goal.invariant-loop-pair
invariant-loop-pair l = l.sum + pairs_weight (drop l.pair-index l.pairs) ≡ pairs_weight l.pairs
