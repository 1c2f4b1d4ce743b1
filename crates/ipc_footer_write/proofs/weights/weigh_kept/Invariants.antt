use Rattle.std.proofs.Common.{◌≡◌, ◌+◌}
use Rattle.lower.specs.Normal.{kept_pairs}
use Rattle.lower.specs.TypeViews.{pairs_of}
use Rattle.ipc_model.specs.Writable.{pairs_weight}
use Rattle.ipc_footer_write.proofs.weights.weigh_kept.Given as goal

abbrev pub invariant-loop-key : goal.invariant-loop-key
invariant-loop-key l = l.sum + pairs_weight (kept_pairs (pairs_of l.key-iterator)) ≡ pairs_weight (kept_pairs (pairs_of l.pairs.entries))
