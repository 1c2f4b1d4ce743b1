use Rattle.std.proofs.Common.{◌≡◌, length}
use Rattle.lower.specs.TypeViews.{pairs_of}
use Rattle.lower.specs.Normal.{kept_pairs}
use Rattle.lower.specs.Same.{same_pairs}
use Rattle.lower.proofs.datatypes.same_normal.has_same_pairs.Given as goal

abbrev pub invariant-loop-key : goal.invariant-loop-key
invariant-loop-key l =
    same_pairs (kept_pairs (pairs_of l.metadata.entries)) (kept_pairs (pairs_of l.other.entries))
    ≡ same_pairs (kept_pairs (pairs_of l.pairs)) (kept_pairs (pairs_of l.others))

abbrev pub decreases-loop-key : goal.decreases-loop-key
decreases-loop-key l = length (kept_pairs (pairs_of l.pairs))
