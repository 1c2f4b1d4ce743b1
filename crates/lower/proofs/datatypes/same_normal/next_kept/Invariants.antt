use Rattle.std.proofs.Common.{◌≡◌}
use Rattle.lower.specs.TypeViews.{pairs_of}
use Rattle.lower.specs.Normal.{kept_pairs}
use Rattle.lower.proofs.datatypes.same_normal.next_kept.Given as goal

abbrev pub invariant-loop-key : goal.invariant-loop-key
invariant-loop-key l =
    (goal.iterator-loop-key).can_next l.pairs × (goal.iterator-loop-key).is_finite l.pairs
    × (kept_pairs (pairs_of l.initial.pairs) ≡ kept_pairs (pairs_of l.pairs))
