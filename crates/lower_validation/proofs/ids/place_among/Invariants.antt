use Rattle.std.proofs.Common.{◌≢◌, ℕ, pos, ◌<◌, get_or}
use Rattle.lower_validation.proofs.ids.place_among.Given as goal

abbrev pub invariant-loop-place : goal.invariant-loop-place
invariant-loop-place l = (k : ℕ) → k < l.place → get_or l.ids k (pos 0) ≢ l.id
