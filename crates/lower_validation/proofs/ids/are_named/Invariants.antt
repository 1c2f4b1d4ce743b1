use Rattle.std.proofs.Common.{ℕ, pos, ◌<◌, get_or}
use Rattle.std.specs.Option.{option_copied}
use Rattle.lower_validation.specs.Ids.{NamesChild}
use Rattle.lower_validation.proofs.ids.are_named.Given as goal

abbrev pub invariant-loop-index : goal.invariant-loop-index
invariant-loop-index l = (k : ℕ) → k < l.index → NamesChild (option_copied l.ids) l.count (get_or l.types k (pos 0))
