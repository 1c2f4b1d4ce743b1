use Rattle.std.proofs.Common.{ℕ, pos, ◌<◌, get_or, map}
use Rattle.std.specs.Option.{option_copied}
use Rattle.lower_validation.specs.Keys.{KeyFits}
use Rattle.lower_validation.specs.Ids.{child_number}
use Rattle.lower_validation.proofs.places.offsets_fit.Given as goal

abbrev pub invariant-loop-index : goal.invariant-loop-index
invariant-loop-index g l =
    (k : ℕ) → k < l.index
    → KeyFits (get_or l.offsets k (pos 0)) (get_or (map g.C.Child.child_len l.children) (child_number (option_copied l.ids) (get_or l.types k (pos 0))) 0)
