use Rattle.std.proofs.Common.{◌≡◌, ◌*◌, ◌≤◌, take}
use Rattle.std.specs.List.{sum_by}
use Rattle.lower.specs.Bits.{has_bit}
use Rattle.lower_flat_arrays.specs.Validities.{unset_along}
use Rattle.lower_flat_arrays.proofs.validity.unset_in_words.Given as goal

abbrev pub invariant-loop-word : goal.invariant-loop-word
invariant-loop-word l = (l.count ≡ sum_by (λ word. unset_along (has_bit word) 0 64) (take l.word-index l.words)) × (l.count ≤ 64 * l.word-index)
