use Rattle.std.proofs.Common.{◌≡◌, drop, fold}
use Rattle.std.specs.Prelude.{None}
use Rattle.std.specs.Ordering.{nat_cmp}
use Rattle.std.specs.Cmp.Lexicographic.{slice_cmp}
use Rattle.std.specs.Option.{option_copied}
use Rattle.lower_flat_arrays.specs.Options.{options, spans}
use Rattle.lower_aggregate.specs.Firsts.{first_of}
use Rattle.lower_aggregate.proofs.aggregate.utf8.min_string.Given as goal

abbrev pub invariant-loop-index : goal.invariant-loop-index
invariant-loop-index g l = fold (first_of (slice_cmp nat_cmp)) (option_copied l.least) (drop l.index (options l.array.validity (spans l.array))) ≡ fold (first_of (slice_cmp nat_cmp)) None (options l.array.validity (spans l.array))
