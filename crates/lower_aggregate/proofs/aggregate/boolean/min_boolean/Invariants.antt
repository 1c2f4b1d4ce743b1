use Rattle.std.proofs.Common.{◌≡◌, drop, fold}
use Rattle.std.specs.Prelude.{None}
use Rattle.std.specs.Ordering.{bool_cmp}
use Rattle.lower_flat_arrays.specs.Options.{options}
use Rattle.lower_aggregate.specs.Firsts.{first_of}
use Rattle.lower_aggregate.proofs.aggregate.boolean.min_boolean.Given as goal

abbrev pub invariant-loop-index : goal.invariant-loop-index
invariant-loop-index l = fold (first_of bool_cmp) l.least (drop l.index (options l.array.validity l.array.values)) ≡ fold (first_of bool_cmp) None (options l.array.validity l.array.values)
