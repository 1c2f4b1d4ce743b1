use Rattle.std.proofs.Common.{◌≡◌, drop, fold}
use Rattle.std.specs.Prelude.{None}
use Rattle.lower_flat_arrays.specs.Options.{options}
use Rattle.lower_aggregate.specs.Firsts.{turned, first_of}
use Rattle.lower_aggregate.proofs.aggregate.primitive.max_primitive.Given as goal

abbrev pub invariant-loop-index : goal.invariant-loop-index
invariant-loop-index g l = fold (first_of (turned g.T.Ord.cmp)) l.greatest (drop l.index (options l.array.validity l.array.values)) ≡ fold (first_of (turned g.T.Ord.cmp)) None (options l.array.validity l.array.values)
