use Rattle.std.proofs.Common.{◌≡◌, ◌++◌, ◌/◌}
use Rattle.std.specs.List.{flat_map}
use Rattle.lower_types.proofs.native.append_bytes.Given as goal

abbrev pub invariant-pieces : goal.invariant-pieces
invariant-pieces g l =
    (l.piece-iterator.size ≡ 4096 / g.T.NativeType.width)
    × (l.out.items ++ flat_map (g.T.NativeType.spelt l.order) l.piece-iterator.rest.now ≡ l.initial.out.items ++ flat_map (g.T.NativeType.spelt l.order) l.values)
