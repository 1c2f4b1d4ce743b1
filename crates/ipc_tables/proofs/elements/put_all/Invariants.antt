use Rattle.std.proofs.Common.{drop, ◌≡◌, ◌++◌}
use Rattle.std.specs.List.{flat_map}
use Rattle.ipc_tables.proofs.elements.put_all.Given as goal

abbrev pub invariant-loop-value : goal.invariant-loop-value
invariant-loop-value g l =
    l.bytes.items ++ flat_map g.S.Element.spelt (drop l.value-index l.values) ≡ l.initial.bytes.items ++ flat_map g.S.Element.spelt l.values
