use Rattle.std.proofs.Common.{length, map, take}
use Rattle.lower.specs.Columns.{HaveNames, AreDistinct}
use Rattle.lower.proofs.datatypes.columns.columns_named.Given as goal

abbrev pub invariant-loop-i : goal.invariant-loop-i
invariant-loop-i l =
    let fields = l.schema.fields.items in
    HaveNames fields (take l.i (map (λ n. n.now) l.names)) l.columns.items × AreDistinct l.columns.items (length fields)
