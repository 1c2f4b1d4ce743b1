use Rattle.std.proofs.Common.{◌≡◌, ◌-◌, []}
use Rattle.lower.specs.TypeViews.{pairs_of}
use Rattle.ipc_model.specs.Schemas.{pairs_from}
use Rattle.ipc_reference_schema.proofs.metadata.pairs_from.Given as goal

-- The result for what is left is that for all.
abbrev pub invariant-loop-i : goal.invariant-loop-i
invariant-loop-i l =
    pairs_from l.tables l.i (l.tables.count - l.i) (pairs_of l.pairs.entries) ≡ pairs_from l.tables 0 l.tables.count []
