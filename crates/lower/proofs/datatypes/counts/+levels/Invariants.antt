use Rattle.std.proofs.Common.{◌≤◌, ◌↔◌, drop}
use Rattle.lower.specs.TypeViews.{fields_view}
use Rattle.lower.specs.Counts.{fields_levels}
use Rattle.lower.proofs.datatypes.counts.+levels.Given as goal

abbrev pub invariant-is_within_levels-loop-field : goal.invariant-is_within_levels-loop-field
invariant-is_within_levels-loop-field l =
    (fields_levels (fields_view l.fields) ≤ l.limit) ↔ (fields_levels (fields_view (drop l.field-index l.fields)) ≤ l.limit)
