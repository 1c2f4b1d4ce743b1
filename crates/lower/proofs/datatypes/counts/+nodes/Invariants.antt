use Rattle.std.proofs.Common.{◌≡◌, ◌+◌, drop}
use Rattle.lower.specs.TypeViews.{fields_view}
use Rattle.lower.specs.Counts.{fields_nodes}
use Rattle.lower.proofs.datatypes.counts.+nodes.Given as goal

abbrev pub invariant-count_all_nodes-loop-field : goal.invariant-count_all_nodes-loop-field
invariant-count_all_nodes-loop-field l =
    l.sum + fields_nodes (fields_view (drop l.field-index l.fields)) ≡ fields_nodes (fields_view l.fields)
