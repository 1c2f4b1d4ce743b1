use Rattle.std.proofs.Common.{◌≡◌, ◌+◌, drop}
use Rattle.lower.specs.TypeViews.{fields_view}
use Rattle.lower.specs.Counts.{fields_buffers}
use Rattle.lower.proofs.datatypes.counts.+buffers.Given as goal

abbrev pub invariant-count_all_buffers-loop-field : goal.invariant-count_all_buffers-loop-field
invariant-count_all_buffers-loop-field l =
    l.sum + fields_buffers l.extra (fields_view (drop l.field-index l.fields)) ≡ fields_buffers l.extra (fields_view l.fields)
