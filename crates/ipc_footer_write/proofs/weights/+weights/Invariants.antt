use Rattle.std.proofs.Common.{◌≡◌, ◌+◌, drop}
use Rattle.lower.specs.Normal.{norm_fields}
use Rattle.lower.specs.TypeViews.{fields_view}
use Rattle.ipc_model.specs.Writable.{fields_weight}
use Rattle.ipc_footer_write.proofs.weights.+weights.Given as goal

abbrev pub invariant-weigh_fields-loop-field : goal.invariant-weigh_fields-loop-field
invariant-weigh_fields-loop-field l = l.sum + fields_weight (norm_fields (fields_view (drop l.field-index l.fields))) ≡ fields_weight (norm_fields (fields_view l.fields))
