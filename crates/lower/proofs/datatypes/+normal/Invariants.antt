use Rattle.std.proofs.Common.{◌≡◌, map, take}
use Rattle.lower.specs.TypeViews.{field_view}
use Rattle.lower.specs.Normal.{norm_field}
use Rattle.lower.proofs.datatypes.+normal.Given as goal

abbrev pub invariant-normal::normal_fields-loop-field :
    goal.invariant-normal::normal_fields-loop-field
invariant-normal::normal_fields-loop-field l =
    map field_view l.all.items ≡ map (λ f. norm_field (field_view f)) (take l.field-index l.field-items)
