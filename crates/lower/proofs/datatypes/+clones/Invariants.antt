use Rattle.std.proofs.Common.{◌≡◌, map, take}
use Rattle.lower.specs.TypeViews.{field_view}
use Rattle.lower.proofs.datatypes.+clones.Given as goal

abbrev pub invariant-clones::clone_fields-loop-field :
    goal.invariant-clones::clone_fields-loop-field
invariant-clones::clone_fields-loop-field l =
    map field_view l.copies.items ≡ map field_view (take l.field-index l.field-items)
