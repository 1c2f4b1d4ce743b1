use Rattle.std.proofs.Common.{◌≡◌, map, take}
use Rattle.lower.specs.TypeViews.{field_view}
use Rattle.lower.specs.FloatBits.{field_as_bits}
use Rattle.lower.proofs.datatypes.bits.+bits.Given as goal

abbrev pub invariant-fields_as_bits-loop-field : goal.invariant-fields_as_bits-loop-field
invariant-fields_as_bits-loop-field l =
    map field_view l.all.items ≡ map (λ f. field_as_bits (field_view f)) (take l.field-index l.field-items)
