-- Lists of fields, and what they mean.
use Rattle.std.proofs.Common.{◌≡◌, refl, List, [], ◌∷◌, map}
use Rattle.lower.specs.TypeViews.{field_view, fields_of, fields_view}
use Rattle.lower.specs.declared.datatypes.Field.{Field}
use Rattle.lower.specs.FloatBits.{field_as_bits, fields_as_bits}

pub fields_map : (fs : List Field) → fields_of (map (λ f. field_as_bits (field_view f)) fs) ≡ fields_as_bits (fields_view fs)
fields_map [] = refl
fields_map (f ∷ fs) = rw (fields_map fs)
