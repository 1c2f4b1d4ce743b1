-- The documented example of `ipcat`.
use Rattle.std.specs.Prelude.{[], false, codes}
use Rattle.lower.specs.TypeTrees.{FieldTrees, field, int32, more_fields, no_fields, plain}

-- The fields of the example: integers, which aren't nullable.
abbrev pub demo_fields : FieldTrees
demo_fields = more_fields (field (codes "x") (plain int32) false []) (more_fields (field (codes "y") (plain int32) false []) no_fields)
