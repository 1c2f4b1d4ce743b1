use Rattle.std.proofs.Common.{◌∙◌}
use Rattle.lower.specs.TypeViews.{type_view, pairs_of}
use Rattle.lower.proofs.SameNormal.{kept_same}
use Rattle.lower.proofs.datatypes.same_normal.has_same_metadata.Goals as goal

pub returns : goal.returns
returns c =
    c.has_same_pairs.ensures
    ∙ kept_same (type_view c.args.field.now.data_type) (type_view c.args.other.now.data_type) (pairs_of c.args.field.now.metadata.entries) (pairs_of c.args.other.now.metadata.entries) c.requires
