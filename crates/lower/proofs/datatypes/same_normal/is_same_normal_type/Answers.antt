use Rattle.lower.specs.TypeViews.{type_view}
use Rattle.lower.specs.Normal.{norm}
use Rattle.lower.proofs.SameNormal.{same_exactly}
use Rattle.lower.proofs.datatypes.same_normal.is_same_normal_type.Goals as goal

pub returns : goal.returns
returns c = same_exactly c.has_same_normal.result (norm (type_view c.args.data_type.now)) (norm (type_view c.args.other.now)) c.has_same_normal.ensures
