use Rattle.lower.specs.TypeViews.{type_view}
use Rattle.lower_nulls.proofs.Empty.{empty_told}
use Rattle.lower_nulls.proofs.nested.new_empty_array.Goals as goal

pub returns : goal.returns
returns c = empty_told (type_view c.args.data_type) c.new_null_array.result c.new_null_array.ensures
