use Rattle.std.proofs.Common.{ap, ◌∙◌}
use Rattle.lower.specs.TypeViews.{type_view}
use Rattle.lower_arrays.specs.Flat.{null_layout}
use Rattle.lower_arrays.specs.AnyLayouts.{layout_of}
use Rattle.lower_nulls.proofs.FlatNulls.{null_breaks_none, nulls_of_nulls}
use Rattle.lower_nulls.proofs.flat.null_nulls.Goals as goal

pub unreachable-requires : goal.unreachable-requires
unreachable-requires c = null_breaks_none (type_view c.args.data_type) c.args.length c.in-Err.field-0 c.requires c.in-Err.ensures

pub returns : goal.returns
returns c = nulls_of_nulls (type_view c.args.data_type) c.args.length (layout_of c.from.result) c.requires (c.from.ensures ∙ ap null_layout c.in-Ok.ensures.0)
