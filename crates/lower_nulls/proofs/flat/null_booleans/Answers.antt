use Rattle.std.proofs.Common.{false, refl, length, sym, ap, ◌∙◌}
use Rattle.std.specs.Prelude.{Some}
use Rattle.std.proofs.lemmas.List.{length-replicate}
use Rattle.lower.specs.TypeViews.{type_view}
use Rattle.lower.specs.declared.datatypes.physical_type.PhysicalType.TheVariants.{Boolean}
use Rattle.lower_flat_arrays.specs.Booleans.{boolean_seen}
use Rattle.lower_builders.proofs.Rules.{boolean_breaks_none}
use Rattle.lower_arrays.specs.Layouts.{truths, no_layouts}
use Rattle.lower_arrays.specs.Flat.{boolean_layout}
use Rattle.lower_arrays.specs.AnyLayouts.{layout_of}
use Rattle.lower_nulls.proofs.Levels.{nulls_at}
use Rattle.lower_nulls.proofs.flat.null_booleans.Goals as goal

pub unreachable-requires : goal.unreachable-requires
unreachable-requires c =
    let xs = c.in_ok-values.values in
    let bits = c.in_ok-validity.validity in
    boolean_breaks_none (boolean_seen (type_view c.args.data_type) xs (Some bits)) c.in-Err.field-0
    (record { lies = c.requires; fits = ap length (c.in_ok-validity.ensures ∙ sym c.in_ok-values.ensures) }) c.in-Err.ensures

pub returns : goal.returns
returns c =
    let t = type_view c.args.data_type in
    let xs = c.in_ok-values.values in
    let bits = c.in_ok-validity.validity in
    nulls_at t c.args.length Boolean (layout_of c.from.result) (record { type = t; len = length xs; validity = Some bits; parts = truths xs }) no_layouts
    c.requires tt (c.from.ensures ∙ ap boolean_layout c.in-Ok.ensures.0) refl (ap length c.in_ok-values.ensures ∙ length-replicate c.args.length false) (ap Some c.in_ok-validity.ensures)
