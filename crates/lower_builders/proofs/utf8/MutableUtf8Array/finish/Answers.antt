use Rattle.std.proofs.Common.{◌-◌, ap, ◌∙◌}
use Rattle.lower.specs.TypeViews.{type_view}
use Rattle.lower_flat_arrays.specs.Texts.{texts_with}
use Rattle.lower_builders.proofs.Errors.{no_text_error}
use Rattle.lower_builders.proofs.utf8.MutableUtf8Array.finish.Goals as goal

pub unreachable-requires : goal.unreachable-requires
unreachable-requires g c =
    let data_type = c.default_data_type-data_type in
    let parts = c.in_ok-offsets in
    no_text_error g.O.NativeType.primitive (type_view data_type.result) c.self.inside.slots parts.offsets parts.values parts.validity c.in-Err.field-0 (data_type.ensures.layout ∙ ap texts_with c.primitive_type.ensures) c.in_ok-offsets.ensures c.self.invariant c.in-Err.ensures
