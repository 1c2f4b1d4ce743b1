use Rattle.std.proofs.Common.{length, sym, ap, ◌∙◌}
use Rattle.lower_builders.specs.Validity.{as_validity, validity_bits}
use Rattle.lower_builders.specs.FixedBytes.{pieces_of}
use Rattle.lower_flat_arrays.specs.Options.{where_set}
use Rattle.lower_builders.proofs.Slots.{bits-where_set}
use Rattle.lower_builders.proofs.FixedPushes.{length-pieces}
use Rattle.lower.specs.TypeViews.{type_view}
use Rattle.lower_flat_arrays.specs.FixedBinaries.{fixed_seen}
use Rattle.lower_builders.proofs.Errors.{no_error_of_type, fixed_slots_are}
use Rattle.lower_builders.proofs.fixed_size_binary.MutableFixedSizeBinaryArray.finish.Goals as goal

pub unreachable-requires : goal.unreachable-requires
unreachable-requires c =
    let s = c.self.inside in
    no_error_of_type (type_view c.fixed_data_type.result) s.size c.in_ok-values.values s.validity c.in_ok-validity.validity c.in-Err.field-0 c.fixed_data_type.ensures c.self.invariant.0 (ap length c.in_ok-values.ensures ∙ c.self.invariant.1) c.in_ok-validity.ensures c.in-Err.ensures

pub returns-clause-slots : goal.returns-clause-slots
returns-clause-slots c =
    let s = c.self.inside in
    fixed_slots_are s.size c.in_ok-values.values s.validity c.in_ok-validity.validity c.in-Ok.array c.self.invariant.0 (ap length c.in_ok-values.ensures ∙ c.self.invariant.1) c.in_ok-validity.ensures (c.in-Ok.ensures.0 ∙ ap (λ t. fixed_seen t c.in_ok-values.values c.in_ok-validity.validity) c.fixed_data_type.ensures)
    ∙ ap (λ xs. where_set s.validity (pieces_of s.size (length s.validity) xs)) c.in_ok-values.ensures
    ∙ ap (λ a. a.slots) c.self.view_is

pub returns-clause-validity : goal.returns-clause-validity
returns-clause-validity c =
    let s = c.self.inside in
    ap (λ a. a.validity) c.in-Ok.ensures.0
    ∙ c.in_ok-validity.ensures
    ∙ ap as_validity (sym (bits-where_set s.validity (pieces_of s.size (length s.validity) s.values.items) (sym (length-pieces s.size (length s.validity) s.values.items))))
    ∙ ap (λ a. as_validity (validity_bits a.slots)) c.self.view_is
