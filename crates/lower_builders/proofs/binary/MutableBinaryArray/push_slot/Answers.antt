use Rattle.std.proofs.Common.{arith, ◌≡◌, ◌+◌, ◌-◌, [], ◌∷◌, ◌++◌, length, ap, ap₂, subst, ◌∙◌}
use Rattle.std.proofs.lemmas.Result.{err_from_is_err_and}
use Rattle.lower_flat_arrays.specs.Options.{option_where, where_set}
use Rattle.lower_builders.specs.Growing.{last_end_of, CantReach}
use Rattle.lower_builders.specs.Bytes.{bytes_in, byte_count, spans_of}
use Rattle.lower_builders.proofs.SpanPushes.{AreSpans-grow, spans_grow}
use Rattle.lower_builders.proofs.binary.MutableBinaryArray.push_slot.Goals as goal

pub returns-in_err-try_push_usize : goal.returns-in_err-try_push_usize
returns-in_err-try_push_usize g c =
    let s = c.self.inside in
    let slot = option_where c.args.is_valid c.args.bytes.now in
    let p = err_from_is_err_and c.from_residual-in_err-try_push_usize.result c.from_residual-in_err-try_push_usize.ensures.1 in
    let total : byte_count (where_set s.validity (spans_of s.offsets s.values.items)) ≡ length s.values.items = c.self.invariant.total in
    let whole : last_end_of s.offsets ≡ length s.values.items = c.self.invariant.whole in
    let size : length (bytes_in slot) ≡ length c.args.bytes.now = ap length c.requires in
    let old : byte_count (where_set s.validity (spans_of s.offsets s.values.items)) ≡ byte_count c.args.self.now = ap byte_count c.self.view_is in
    let sum : last_end_of s.offsets + length c.args.bytes.now ≡ byte_count c.args.self.now + length (bytes_in slot) = omega (arith, total, whole, size, old) in
    rw (p.1, p.2) (
      ap₂ (λ os xs. where_set s.validity (spans_of os xs)) c.in_err-try_push_usize.ensures.0 c.reserve.ensures.items ∙ c.self.view_is,
      subst (λ n. CantReach g.O.Offset.limit n c.in_err-try_push_usize.field-0.0) sum c.in_err-try_push_usize.ensures.1,
    )

pub invariant_of-self-2 : goal.invariant_of-self-2
invariant_of-self-2 g c =
    let s = c.self.inside in
    AreSpans-grow s.offsets s.values.items s.validity c.args.bytes.now c.args.is_valid c.try_push_usize.new.self c.extend_from_slice.new.self.items c.push.new.self
    c.in_ok-try_push_usize.ensures.0
    (c.in_ok-extend_from_slice.ensures.items ∙ ap (λ xs. xs ++ c.args.bytes.now) c.reserve.ensures.items)
    c.in_default.ensures c.self.invariant c.requires

pub returns : goal.returns
returns g c =
    let s = c.self.inside in
    spans_grow s.offsets s.values.items s.validity c.args.bytes.now c.args.is_valid c.try_push_usize.new.self c.extend_from_slice.new.self.items c.push.new.self
    c.in_ok-try_push_usize.ensures.0
    (c.in_ok-extend_from_slice.ensures.items ∙ ap (λ xs. xs ++ c.args.bytes.now) c.reserve.ensures.items)
    c.in_default.ensures c.self.invariant c.requires
    ∙ ap (λ slots. slots ++ option_where c.args.is_valid c.args.bytes.now ∷ []) c.self.view_is
