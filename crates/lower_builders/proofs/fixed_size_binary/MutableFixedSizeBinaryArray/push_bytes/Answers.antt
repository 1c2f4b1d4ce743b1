use Rattle.std.proofs.Common.{arith, ◌≡◌, ◌+◌, ◌-◌, [], ◌∷◌, ◌++◌, true, false, length, ap, ◌∙◌}
use Rattle.std.specs.Prelude.{Some}
use Rattle.lower_builders.specs.FixedBytes.{fixed_slots}
use Rattle.lower_builders.proofs.FixedPushes.{fixed_grow}
use Rattle.lower_builders.proofs.fixed_size_binary.MutableFixedSizeBinaryArray.push_bytes.Goals as goal

pub invariant_of-self-2 : goal.invariant_of-self-2
invariant_of-self-2 c =
    let s = c.self.inside in
    let fits : length c.args.bytes.now ≡ s.size = omega (arith, c.if-bytes-self.false) in
    let grow = fixed_grow s.size s.validity s.values.items c.args.bytes.now true c.push.new.self c.extend_from_slice.new.self.items c.in_ok-push.ensures (c.in_ok-extend_from_slice.ensures.items ∙ ap (λ xs. xs ++ c.args.bytes.now) c.reserve.ensures.items) c.self.invariant.1 fits in
    (c.self.invariant.0, grow.0)

pub returns : goal.returns
returns c =
    let s = c.self.inside in
    let fits : length c.args.bytes.now ≡ s.size = omega (arith, c.if-bytes-self.false) in
    let grow = fixed_grow s.size s.validity s.values.items c.args.bytes.now true c.push.new.self c.extend_from_slice.new.self.items c.in_ok-push.ensures (c.in_ok-extend_from_slice.ensures.items ∙ ap (λ xs. xs ++ c.args.bytes.now) c.reserve.ensures.items) c.self.invariant.1 fits in
    (ap (fixed_slots s.size) grow.1 ∙ ap (λ a. fixed_slots a.size (a.slots ++ Some c.args.bytes.now ∷ [])) c.self.view_is, fits ∙ ap (λ a. a.size) c.self.view_is)
