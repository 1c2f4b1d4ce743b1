use Rattle.std.proofs.Common.{arith, ◌≡◌, ◌+◌, ◌-◌, [], ◌∷◌, ◌++◌, false, length, ap, ◌∙◌}
use Rattle.std.proofs.Common.{replicate, vec_len}
use Rattle.std.specs.Prelude.{None}
use Rattle.std.proofs.lemmas.List.{length-replicate}
use Rattle.lower_builders.specs.FixedBytes.{fixed_slots}
use Rattle.lower_builders.proofs.FixedPushes.{fixed_grow, resized}
use Rattle.lower_builders.proofs.fixed_size_binary.MutableFixedSizeBinaryArray.push_null.Goals as goal

pub invariant_of-self-2 : goal.invariant_of-self-2
invariant_of-self-2 c =
    let s = c.self.inside in
    let v = c.reserve.new.self in
    let count : vec_len v ≡ length v.items = omega (arith, v.ok.0) in
    let items = resized v.items c.resize.new.self.items c.len.result (vec_len v) s.size (c.len.ensures ∙ count) count c.in_ok-resize.ensures.items ∙ ap (λ xs. xs ++ replicate s.size 0) c.reserve.ensures.items in
    let grow = fixed_grow s.size s.validity s.values.items (replicate s.size 0) false c.push.new.self c.resize.new.self.items c.in_ok-push.ensures items c.self.invariant.1 (length-replicate s.size 0) in
    (c.self.invariant.0, grow.0)

pub returns : goal.returns
returns c =
    let s = c.self.inside in
    let v = c.reserve.new.self in
    let count : vec_len v ≡ length v.items = omega (arith, v.ok.0) in
    let items = resized v.items c.resize.new.self.items c.len.result (vec_len v) s.size (c.len.ensures ∙ count) count c.in_ok-resize.ensures.items ∙ ap (λ xs. xs ++ replicate s.size 0) c.reserve.ensures.items in
    let grow = fixed_grow s.size s.validity s.values.items (replicate s.size 0) false c.push.new.self c.resize.new.self.items c.in_ok-push.ensures items c.self.invariant.1 (length-replicate s.size 0) in
    (ap (fixed_slots s.size) grow.1 ∙ ap (λ a. fixed_slots a.size (a.slots ++ None ∷ [])) c.self.view_is, tt)
