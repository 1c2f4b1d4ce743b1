use Rattle.std.proofs.Common.{◌≡◌, ℕ, pos, arith, rules, subst, ◌∙◌}
use mir.Val.{to_z, of_z}
use Rattle.std.specs.Int.{w64}
use Rattle.std.proofs.Math.Facts.{to_z-of_z}
use Rattle.std.proofs.lemmas.Grind.{common_steps}
use Rattle.lower_types.specs.declared.Endianness.{Endianness}
use Rattle.lower_arrays.specs.AnyLayouts.{layout_of}
use Rattle.ipc_model.specs.Entries.{size}
use Rattle.ipc_model.specs.Offers.{whole_levels}
use Rattle.ipc_encode.specs.Appending.{PlansFrom, order_of}
use Rattle.ipc_encode.proofs.Appended.{appended}
use Rattle.ipc_encode.proofs.serialize.write.Goals as goal

pub returns-clause-appends : goal.returns-clause-appends
returns-clause-appends c =
    let l = layout_of c.args.array.now in
    let p = c.in_ok-plan.plan in
    let start : c.cast_unsigned-start.result ≡ size c.args.offset.now = search rules in
    let plans : PlansFrom (order_of c.args.is_little_endian) (size c.args.offset.now) (whole_levels l) p =
    subst (λ (o : Endianness). PlansFrom o (size c.args.offset.now) (whole_levels l) p) c.byte_order.ensures
    (subst (λ (k : ℕ). PlansFrom c.byte_order.result k (whole_levels l) p) start c.in_ok-plan.ensures.plans) in
    let o : c.cast_signed.result ≡ pos p.end = grind (arith, common_steps) in
    let end : to_z w64 (of_z w64 c.cast_signed.result) ≡ pos p.end = to_z-of_z {w = w64} {z = c.cast_signed.result} (search rules) ∙ o in
    let done = c.in_ok-append_plan.ensures in
    appended (order_of c.args.is_little_endian) l p _ _ c.in_ok-plan.ensures.array plans done.nodes done.buffers done.bytes end
