use Rattle.std.proofs.Common.{arith, ◌≡◌, ℕ, ◌+◌, ◌-◌, ℤ, List, pos, take, drop, length, sym, ap, ◌∙◌, subst}
use Rattle.std.proofs.lemmas.List.{length-map}
use Rattle.lower_flat_arrays.specs.Validities.{part}
use Rattle.lower_flat_arrays.proofs.Cuts.{length-part}
use Rattle.lower_types.specs.declared.PrimitiveType.TheVariants.{Int64}
use Rattle.ipc_plan.specs.Levels.{AreOffsetBytes}
use Rattle.ipc_plan.proofs.Growing.{on_ok}
use Rattle.ipc_plan.proofs.Offsets.{offsets_64, rising_part, stand_part}
use Rattle.ipc_plan.proofs.serialize.offsets.plan_large_offsets.Goals as goal

pub push_buffer-requires-clause-len : goal.push_buffer-requires-clause-len
push_buffer-requires-clause-len c =
    let o = c.args.offset in
    let n = c.args.len + 1 in
    let os = c.args.offsets.now in
    let wide : o + c.args.len + 1 - o ≡ n = omega arith in
    let is = c.len.ensures.offsets in
    let count : length (part o n os) ≡ n = length-part o n os (omega arith) in
    let same = stand_part c.as_slice.result.now os o n (o + c.args.len + 1 - o) c.as_slice.ensures.integers wide in
    let are = offsets_64 c.args.plan.now.order (take (o + c.args.len + 1 - o) (drop o c.as_slice.result.now)) (part o n os) same (rising_part os o n is.rising (omega arith)) (omega (arith, count)) c.large_piece-piece.ensures.range in
    let long : length (take (o + c.args.len + 1 - o) (drop o c.as_slice.result.now)) ≡ length (part o n os) = ap (λ (zs : List ℤ). length zs) same ∙ length-map (part o n os) pos in
    let bytes = ap (λ (xs : List ℕ). length xs) (c.large_piece-piece.ensures.bytes c.args.plan.now.order) in
    omega (arith, are.count, long, bytes)

pub returns-clause-grows : goal.returns-clause-grows
returns-clause-grows c =
    let o = c.args.offset in
    let n = c.args.len + 1 in
    let os = c.args.offsets.now in
    let wide : o + c.args.len + 1 - o ≡ n = omega arith in
    let is = c.len.ensures.offsets in
    let count : length (part o n os) ≡ n = length-part o n os (omega arith) in
    let same = stand_part c.as_slice.result.now os o n (o + c.args.len + 1 - o) c.as_slice.ensures.integers wide in
    let are = offsets_64 c.args.plan.now.order (take (o + c.args.len + 1 - o) (drop o c.as_slice.result.now)) (part o n os) same (rising_part os o n is.rising (omega arith)) (omega (arith, count)) c.large_piece-piece.ensures.range in
    let sent = subst (λ (xs : List ℕ). AreOffsetBytes c.args.plan.now.order Int64 (part o n os) xs) (sym (c.large_piece-piece.ensures.bytes c.args.plan.now.order)) are in
    on_ok c.push_buffer.result (λ g. record { bytes = _; are = sent; grows = g }) c.push_buffer.ensures.grows
