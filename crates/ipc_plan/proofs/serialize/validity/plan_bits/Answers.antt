use Rattle.std.proofs.Common.{arith, ◌≡◌, ◌+◌, ◌-◌, ◌/◌, ◌%◌, ◌<◌, ℕ, List, length, take, drop, get_or, sym, ap, ◌∙◌, subst}
use Rattle.std.proofs.lemmas.List.{take_rest}
use Rattle.std.proofs.lemmas.List.FromFn.{length-map-range_with_len}
use Rattle.ipc_model.specs.Entries.{bytes_for}
use Rattle.lower_flat_arrays.specs.Validities.{part}
use Rattle.ipc_plan.specs.Levels.{AreBits}
use Rattle.ipc_plan.specs.Pieces.{packed}
use Rattle.ipc_plan.proofs.Clearing.{adds_clear, packed_clear}
use Rattle.ipc_plan.proofs.Growing.{on_ok}
use Rattle.ipc_plan.proofs.Packing.{bits_stand, bits_packed}
use Rattle.ipc_plan.proofs.serialize.validity.plan_bits.Goals as goal

pub push_buffer-requires-else-bit-eq0-clause-len : goal.push_buffer-requires-else-bit-eq0-clause-len
push_buffer-requires-else-bit-eq0-clause-len c = c.div_ceil-count.ensures ∙ sym (length-map-range_with_len _ 0 (bytes_for c.args.len))

pub returns-then-bit-eq0-clause-grows : goal.returns-then-bit-eq0-clause-grows
returns-then-bit-eq0-clause-grows c =
    let xs = c.as_slice-start.result.0.now in
    let s = c.as_slice-start.result.1 in
    let o = c.args.offset in
    let n = c.args.len in
    let first = o / 8 + (s + o % 8) / 8 in
    let count : c.div_ceil-count.result ≡ bytes_for n = c.div_ceil-count.ensures in
    let zero_bit : (s + o % 8) % 8 ≡ 0 = c.if-bit-eq0.true in
    let whole = c.as_slice-start.ensures.whole in
    let len = c.as_slice-start.ensures.len in
    let are = bits_stand xs c.args.bits.now s c.as_slice-start.result.2 o n first c.as_slice-start.ensures.bits c.requires.inside (omega (arith, zero_bit)) (omega (arith, whole, len, c.requires.inside)) in
    let wide : first + c.div_ceil-count.result - first ≡ bytes_for n = omega (arith, count) in
    let same : take (first + c.div_ceil-count.result - first) (drop first xs) ≡ take (bytes_for n) (drop first xs) = ap (λ k. take k (drop first xs)) wide in
    on_ok c.push_buffer.result (λ g. record { bytes = _; are = subst (λ (ys : List ℕ). AreBits (part o n c.args.bits.now) ys) (sym same) are; grows = g }) c.push_buffer.ensures.grows

pub returns-else-bit-eq0-clause-grows : goal.returns-else-bit-eq0-clause-grows
returns-else-bit-eq0-clause-grows c =
    let xs = c.as_slice-start.result.0.now in
    let s = c.as_slice-start.result.1 in
    let o = c.args.offset in
    let n = c.args.len in
    let first = o / 8 + (s + o % 8) / 8 in
    let t = (s + o % 8) % 8 in
    let ys = take (length xs - first) (drop first xs) in
    let twice : t % 8 ≡ t = omega arith in
    let bytes : (k : ℕ) → get_or xs k 0 < 256 = c.are_bytes.ensures in
    let are = bits_packed xs ys c.args.bits.now s c.as_slice-start.result.2 o n first t c.as_slice-start.ensures.bits c.requires.inside (omega arith) (omega arith) (take_rest xs first) bytes in
    on_ok c.push_buffer-else-bit-eq0.result (λ g. record { bytes = _; are = subst (λ (k : ℕ). AreBits (part o n c.args.bits.now) (packed ys k n)) (sym twice) are; grows = g }) c.push_buffer-else-bit-eq0.ensures.grows

pub returns-then-bit-eq0-clause-clear : goal.returns-then-bit-eq0-clause-clear
returns-then-bit-eq0-clause-clear c =
    on_ok c.push_buffer.result (λ e. adds_clear c.args.plan.now _ _ c.args.len _ e tt) c.push_buffer.ensures.adds

pub returns-else-bit-eq0-clause-clear : goal.returns-else-bit-eq0-clause-clear
returns-else-bit-eq0-clause-clear c =
    on_ok c.push_buffer-else-bit-eq0.result (λ e. adds_clear c.args.plan.now _ _ c.args.len _ e (packed_clear _ _ c.args.len)) c.push_buffer-else-bit-eq0.ensures.adds
