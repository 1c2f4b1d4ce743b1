use Rattle.std.proofs.Common.{arith, rules, ◌≡◌, ◌+◌, ◌*◌, ◌/◌, ◌<◌, length, vec_len, Err, ap, ◌∙◌}
use Rattle.std.proofs.Math.Nat.{mul-add, mul-div_cancel_left}
use Rattle.std.proofs.lemmas.Grind.{common_steps}
use Rattle.ipc_devices.proofs.Acts.{device_failed, device_sought}
use Rattle.ipc_devices.specs.declared.fault.Fault.TheVariants.{Io}
use Rattle.ipc_read_flat.proofs.Pieces.{read_more}
use Rattle.ipc_read_flat.proofs.read.read_basic.read_pieces.Goals as goal

pub pieces-preserved : goal.pieces-preserved
pieces-preserved g c =
    let w = g.T.NativeType.width in
    let n = c.min-wanted.result in
    let had = vec_len c.pieces.numbers in
    let piece = c.fill.new.buf in
    let is : c.width-width.result ≡ w = c.width-width.ensures.value in
    let some : 0 < w = omega (arith, is, c.width-width.ensures.bounds.0) in
    let told : length piece ≡ c.width-width.result * n = grind (arith, common_steps) in
    let long : length piece ≡ w * n = told ∙ ap (λ m. m * n) is in
    let more : length piece / w ≡ n = ap (λ m. m / w) long ∙ mul-div_cancel_left n some in
    let len : vec_len c.append.new.out ≡ had + n = c.in_ok-append.ensures.len ∙ ap (λ m. had + m) more in
    let items : length c.append.new.out.items ≡ length c.pieces.numbers.items + n = omega (arith, len) in
    let full : c.in_ok-fill.field-0 ≡ length piece = omega (arith, told, c.in_ok-fill.ensures.bound, c.if-branch-piece.false) in
    record {
      inside = grind (arith, common_steps);
      monotone = omega arith;
      done = c.in_ok-fill.ensures.done ∙ c.pieces.invariant.done;
      given = omega (arith, mul-add w had n, ap (λ m. w * m) len, c.in_ok-fill.ensures.given, long);
      whole = search rules;
      names = c.in_ok-fill.ensures.names ∙ c.pieces.invariant.names;
      same = λ k.
          read_more (g.T.NativeType.value c.args.order) w n _ _ _ piece _ _ some (c.pieces.invariant.same k) long
          ((c.in_ok-fill.ensures.memory k).full full) c.in_ok-append.ensures.items items;
    }

pub returns-in_err-fill-clause-device : goal.returns-in_err-fill-clause-device
returns-in_err-fill-clause-device g c =
    let d = g.R.Failures.device in
    let so = c.pieces.invariant in
    let w = c.in_err-fill.ensures in
    let e : c.from_residual.result ≡ Err (Io c.in_err-fill.field-0.0) = search rules in
    rw e (device_sought d c.args.reader.now c.pieces.reader (Err (Io c.in_err-fill.field-0.0)) c.fill.new.reader so.monotone so.done so.whole so.names
    (device_failed d c.pieces.reader c.fill.new.reader c.in_err-fill.field-0.0 w.monotone w.failed w.whole w.names w.answered))
