use Rattle.std.proofs.Common.{rules, ◌≡◌, Ok, Err, refl}
use Rattle.ipc_devices.specs.declared.fault.Fault.TheVariants as faults
use Rattle.ipc_programs.proofs.PrintSteps.{put_filled, put_great, put_kept, put_refused, put_unsent, puts_prints}
use Rattle.ipc_programs.proofs.cat.printer.Printer.put.Goals as goal

pub returns-in_err-send-clause-puts : goal.returns-in_err-send-clause-puts
returns-in_err-send-clause-puts g c =
    let e : c.from_residual.result ≡ Err c.in_err-send.field-0.0 = search rules in
    rw e (put_unsent _ _ _ _ c.args.bytes.now c.in_err-send.ensures.sends)

pub returns-then-bytes-ge-KEPT-clause-puts : goal.returns-then-bytes-ge-KEPT-clause-puts
returns-then-bytes-ge-KEPT-clause-puts g c =
    put_great g.W.Failures.device _ _ _ c.write_all.result c.args.bytes.now c.in_ok-send.ensures.sends c.write_all.ensures.same c.write_all.ensures.sends
    c.write_all.ensures.done refl

pub returns-then-bytes-ge-KEPT-clause-prints : goal.returns-then-bytes-ge-KEPT-clause-prints
returns-then-bytes-ge-KEPT-clause-prints g c = puts_prints g.W.Failures.device _ _ c.write_all.result c.args.bytes.now (returns-then-bytes-ge-KEPT-clause-puts g c)

pub returns-in_err-extend_from_slice-clause-puts : goal.returns-in_err-extend_from_slice-clause-puts
returns-in_err-extend_from_slice-clause-puts g c =
    let e : c.from_residual-in_err-extend_from_slice.result ≡ Err faults.Memory = search rules in
    let kept = rw c.in_err-extend_from_slice.was at c.extend_from_slice.ensures.items in
    rw e (put_refused g.W.Failures.device _ _ c.args.bytes.now kept)

pub returns-then-len-ge-KEPT-clause-puts : goal.returns-then-len-ge-KEPT-clause-puts
returns-then-len-ge-KEPT-clause-puts g c =
    let kept = rw c.in_ok-extend_from_slice.was at c.extend_from_slice.ensures.items in
    put_filled g.W.Failures.device _ _ _ c.args.bytes.now c.send-then-len-ge-KEPT.result kept c.send-then-len-ge-KEPT.ensures.sends

pub returns-then-len-ge-KEPT-clause-prints : goal.returns-then-len-ge-KEPT-clause-prints
returns-then-len-ge-KEPT-clause-prints g c = puts_prints g.W.Failures.device _ _ c.send-then-len-ge-KEPT.result c.args.bytes.now (returns-then-len-ge-KEPT-clause-puts g c)

pub returns-clause-puts : goal.returns-clause-puts
returns-clause-puts g c =
    let kept = rw c.in_ok-extend_from_slice.was at c.extend_from_slice.ensures.items in
    put_kept g.W.Failures.device _ _ c.args.bytes.now kept

pub returns-clause-prints : goal.returns-clause-prints
returns-clause-prints g c = puts_prints g.W.Failures.device {X = Unit {0}} _ _ (Ok tt) c.args.bytes.now (returns-clause-puts g c)
