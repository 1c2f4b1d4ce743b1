use Rattle.std.proofs.Common.{arith, ◌+◌, ◌≤◌, drop, length, sym, ◌∙◌, refl, [], append-nil, ℕ, List, subst}
use Rattle.std.proofs.lemmas.Result.{err_from_is_err_and}
use Rattle.std.proofs.lemmas.List.{length-drop, take_rest}
use Rattle.ipc_devices.specs.declared.fault.Fault.TheVariants.{Io}
use Rattle.ipc_plan.proofs.Sends.{before_none, before_more, before_stop, one_write, no_write, split_drop}
use Rattle.ipc_plan.proofs.sending.send_bytes.Goals as goal

pub loop-at-preserved : goal.loop-at-preserved
loop-at-preserved g c =
    let n = c.in_ok-at.field-0 in
    let at = c.loop-at.at in
    let bytes = c.args.bytes.now in
    let e = c.in_ok-at.ensures in
    let rest = take_rest bytes at in
    let room : n ≤ length (drop at bytes) = subst (λ (xs : List ℕ). n ≤ length xs) rest e.bound in
    record {
      within = omega (arith, room, length-drop at bytes, c.loop-at.invariant.within);
      sent = before_more _ _ _ _ tt _ _ (drop (at + n) bytes) bytes c.loop-at.invariant.sent (split_drop at n bytes _ rest)
          (one_write _ _ _ n _ e.bound e.done e.memory e.room e.names);
    }

pub returns-in_err-at : goal.returns-in_err-at
returns-in_err-at g c =
    let at = c.loop-at.at in
    let bytes = c.args.bytes.now in
    let w = c.in_err-at.ensures in
    let e = err_from_is_err_and c.from_residual.result c.from_residual.ensures.1 in
    let rest = take_rest bytes at in
    rw (e.1, e.2) (before_stop {X = Unit {0}} _ _ _ _ _ (drop at bytes) _ [] bytes c.loop-at.invariant.sent (sym (append-nil _ ∙ rest))
    (no_write g.W.Failures.device _ _ (Io _) _ (_, w.answered) w.monotone w.failed w.refused w.names))

pub loop-at-init : goal.loop-at-init
loop-at-init g c = record { within = omega arith; sent = before_none _ _ _ _ refl }
