use Rattle.ipc_devices.specs.Device.{Device}
use Rattle.std.proofs.Common.{rules, ◌≡◌, ℕ, List, ◌++◌, sym, Result, Err}
use Rattle.std.proofs.lemmas.Result.{err_from_is_err_and}
use Rattle.ipc_devices.specs.declared.fault.Fault.{Fault}
use Rattle.ipc_plan.specs.Sending.{Sends}
use Rattle.ipc_plan.proofs.Sends.{Sent, sends_stop, sends_then}
use Rattle.ipc_programs.specs.Classes.{class}
use Rattle.ipc_programs.proofs.class.tell.Goals as goal

stops_at_colon : {W : Type 0} (d : Device W) (w w' w'' : W) (x : Fault) (xs ps ys zs : List ℕ) → xs ≡ ps
    → Sent d w w' xs → Sends {X = Unit {0}} d ys w' (Err x) w'' → Sends {X = Unit {0}} d (ps ++ (ys ++ zs)) w (Err x) w''
stops_at_colon d w w' w'' x xs ps ys zs same s t =
    rw (sym same) (sends_then d w w' w'' (Err x) xs (ys ++ zs) s (sends_stop {X = Unit {0}} {Y = Unit {0}} d w' w'' x ys zs t))

stops_at_class : {W : Type 0} (d : Device W) (w w' w'' w''' : W) (x : Fault) (xs ps ys zs cs vs : List ℕ) → xs ≡ ps → zs ≡ cs
    → Sent d w w' xs → Sent d w' w'' ys → Sends {X = Unit {0}} d zs w'' (Err x) w'''
    → Sends {X = Unit {0}} d (ps ++ (ys ++ (cs ++ vs))) w (Err x) w'''
stops_at_class d w w' w'' w''' x xs ps ys zs cs vs same alike s t u =
    rw (sym same) (rw (sym alike) (sends_then d w w' w''' (Err x) xs (ys ++ (zs ++ vs)) s
    (sends_then d w' w'' w''' (Err x) ys (zs ++ vs) t (sends_stop {X = Unit {0}} {Y = Unit {0}} d w'' w''' x zs vs u))))

goes_through : {W : Type 0} (d : Device W) (w w' w'' w''' w'''' : W) (r : Result (Unit {0}) Fault) (xs ps ys zs cs vs : List ℕ) → xs ≡ ps → zs ≡ cs
    → Sent d w w' xs → Sent d w' w'' ys → Sent d w'' w''' zs → Sends {X = Unit {0}} d vs w''' r w''''
    → Sends {X = Unit {0}} d (ps ++ (ys ++ (cs ++ vs))) w r w''''
goes_through d w w' w'' w''' w'''' r xs ps ys zs cs vs same alike s t u v =
    rw (sym same) (rw (sym alike) (sends_then d w w' w'''' r xs (ys ++ (zs ++ vs)) s
    (sends_then d w' w'' w'''' r ys (zs ++ vs) t (sends_then d w'' w''' w'''' r zs vs u v))))

-- src/class.rt:34:5
pub returns-in_err-write_all-2 : goal.returns-in_err-write_all-2
returns-in_err-write_all-2 g c =
    let e = err_from_is_err_and c.from_residual-in_err-write_all-2.result c.from_residual-in_err-write_all-2.ensures.1 in
    record { sends = rw (e.1, e.2) (stops_at_colon _ _ _ _ _ _ c.args.program.now _ _ (search rules) c.in_ok-write_all.ensures.sends c.in_err-write_all-2.ensures.sends) }

-- src/class.rt:35:5
pub returns-in_err-write_all-3 : goal.returns-in_err-write_all-3
returns-in_err-write_all-3 g c =
    let e = err_from_is_err_and c.from_residual-in_err-write_all-3.result c.from_residual-in_err-write_all-3.ensures.1 in
    record {
      sends = rw (e.1, e.2) (stops_at_class _ _ _ _ _ _ _ c.args.program.now _ _ (class c.args.fault.now) _ (search rules) (search rules)
          c.in_ok-write_all.ensures.sends c.in_ok-write_all-2.ensures.sends c.in_err-write_all-3.ensures.sends);
    }

-- src/class.rt:29:1
pub returns : goal.returns
returns g c =
    record {
      sends = goes_through _ _ _ _ _ _ _ _ c.args.program.now _ _ (class c.args.fault.now) _ (search rules) (search rules)
          c.in_ok-write_all.ensures.sends c.in_ok-write_all-2.ensures.sends c.in_ok-write_all-3.ensures.sends c.write_all-4.ensures.sends;
    }
