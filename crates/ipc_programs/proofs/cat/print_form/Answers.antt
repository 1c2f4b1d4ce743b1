use Rattle.ipc_devices.specs.Device.{Device}
use Rattle.std.proofs.Common.{◌≡◌, ℕ, List, Option, None, Some, Result, Ok, Err, IfOk, IfSome, IsSome, subst}
use Rattle.ipc_devices.specs.Gives.{Gives}
use Rattle.ipc_devices.specs.declared.fault.Fault.{Fault}
use Rattle.ipc_programs.specs.CatWords.{columns_by, file}
use Rattle.ipc_programs.specs.Shown.{ReadsFile, Shows}
use Rattle.ipc_programs.specs.declared.cat.show.Outcome.{Outcome}
use Rattle.ipc_programs.specs.declared.cat.show.Outcome.TheVariants.{Done}
use Rattle.ipc_programs.proofs.PrintSteps.{shown_sent}
use Rattle.ipc_programs.proofs.cat.print_form.Goals as goal

module _ {R F : Type 0} (gives : Gives R) (contents : Device F) (input : R) (path : List ℕ) (asked : Option (List ℕ)) (limit : Option ℕ) where
  abbrev Reads : F → Result Outcome Fault → Type 0
  Reads device r = IfOk r (λ outcome. outcome ≡ Done → ReadsFile contents device asked limit)

  abbrev Opened : Option F → Result Outcome Fault → Type 0
  Opened opened r = IfOk r (λ outcome. IsSome opened)

  -- what was shown of a file was shown of one that was opened
  file_shown : (opened : Option F) (shown sent : Result Outcome Fault) → Opened opened shown → IfSome opened (λ device. Reads device shown) → IfOk sent (λ outcome. shown ≡ Ok outcome)
      → IfOk sent (λ outcome. outcome ≡ Done → Shows gives contents (file path asked limit) input opened)
  file_shown opened shown (Err e) there reads same = tt
  file_shown None shown (Ok outcome) there reads same = λ done. let no : Opened None (Ok outcome) = subst (Opened None) same there in absurd cc
  file_shown (Some device) shown (Ok outcome) there reads same = subst (Reads device) same reads

pub returns-in-File-clause-shown : goal.returns-in-File-clause-shown
returns-in-File-clause-shown g c =
    let said = c.show_opened-shown.ensures in
    rw c.in-File.is (file_shown g.R.Reads.gives g.F.Failures.device c.args.input.now c.in-File.words.path.now (columns_by c.in-File.words.columns) c.in-File.words.limit c.args.file c.show_opened-shown.result c.sent-in-File.result said.opened said.shown c.sent-in-File.ensures.same)

pub returns-in-Demo-clause-prints : goal.returns-in-Demo-clause-prints
returns-in-Demo-clause-prints g c = shown_sent _ _ _ _ c.show_demo-shown.result c.sent.result c.sent.ensures.same c.show_demo-shown.ensures.prints c.sent.ensures.all

pub returns-in-Stream-clause-prints : goal.returns-in-Stream-clause-prints
returns-in-Stream-clause-prints g c =
    shown_sent _ _ _ _ c.show_stream-shown.result c.sent-in-Stream.result c.sent-in-Stream.ensures.same c.show_stream-shown.ensures.prints c.sent-in-Stream.ensures.all

pub returns-in-File-clause-prints : goal.returns-in-File-clause-prints
returns-in-File-clause-prints g c =
    shown_sent _ _ _ _ c.show_opened-shown.result c.sent-in-File.result c.sent-in-File.ensures.same c.show_opened-shown.ensures.prints c.sent-in-File.ensures.all
