use Rattle.std.proofs.Common.{rules, arith, ◌≡◌, codes, sym, subst, ◌∙◌, None, Ok, Err, IfErr, IfSome, Result}
use Rattle.ipc_devices.specs.Faults.{IsIo, OwnFault}
use Rattle.ipc_devices.specs.declared.fault.Fault.{Fault}
use Rattle.ipc_programs.specs.CatRefusals.{ShowCause}
use Rattle.ipc_programs.specs.CatWords.{wanted_by, opened_for}
use Rattle.ipc_programs.specs.declared.cat.show.Outcome.{Outcome}
use Rattle.ipc_programs.specs.declared.cat.show.Outcome.TheVariants.{WrongWords}
use Rattle.ipc_programs.proofs.IoLines.{same_status, unopened_line}
use Rattle.ipc_programs.proofs.Reasons.{not_none, of_asked}
use Rattle.ipc_programs.proofs.cat.run.Goals as goal
use Rattle.ipc_programs.proofs.cat.run.Goals.{in-Some, in-None}

pub returns-clause-unopened_told : goal.returns-clause-unopened_told
returns-clause-unopened_told g c =
    elim c.match-form_of.branch [
      | in-Some w ↦
          let came : w.run_form-outcome.result ≡ Err c.in-Err.fault = sym w.outcome-is ∙ c.in-Err.is in
          let missing = subst (λ (r : Result Outcome Fault). IfSome (opened_for (wanted_by w.in-Some.form)) (λ path. c.args.file ≡ None → IfErr r IsIo)) came w.run_form-outcome.ensures.missing in
          unopened_line opened_for (λ path. c.args.file ≡ None) _ (wanted_by w.in-Some.form) c.in-Err.fault _ _ _ _ (codes "ipcat") w.in-Some.ensures.is missing c.tell.ensures.sends
      | in-None w ↦ rw (sym w.in-None.ensures.is) tt
    ]

pub returns-in-Ok-Done-clause-exact : goal.returns-in-Ok-Done-clause-exact
returns-in-Ok-Done-clause-exact g c = λ zero. record { shown = search rules; printed = search rules; silent = search rules }

pub returns-in-Ok-Done-clause-causes : goal.returns-in-Ok-Done-clause-causes
returns-in-Ok-Done-clause-causes g c = record {
  line = λ one. absurd (omega (arith, one));
  wrong = λ two. absurd (omega (arith, two));
  usage = search rules;
  told = λ two. absurd (omega (arith, two));
  unopened = search rules;
}

pub returns-in-Ok-Done-clause-state : goal.returns-in-Ok-Done-clause-state
returns-in-Ok-Done-clause-state g c =
    elim c.match-form_of.branch [
      | in-Some w ↦
          let form = wanted_by w.in-Some.form in
          rw w.input-is (record {
            unread = of_asked _ _ form w.in-Some.ensures.is w.run_form-outcome.ensures.unread;
            untouched = λ none. absurd (not_none form w.in-Some.ensures.is none);
          })
      | in-None w ↦ record { unread = rw (sym w.in-None.ensures.is) tt; untouched = λ none. (w.input-is, w.out-is) }
    ]

pub returns-in-Ok-WrongWords-clause-exact : goal.returns-in-Ok-WrongWords-clause-exact
returns-in-Ok-WrongWords-clause-exact g c = λ zero. absurd (omega (arith, zero))

pub returns-in-Ok-WrongWords-clause-causes : goal.returns-in-Ok-WrongWords-clause-causes
returns-in-Ok-WrongWords-clause-causes g c = record {
  line = λ one. absurd (omega (arith, one));
  wrong = search rules;
  usage = search rules;
  told = search rules;
  unopened = search rules;
}

pub returns-in-Ok-WrongWords-clause-state : goal.returns-in-Ok-WrongWords-clause-state
returns-in-Ok-WrongWords-clause-state g c =
    elim c.match-form_of.branch [
      | in-Some w ↦
          let form = wanted_by w.in-Some.form in
          rw w.input-is (record {
            unread = of_asked _ _ form w.in-Some.ensures.is w.run_form-outcome.ensures.unread;
            untouched = λ none. absurd (not_none form w.in-Some.ensures.is none);
          })
      | in-None w ↦ record { unread = rw (sym w.in-None.ensures.is) tt; untouched = λ none. (w.input-is, w.out-is) }
    ]

pub returns-clause-exact : goal.returns-clause-exact
returns-clause-exact g c = λ zero. absurd (omega (arith, zero))

pub returns-clause-causes : goal.returns-clause-causes
returns-clause-causes g c =
    elim c.match-form_of.branch [
      | in-Some w ↦
          let form = wanted_by w.in-Some.form in
          let came : w.run_form-outcome.result ≡ Err c.in-Err.fault = sym w.outcome-is ∙ c.in-Err.is in
          let refused =
          subst (λ (r : Result Outcome Fault). IfErr r (λ e. OwnFault e (ShowCause g.R.Reads.gives g.R.Failures.device g.F.Failures.device form c.args.input.now c.args.file e))) came w.run_form-outcome.ensures.refused in
          record {
            line = λ one. record { fault = c.in-Err.fault; why = of_asked _ _ form w.in-Some.ensures.is refused; answer = c.tell.result; sends = c.tell.ensures.sends };
            wrong = λ two. absurd (omega (arith, two));
            usage = λ none. absurd (not_none form w.in-Some.ensures.is none);
            told = λ two. absurd (omega (arith, two));
            unopened = same_status _ (λ path. c.args.file ≡ None) 1;
          }
      | in-None w ↦ let both : Ok WrongWords ≡ Err c.in-Err.fault = sym w.outcome-is ∙ c.in-Err.is in absurd cc
    ]

pub returns-clause-state : goal.returns-clause-state
returns-clause-state g c =
    elim c.match-form_of.branch [
      | in-Some w ↦
          let form = wanted_by w.in-Some.form in
          rw w.input-is (record {
            unread = of_asked _ _ form w.in-Some.ensures.is w.run_form-outcome.ensures.unread;
            untouched = λ none. absurd (not_none form w.in-Some.ensures.is none);
          })
      | in-None w ↦ record { unread = rw (sym w.in-None.ensures.is) tt; untouched = λ none. (w.input-is, w.out-is) }
    ]
