use Rattle.std.proofs.Common.{◌≡◌, ◌⊎◌, Option, Some, Result, Ok, Err, IfErr, IsTrue, OnOk, ap, ◌∙◌}
use Rattle.ipc_devices.specs.Faults.{IsIo, OwnFault}
use Rattle.ipc_devices.specs.declared.fault.Fault.{Fault}
use Rattle.ipc_encode.specs.declared.common.WriteOptions.{WriteOptions}
use Rattle.ipc_devices.specs.Gives.{Gives}
use Rattle.ipc_convert.specs.Copies.{AppendsTo, CopiesStream}
use Rattle.ipc_devices.specs.Device.{Device}
use Rattle.ipc_programs.specs.ConvertWords.{wanted_by}
use Rattle.ipc_programs.specs.Refusals.{CopyInputCause, CopyOpenedCause, AskedCause}
use Rattle.ipc_programs.specs.Written.{Appended}
use Rattle.ipc_programs.specs.declared.convert.forms.Form.{Form}
use Rattle.ipc_programs.specs.declared.convert.forms.Form.TheVariants.{Append, Convert}
use Rattle.ipc_programs.specs.declared.convert.forms.Source.{Source}
use Rattle.ipc_programs.specs.declared.convert.forms.Source.TheVariants.{File, Input}
use Rattle.ipc_programs.specs.declared.convert.forms.Target.{Target}
use Rattle.ipc_programs.proofs.Reasons.{copied_or_io}
use Rattle.ipc_programs.proofs.convert.run_form.Goals as goal
use Rattle.ipc_programs.proofs.convert.run_form.Goals.{in-Convert-Input-default-default, in-Convert-File-default-default+in_ok-opened-in-Convert-File-default-default, in-Append+in_ok-opened-in-Append+in_ok-append_input-in-Append}

appended : {R F : Type 0} (gives : Gives R) (d : Device F) (form : Form) (path : _) (file : Option F) (device last : F) (a b : R) → form ≡ Append path → file ≡ Some device → d.failures last ≡ d.failures device → IsTrue (d.is_flushed last)
    → (IsTrue d.is_memory → (d.memory device).place ≡ 0 → CopiesStream gives a b (λ schema cs end. AppendsTo (d.memory device).whole (d.memory last).whole schema cs))
    → Appended gives d (wanted_by form) a b file
appended gives d form path file device last a b e f same done h = rw e (rw f (last, same, done, h))

-- Appending wasn't requested.
none_appended : {R A : Type 0} (gives : Gives R) (d : Device A) (form : Form) (from : Source) (target : Target) (options : WriteOptions) (a b : R) (file : Option A) (result : Result (Unit {0}) Fault)
    → form ≡ Convert from target options → OnOk result (Appended gives d (wanted_by form) a b file)
none_appended gives d form Input target options a b file (Ok x) is = rw is tt
none_appended gives d form (File path) target options a b file (Ok x) is = rw is tt
none_appended gives d form from target options a b file (Err e) is = tt

pub returns-clause-appended : goal.returns-clause-appended
returns-clause-appended g c =
    elim c.match-form.branch [
      | in-Convert-Input-default-default w ↦
          none_appended g.R.Reads.gives g.A.Failures.device c.args.form _ _ _ c.args.input.now c.match-form.input c.args.append_to c.match-form.result w.in-Convert-Input-default-default.is
      | in-Convert-File-default-default+in_ok-opened-in-Convert-File-default-default w ↦
          none_appended g.R.Reads.gives g.A.Failures.device c.args.form _ _ _ c.args.input.now c.match-form.input c.args.append_to c.match-form.result w.in-Convert-File-default-default.is
      | in-Append+in_ok-opened-in-Append+in_ok-append_input-in-Append w ↦
          rw (w.result-is, w.input-is)
          (appended g.R.Reads.gives g.A.Failures.device c.args.form _ c.args.append_to w.in_ok-opened-in-Append.field-0 w.in_ok-append_input-in-Append.field-0 _ _
          w.in-Append.is w.in_ok-opened-in-Append.ensures.there w.in_ok-append_input-in-Append.ensures.done.0 w.in_ok-append_input-in-Append.ensures.flushed w.in_ok-append_input-in-Append.ensures.appends)
    ]

copied_given : {R F A O : Type 0} (gives : Gives R) (source : Device R) (contents : Device F) (kept : Device A) (d : Device O) (form : Form) (from : Source)
    (target : Target) (options : WriteOptions) (input : R) (file : Option F) (appended : Option A) (out : O) (copied result : Result (Unit {0}) Fault) → form ≡ Convert from target options → from ≡ Input
    → IfErr copied (λ e. OwnFault e (CopyInputCause gives source input d out target options e)) → IfErr result (λ e. (copied ≡ Err e) ⊎ IsIo e)
    → IfErr result (λ e. OwnFault e (AskedCause gives source contents kept d (wanted_by form) input file appended out e))
copied_given gives source contents kept d form from target options input file appended out copied result is from_is why fault =
    rw (is ∙ ap (λ (x : Source). Convert x target options) from_is) (copied_or_io copied result (λ e. CopyInputCause gives source input d out target options e) why fault)

copied_opened : {R F A O : Type 0} (gives : Gives R) (source : Device R) (contents : Device F) (kept : Device A) (d : Device O) (form : Form) (from : Source) (path : _)
    (target : Target) (options : WriteOptions) (input : R) (file : Option F) (appended : Option A) (device : F) (out : O) (copied result : Result (Unit {0}) Fault) → form ≡ Convert from target options → from ≡ File path → file ≡ Some device
    → IfErr copied (λ e. OwnFault e (CopyOpenedCause contents device d out target options e)) → IfErr result (λ e. (copied ≡ Err e) ⊎ IsIo e)
    → IfErr result (λ e. OwnFault e (AskedCause gives source contents kept d (wanted_by form) input file appended out e))
copied_opened gives source contents kept d form from path target options input file appended device out copied result is from_is opened why fault =
    rw (is ∙ ap (λ (x : Source). Convert x target options) from_is, opened) (copied_or_io copied result (λ e. CopyOpenedCause contents device d out target options e) why fault)

pub returns-clause-refused : goal.returns-clause-refused
returns-clause-refused g c =
    elim c.match-form.branch [
      | in-Convert-Input-default-default w ↦
          let words = w.in-Convert-Input-default-default in
          rw w.result-is
          (copied_given g.R.Reads.gives g.R.Failures.device g.F.Failures.device g.A.Failures.device g.O.Failures.device c.args.form _ words.target words.write_options
          c.args.input.now c.args.file c.args.append_to c.args.out.now w.copy_input-copied.result w.flushed.result
          words.is (rw words.is at words.field-0-is) w.copy_input-copied.ensures.refused w.flushed.ensures.fault)
      | in-Convert-File-default-default+in_ok-opened-in-Convert-File-default-default w ↦
          let words = w.in-Convert-File-default-default in
          rw w.result-is
          (copied_opened g.R.Reads.gives g.R.Failures.device g.F.Failures.device g.A.Failures.device g.O.Failures.device c.args.form _ _ words.target words.write_options
          c.args.input.now c.args.file c.args.append_to w.in_ok-opened-in-Convert-File-default-default.field-0 c.args.out.now w.copy_file-copied.result w.flushed-in-Convert-File-default-default.result
          words.is (rw words.is at words.field-0-is) w.in_ok-opened-in-Convert-File-default-default.ensures.there w.copy_file-copied.ensures.refused w.flushed-in-Convert-File-default-default.ensures.fault)
      | in-Append+in_ok-opened-in-Append+in_ok-append_input-in-Append w ↦ rw w.result-is tt
    ]
