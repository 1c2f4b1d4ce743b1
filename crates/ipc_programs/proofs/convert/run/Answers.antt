use Rattle.std.proofs.Common.{ℕ, Bool, List, codes, refl, arith}
use Rattle.ipc_programs.specs.ConvertWords.{IsMissing, IsOpened, wanted_by, place_for}
use Rattle.ipc_programs.proofs.IoLines.{none_missing, of_place, opened_there, same_status, unopened_line}
use Rattle.ipc_programs.proofs.Reasons.{not_none, of_asked}
use Rattle.ipc_programs.proofs.convert.run.Goals as goal

pub returns-in-Err-clause-unopened_told : goal.returns-in-Err-clause-unopened_told
returns-in-Err-clause-unopened_told g c =
    unopened_line place_for (λ (place : List ℕ × Bool). IsMissing place.1 c.args.file c.args.append_to) _ (wanted_by c.in-Some.form) c.in-Err.fault _ _ _ _ (codes "ipconvert") c.in-Some.ensures c.in-Err.ensures.missing c.tell.ensures.sends

pub returns-in-Err-clause-causes : goal.returns-in-Err-clause-causes
returns-in-Err-clause-causes g c =
    let form = wanted_by c.in-Some.form in
    record {
      line = λ one. record {
        fault = c.in-Err.fault;
        why = of_asked _ _ form c.in-Some.ensures c.in-Err.ensures.refused;
        answer = c.tell.result;
        sends = c.tell.ensures.sends;
      };
      usage = λ none. absurd (not_none form c.in-Some.ensures none);
      alone = λ two. absurd (omega (arith, two));
      told = λ none. absurd (not_none form c.in-Some.ensures none);
      unopened = same_status _ (λ (place : List ℕ × Bool). IsMissing place.1 c.args.file c.args.append_to) 1;
    }

pub returns-in-Err-clause-state : goal.returns-in-Err-clause-state
returns-in-Err-clause-state g c =
    let form = wanted_by c.in-Some.form in
    record {
      unread = of_asked _ _ form c.in-Some.ensures c.in-Err.ensures.unread;
      unwritten = of_asked _ _ form c.in-Some.ensures c.in-Err.ensures.unwritten;
      spared = of_place place_for _ _ form c.in-Some.ensures c.in-Err.ensures.spared;
      untouched = λ none. absurd (not_none form c.in-Some.ensures none);
    }

pub returns-in-Ok-clause-exact : goal.returns-in-Ok-clause-exact
returns-in-Ok-clause-exact g c = λ zero.
    let form = wanted_by c.in-Some.form in
    record {
      copied = λ k. of_asked _ _ form c.in-Some.ensures (c.in-Ok.ensures.copied k);
      appended = of_asked _ _ form c.in-Some.ensures c.in-Ok.ensures.appended;
      flushed = of_asked _ _ form c.in-Some.ensures c.in-Ok.ensures.flushed;
      taken = of_asked _ _ form c.in-Some.ensures c.in-Ok.ensures.taken;
      done = c.in-Ok.ensures.done;
      silent = refl;
    }

pub returns-in-Ok-clause-causes : goal.returns-in-Ok-clause-causes
returns-in-Ok-clause-causes g c =
    let form = wanted_by c.in-Some.form in
    record {
      line = λ one. absurd (omega (arith, one));
      usage = λ none. absurd (not_none form c.in-Some.ensures none);
      alone = λ two. absurd (omega (arith, two));
      told = λ none. absurd (not_none form c.in-Some.ensures none);
      unopened =
          none_missing place_for (λ (place : List ℕ × Bool). IsOpened place.1 c.args.file c.args.append_to) (λ (place : List ℕ × Bool). IsMissing place.1 c.args.file c.args.append_to) _ _ form
          c.in-Some.ensures (λ place. opened_there place.1 c.args.file c.args.append_to) c.in-Ok.ensures.unopened;
    }

pub returns-in-Ok-clause-state : goal.returns-in-Ok-clause-state
returns-in-Ok-clause-state g c =
    let form = wanted_by c.in-Some.form in
    record {
      unread = of_asked _ _ form c.in-Some.ensures c.in-Ok.ensures.unread;
      unwritten = of_asked _ _ form c.in-Some.ensures c.in-Ok.ensures.unwritten;
      spared = of_place place_for _ _ form c.in-Some.ensures c.in-Ok.ensures.spared;
      untouched = λ none. absurd (not_none form c.in-Some.ensures none);
    }
