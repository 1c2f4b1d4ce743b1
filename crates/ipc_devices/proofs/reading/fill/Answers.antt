use Rattle.std.proofs.Common.{rules, arith, ◌≡◌, ◌≤◌, ◌<◌, ◌-◌, ◌+◌, take, length, Err, sym, subst, List, ℕ, ◌∙◌}
use Rattle.std.proofs.lemmas.Grind.{common_steps}
use Rattle.std.proofs.lemmas.Slice.{overwrites}
use Rattle.std.proofs.lemmas.List.{length-take-le}
use Rattle.ipc_devices.specs.Gives.{going, ended, failed}
use Rattle.ipc_devices.proofs.Gathered.{fill_more}
use Rattle.ipc_devices.proofs.Filled.{front_filled, front_kept}
use Rattle.ipc_devices.proofs.Passed.{nothing_more}
use Rattle.ipc_devices.proofs.reading.fill.Goals as goal
use borrow.Rule.Slice.PartMut.{put_mid}

pub returns-in_err-n-clause-gives : goal.returns-in_err-n-clause-gives
returns-in_err-n-clause-gives g c =
    let buf = c.loop-at.buf in
    let at = c.loop-at.at in
    let e : c.from_residual.result ≡ Err c.in_err-n.field-0.0 = search rules in
    let size : length (put_mid at (length buf - at) buf c.read.new.buf) ≡ length buf = grind (arith, common_steps, overwrites) in
    let short : length (take at buf) < length (put_mid at (length buf - at) buf c.read.new.buf) = omega (arith, size, c.loop-at-test.true, length-take-le at buf c.loop-at.invariant.inside) in
    rw e (take at buf, short, nothing_more g.R.Reads.gives g.met.R.Reads.laws.in_order _ (take at buf) _ failed _ c.loop-at.invariant.gave c.in_err-n.ensures.gives)

pub loop-at-preserved : goal.loop-at-preserved
loop-at-preserved g c =
    let buf = c.loop-at.buf in
    let at = c.loop-at.at in
    let part = c.read.new.buf in
    let n = c.in_ok-n.n in
    let most : n ≤ length part = search rules in
    let front : take (at + n) (put_mid at (length buf - at) buf part) ≡ _ = front_filled buf part at n c.loop-at.invariant.inside most in
    record {
      inside = grind (arith, common_steps, overwrites);
      gave = subst (λ (l : List ℕ). g.R.Reads.gives c.args.reader.now l going c.read.new.self) (sym front)
          (g.met.R.Reads.laws.in_order _ (take at buf) _ (take n part) going _ c.loop-at.invariant.gave (c.in_ok-n.ensures.gives.some (omega arith)));
      monotone = omega arith;
      done = g.met.R.Reads.laws.fails _ _ going _ (c.in_ok-n.ensures.gives.some (omega arith)) ∙ c.loop-at.invariant.done;
      given = omega (arith, c.in_ok-n.ensures.given);
      whole = search rules;
      names = search rules;
      same = λ k. fill_more _ _ _ buf part at n (search rules) (search rules) (c.loop-at.invariant.same k) ((c.in_ok-n.ensures.memory k).taken (omega arith));
    }

pub returns-then-n-eq0-clause-gives : goal.returns-then-n-eq0-clause-gives
returns-then-n-eq0-clause-gives g c =
    let buf = c.loop-at.buf in
    let at = c.loop-at.at in
    let part = c.read.new.buf in
    let size : length (put_mid at (length buf - at) buf part) ≡ length buf = grind (arith, common_steps, overwrites) in
    let room : 0 < length part = grind (arith, common_steps, overwrites) in
    let ends : g.R.Reads.gives c.loop-at.reader _ ended c.read.new.self = c.in_ok-n.ensures.gives.none c.if-n-eq0.true room in
    record {
      full = λ f. absurd (omega (arith, f, size, c.loop-at-test.true));
      short = λ _. subst (λ (l : List ℕ). g.R.Reads.gives c.args.reader.now l ended c.read.new.self) (sym (front_kept buf part at c.loop-at.invariant.inside))
          (nothing_more g.R.Reads.gives g.met.R.Reads.laws.in_order _ (take at buf) _ ended _ c.loop-at.invariant.gave ends);
    }

pub returns-then-n-eq0-clause-done : goal.returns-then-n-eq0-clause-done
returns-then-n-eq0-clause-done g c =
    let part = c.read.new.buf in
    let buf = c.loop-at.buf in
    let room : 0 < length part = grind (arith, common_steps, overwrites) in
    g.met.R.Reads.laws.fails _ _ ended _ (c.in_ok-n.ensures.gives.none c.if-n-eq0.true room) ∙ c.loop-at.invariant.done
