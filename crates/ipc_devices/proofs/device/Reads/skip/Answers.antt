use Rattle.std.proofs.Common.{rules, arith, inl, inr, ◌++◌, ◌≡◌, ◌≤◌, ◌<◌, take, length, Err}
use Rattle.std.proofs.lemmas.Grind.{common_steps}
use Rattle.ipc_devices.specs.Gives.{going, ended, failed}
use Rattle.ipc_devices.proofs.Passed.{nothing_more, taken_more}
use Rattle.ipc_devices.proofs.device.Reads.skip.Goals as goal

pub returns-in_err-n : goal.returns-in_err-n
returns-in_err-n g c =
    let s = c.loop-left.invariant.gave in
    let e : c.from_residual.result ≡ Err c.in_err-n.field-0.0 = search rules in
    let fails : g.Self.Reads.gives c.loop-left.self _ failed c.read.new.self = c.in_err-n.ensures.gives in
    rw e (record { gives = (s.0, omega (arith, s.1, c.loop-left-test.true), nothing_more g.Self.Reads.gives g.met.Self.Reads.laws.in_order _ s.0 _ failed _ s.2 fails) })

pub returns-then-n-eq0 : goal.returns-then-n-eq0
returns-then-n-eq0 g c =
    let s = c.loop-left.invariant.gave in
    let some : 0 < length c.read.new.buf = grind (arith, common_steps) in
    let ends : g.Self.Reads.gives c.loop-left.self _ ended c.read.new.self = c.in_ok-n.ensures.gives.none c.if-n-eq0.true some in
    record { gives = (s.0, inr (omega (arith, s.1, c.loop-left-test.true), nothing_more g.Self.Reads.gives g.met.Self.Reads.laws.in_order _ s.0 _ ended _ s.2 ends)) }

pub returns-after-loop-left : goal.returns-after-loop-left
returns-after-loop-left g c =
    let s = c.loop-left.invariant.gave in
    record { gives = (s.0, inl (omega (arith, s.1, c.loop-left-test.false), s.2)) }

pub loop-left-preserved : goal.loop-left-preserved
loop-left-preserved g c =
    let s = c.loop-left.invariant.gave in
    let buf = c.read.new.buf in
    let n = c.in_ok-n.n in
    let size : n ≤ length buf = grind (arith, common_steps) in
    let most : n ≤ c.loop-left.left = grind (arith, common_steps) in
    record {
      inside = omega arith;
      gave = (
        s.0 ++ take n buf,
        taken_more s.0 buf n c.loop-left.left c.args.count size most s.1,
        g.met.Self.Reads.laws.in_order _ s.0 _ _ going _ s.2 (c.in_ok-n.ensures.gives.some (omega arith)),
      );
    }
