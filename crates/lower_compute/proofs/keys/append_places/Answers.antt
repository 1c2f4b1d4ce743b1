use Rattle.std.proofs.Common.{arith}
use Rattle.lower_compute.proofs.LoopSteps.{place_more}
use Rattle.lower_compute.proofs.keys.append_places.Goals as goal

pub loop-i-preserved : goal.loop-i-preserved
loop-i-preserved c =
    place_more c.args.start c.args.array.now c.args.offset c.args.len c.loop-i.i c.loop-i.out.items c.push.new.self.items c.args.out.now.items c.place_of-place.result
    c.requires.within (omega (arith, c.loop-i-test.true)) c.place_of-place.ensures c.in_ok-push.ensures.items c.loop-i.invariant
