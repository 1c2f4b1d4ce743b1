use Rattle.std.proofs.Common.{arith}
use Rattle.lower_arrays.specs.Layouts.{level}
use Rattle.lower_arrays.specs.AnyLayouts.{layout_of}
use Rattle.lower_compute.proofs.Steps.{pushed}
use Rattle.lower_compute.proofs.CopySlots.{read_at}
use Rattle.lower_compute.proofs.kinds.all_of.Goals as goal

pub unreachable-requires : goal.unreachable-requires
unreachable-requires g c =
    let x = c.any-item.result in
    let is = read_at (λ l. g.K.Kind.is_kind (level l).parts) (λ a. layout_of a.now) c.args.arrays.now c.loop-any.any-index x
    (omega (arith, c.loop-any-test.true)) c.any-item.is c.requires in
    c.in_default.ensures is

pub loop-any-preserved : goal.loop-any-preserved
loop-any-preserved g c =
    let x = c.any-item.result in
    pushed (λ a. g.K.Kind.layout a.now) (λ a. layout_of a.now) c.loop-any.all.items c.push.new.self.items c.in-Some.array c.args.arrays.now c.loop-any.any-index x
    (omega (arith, c.loop-any-test.true)) c.any-item.is c.in_ok-push.ensures.items c.in-Some.ensures c.loop-any.invariant
