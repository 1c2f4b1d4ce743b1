use Rattle.std.proofs.Common.{arith}
use Rattle.lower_arrays.specs.Layouts.{level}
use Rattle.lower_arrays.specs.Primitives.{primitive_layout, AreNumbersOf}
use Rattle.lower_arrays.specs.AnyLayouts.{layout_of}
use Rattle.lower_compute.proofs.Steps.{pushed}
use Rattle.lower_compute.proofs.CopySlots.{read_at}
use Rattle.lower_compute.proofs.leaves.numbers_of.Goals as goal

pub unreachable-requires : goal.unreachable-requires
unreachable-requires g c =
    c.in_default.ensures
    (read_at (λ l. AreNumbersOf g.T.NativeType.primitive (level l).parts) (λ a. layout_of a.now) c.args.arrays.now c.loop-any.any-index c.any-item.result
    (omega (arith, c.loop-any-test.true)) c.any-item.is c.requires)

pub loop-any-preserved : goal.loop-any-preserved
loop-any-preserved g c =
    pushed (λ a. primitive_layout g.T.NativeType.primitive g.T.NativeType.number a.now) (λ a. layout_of a.now) c.loop-any.all.items c.push.new.self.items
    c.in-Some.array c.args.arrays.now c.loop-any.any-index c.any-item.result (omega (arith, c.loop-any-test.true)) c.any-item.is c.in_ok-push.ensures.items
    c.in-Some.ensures c.loop-any.invariant
