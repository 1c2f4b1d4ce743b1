use Rattle.std.proofs.Common.{arith}
use Rattle.lower_arrays.specs.Layouts.{level}
use Rattle.lower_arrays.specs.AnyLayouts.{layout_of}
use Rattle.lower_compute.specs.Kinds.{HaveOffsets, offsets_in}
use Rattle.lower_compute.proofs.Steps.{pushed}
use Rattle.lower_compute.proofs.CopySlots.{read_at}
use Rattle.lower_compute.proofs.lists.all_offsets.Goals as goal

pub unreachable-requires : goal.unreachable-requires
unreachable-requires g c =
    c.in_default.ensures
    (read_at (λ l. HaveOffsets g.O.NativeType.primitive (level l).parts) (λ a. layout_of a.now) c.args.arrays.now c.loop-array.array-index c.array-item.result
    (omega (arith, c.loop-array-test.true)) c.array-item.is c.requires)

pub loop-array-preserved : goal.loop-array-preserved
loop-array-preserved g c =
    pushed (λ os. os.now) (λ a. offsets_in (level (layout_of a.now)).parts) c.loop-array.all.items c.push.new.self.items c.in-Some.offsets c.args.arrays.now
    c.loop-array.array-index c.array-item.result (omega (arith, c.loop-array-test.true)) c.array-item.is c.in_ok-push.ensures.items c.in-Some.ensures c.loop-array.invariant
