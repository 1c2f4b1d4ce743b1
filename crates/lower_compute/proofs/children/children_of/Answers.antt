use Rattle.std.proofs.Common.{arith, ◌<◌, map, sym, ap, ◌∙◌}
use Rattle.std.proofs.lemmas.List.{take_all}
use Rattle.lower_arrays.specs.Layouts.{children}
use Rattle.lower_arrays.specs.Children.{child_count}
use Rattle.lower_arrays.specs.Choices.{child}
use Rattle.lower_arrays.specs.AnyLayouts.{layout_of}
use Rattle.lower_compute.proofs.RunPlaces.{map-map}
use Rattle.lower_compute.proofs.Steps.{pushed}
use Rattle.lower_compute.proofs.CopySlots.{read_at}
use Rattle.lower_compute.proofs.children.children_of.Goals as goal

pub child_of-child-requires : goal.child_of-child-requires
child_of-child-requires c =
    read_at (λ l. c.args.number < child_count (children l)) (λ a. layout_of a.now) c.args.arrays.now c.loop-array.array-index c.array-item.result
    (omega (arith, c.loop-array-test.true)) c.array-item.is c.requires

pub loop-array-preserved : goal.loop-array-preserved
loop-array-preserved c =
    pushed (λ a. layout_of a.now) (λ a. child (children (layout_of a.now)) c.args.number) c.loop-array.all.items c.push.new.self.items c.child_of-child.result c.args.arrays.now
    c.loop-array.array-index c.array-item.result (omega (arith, c.loop-array-test.true)) c.array-item.is c.in_ok-push.ensures.items c.child_of-child.ensures c.loop-array.invariant

pub returns : goal.returns
returns c =
    let xs = c.args.arrays.now in
    c.loop-array.invariant
    ∙ ap (map (λ a. child (children (layout_of a.now)) c.args.number)) (take_all c.loop-array.array-index xs (omega (arith, c.loop-array-test.false)))
    ∙ sym (map-map (λ l. child (children l) c.args.number) (λ a. layout_of a.now) xs)
