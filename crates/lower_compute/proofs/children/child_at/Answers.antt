use Rattle.std.proofs.Common.{rules, arith, ◌<◌, length, sym}
use Rattle.lower_arrays.proofs.Choices.{child_is}
use Rattle.lower_arrays.proofs.Children.{children_counted}
use Rattle.lower_compute.proofs.children.child_at.Goals as goal

pub offset_bounds-children-number : goal.offset_bounds-children-number
offset_bounds-children-number c =
    let count = children_counted c.args.children.now in
    let low = c.requires in
    let lt : c.args.number < length c.args.children.now = omega (arith, count, low) in
    search (rules, lt)

pub bounds-children-number : goal.bounds-children-number
bounds-children-number c =
    let count = children_counted c.args.children.now in
    let low = c.requires in
    omega (arith, count, low)

pub returns : goal.returns
returns c =
    let xs = c.args.children.now in
    let count = children_counted xs in
    let low = c.requires in
    sym (child_is xs c.args.number c.index-children-number.result (omega (arith, count, low)) c.index-children-number.is)
