use Rattle.std.proofs.Common.{◌≡◌, rules, length, nat_eq, ap, ◌∙◌}
use Rattle.std.specs.HashMap.{get}
use Rattle.ipc_projection.proofs.Moves.{one_placed}
use Rattle.ipc_projection.proofs.read.projection.placed.Goals as goal

pub loop-column-preserved-in-Some : goal.loop-column-preserved-in-Some
loop-column-preserved-in-Some g c =
    let at : length c.pop.new.self.items ≡ c.len-in-Some.result = search rules in
    one_placed c.args.map.now c.args.columns.items c.requires c.loop-column.columns.items c.pop.new.self.items c.in-Some.column c.loop-column.places.items
    c.index-place.result.now c.loop-column.invariant c.in-Some.ensures.items (ap (get nat_eq c.args.map.now) at ∙ c.index-place.ensures)

pub loop-column-preserved : goal.loop-column-preserved
loop-column-preserved g c =
    let at : length c.pop.new.self.items ≡ c.len-in-Some.result = search rules in
    one_placed c.args.map.now c.args.columns.items c.requires c.loop-column.columns.items c.pop.new.self.items c.in-Some.column c.loop-column.places.items
    c.index-place.result.now c.loop-column.invariant c.in-Some.ensures.items (ap (get nat_eq c.args.map.now) at ∙ c.index-place.ensures)
