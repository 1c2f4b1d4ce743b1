use Rattle.std.proofs.Common.{◌≡◌, ◌<◌, length, get_or, arith, rules}
use Rattle.std.proofs.lemmas.List.{get_or_default}
use Rattle.std.proofs.lemmas.Grind.{common_steps}
use Rattle.lower.proofs.ColumnSteps.{chosen_more}
use Rattle.lower.proofs.datatypes.schema.Schema.project.Goals as goal

pub loop-i-preserved : goal.loop-i-preserved
loop-i-preserved c =
    let seen = c.deref.result.now in
    let i = c.loop-i.i in
    let j = get_or c.args.indices.now i 0 in
    let f = c.in-Some.field.now in
    let below : i < length c.args.indices.now = omega arith in
    let there : j < length seen = first_of (assumption c.in-Some.ensures.lookup, omega arith, search rules) in
    let read : f ≡ get_or seen j f = first_of (assumption c.in-Some.ensures.lookup, search rules, grind (arith, common_steps)) in
    chosen_more c.args.self.now.fields.items seen c.loop-i.fields.items _ c.args.indices.now i j f c.in_ok-clone.field-0 below (get_or_default c.args.indices.now i j 0 below)
    c.in_ok-push.ensures.items c.deref.ensures.value there read c.in_ok-clone.ensures c.loop-i.invariant.0 c.loop-i.invariant.1
