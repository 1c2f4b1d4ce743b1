use Rattle.ipc_plan.proofs.Growing.{on_ok, nulls_adds}
use Rattle.ipc_plan.proofs.serialize.null.plan_null.Goals as goal

pub returns-clause-grows : goal.returns-clause-grows
returns-clause-grows c = on_ok c.push_node.result (λ g. nulls_adds c.args.plan.now c.push_node.new.plan c.args.len c.args.array.now.type g) c.push_node.ensures.grows
