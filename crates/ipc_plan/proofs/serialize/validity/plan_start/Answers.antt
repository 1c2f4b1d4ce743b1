use Rattle.ipc_plan.proofs.Growing.{start_level}
use Rattle.ipc_plan.proofs.serialize.validity.plan_start.Goals as goal

pub returns-clause-grows : goal.returns-clause-grows
returns-clause-grows c = start_level _ c.push_node.new.plan _ _ _ _ c.in_ok-nulls.ensures.count c.in_ok-push_node.ensures.grows c.in_ok-plan_validity.ensures.grows
