use Rattle.ipc_stream_lemmas.proofs.Bodies.{plan_law}
use Rattle.ipc_stream_lemmas.proofs.laws.bodies_of_plans.Goals as goal

pub returns : goal.returns
returns c = plan_law
