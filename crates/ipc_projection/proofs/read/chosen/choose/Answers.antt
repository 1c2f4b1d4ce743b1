use Rattle.std.proofs.Common.{length, Some}
use Rattle.ipc_model.specs.Batches.{IsProjection}
use Rattle.ipc_projection.proofs.AskedOrder.{are_there}
use Rattle.ipc_projection.proofs.read.chosen.choose.Goals as goal

pub returns-clause-there : goal.returns-clause-there
returns-clause-there c =
    let n = length c.args.schema.now.fields.items in
    let is : IsProjection (Some c.in-Some.projection.items) n = rw c.in-Some.is at c.requires in
    are_there c.in_ok-columns.columns.columns c.in-Some.projection.items n c.in_ok-columns.ensures.columns is
