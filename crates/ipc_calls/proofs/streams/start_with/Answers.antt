use Rattle.lower.specs.TypeViews.{fields_view, pairs_of}
use Rattle.ipc_write.specs.Writers.{seen}
use Rattle.ipc_calls.specs.StreamCalls.{vec_ids}
use Rattle.ipc_calls.proofs.StreamLists.{start_as}
use Rattle.ipc_calls.proofs.streams.start_with.Goals as goal

pub returns-clause-made : goal.returns-clause-made
returns-clause-made g c =
    let fields = fields_view c.args.schema.now.fields.items in
    start_as g.W.Failures.device (seen c.args.writer.now) (seen c.start.new.self) fields (pairs_of c.args.schema.now.metadata.entries) (vec_ids c.args.ids) c.in_ok-handed.handed
    c.start.result c.in_ok-handed.ensures c.start.ensures
