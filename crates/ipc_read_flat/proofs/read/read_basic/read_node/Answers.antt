use Rattle.std.proofs.Common.{rules, ◌≡◌, ◌<◌, sym, subst, MatchBool}
use Rattle.ipc_table_views.specs.declared.message.FieldNode.{FieldNode}
use Rattle.ipc_model.specs.Entries.{IsSize, size, limited, node}
use Rattle.ipc_devices.specs.Faults.{OwnFault}
use Rattle.ipc_read_flat.specs.Refusals.{TellsEntries}
use Rattle.ipc_read_flat.proofs.Fetches.{failing}
use Rattle.ipc_read_flat.proofs.Heads.{node_is}
use Rattle.ipc_read_flat.proofs.Reasons.{node_fetched}
use Rattle.ipc_read_flat.specs.Bodies.{entries}
use Rattle.ipc_read_flat.proofs.read.read_basic.read_node.Goals as goal

pub returns-clause-exact : goal.returns-clause-exact
returns-clause-exact g c =
    let e : node (entries g.R.Failures.device c.args.body.now) c.args.index ≡ c.get-node.result =
    node_is g.R.Failures.device c.args.body.now c.args.index c.get-node.result c.get-node.ensures
    in
    subst (λ (x : FieldNode). IsSize x.length × ((c.limit_rows.result ≡ limited c.args.limit (size x.length))
    × MatchBool c.has_nulls.result (0 < size x.null_count) (size x.null_count ≡ 0))) (sym e) (search rules)

pub returns-in_err-count-clause-tells : goal.returns-in_err-count-clause-tells
returns-in_err-count-clause-tells g c =
    let s = entries g.R.Failures.device c.args.body.now in
    let fault = c.in_err-count.field-0.0 in
    let denied : OwnFault fault (IsSize c.get-node.result.length → ⊥) = search rules in
    let same : node s c.args.index ≡ c.get-node.result = node_is g.R.Failures.device c.args.body.now c.args.index c.get-node.result c.get-node.ensures in
    failing c.from_residual.result fault (λ e. OwnFault e (TellsEntries g.R.Failures.device.is_memory s e)) c.from_residual.ensures
    (node_fetched g.R.Failures.device c.args.body.now c.args.index c.get-node.result c.requires.inside same fault c.in_err-count.ensures.only denied)
