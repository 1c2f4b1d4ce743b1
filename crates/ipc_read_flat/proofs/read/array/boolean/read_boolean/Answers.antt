use Rattle.std.proofs.Common.{rules, ◌≡◌}
use Rattle.lower.specs.TypeViews.{type_view}
use Rattle.lower_flat_arrays.specs.Booleans.{boolean_seen}
use Rattle.ipc_read_flat.specs.Bodies.{entries}
use Rattle.ipc_read_flat.proofs.HeldLevels.{boolean_held}
use Rattle.ipc_read_flat.proofs.read.array.boolean.read_boolean.Goals as goal

pub returns-clause-held : goal.returns-clause-held
returns-clause-held g c =
    let s = entries g.R.Failures.device c.args.body.now in
    let extra = c.args.body.now.extra in
    let b = c.args.place.buffer in
    let u = type_view c.args.data_type.now in
    let v = c.in_ok-head.head.validity in
    let same : c.in_ok-try_new.field-0 ≡ boolean_seen u c.in_ok-bits.bits v = search rules in
    boolean_held s extra b u v c.in_ok-head.ensures.held c.in_ok-bits.bits c.in_ok-try_new.field-0 same c.in_ok-bits.ensures.held
