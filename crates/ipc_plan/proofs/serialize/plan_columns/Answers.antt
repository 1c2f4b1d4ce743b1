use Rattle.std.proofs.Common.{arith, ◌+◌, map, refl}
use Rattle.std.specs.List.{flat_map}
use Rattle.lower_arrays.specs.AnyLayouts.{layout_of}
use Rattle.lower_arrays.proofs.Children.{arrays_are}
use Rattle.ipc_plan.specs.declared.plan.Plan.{Plan}
use Rattle.ipc_model.specs.Accepted.{body_length}
use Rattle.ipc_model.specs.Offers.{body_lengths, whole_levels}
use Rattle.ipc_plan.proofs.Bodies.{plans_columns}
use Rattle.ipc_plan.proofs.Taking.{columns_exit}
use Rattle.ipc_plan.proofs.serialize.plan_columns.Goals as goal

pub returns-clause-plans : goal.returns-clause-plans
returns-clause-plans c =
    let p : Plan = record { order = c.args.order; nodes = c.in_ok-nodes.nodes; buffers = c.in_ok-buffers.buffers; pieces = c.in_ok-pieces.pieces; end = 0 } in
    let xs = c.args.columns.now in
    let done = c.in_ok-plan_whole.ensures in
    plans_columns p c.plan_whole.new.plan (map layout_of xs) c.in_ok-nodes.ensures.items c.in_ok-buffers.ensures.items c.in_ok-pieces.ensures.items refl (arrays_are xs done.arrays) done.grows

pub returns-clause-arrays : goal.returns-clause-arrays
returns-clause-arrays c = arrays_are c.args.columns.now c.in_ok-plan_whole.ensures.arrays

pub returns-in_err-plan_whole-clause-takes : goal.returns-in_err-plan_whole-clause-takes
returns-in_err-plan_whole-clause-takes c =
    let hs = flat_map whole_levels (map layout_of c.args.columns.now) in
    let n = body_length (body_lengths hs) in
    columns_exit c.from_residual-in_err-plan_whole.result c.in_err-plan_whole.field-0.0 hs (0 + n) c.from_residual-in_err-plan_whole.ensures.1 (omega arith) c.in_err-plan_whole.ensures.takes
