use Rattle.std.proofs.Common.{◌+◌, sym, subst}
use Rattle.std.specs.Prelude.{OnOk}
use Rattle.std.specs.Option.{option_copied}
use Rattle.lower_flat_arrays.specs.Validities.{part, cut_validity}
use Rattle.lower_types.specs.declared.PrimitiveType.TheVariants.{Int32, Int64}
use Rattle.ipc_plan.specs.OffsetViews.{places_of, type_of_offsets}
use Rattle.ipc_plan.specs.Plans.{AddsHead}
use Rattle.ipc_plan.specs.declared.serialize.offsets.Offsets.{Offsets}
use Rattle.ipc_plan.proofs.Growing.{on_ok, head_level}
use Rattle.ipc_plan.proofs.serialize.offsets.plan_head.Goals as goal

pub returns-in-Small-clause-grows : goal.returns-in-Small-clause-grows
returns-in-Small-clause-grows c =
    let o = c.args.offset in
    let n = c.args.len in
    let v = cut_validity o n (option_copied c.args.validity) in
    let p = c.args.plan.now in
    let q = c.plan_start.new.plan in
    let r = c.plan_small_offsets.new.plan in
    let all : OnOk c.plan_small_offsets.result (AddsHead p r n Int32 (part o (n + 1) c.in-Small.offsets.now) v) =
    on_ok c.plan_small_offsets.result (λ x. head_level p q r n Int32 _ v c.in_ok-plan_start.ensures.grows x) c.plan_small_offsets.ensures.grows in
    subst (λ (os : Offsets). OnOk c.plan_small_offsets.result (AddsHead p r n (type_of_offsets os) (part o (n + 1) (places_of os)) v)) (sym c.in-Small.is) all

pub returns-in-Large-clause-grows : goal.returns-in-Large-clause-grows
returns-in-Large-clause-grows c =
    let o = c.args.offset in
    let n = c.args.len in
    let v = cut_validity o n (option_copied c.args.validity) in
    let p = c.args.plan.now in
    let q = c.plan_start.new.plan in
    let r = c.plan_large_offsets.new.plan in
    let all : OnOk c.plan_large_offsets.result (AddsHead p r n Int64 (part o (n + 1) c.in-Large.offsets.now) v) =
    on_ok c.plan_large_offsets.result (λ x. head_level p q r n Int64 _ v c.in_ok-plan_start.ensures.grows x) c.plan_large_offsets.ensures.grows in
    subst (λ (os : Offsets). OnOk c.plan_large_offsets.result (AddsHead p r n (type_of_offsets os) (part o (n + 1) (places_of os)) v)) (sym c.in-Large.is) all
