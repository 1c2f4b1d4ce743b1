use Rattle.std.proofs.Common.{◌-◌, ℕ, take, drop, sym, ap₂, ◌∙◌}
use Rattle.std.specs.Option.{option_copied}
use Rattle.lower_flat_arrays.specs.Validities.{cut_validity}
use Rattle.ipc_plan.specs.OffsetViews.{places_of, type_of_offsets}
use Rattle.ipc_plan.proofs.Growing.{on_ok, spans_level}
use Rattle.ipc_plan.proofs.Texts.{ends}
use Rattle.ipc_plan.proofs.serialize.binary.plan_cut_out.Goals as goal

pub returns-clause-grows : goal.returns-clause-grows
returns-clause-grows c =
    let os = places_of c.args.offsets in
    let xs = c.args.values.now in
    let o = c.args.offset in
    let n = c.args.len in
    let e = ap₂ (λ (a b : ℕ). take (b - a) (drop a xs)) c.range_of-from.ensures.from c.range_of-from.ensures.to ∙ sym (ends os xs o n c.requires.inside) in
    on_ok c.push_buffer.result (λ g. spans_level _ _ _ n (type_of_offsets c.args.offsets) _ xs _ (cut_validity o n (option_copied c.args.validity)) c.in_ok-plan_head.ensures.grows g e) c.push_buffer.ensures.grows
