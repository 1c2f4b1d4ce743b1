use Rattle.std.proofs.Common.{◌≡◌, ◌<◌, length, sym, subst, ◌∙◌}
use Rattle.std.specs.List.{All}
use Rattle.std.proofs.lemmas.Result.{MatchResult-weaker}
use Rattle.lower_flat_arrays.specs.Booleans.{BooleanSeen}
use Rattle.lower_arrays.specs.Layouts.{Layout, len_of}
use Rattle.lower_arrays.specs.Slots.{column_of}
use Rattle.lower_arrays.specs.AnyLayouts.{layout_of}
use Rattle.lower_compute.specs.declared.error.ComputeError.{ComputeError}
use Rattle.lower_compute.specs.declared.error.ComputeError.TheVariants.{Length}
use Rattle.lower_compute.specs.Copies.{NoCopy}
use Rattle.lower_compute.specs.Compute.{taken_column, CauseFilter}
use Rattle.lower_compute.proofs.TakenRuns.{selected_below}
use Rattle.lower_compute.proofs.filter.filter.Goals as goal

cause : (mask : BooleanSeen) (l : Layout) (e : ComputeError) → NoCopy e → CauseFilter mask l e
cause mask l Length h = absurd h
cause mask l _ h = h

pub slots_at-requires : goal.slots_at-requires
slots_at-requires c =
    let mask = c.args.filter.now in
    let l = layout_of c.args.array.now in
    let same : length mask.values ≡ len_of l = sym c.len.ensures.len ∙ c.if-len.false ∙ c.len-2.ensures.len in
    subst (All (λ i. i < len_of l)) (sym (c.deref.ensures.value ∙ c.in_ok-indices.ensures)) (selected_below mask (len_of l) same)

pub returns : goal.returns
returns c =
    let mask = c.args.filter.now in
    let l = layout_of c.args.array.now in
    MatchResult-weaker c.slots_at.result c.slots_at.ensures
    (λ copy same. subst (λ is. column_of (layout_of copy) ≡ taken_column is l) (c.deref.ensures.value ∙ c.in_ok-indices.ensures) same)
    (cause mask l)
