use Rattle.std.proofs.Common.{rules, List, map, sym, subst, ◌∙◌}
use Rattle.std.proofs.lemmas.Result.{MatchResult-weaker}
use Rattle.lower_arrays.specs.Layouts.{Layout}
use Rattle.lower_arrays.specs.AnyLayouts.{layout_of}
use Rattle.lower_compute.specs.declared.error.ComputeError.{ComputeError}
use Rattle.lower_compute.specs.declared.error.ComputeError.TheVariants.{NothingGiven, «Type» as Types}
use Rattle.lower_compute.specs.Copies.{AreWithin, IsCopy, NoCopy}
use Rattle.lower_compute.specs.Compute.{CauseConcatenate}
use Rattle.lower_compute.proofs.TakenRuns.{whole_like, whole_within, whole_joined, types_differ}
use Rattle.lower_compute.proofs.concatenate.concatenate.Goals as goal

cause : (ls : List Layout) (e : ComputeError) → NoCopy e → CauseConcatenate ls e
cause ls NothingGiven h = absurd h
cause ls Types h = absurd h
cause ls _ h = h

pub copy_runs-requires : goal.copy_runs-requires
copy_runs-requires c =
    let arrays = c.args.arrays.now in
    let first = c.index-arrays-0.result in
    let ls = map (λ a. layout_of a.now) arrays in
    record {
      alike = whole_like (λ a. layout_of a.now) arrays first (search rules) c.index-arrays-0.is (c.have_one_type.ensures.same c.if-not-have_one_type.false) (c.have_one_type.ensures.valid c.if-not-have_one_type.false);
      within = subst (AreWithin ls) (sym (c.deref.ensures.value ∙ c.in_ok-runs.ensures)) (whole_within ls);
    }

pub returns : goal.returns
returns c =
    let arrays = c.args.arrays.now in
    let first = c.index-arrays-0.result in
    let ls = map (λ a. layout_of a.now) arrays in
    MatchResult-weaker c.copy_runs.result c.copy_runs.ensures
    (λ copy is. whole_joined (λ a. layout_of a.now) arrays first (search rules) c.index-arrays-0.is (layout_of copy)
    (subst (λ rs. IsCopy (layout_of first.now) ls rs (layout_of copy)) (c.deref.ensures.value ∙ c.in_ok-runs.ensures) is))
    (cause ls)

pub returns-then-not-have_one_type : goal.returns-then-not-have_one_type
returns-then-not-have_one_type c =
    let arrays = c.args.arrays.now in
    let first = c.index-arrays-0.result in
    types_differ (λ a. layout_of a.now) arrays first (search rules) c.index-arrays-0.is (c.have_one_type.ensures.other c.if-not-have_one_type.true)
