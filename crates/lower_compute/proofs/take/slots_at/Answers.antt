use Rattle.std.proofs.Common.{◌≡◌, ◌<◌, [], ◌∷◌, map, sym, ap, subst}
use Rattle.std.specs.List.{All}
use Rattle.std.proofs.lemmas.Result.{MatchResult-weaker}
use Rattle.lower_arrays.specs.Layouts.{len_of}
use Rattle.lower_arrays.specs.Slots.{column_of}
use Rattle.lower_arrays.specs.AnyLayouts.{layout_of, any_primitive_layout}
use Rattle.lower_compute.specs.Runs.{single}
use Rattle.lower_compute.specs.Copies.{AreWithin, IsCopy}
use Rattle.lower_compute.specs.Compute.{taken_column}
use Rattle.lower_compute.proofs.Gathered.{single-origins, single-fits}
use Rattle.lower_compute.proofs.TakenRuns.{like_itself, taken_within, taken_slots}
use Rattle.lower_compute.proofs.take.slots_at.Goals as goal

pub copy_runs-requires : goal.copy_runs-requires
copy_runs-requires c =
    let l = layout_of c.args.array.now in
    record {
      alike = like_itself l c.len.ensures.valid;
      within = subst (AreWithin (l ∷ [])) (sym c.deref.ensures.value)
          (taken_within l c.args.indices.now c.in_ok-runs.runs.items c.requires c.in_ok-runs.ensures.slots c.in_ok-runs.ensures.some);
    }

pub returns : goal.returns
returns c =
    let l = layout_of c.args.array.now in
    let is = c.args.indices.now in
    let runs = c.in_ok-runs.runs.items in
    let within = taken_within l is runs c.requires c.in_ok-runs.ensures.slots c.in_ok-runs.ensures.some in
    MatchResult-weaker c.copy_runs.result c.copy_runs.ensures
    (λ copy same. taken_slots l is runs c.requires c.in_ok-runs.ensures.slots (layout_of copy) within (subst (λ rs. IsCopy l (l ∷ []) rs (layout_of copy)) c.deref.ensures.value same))
    (λ e h. h)

pub returns-in-Primitive : goal.returns-in-Primitive
returns-in-Primitive c =
    let l = any_primitive_layout c.in-Primitive.numbers in
    let is = c.args.indices.now in
    let same : layout_of c.args.array.now ≡ l = ap layout_of c.in-Primitive.is in
    let below : All (λ i. i < len_of l) is = subst (λ m. All (λ i. i < len_of m) is) same c.requires in
    subst (λ m. column_of (any_primitive_layout c.in_ok-numbers_at.field-0) ≡ taken_column is m) (sym same)
    (taken_slots l is (map single is) below (single-origins is) (any_primitive_layout c.in_ok-numbers_at.field-0) (single-fits (len_of l) is below) c.in_ok-numbers_at.ensures)
