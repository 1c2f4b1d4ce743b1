use Rattle.std.proofs.Common.{◌≡◌, refl, map, ap, ◌∙◌}
use Rattle.std.proofs.lemmas.Result.{IfOk-weaker}
use Rattle.lower.specs.Physical.{physical}
use Rattle.lower.specs.TypeViews.{type_view}
use Rattle.lower_flat_arrays.specs.Columns.{number_column}
use Rattle.lower_arrays.specs.Primitives.{primitive_layout}
use Rattle.lower_arrays.specs.AnyLayouts.{layout_of}
use Rattle.lower_compute.specs.Runs.{column_of_runs}
use Rattle.lower_compute.specs.Copies.{IsCopy}
use Rattle.lower_compute.proofs.CopySlots.{viewed_copy, viewed_within}
use Rattle.lower_compute.proofs.Alike.{numbers_like}
use Rattle.lower_compute.proofs.leaves.copy_numbers_of.Goals as goal

pub numbers_of-requires : goal.numbers_of-requires
numbers_of-requires g c =
    numbers_like (primitive_layout g.T.NativeType.primitive g.T.NativeType.number c.args.like.now) (map (λ a. layout_of a.now) c.args.arrays.now) c.requires.alike
    g.T.NativeType.primitive refl c.requires.alike.0.1.0

pub copy_primitive-requires : goal.copy_primitive-requires
copy_primitive-requires g c =
    let ls = map (λ a. layout_of a.now) c.args.arrays.now in
    let typed = c.deref.result.now in
    let same : map (λ a. primitive_layout g.T.NativeType.primitive g.T.NativeType.number a.now) typed ≡ ls =
    ap (map (λ a. primitive_layout g.T.NativeType.primitive g.T.NativeType.number a.now)) c.deref.ensures.value ∙ c.in_ok-typed.ensures
    in record {
      lies = ap physical c.data_type.ensures.tree ∙ c.requires.alike.0.1.0;
      fits = viewed_within (λ a. primitive_layout g.T.NativeType.primitive g.T.NativeType.number a.now) typed ls c.args.runs.now same c.requires.within;
    }

pub returns : goal.returns
returns g c =
    let m = primitive_layout g.T.NativeType.primitive g.T.NativeType.number c.args.like.now in
    let ls = map (λ a. layout_of a.now) c.args.arrays.now in
    let runs = c.args.runs.now in
    let typed = c.deref.result.now in
    let same : map (λ a. primitive_layout g.T.NativeType.primitive g.T.NativeType.number a.now) typed ≡ ls =
    ap (map (λ a. primitive_layout g.T.NativeType.primitive g.T.NativeType.number a.now)) c.deref.ensures.value ∙ c.in_ok-typed.ensures
    in
    IfOk-weaker c.copy_primitive.result
    (λ copy. number_column g.T.NativeType.number copy ≡ column_of_runs (type_view c.data_type.result.now) (map (λ a. number_column g.T.NativeType.number a.now) typed) runs)
    (λ copy. IsCopy m ls runs (primitive_layout g.T.NativeType.primitive g.T.NativeType.number copy))
    (λ copy is. viewed_copy (λ a. primitive_layout g.T.NativeType.primitive g.T.NativeType.number a.now) typed ls c.args.like.now.type runs
    (primitive_layout g.T.NativeType.primitive g.T.NativeType.number copy) same
    (is ∙ ap (λ t. column_of_runs t (map (λ a. number_column g.T.NativeType.number a.now) typed) runs) c.data_type.ensures.tree))
    c.copy_primitive.ensures
