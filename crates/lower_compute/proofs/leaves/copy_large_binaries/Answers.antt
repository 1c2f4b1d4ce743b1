use Rattle.std.proofs.Common.{◌≡◌, refl, map, ap, ◌∙◌}
use Rattle.lower.specs.Physical.{physical}
use Rattle.lower_flat_arrays.specs.Columns.{bytes_column}
use Rattle.lower_arrays.specs.Flat.{bytes_layout}
use Rattle.lower_arrays.specs.AnyLayouts.{layout_of}
use Rattle.lower_types.specs.declared.PrimitiveType.TheVariants.{Int64}
use Rattle.lower_compute.specs.Runs.{column_of_runs}
use Rattle.lower_compute.proofs.CopySlots.{viewed_copy, viewed_within}
use Rattle.lower_compute.proofs.Alike.{bytes_like}
use Rattle.lower_compute.proofs.leaves.copy_large_binaries.Goals as goal

pub all_of-requires : goal.all_of-requires
all_of-requires c = bytes_like (bytes_layout Int64 c.args.like.now) (map (λ a. layout_of a.now) c.args.arrays.now) c.requires.alike Int64 refl c.requires.alike.0.1.0

pub copy_binary-requires : goal.copy_binary-requires
copy_binary-requires c =
    let ls = map (λ a. layout_of a.now) c.args.arrays.now in
    let typed = c.deref.result.now in
    let same : map (λ a. bytes_layout Int64 a.now) typed ≡ ls = ap (map (λ a. bytes_layout Int64 a.now)) c.deref.ensures.value ∙ c.in_ok-typed.ensures in
    record { lies = ap physical c.data_type.ensures.tree ∙ c.requires.alike.0.1.0; fits = viewed_within (λ a. bytes_layout Int64 a.now) typed ls c.args.runs.now same c.requires.within }

pub returns : goal.returns
returns c =
    let ls = map (λ a. layout_of a.now) c.args.arrays.now in
    let runs = c.args.runs.now in
    let typed = c.deref.result.now in
    let same : map (λ a. bytes_layout Int64 a.now) typed ≡ ls = ap (map (λ a. bytes_layout Int64 a.now)) c.deref.ensures.value ∙ c.in_ok-typed.ensures in
    viewed_copy (λ a. bytes_layout Int64 a.now) typed ls c.args.like.now.type runs (bytes_layout Int64 c.in_ok-copy_binary.field-0) same
    (c.in_ok-copy_binary.ensures ∙ ap (λ t. column_of_runs t (map (λ a. bytes_column a.now) typed) runs) c.data_type.ensures.tree)
