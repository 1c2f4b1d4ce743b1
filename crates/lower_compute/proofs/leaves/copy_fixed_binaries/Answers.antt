use Rattle.std.proofs.Common.{◌≡◌, refl, map, sym, ap, subst, ◌∙◌}
use Rattle.lower.specs.Physical.{physical}
use Rattle.lower_flat_arrays.specs.Columns.{fixed_column}
use Rattle.lower_arrays.specs.Flat.{fixed_layout}
use Rattle.lower_arrays.specs.AnyLayouts.{layout_of}
use Rattle.std.specs.Prelude.{◌<◌}
use Rattle.std.specs.List.{All}
use Rattle.lower_flat_arrays.specs.FixedBinaries.{byte_size}
use Rattle.lower_compute.specs.Runs.{column_of_runs}
use Rattle.lower_compute.proofs.CopySlots.{viewed_copy, viewed_within}
use Rattle.lower_compute.proofs.Alike.{fixed_like, sizes_of}
use Rattle.lower_compute.proofs.leaves.copy_fixed_binaries.Goals as goal

pub all_of-requires : goal.all_of-requires
all_of-requires c = fixed_like (fixed_layout c.args.like.now) (map (λ a. layout_of a.now) c.args.arrays.now) c.requires.alike refl

pub copy_fixed_size_binary-requires : goal.copy_fixed_size_binary-requires
copy_fixed_size_binary-requires c =
    let ls = map (λ a. layout_of a.now) c.args.arrays.now in
    let typed = c.deref.result.now in
    let same : map (λ a. fixed_layout a.now) typed ≡ ls = ap (map (λ a. fixed_layout a.now)) c.deref.ensures.value ∙ c.in_ok-typed.ensures in record {
      lies = ap physical c.data_type.ensures.tree ∙ c.requires.alike.0.1.0;
      named = (ap byte_size c.data_type.ensures.tree ∙ c.requires.alike.0.1.1 ∙ sym c.size.ensures.size, subst (λ s. 0 < s) (sym c.size.ensures.size) c.requires.alike.0.1.2);
      sizes = subst (λ s. All (λ a. a.now.size ≡ s) typed) (sym c.size.ensures.size) (sizes_of (λ a. a.now) typed c.args.like.now ls same c.requires.alike);
      fits = viewed_within (λ a. fixed_layout a.now) typed ls c.args.runs.now same c.requires.within;
    }

pub returns : goal.returns
returns c =
    let ls = map (λ a. layout_of a.now) c.args.arrays.now in
    let runs = c.args.runs.now in
    let typed = c.deref.result.now in
    let same : map (λ a. fixed_layout a.now) typed ≡ ls = ap (map (λ a. fixed_layout a.now)) c.deref.ensures.value ∙ c.in_ok-typed.ensures in
    viewed_copy (λ a. fixed_layout a.now) typed ls c.args.like.now.type runs (fixed_layout c.in_ok-copy_fixed_size_binary.field-0) same
    (c.in_ok-copy_fixed_size_binary.ensures ∙ ap (λ t. column_of_runs t (map (λ a. fixed_column a.now) typed) runs) c.data_type.ensures.tree)
