use Rattle.std.proofs.Common.{map, refl, sym, ap, subst, ◌∙◌}
use Rattle.lower.specs.Physical.{physical}
use Rattle.lower.specs.TypeViews.{type_view}
use Rattle.lower_flat_arrays.specs.Nulls.{null_seen}
use Rattle.lower_arrays.specs.Flat.{null_layout}
use Rattle.lower_arrays.specs.AnyLayouts.{layout_of}
use Rattle.lower_compute.specs.Copies.{IsCopy}
use Rattle.lower_compute.proofs.NullCopies.{null_kept, nulls_copied}
use Rattle.lower_compute.proofs.leaves.copy_nulls.Goals as goal

pub unreachable-requires : goal.unreachable-requires
unreachable-requires c =
    null_kept (null_seen (type_view c.in_ok-clone.field-0) c.in-Some.len) c.in-Err.field-0
    (ap physical (c.in_ok-clone.ensures ∙ c.data_type.ensures.tree) ∙ c.requires.alike.0.1.0) c.in-Err.ensures

pub returns : goal.returns
returns c =
    let m = null_layout c.args.like.now in
    let ls = map (λ a. layout_of a.now) c.args.arrays.now in
    let runs = c.args.runs.now in
    subst (λ a. IsCopy m ls runs (null_layout a)) (sym c.in-Ok.ensures.0)
    (nulls_copied m ls runs c.requires.alike c.requires.within refl (null_layout (null_seen (type_view c.in_ok-clone.field-0) c.in-Some.len)) refl
    (c.in_ok-clone.ensures ∙ c.data_type.ensures.tree) c.in-Some.ensures)
