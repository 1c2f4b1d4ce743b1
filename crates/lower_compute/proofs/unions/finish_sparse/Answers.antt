use Rattle.std.proofs.Common.{◌≡◌, map, refl, sym, ap, subst, ◌∙◌}
use Rattle.std.specs.Prelude.{None}
use Rattle.lower.specs.TypeViews.{type_view}
use Rattle.lower_arrays.specs.Unions.{union_seen, union_layout, BreaksUnion}
use Rattle.lower_arrays.specs.AnyLayouts.{layout_of}
use Rattle.lower_compute.specs.Runs.{items_of_runs}
use Rattle.lower_compute.specs.Copies.{IsCopy}
use Rattle.lower_compute.proofs.CopySlots.{viewed_within}
use Rattle.lower_compute.proofs.SparseCopies.{sparse_unbroken, sparse_copied}
use Rattle.lower_compute.proofs.unions.finish_sparse.Goals as goal

pub copy_types-requires : goal.copy_types-requires
copy_types-requires c =
    viewed_within (λ a. union_layout a.now) c.args.arrays.now (map (λ a. union_layout a.now) c.args.arrays.now) c.args.runs.now refl c.requires.within

pub unreachable-requires : goal.unreachable-requires
unreachable-requires c =
    let arrays = c.args.arrays.now in
    let runs = c.args.runs.now in
    let b = c.args.like.now in
    let ts = items_of_runs (map (λ a. a.now.types) arrays) runs in
    let cs = map layout_of c.args.children.items in
    let typed : type_view c.in_ok-clone.field-0 ≡ b.type = c.in_ok-clone.ensures ∙ c.data_type.ensures.tree in
    let held : c.in_ok-buffer.buffer ≡ ts = c.in_ok-buffer.ensures ∙ c.in_ok-types.ensures in
    sparse_unbroken (λ a. a.now) arrays b runs c.requires.alike c.requires.within c.requires.sparse cs c.requires.copies c.in-Err.field-0
    (subst (λ t. BreaksUnion (union_seen t ts cs None) c.in-Err.field-0) typed
    (subst (λ xs. BreaksUnion (union_seen (type_view c.in_ok-clone.field-0) xs cs None) c.in-Err.field-0) held c.in-Err.ensures))

pub returns : goal.returns
returns c =
    let arrays = c.args.arrays.now in
    let runs = c.args.runs.now in
    let b = c.args.like.now in
    let ls = map (λ a. union_layout a.now) arrays in
    let ts = items_of_runs (map (λ a. a.now.types) arrays) runs in
    let cs = map layout_of c.args.children.items in
    let typed : type_view c.in_ok-clone.field-0 ≡ b.type = c.in_ok-clone.ensures ∙ c.data_type.ensures.tree in
    let held : c.in_ok-buffer.buffer ≡ ts = c.in_ok-buffer.ensures ∙ c.in_ok-types.ensures in
    subst (λ a. IsCopy (union_layout b) ls runs (union_layout a))
    (sym (c.in-Ok.ensures.0 ∙ ap (λ t. union_seen t c.in_ok-buffer.buffer cs None) typed ∙ ap (λ xs. union_seen b.type xs cs None) held))
    (sparse_copied (λ a. a.now) arrays b runs c.requires.alike c.requires.within c.requires.sparse cs c.requires.copies)
