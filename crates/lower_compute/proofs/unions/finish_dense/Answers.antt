use Rattle.std.proofs.Common.{◌≡◌, map, refl, sym, ap, subst, ◌∙◌}
use Rattle.std.specs.Prelude.{Some}
use Rattle.lower.specs.TypeViews.{type_view}
use Rattle.lower_arrays.specs.Unions.{union_seen, union_layout, BreaksUnion}
use Rattle.lower_arrays.specs.AnyLayouts.{layout_of}
use Rattle.lower_compute.specs.Runs.{items_of_runs}
use Rattle.lower_compute.specs.Copies.{IsCopy}
use Rattle.lower_compute.proofs.CopySlots.{viewed_within}
use Rattle.lower_compute.proofs.SparseCopies.{dense_unbroken, dense_copied}
use Rattle.lower_compute.proofs.unions.finish_dense.Goals as goal

pub copy_types-requires : goal.copy_types-requires
copy_types-requires c =
    viewed_within (λ a. union_layout a.now) c.args.arrays.now (map (λ a. union_layout a.now) c.args.arrays.now) c.args.runs.now refl c.requires.within

pub unreachable-requires : goal.unreachable-requires
unreachable-requires c =
    let arrays = c.args.arrays.now in
    let runs = c.args.runs.now in
    let b = c.args.like.now in
    let parts = map (λ v. v.items) c.args.parts.now in
    let os = c.args.offsets.items in
    let ts = items_of_runs (map (λ a. a.now.types) arrays) runs in
    let cs = map layout_of c.args.children.items in
    let typed : type_view c.in_ok-clone.field-0 ≡ b.type = c.in_ok-clone.ensures ∙ c.data_type.ensures.tree in
    let held : c.in_ok-buffer.buffer ≡ ts = c.in_ok-buffer.ensures ∙ c.in_ok-types.ensures in
    dense_unbroken (λ a. a.now) arrays b runs c.requires.alike c.requires.within c.requires.dense.0 parts os c.requires.dense.1 cs c.requires.copies c.in-Err.field-0
    (subst (λ t. BreaksUnion (union_seen t ts cs (Some os)) c.in-Err.field-0) typed
    (subst (λ xs. BreaksUnion (union_seen (type_view c.in_ok-clone.field-0) xs cs (Some os)) c.in-Err.field-0) held
    (subst (λ zs. BreaksUnion (union_seen (type_view c.in_ok-clone.field-0) c.in_ok-buffer.buffer cs (Some zs)) c.in-Err.field-0) c.in_ok-offsets.ensures
    c.in-Err.ensures)))

pub returns : goal.returns
returns c =
    let arrays = c.args.arrays.now in
    let runs = c.args.runs.now in
    let b = c.args.like.now in
    let ls = map (λ a. union_layout a.now) arrays in
    let parts = map (λ v. v.items) c.args.parts.now in
    let os = c.args.offsets.items in
    let ts = items_of_runs (map (λ a. a.now.types) arrays) runs in
    let cs = map layout_of c.args.children.items in
    let typed : type_view c.in_ok-clone.field-0 ≡ b.type = c.in_ok-clone.ensures ∙ c.data_type.ensures.tree in
    let held : c.in_ok-buffer.buffer ≡ ts = c.in_ok-buffer.ensures ∙ c.in_ok-types.ensures in
    subst (λ a. IsCopy (union_layout b) ls runs (union_layout a))
    (sym (c.in-Ok.ensures.0 ∙ ap (λ t. union_seen t c.in_ok-buffer.buffer cs (Some c.in_ok-offsets.offsets)) typed
    ∙ ap (λ xs. union_seen b.type xs cs (Some c.in_ok-offsets.offsets)) held
    ∙ ap (λ zs. union_seen b.type ts cs (Some zs)) c.in_ok-offsets.ensures))
    (dense_copied (λ a. a.now) arrays b runs c.requires.alike c.requires.within c.requires.dense.0 parts os c.requires.dense.1 cs c.requires.copies)
