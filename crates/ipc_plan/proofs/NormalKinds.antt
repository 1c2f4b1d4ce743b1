-- Types that are the same in the normal form are of one kind.
use Rattle.std.proofs.Common.{◌≡◌, ℤ, Option, refl, sym, ap, ap₂, ◌∙◌}
use Rattle.lower.proofs.Laws.{norm-norm}
use Rattle.lower.specs.Normal.{norm, norm_field, norm_fields}
use Rattle.lower.specs.TypeTrees.{TypeTree, plain, single, group, dictionary, extension, FieldTree, field, FieldTrees, no_fields, more_fields}
use Rattle.ipc_base.specs.IdTrees.{IdTree, ids, IdTrees}
use Rattle.ipc_model.specs.Kinds.{more_kinds, dictionary_kind, extension_kind}
use Rattle.ipc_model.specs.TypeKinds.{single_kind, group_kind, key_form, first_ids, other_ids, kind_of, field_kind, kinds_of}

mutual
  kind_normal : (t : TypeTree) (id : Option ℤ) (is : IdTrees) → kind_of (norm t) id is ≡ kind_of t id is
  kind_normal (plain p) id is = refl
  kind_normal (single s f) id is = ap (single_kind s) (field_kind_normal f (first_ids is))
  kind_normal (group g fs) id is = ap (group_kind g) (kinds_normal fs is)
  kind_normal (dictionary keys t ordered) id is = ap (dictionary_kind (key_form keys) id) (norm-norm t)
  kind_normal (extension name t text) id is = ap extension_kind (kind_normal t id is)

  field_kind_normal : (f : FieldTree) (i : IdTree) → field_kind (norm_field f) i ≡ field_kind f i
  field_kind_normal (field name t nullable metadata) (ids id is) = kind_normal t id is

  pub kinds_normal : (fs : FieldTrees) (is : IdTrees) → kinds_of (norm_fields fs) is ≡ kinds_of fs is
  kinds_normal no_fields is = refl
  kinds_normal (more_fields f fs) is = ap₂ more_kinds (field_kind_normal f (first_ids is)) (kinds_normal fs (other_ids is))

-- types that are the same in the normal form are of one kind
pub same_kind : (t u : TypeTree) (id : Option ℤ) (is : IdTrees) → norm t ≡ norm u → kind_of t id is ≡ kind_of u id is
same_kind t u id is e = sym (kind_normal t id is) ∙ ap (λ v. kind_of v id is) e ∙ kind_normal u id is
