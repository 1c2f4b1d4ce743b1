-- A schema that can be written can be written in its normal form, with the same weight.
use Rattle.std.proofs.Common.{◌≡◌, ℕ, ◌+◌, ◌<◌, ◌≤◌, max, zero, suc, List, [], ◌∷◌, map, length, get_or, AllPairs, refl, sym, ap, ap₂, ◌∙◌, subst, arith}
use Rattle.std.proofs.lemmas.List.{length-map}
use Rattle.lower.proofs.Laws.{norm_fields-norm_fields}
use Rattle.lower.specs.Counts.{field_levels, fields_levels, is_dictionary, levels}
use Rattle.lower.specs.Normal.{norm, norm_field, norm_fields}
use Rattle.lower.specs.TypeTrees.{Pairs, Single, list, large_list, fixed_list, entries, Group, structure, choice, TypeTree, plain, single, group, dictionary, extension, FieldTree, field, FieldTrees, no_fields, more_fields}
use Rattle.ipc_base.specs.Fitting.{AllFit, ChildrenFit, Fits}
use Rattle.ipc_base.specs.IdTrees.{IdTree, ids, IdTrees, no_ids, more_ids}
use Rattle.ipc_model.specs.Batches.{Place, places}
use Rattle.ipc_model.specs.Columns.{IsUnionKind}
use Rattle.ipc_model.specs.Writable.{AreWritable, IsPairType, IsPlainStorage, IsPlainValue, IsWritable, IsWritableField, IsWritableGroup, IsWritableSingle, IsWritableType, SameUnderId, field_number, fields_weight, file_weight, pairs_weight, weight}
use Rattle.ipc_stream_lemmas.proofs.NormalForms.{normal_place, places_normal}

-- ---- ids

dictionary-normal : (t : TypeTree) → is_dictionary (norm t) ≡ is_dictionary t
dictionary-normal (plain p) = refl
dictionary-normal (single s f) = refl
dictionary-normal (group g fs) = refl
dictionary-normal (dictionary keys t ordered) = refl
dictionary-normal (extension name t text) = dictionary-normal t

mutual
  fits-normal : (f : FieldTree) (i : IdTree) → Fits f i → Fits (norm_field f) i
  fits-normal (field name t nullable metadata) (ids id children) h = (h.0 ∙ sym (dictionary-normal t), children-normal t children h.1)

  children-normal : (t : TypeTree) (is : IdTrees) → ChildrenFit t is → ChildrenFit (norm t) is
  children-normal (plain p) is h = h
  children-normal (single s f) no_ids h = absurd h
  children-normal (single s f) (more_ids i is) h = (fits-normal f i h.0, h.1)
  children-normal (group g fs) is h = all-normal fs is h
  children-normal (dictionary keys t ordered) is h = children-normal t is h
  children-normal (extension name t text) is h = children-normal t is h

  all-normal : (fs : FieldTrees) (is : IdTrees) → AllFit fs is → AllFit (norm_fields fs) is
  all-normal no_fields is h = h
  all-normal (more_fields f fs) no_ids h = absurd h
  all-normal (more_fields f fs) (more_ids i is) h = (fits-normal f i h.0, all-normal fs is h.1)

-- ---- types

pair-normal : (t : TypeTree) → IsPairType t → IsPairType (norm t)
pair-normal (plain p) h = absurd h
pair-normal (single s f) h = absurd h
pair-normal (group structure no_fields) h = absurd h
pair-normal (group structure (more_fields key no_fields)) h = absurd h
pair-normal (group structure (more_fields key (more_fields value no_fields))) h = tt
pair-normal (group structure (more_fields key (more_fields value (more_fields f fs)))) h = absurd h
pair-normal (group (choice type_ids mode) fs) h = absurd h
pair-normal (dictionary keys t ordered) h = absurd h
pair-normal (extension name t text) h = absurd h

single-normal : (s : Single) (f : FieldTree) → IsWritableSingle s f → IsWritableSingle s (norm_field f)
single-normal list f h = tt
single-normal large_list f h = tt
single-normal (fixed_list n) f h = h
single-normal (entries sorted) (field name t nullable metadata) h = pair-normal t h

number-normal : (fs : FieldTrees) → field_number (norm_fields fs) ≡ field_number fs
number-normal no_fields = refl
number-normal (more_fields f fs) = ap (λ (n : ℕ). 1 + n) (number-normal fs)

group-normal : (g : Group) (fs : FieldTrees) → IsWritableGroup g fs → IsWritableGroup g (norm_fields fs)
group-normal structure fs h = subst (λ (n : ℕ). 1 ≤ n) (sym (number-normal fs)) h
group-normal (choice type_ids mode) fs h = subst (λ (n : ℕ). IsUnionKind type_ids n) (sym (number-normal fs)) h

value-normal : (t : TypeTree) → IsPlainValue t → IsPlainValue (norm t)
value-normal (plain p) h = tt
value-normal (single s f) h = tt
value-normal (group g fs) h = tt
value-normal (dictionary keys t ordered) h = absurd h
value-normal (extension name t text) h = tt

storage-normal : (t : TypeTree) → IsPlainStorage t → IsPlainStorage (norm t)
storage-normal (plain p) h = tt
storage-normal (single s f) h = tt
storage-normal (group g fs) h = tt
storage-normal (dictionary keys t ordered) h = absurd h
storage-normal (extension name t text) h = absurd h

mutual
  type-normal : (t : TypeTree) → IsWritableType t → IsWritableType (norm t)
  type-normal (plain p) h = h
  type-normal (single s f) h = (single-normal s f h.0, field-normal f h.1)
  type-normal (group g fs) h = (group-normal g fs h.0, fields-normal fs h.1)
  type-normal (dictionary keys t ordered) h = (value-normal t h.0, type-normal t h.1)
  type-normal (extension name t text) h = (storage-normal t h.0, type-normal t h.1)

  field-normal : (f : FieldTree) → IsWritableField f → IsWritableField (norm_field f)
  field-normal (field name t nullable metadata) h = type-normal t h

  fields-normal : (fs : FieldTrees) → AreWritable fs → AreWritable (norm_fields fs)
  fields-normal no_fields h = tt
  fields-normal (more_fields f fs) h = (field-normal f h.0, fields-normal fs h.1)

mutual
  levels-normal : (t : TypeTree) → levels (norm t) ≡ levels t
  levels-normal (plain p) = refl
  levels-normal (single s f) = field-levels f
  levels-normal (group g fs) = fields-levels fs
  levels-normal (dictionary keys t ordered) = levels-normal t
  levels-normal (extension name t text) = levels-normal t

  field-levels : (f : FieldTree) → field_levels (norm_field f) ≡ field_levels f
  field-levels (field name t nullable metadata) = ap (λ (n : ℕ). 1 + n) (levels-normal t)

  fields-levels : (fs : FieldTrees) → fields_levels (norm_fields fs) ≡ fields_levels fs
  fields-levels no_fields = refl
  fields-levels (more_fields f fs) = ap₂ max (field-levels f) (fields-levels fs)

-- ---- dictionary fields

at-map : (ps : List Place) (i : ℕ) (p : Place) → i < length ps → get_or (map normal_place ps) i p ≡ normal_place (get_or ps i p)
at-map [] i p h = absurd (omega (arith, h))
at-map (q ∷ ps) zero p h = refl
at-map (q ∷ ps) (suc i) p h = at-map ps i p (omega (arith, h))

same-normal : (p q : Place) → SameUnderId p q → SameUnderId (normal_place p) (normal_place q)
same-normal p q h = record { type = λ e. ap norm (h.type e); nested = h.nested }

pairs-normal : (ps : List Place) → AllPairs SameUnderId ps → AllPairs SameUnderId (map normal_place ps)
pairs-normal ps h i j p lt within =
    let inside : j < length ps = omega (arith, within, length-map ps normal_place) in
    subst (λ (q : Place). SameUnderId q (get_or (map normal_place ps) j p)) (sym (at-map ps i p (omega (arith, inside, lt))))
    (subst (λ (q : Place). SameUnderId (normal_place (get_or ps i p)) q) (sym (at-map ps j p inside)) (same-normal (get_or ps i p) (get_or ps j p) (h i j p lt inside)))

-- ---- schemas

weight-normal : (fs : FieldTrees) (metadata : Pairs) → weight (norm_fields fs) metadata ≡ weight fs metadata
weight-normal fs metadata = ap (λ (gs : FieldTrees). 1024 + fields_weight gs + pairs_weight metadata) (norm_fields-norm_fields fs)

pub file_weight_normal : (fs : FieldTrees) (metadata pairs : Pairs) → file_weight (norm_fields fs) metadata pairs ≡ file_weight fs metadata pairs
file_weight_normal fs metadata pairs = ap (λ (n : ℕ). n + pairs_weight pairs) (weight-normal fs metadata)

pub writable_normal : (fs : FieldTrees) (metadata : Pairs) (is : IdTrees) → IsWritable fs metadata is → IsWritable (norm_fields fs) metadata is
writable_normal fs metadata is h = record {
  fits = all-normal fs is h.fits;
  types = fields-normal fs h.types;
  levels = omega (arith, h.levels, fields-levels fs);
  few_places = omega (arith, h.few_places, ap length (places_normal fs is), length-map (places fs is) normal_place);
  values = subst (λ (ps : List Place). AllPairs SameUnderId ps) (sym (places_normal fs is)) (pairs-normal (places fs is) h.values);
  light = omega (arith, h.light, weight-normal fs metadata);
}
