-- The weight of a schema bounds how many nodes and buffers its batches have.
use Rattle.std.proofs.Common.{arith, ◌≡◌, ℕ, ℤ, ◌+◌, ◌*◌, ◌^◌, ◌≤◌, true, List, [], ◌∷◌, ◌++◌, length, Option, refl, sym, ap, ◌∙◌, length-append}
use Rattle.std.proofs.lemmas.Grind.{flat_map-append}
use Rattle.std.proofs.lemmas.List.Concat.{flat_map-cons}
use Rattle.std.specs.List.{AllByRecursion}
use Rattle.lower.proofs.Laws.{nodes-norm}
use Rattle.lower.specs.Counts.{nodes, field_nodes, fields_nodes, plain_buffers, single_buffers, group_buffers, buffers, field_buffers, fields_buffers}
use Rattle.lower.specs.Normal.{norm, norm_field, norm_fields}
use Rattle.lower.specs.TypeTrees.{Plain, null, binary, large_binary, utf8, large_utf8, Single, fixed_list, Group, structure, choice, TypeTree, plain, single, group, dictionary, extension, FieldTree, field, FieldTrees, no_fields, more_fields}
use Rattle.lower.specs.declared.datatypes.UnionMode.TheVariants.{Sparse, Dense}
use Rattle.lower_arrays.specs.Layouts.{Layout, Level, layouts, len_of, type_of}
use Rattle.lower_arrays.specs.Slots.{AreArrays}
use Rattle.ipc_base.specs.IdTrees.{IdTree, ids, IdTrees}
use Rattle.ipc_model.proofs.OfferCounts.{entry_count_law}
use Rattle.ipc_model.specs.Batches.{Place, field_places, field_type, inner_places, own_place, places}
use Rattle.ipc_model.specs.Offers.{HaveEntries, body_lengths, buffer_lengths, whole_levels}
use Rattle.ipc_model.specs.TypeKinds.{first_ids, other_ids}
use Rattle.ipc_model.specs.Writable.{field_weight, fields_weight, type_weight}
use Rattle.ipc_plan.specs.Batches.{AreLike}
use Rattle.ipc_encode.specs.Encoding.{levels_of}
use Rattle.ipc_encode.specs.ShortMetadata.{AreShortMetadata, HasShortValues, ShortMetadataLaw}
use Rattle.ipc_encode.specs.declared.batches.BatchKind.TheVariants.{Record}

-- ---- a field has a node and at most three buffers of its own

few_plain : (p : Plain) → plain_buffers p ≤ 3
few_plain null = omega arith
few_plain binary = omega arith
few_plain large_binary = omega arith
few_plain utf8 = omega arith
few_plain large_utf8 = omega arith
few_plain _ = omega arith

few_single : (s : Single) → single_buffers s ≤ 2
few_single (fixed_list n) = omega arith
few_single _ = omega arith

few_group : (g : Group) → group_buffers 0 g ≤ 2
few_group structure = omega arith
few_group (choice type_ids Sparse) = omega arith
few_group (choice type_ids Dense) = omega arith

mutual
  few_type : (t : TypeTree) → 128 * (nodes t + buffers 0 t) ≤ 512 + type_weight (norm t)
  few_type (plain p) = omega (arith, few_plain p)
  few_type (single s f) = omega (arith, few_single s, few_field f)
  few_type (group g fs) = omega (arith, few_group g, few_fields fs)
  few_type (dictionary keys t ordered) = omega arith
  few_type (extension name t text) = few_type t

  few_field : (f : FieldTree) → 128 * (field_nodes f + field_buffers 0 f) ≤ field_weight (norm_field f)
  few_field (field name t nullable metadata) = omega (arith, few_type t)

  few_fields : (fs : FieldTrees) → 128 * (fields_nodes fs + fields_buffers 0 fs) ≤ fields_weight (norm_fields fs)
  few_fields no_fields = omega arith
  few_fields (more_fields f fs) = omega (arith, few_field f, few_fields fs)

-- ---- columns have the entries of their fields

mutual
  buffers-norm : (t : TypeTree) → buffers 0 (norm t) ≡ buffers 0 t
  buffers-norm (plain p) = refl
  buffers-norm (single s f) = ap (λ n. single_buffers s + n) (field_buffers-norm f)
  buffers-norm (group g fs) = ap (λ n. group_buffers 0 g + n) (fields_buffers-norm fs)
  buffers-norm (dictionary keys t ordered) = refl
  buffers-norm (extension name t text) = buffers-norm t

  field_buffers-norm : (f : FieldTree) → field_buffers 0 (norm_field f) ≡ field_buffers 0 f
  field_buffers-norm (field name t nullable metadata) = buffers-norm t

  fields_buffers-norm : (fs : FieldTrees) → fields_buffers 0 (norm_fields fs) ≡ fields_buffers 0 fs
  fields_buffers-norm no_fields = refl
  fields_buffers-norm (more_fields f fs) = rw (field_buffers-norm f, fields_buffers-norm fs)

field_entries : (f : FieldTree) → (field_nodes f ≡ nodes (field_type f)) × (field_buffers 0 f ≡ buffers 0 (field_type f))
field_entries (field name t nullable metadata) = (refl, refl)

lengths_both : (hs ks : List Level) → length (body_lengths (hs ++ ks)) ≡ length (body_lengths hs) + length (body_lengths ks)
lengths_both hs ks =
    ap length (flat_map-append (λ (h : Level). buffer_lengths h.parts h.validity h.len) hs ks) ∙ length-append (body_lengths hs) (body_lengths ks)

entries_of : (ls : List Layout) (fs : FieldTrees) → AreArrays (layouts ls) → AreLike fs (layouts ls) → HaveEntries (levels_of ls) (fields_nodes fs) (fields_buffers 0 fs)
entries_of [] no_fields arrays like = record { node_count = refl; buffer_count = refl }
entries_of [] (more_fields f fs) arrays like = absurd like
entries_of (l ∷ ls) no_fields arrays like = absurd like
entries_of (l ∷ ls) (more_fields f fs) arrays like =
    let here = entry_count_law l 0 (len_of l) arrays.0 in
    let rest = entries_of ls fs arrays.1 like.1 in
    let e = flat_map-cons whole_levels l ls in
    let ns : length (levels_of (l ∷ ls)) ≡ length (whole_levels l) + length (levels_of ls) = ap length e ∙ length-append (whole_levels l) (levels_of ls) in
    let bs : length (body_lengths (levels_of (l ∷ ls))) ≡ length (body_lengths (whole_levels l)) + length (body_lengths (levels_of ls)) =
    ap (λ hs. length (body_lengths hs)) e ∙ lengths_both (whole_levels l) (levels_of ls) in
    let own_nodes : nodes (type_of l) ≡ field_nodes f = sym (nodes-norm (type_of l)) ∙ ap nodes like.0 ∙ nodes-norm (field_type f) ∙ sym (field_entries f).0 in
    let own_buffers : buffers 0 (type_of l) ≡ field_buffers 0 f = sym (buffers-norm (type_of l)) ∙ ap (buffers 0) like.0 ∙ buffers-norm (field_type f) ∙ sym (field_entries f).1 in
    record {
      node_count = omega (arith, ns, here.node_count, rest.node_count, own_nodes);
      buffer_count = omega (arith, bs, here.buffer_count, rest.buffer_count, own_buffers);
    }

-- ---- dictionary fields are inside the fields

abbrev IsLight : ℕ → Place → Type 0
IsLight w p = type_weight (norm p.type) ≤ w

light_both : (w : ℕ) (ps qs : List Place) → AllByRecursion (IsLight w) ps → AllByRecursion (IsLight w) qs → AllByRecursion (IsLight w) (ps ++ qs)
light_both w [] qs f g = g
light_both w (p ∷ ps) qs f g = (f.0, light_both w ps qs f.1 g)

light_own : (t : TypeTree) (id : Option ℤ) (is : IdTrees) (w : ℕ) → type_weight (norm t) ≤ w → AllByRecursion (IsLight w) (own_place t id is)
light_own (plain p) id is w h = tt
light_own (single s f) id is w h = tt
light_own (group g fs) id is w h = tt
light_own (dictionary keys t ordered) id is w h = (h, tt)
light_own (extension name t text) id is w h = light_own t id is w h

mutual
  light_field : (f : FieldTree) (i : IdTree) (w : ℕ) → field_weight (norm_field f) ≤ w → AllByRecursion (IsLight w) (field_places f i)
  light_field (field name t nullable metadata) (ids id is) w h =
      light_both w (own_place t id is) (inner_places t is) (light_own t id is w (omega (arith, h))) (light_inner t is w (omega (arith, h)))

  light_inner : (t : TypeTree) (is : IdTrees) (w : ℕ) → type_weight (norm t) ≤ w → AllByRecursion (IsLight w) (inner_places t is)
  light_inner (plain p) is w h = tt
  light_inner (single s f) is w h = light_field f (first_ids is) w h
  light_inner (group g fs) is w h = light_places fs is w (omega (arith, h))
  light_inner (dictionary keys t ordered) is w h = light_inner t is w h
  light_inner (extension name t text) is w h = light_inner t is w h

  light_places : (fs : FieldTrees) (is : IdTrees) (w : ℕ) → fields_weight (norm_fields fs) ≤ w → AllByRecursion (IsLight w) (places fs is)
  light_places no_fields is w h = tt
  light_places (more_fields f fs) is w h =
      light_both w (field_places f (first_ids is)) (places fs (other_ids is)) (light_field f (first_ids is) w (omega (arith, h))) (light_places fs (other_ids is) w (omega (arith, h)))

-- ---- the metadata

short_columns : (fs : FieldTrees) (ls : List Layout) → fields_weight (norm_fields fs) ≤ 2 ^ 30 → AreArrays (layouts ls) → AreLike fs (layouts ls) → AreShortMetadata Record (levels_of ls)
short_columns fs ls light arrays like =
    let e = entries_of ls fs arrays like in
    omega (arith, light, few_fields fs, e.node_count, e.buffer_count)

short_values : (p : Place) → IsLight (2 ^ 30) p → HasShortValues p
short_values p light = λ id l array same.
    let e = entries_of (l ∷ []) (more_fields (field [] p.type true []) no_fields) (array, tt) (same, tt) in
    omega (arith, light, few_type p.type, e.node_count, e.buffer_count)

all_short : (ps : List Place) → AllByRecursion (IsLight (2 ^ 30)) ps → AllByRecursion HasShortValues ps
all_short [] light = tt
all_short (p ∷ ps) light = (short_values p light.0, all_short ps light.1)

pub short_metadata_law : ShortMetadataLaw
short_metadata_law fs metadata is writable =
    let light : fields_weight (norm_fields fs) ≤ 2 ^ 30 = omega (arith, writable.light) in
    record { columns = λ ls arrays like. short_columns fs ls light arrays like; values = all_short (places fs is) (light_places fs is (2 ^ 30) light) }
