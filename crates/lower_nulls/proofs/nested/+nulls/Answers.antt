use Rattle.std.proofs.Common.{rules, arith, w8, to_z, of_z, ◌≡◌, ℕ, ℤ, ◌*◌, ◌<◌, ◌≤◌, List, length, map, replicate, sym, ap, subst, ◌∙◌}
use Rattle.std.specs.Prelude.{Option, MatchResult}
use Rattle.std.proofs.lemmas.Result.{err_from_is_err_and}
use Rattle.lower.specs.TypeTrees.{TypeTree}
use Rattle.lower.specs.declared.datatypes.DataType.{the_lemmas}
use Rattle.lower.specs.TypeViews.{type_view, field_view, ids_of}
use Rattle.lower.specs.Physical.{logical}
use Rattle.lower_validation.specs.Fields.{field_type}
use Rattle.lower_validation.specs.AnyKeys.{keys_seen}
use Rattle.lower_validation.specs.AnyOffsets.{list_places, list_width}
use Rattle.lower_arrays.specs.AnyLayouts.{layout_of}
use Rattle.lower_arrays.specs.declared.array.AnyArray.{AnyArray}
use Rattle.lower_arrays.specs.Unions.{union_seen, IsUnion, BreaksUnion}
use Rattle.lower_nulls.specs.Nulls.{AreNulls, NoNulls}
use Rattle.lower_nulls.proofs.Children.{child_type, all_more, all_end, none_at}
use Rattle.lower_nulls.proofs.Lists.{list_error, list_breaks, list_nulls, fixed_list_room, fixed_list_error, fixed_list_breaks, fixed_list_nulls, map_error, map_breaks, map_nulls, dictionary_error, dictionary_breaks, dictionary_nulls}
use Rattle.lower_nulls.proofs.Groups.{struct_error, struct_breaks, struct_nulls, union_error, union_no_ids, union_breaks, union_nulls}
use Rattle.lower_nulls.proofs.SimpleTypes.{is_simple, float_none}
use Rattle.lower_nulls.proofs.nested.+nulls.Goals as goal

-- ---- by the form of a type
pub null_as-null_plain-requires : goal.null_as-null_plain-requires
null_as-null_plain-requires t c =
    let d = c.in_default in
    record {
      plain = is_simple c.args.storage.now d.not-Float16 d.not-Float32 d.not-Float64 d.not-FixedSizeBinary d.not-List d.not-FixedSizeList d.not-LargeList d.not-Struct d.not-Union d.not-Map d.not-Dictionary d.not-Extension;
      stored = c.requires;
    }

pub null_as-returns-in-Float16 : goal.null_as-returns-in-Float16
null_as-returns-in-Float16 t c = float_none (type_view c.args.data_type) c.args.storage.now c.requires c.in-Float16.is

-- ---- children
pub null_child-null_as-requires : goal.null_child-null_as-requires
null_child-null_as-requires t c = (search (rules, the_lemmas), ap logical c.in_ok-data_type.ensures)

pub null_child-returns : goal.null_child-returns
null_child-returns t c =
    let e : type_view c.in_ok-data_type.data_type ≡ field_type (field_view c.args.field.now) = c.in_ok-data_type.ensures ∙ child_type c.args.field.now in
    subst (λ (u : TypeTree). MatchResult c.null_as.result (λ a. AreNulls u c.args.length (layout_of a)) (NoNulls u c.args.length)) e c.null_as.ensures

pub null_children-returns-in_err-child : goal.null_children-returns-in_err-child
null_children-returns-in_err-child t c =
    let fs = c.args.fields.now in
    let i = c.loop-field.field-index in
    let below : i < length fs = omega arith in
    let p = err_from_is_err_and c.from_residual-in_err-child.result c.from_residual-in_err-child.ensures.1 in
    rw (p.1, p.2) (none_at fs i c.args.length c.field-item.result c.in_err-child.field-0.0 below c.field-item.is c.in_err-child.ensures)

pub null_children-loop-field-preserved : goal.null_children-loop-field-preserved
null_children-loop-field-preserved t c =
    let fs = c.args.fields.now in
    let i = c.loop-field.field-index in
    let below : i < length fs = omega arith in
    all_more fs i c.args.length c.field-item.result c.loop-field.children.items c.push.new.self.items c.in_ok-child.child below c.field-item.is c.loop-field.invariant c.in_ok-child.ensures c.in_ok-push.ensures.items

pub null_children-returns : goal.null_children-returns
null_children-returns t c =
    let fs = c.args.fields.now in
    let past : length fs ≤ c.loop-field.field-index = omega arith in
    all_end fs c.loop-field.field-index c.args.length (map layout_of c.loop-field.children.items) past c.loop-field.invariant

-- ---- lists
pub null_list-returns-in_err-child : goal.null_list-returns-in_err-child
null_list-returns-in_err-child t c =
    let p = err_from_is_err_and c.from_residual.result c.from_residual.ensures.1 in
    rw (p.1, p.2) (list_error (type_view c.args.data_type) (field_view c.args.field.now) c.args.is_large c.args.length c.requires c.in_err-child.field-0.0 c.in_err-child.ensures)

pub null_list-returns-in_err-array : goal.null_list-returns-in_err-array
null_list-returns-in_err-array t c =
    let f = field_view c.args.field.now in
    let os = c.in_ok-offsets.offsets in
    let values = c.in_ok-values.values.value in
    let nulls : AreNulls (field_type f) 0 (layout_of values) = subst (λ (a : AnyArray). AreNulls (field_type f) 0 (layout_of a)) (sym c.in_ok-values.ensures.ok) c.in_ok-child.ensures in
    let p = err_from_is_err_and c.from_residual-in_err-array.result c.from_residual-in_err-array.ensures.1 in
    rw (p.1, p.2) (λ has. list_breaks (type_view c.args.data_type) f c.args.is_large c.args.length c.requires (list_width os) (list_places os) (layout_of values) c.in_ok-validity.validity
    c.in_ok-offsets.ensures.width c.in_ok-offsets.ensures.places nulls c.in_ok-validity.ensures c.in_err-array.field-0.0 c.in_err-array.ensures)

pub null_list-returns : goal.null_list-returns
null_list-returns t c =
    let f = field_view c.args.field.now in
    let os = c.in_ok-offsets.offsets in
    let values = c.in_ok-values.values.value in
    let nulls : AreNulls (field_type f) 0 (layout_of values) = subst (λ (a : AnyArray). AreNulls (field_type f) 0 (layout_of a)) (sym c.in_ok-values.ensures.ok) c.in_ok-child.ensures in
    list_nulls (type_view c.args.data_type) f c.args.is_large c.args.length c.requires (list_width os) (list_places os) (layout_of values) c.in_ok-validity.validity
    c.in_ok-offsets.ensures.width c.in_ok-offsets.ensures.places nulls c.in_ok-validity.ensures c.in_ok-array.array (layout_of c.from.result) c.in_ok-array.ensures.0 c.from.ensures

-- ---- lists of one length
pub null_fixed_size_list-returns-in_default : goal.null_fixed_size_list-returns-in_default
null_fixed_size_list-returns-in_default t c =
    fixed_list_room (type_view c.args.data_type) (field_view c.args.field.now) c.args.size c.args.length c.requires (omega (arith, c.in_default.ensures))

pub null_fixed_size_list-returns-in_err-child : goal.null_fixed_size_list-returns-in_err-child
null_fixed_size_list-returns-in_err-child t c =
    let f = field_view c.args.field.now in
    let count : c.in-Some.count ≡ c.args.length * c.args.size = omega (arith, c.in-Some.ensures.1) in
    let p = err_from_is_err_and c.from_residual.result c.from_residual.ensures.1 in
    rw (p.1, p.2) (fixed_list_error (type_view c.args.data_type) f c.args.size c.args.length c.requires c.in_err-child.field-0.0
    (subst (λ (n : ℕ). NoNulls (field_type f) n c.in_err-child.field-0.0) count c.in_err-child.ensures))

pub null_fixed_size_list-returns-in_err-array : goal.null_fixed_size_list-returns-in_err-array
null_fixed_size_list-returns-in_err-array t c =
    let f = field_view c.args.field.now in
    let count : c.in-Some.count ≡ c.args.length * c.args.size = omega (arith, c.in-Some.ensures.1) in
    let values = c.in_ok-values.values.value in
    let nulls : AreNulls (field_type f) (c.args.length * c.args.size) (layout_of values) =
    subst (λ (a : AnyArray). AreNulls (field_type f) (c.args.length * c.args.size) (layout_of a)) (sym c.in_ok-values.ensures.ok)
    (subst (λ (n : ℕ). AreNulls (field_type f) n (layout_of c.in_ok-child.child)) count c.in_ok-child.ensures)
    in
    let p = err_from_is_err_and c.from_residual-in_err-array.result c.from_residual-in_err-array.ensures.1 in
    rw (p.1, p.2) (fixed_list_breaks (type_view c.args.data_type) f c.args.size c.args.length c.requires (layout_of values) c.in_ok-validity.validity nulls c.in_ok-validity.ensures c.in_err-array.field-0.0 c.in_err-array.ensures)

pub null_fixed_size_list-returns : goal.null_fixed_size_list-returns
null_fixed_size_list-returns t c =
    let f = field_view c.args.field.now in
    let count : c.in-Some.count ≡ c.args.length * c.args.size = omega (arith, c.in-Some.ensures.1) in
    let values = c.in_ok-values.values.value in
    let nulls : AreNulls (field_type f) (c.args.length * c.args.size) (layout_of values) =
    subst (λ (a : AnyArray). AreNulls (field_type f) (c.args.length * c.args.size) (layout_of a)) (sym c.in_ok-values.ensures.ok)
    (subst (λ (n : ℕ). AreNulls (field_type f) n (layout_of c.in_ok-child.child)) count c.in_ok-child.ensures)
    in
    fixed_list_nulls (type_view c.args.data_type) f c.args.size c.args.length c.requires (layout_of values) c.in_ok-validity.validity nulls c.in_ok-validity.ensures
    c.in_ok-array.array (layout_of c.from.result) c.in_ok-array.ensures.0 c.in_ok-array.ensures.1 c.from.ensures

-- ---- maps
pub null_map-returns-in_err-child : goal.null_map-returns-in_err-child
null_map-returns-in_err-child t c =
    let p = err_from_is_err_and c.from_residual.result c.from_residual.ensures.1 in
    rw (p.1, p.2) (map_error (type_view c.args.data_type) (field_view c.args.field.now) c.args.sorted c.args.length c.requires c.in_err-child.field-0.0 c.in_err-child.ensures)

pub null_map-returns-in_err-array : goal.null_map-returns-in_err-array
null_map-returns-in_err-array t c =
    let f = field_view c.args.field.now in
    let values = c.in_ok-values.values.value in
    let nulls : AreNulls (field_type f) 0 (layout_of values) = subst (λ (a : AnyArray). AreNulls (field_type f) 0 (layout_of a)) (sym c.in_ok-values.ensures.ok) c.in_ok-child.ensures in
    let p = err_from_is_err_and c.from_residual-in_err-array.result c.from_residual-in_err-array.ensures.1 in
    rw (p.1, p.2) (map_breaks (type_view c.args.data_type) f c.args.sorted c.args.length c.requires c.in_ok-offsets.offsets (layout_of values) c.in_ok-validity.validity
    c.in_ok-offsets.ensures nulls c.in_ok-validity.ensures c.in_err-array.field-0.0 c.in_err-array.ensures)

pub null_map-returns : goal.null_map-returns
null_map-returns t c =
    let f = field_view c.args.field.now in
    let values = c.in_ok-values.values.value in
    let nulls : AreNulls (field_type f) 0 (layout_of values) = subst (λ (a : AnyArray). AreNulls (field_type f) 0 (layout_of a)) (sym c.in_ok-values.ensures.ok) c.in_ok-child.ensures in
    map_nulls (type_view c.args.data_type) f c.args.sorted c.args.length c.requires c.in_ok-offsets.offsets (layout_of values) c.in_ok-validity.validity
    c.in_ok-offsets.ensures nulls c.in_ok-validity.ensures c.in_ok-array.array (layout_of c.from.result) c.in_ok-array.ensures.0 c.from.ensures

-- ---- structs
pub null_struct-returns-in_err-children : goal.null_struct-returns-in_err-children
null_struct-returns-in_err-children t c =
    let p = err_from_is_err_and c.from_residual.result c.from_residual.ensures.1 in
    rw (p.1, p.2) (struct_error (type_view c.args.data_type) (map field_view c.args.fields.now) c.args.length c.requires c.in_err-children.field-0.0 c.in_err-children.ensures)

pub null_struct-returns-in_err-array : goal.null_struct-returns-in_err-array
null_struct-returns-in_err-array t c =
    let p = err_from_is_err_and c.from_residual-in_err-array.result c.from_residual-in_err-array.ensures.1 in
    rw (p.1, p.2) (struct_breaks (type_view c.args.data_type) (map field_view c.args.fields.now) c.args.length c.requires (map layout_of c.in_ok-children.children.items) c.in_ok-validity.validity
    c.in_ok-children.ensures c.in_ok-validity.ensures c.in_err-array.field-0.0 c.in_err-array.ensures)

pub null_struct-returns : goal.null_struct-returns
null_struct-returns t c =
    struct_nulls (type_view c.args.data_type) (map field_view c.args.fields.now) c.args.length c.requires (map layout_of c.in_ok-children.children.items) c.in_ok-validity.validity
    c.in_ok-children.ensures c.in_ok-validity.ensures c.in_ok-array.array (layout_of c.from.result) c.in_ok-array.ensures.0 c.in_ok-array.ensures.1 c.from.ensures

-- ---- unions
pub null_union-returns-in_err-children : goal.null_union-returns-in_err-children
null_union-returns-in_err-children t c =
    let p = err_from_is_err_and c.from_residual.result c.from_residual.ensures.1 in
    rw (p.1, p.2) (union_error (type_view c.args.data_type) (ids_of c.args.ids.now) c.args.mode (map field_view c.args.fields.now) c.args.length c.requires c.in_err-children.field-0.0 c.in_err-children.ensures)

pub null_union-returns-in_default : goal.null_union-returns-in_default
null_union-returns-in_default t c =
    union_no_ids (type_view c.args.data_type) (ids_of c.args.ids.now) c.args.mode (map field_view c.args.fields.now) c.args.length c.requires c.in_default.ensures

pub null_union-returns-in_err-array : goal.null_union-returns-in_err-array
null_union-returns-in_err-array t c =
    let same : to_z w8 (of_z w8 c.in-Some.id) ≡ c.in-Some.id = search rules in
    let types = c.in_ok-types.ensures ∙ c.in_ok-repeated.ensures ∙ ap (replicate c.args.length) (same ∙ c.in-Some.ensures) in
    let p = err_from_is_err_and c.from_residual-in_err-array.result c.from_residual-in_err-array.ensures.1 in
    rw (p.1, p.2) (union_breaks (type_view c.args.data_type) (ids_of c.args.ids.now) c.args.mode (map field_view c.args.fields.now) c.args.length c.requires c.in_ok-types.types (map layout_of c.in_ok-children.children.items)
    c.in_ok-children.ensures types c.in_err-array.field-0.0
    (subst (λ (os : Option (List ℤ)). BreaksUnion (union_seen (type_view c.args.data_type) c.in_ok-types.types (map layout_of c.in_ok-children.children.items) os) c.in_err-array.field-0.0) c.in_ok-offsets.ensures c.in_err-array.ensures))

pub null_union-returns : goal.null_union-returns
null_union-returns t c =
    let same : to_z w8 (of_z w8 c.in-Some.id) ≡ c.in-Some.id = search rules in
    let types = c.in_ok-types.ensures ∙ c.in_ok-repeated.ensures ∙ ap (replicate c.args.length) (same ∙ c.in-Some.ensures) in
    union_nulls (type_view c.args.data_type) (ids_of c.args.ids.now) c.args.mode (map field_view c.args.fields.now) c.args.length c.requires c.in_ok-types.types (map layout_of c.in_ok-children.children.items)
    c.in_ok-children.ensures types c.in_ok-array.array (layout_of c.from.result)
    (c.in_ok-array.ensures.0 ∙ ap (λ (os : Option (List ℤ)). union_seen (type_view c.args.data_type) c.in_ok-types.types (map layout_of c.in_ok-children.children.items) os) c.in_ok-offsets.ensures)
    (subst (λ (os : Option (List ℤ)). IsUnion (union_seen (type_view c.args.data_type) c.in_ok-types.types (map layout_of c.in_ok-children.children.items) os)) c.in_ok-offsets.ensures c.in_ok-array.ensures.1)
    c.from.ensures

-- ---- dictionaries
pub null_dictionary-null_as-requires : goal.null_dictionary-null_as-requires
null_dictionary-null_as-requires t c = (search (rules, the_lemmas), ap logical c.in_ok-values_type.ensures)

pub null_dictionary-returns-in_err-child : goal.null_dictionary-returns-in_err-child
null_dictionary-returns-in_err-child t c =
    let p = err_from_is_err_and c.from_residual-in_err-child.result c.from_residual-in_err-child.ensures.1 in
    rw (p.1, p.2) (dictionary_error (type_view c.args.data_type) (type_view c.args.storage.now) c.args.keys c.args.ordered c.args.length c.requires c.in_err-child.field-0.0
    (subst (λ (u : TypeTree). NoNulls u 0 c.in_err-child.field-0.0) c.in_ok-values_type.ensures c.in_err-child.ensures))

pub null_dictionary-returns-in_err-array : goal.null_dictionary-returns-in_err-array
null_dictionary-returns-in_err-array t c =
    let u = type_view c.args.storage.now in
    let values = c.in_ok-values.values.value in
    let nulls : AreNulls u 0 (layout_of values) =
    subst (λ (a : AnyArray). AreNulls u 0 (layout_of a)) (sym c.in_ok-values.ensures.ok)
    (subst (λ (v : TypeTree). AreNulls v 0 (layout_of c.in_ok-child.child)) c.in_ok-values_type.ensures c.in_ok-child.ensures)
    in
    let p = err_from_is_err_and c.from_residual-in_err-array.result c.from_residual-in_err-array.ensures.1 in
    rw (p.1, p.2) (λ has. dictionary_breaks (type_view c.args.data_type) u c.args.keys c.args.ordered c.args.length c.requires (keys_seen c.in_ok-keys.keys) (layout_of values) c.in_ok-keys.ensures nulls c.in_err-array.field-0.0 c.in_err-array.ensures)

pub null_dictionary-returns : goal.null_dictionary-returns
null_dictionary-returns t c =
    let u = type_view c.args.storage.now in
    let values = c.in_ok-values.values.value in
    let nulls : AreNulls u 0 (layout_of values) =
    subst (λ (a : AnyArray). AreNulls u 0 (layout_of a)) (sym c.in_ok-values.ensures.ok)
    (subst (λ (v : TypeTree). AreNulls v 0 (layout_of c.in_ok-child.child)) c.in_ok-values_type.ensures c.in_ok-child.ensures)
    in
    dictionary_nulls (type_view c.args.data_type) u c.args.keys c.args.ordered c.args.length c.requires (keys_seen c.in_ok-keys.keys) (layout_of values) c.in_ok-keys.ensures nulls
    c.in_ok-array.array (layout_of c.from.result) c.in_ok-array.ensures.0 c.from.ensures
