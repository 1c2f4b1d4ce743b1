use Rattle.std.proofs.Common.{rules, ◌≡◌, ◌+◌, ◌++◌, List, drop, None, Some, ap, sym, subst, ◌∙◌, ℤ, to_z, of_z}
use Rattle.std.specs.Int.{w64}
use Rattle.lower.specs.TypeViews.{type_view, fields_view}
use Rattle.ipc_base.specs.IdTrees.{IdTrees, all_ids_view}
use Rattle.ipc_model.specs.Batches.{Place, own_place, inner_places, places, place_of}
use Rattle.ipc_model.specs.TypeKinds.{first_ids, other_ids}
use Rattle.ipc_read.proofs.PlaceLists.{Finds, finds_inside, finds_first, finds_behind, child_places, places_left, dictionary_view}
use Rattle.ipc_read.proofs.read.dictionaries.+places.Goals as goal

pub find_first_dict_field-returns-else-eq : goal.find_first_dict_field-returns-else-eq
find_first_dict_field-returns-else-eq t c =
    let is = all_ids_view c.args.ids.now in
    let values = type_view c.in-Dictionary.values.value in
    let named = dictionary_view c.args.data_type.now c.in-Dictionary.field-0 c.in-Dictionary.values c.in-Dictionary.field-2 c.in-Dictionary.is in
    let other : c.args.own ≡ Some c.args.id → ⊥ = search rules in
    let r = c.find_first_dict_field-in-Dictionary.result in
    let same_id : to_z w64 (of_z w64 c.args.id) ≡ c.args.id = search rules in
    let told : Finds c.args.id r (λ x. type_view x.0.now) (λ x. all_ids_view x.1.now) (own_place values None is ++ inner_places values is) =
    subst (λ (id : ℤ). Finds id r (λ x. type_view x.0.now) (λ x. all_ids_view x.1.now) (own_place values None is ++ inner_places values is)) same_id
    (subst (λ d. Finds (to_z w64 (of_z w64 c.args.id)) r (λ x. type_view x.0.now) (λ x. all_ids_view x.1.now) (own_place (type_view d) None is ++ inner_places (type_view d) is))
    c.deref-in-Dictionary.ensures c.find_first_dict_field-in-Dictionary.ensures)
    in
    finds_inside c.args.id r (λ x. type_view x.0.now) (λ x. all_ids_view x.1.now) c.args.own (type_view c.args.data_type.now) values is c.in-Dictionary.field-0 c.in-Dictionary.field-2 named other told

pub first_dict_field-returns-then-is_some : goal.first_dict_field-returns-then-is_some
first_dict_field-returns-then-is_some t c =
    let id = c.args.id in
    let fs = c.args.fields.now in
    let i = c.loop-field.field-index in
    let f = c.field-item.result in
    let left = all_ids_view c.loop-field.left.now in
    let own = c.first_of-own.result.0 in
    let below = all_ids_view c.first_of-own.result.1.now in
    let here = own_place (type_view f.data_type) own below ++ inner_places (type_view f.data_type) below in
    let rest = places (fields_view (drop (i + 1) fs)) (other_ids left) in
    let r = c.find_first_dict_field-found.result in
    let same_id : to_z w64 (of_z w64 c.args.id) ≡ c.args.id = search rules in
    let told : Finds id r (λ x. type_view x.0.now) (λ x. all_ids_view x.1.now) here =
    subst (λ (j : ℤ). Finds j r (λ x. type_view x.0.now) (λ x. all_ids_view x.1.now) here) same_id c.find_first_dict_field-found.ensures in
    let start : place_of (places (fields_view fs) (all_ids_view c.args.ids.now)) id ≡ place_of (places (fields_view (drop i fs)) left) id =
    subst (λ (j : ℤ). place_of (places (fields_view fs) (all_ids_view c.args.ids.now)) j ≡ place_of (places (fields_view (drop i fs)) left) j) same_id c.loop-field.invariant in
    let split = places_left fs left i f c.loop-field-test.true c.field-item.is in
    let e = start
    ∙ ap (λ (ps : List Place). place_of ps id) (split ∙ ap (λ (ps : List Place). ps ++ rest) (child_places f (first_ids left) own below c.first_of-own.ensures)) in
    finds_first id r (λ x. type_view x.0.now) (λ x. all_ids_view x.1.now) (places (fields_view fs) (all_ids_view c.args.ids.now)) here rest e (sym c.is_some.ensures ∙ c.if-is_some.true) told

pub first_dict_field-loop-field-preserved : goal.first_dict_field-loop-field-preserved
first_dict_field-loop-field-preserved t c =
    let id = to_z w64 (of_z w64 c.args.id) in
    let fs = c.args.fields.now in
    let i = c.loop-field.field-index in
    let f = c.field-item.result in
    let left = all_ids_view c.loop-field.left.now in
    let own = c.first_of-own.result.0 in
    let below = all_ids_view c.first_of-own.result.1.now in
    let here = own_place (type_view f.data_type) own below ++ inner_places (type_view f.data_type) below in
    let rest = places (fields_view (drop (i + 1) fs)) (other_ids left) in
    let r = c.find_first_dict_field-found.result in
    let split = places_left fs left i f c.loop-field-test.true c.field-item.is in
    let e = c.loop-field.invariant
    ∙ ap (λ (ps : List Place). place_of ps id) (split ∙ ap (λ (ps : List Place). ps ++ rest) (child_places f (first_ids left) own below c.first_of-own.ensures)) in
    finds_behind id r (λ x. type_view x.0.now) (λ x. all_ids_view x.1.now) (places (fields_view fs) (all_ids_view c.args.ids.now)) here rest e (sym c.is_some.ensures ∙ c.if-is_some.false) c.find_first_dict_field-found.ensures
    ∙ ap (λ (is : IdTrees). place_of (places (fields_view (drop (i + 1) fs)) is) id) (sym c.others_of-left.ensures)
