-- The ids that a schema's table means have the shape of its fields.
use Rattle.std.proofs.Common.{◌≡◌, ℕ, zero, suc, ◌+◌, Bool, true, false, cond, List, Option, Some, None, refl, sym, subst, nat_eq, nat_le, length}
use Rattle.std.specs.Option.{option_map}
use Rattle.lower.specs.Counts.{is_dictionary}
use Rattle.lower.specs.TypeTrees.{Pairs, plain, Single, Group, field, no_fields}
use Rattle.lower_types.specs.declared.Endianness.{Endianness}
use Rattle.ipc_base.specs.Fitting.{AllFit, ChildrenFit, Fits}
use Rattle.ipc_base.specs.IdTrees.{ids, no_ids}
use Rattle.ipc_table_views.specs.MessageSlots.{message_header}
use Rattle.ipc_table_views.specs.SchemaSlots.{field_name, field_nullable, field_type, field_dictionary, field_children, field_custom_metadata, schema_custom_metadata, schema_endianness, schema_fields}
use Rattle.ipc_table_views.specs.Spot.{Spot, Vector}
use Rattle.ipc_table_views.specs.Tables.{root_at, table_in}
use Rattle.ipc_model.specs.Batches.{Schema}
use Rattle.ipc_model.specs.Schemas.{Encoding, Read, ReadAll, ReadType, encoded, extended, field_at, field_from, field_with, fields_count, fields_from, first_field, given, group_at, group_with, id_of, is_group_tag, is_single_tag, made, most_levels, optional_encoding, order_of, pairs_at, plain_at, present, schema_at, schema_of, schema_with, single_at, single_with, some_fields, type_of_field}
use Rattle.ipc_model.proofs.Given.{given-some, map-some}

-- what is read has the shape
ReadsFitting : (Spot → Option Read) → Type 0
ReadsFitting read = (t : Spot) (x : Read) → read t ≡ Some x → Fits x.0 x.1

fields-fit : (read : Spot → Option Read) → ReadsFitting read → (v : Vector) (k n : ℕ) (all : ReadAll) → fields_from read v k n ≡ Some all → AllFit all.0 all.1
unfolding ReadsFitting
fields-fit read fits v k zero all e =
    let none : ◌≡◌ {A = ReadAll} (no_fields, no_ids) all = cc in
    subst (λ (a : ReadAll). AllFit a.0 a.1) none tt
fields-fit read fits v k (suc n) all e =
    let (t, t_is, e1) = given-some (made (table_in v k)) _ all e in
    let (x, x_is, e2) = given-some (read t) _ all e1 in
    let (rest, rest_is, all_is) = map-some _ (fields_from read v (k + 1) n) all e2 in
    subst (λ (a : ReadAll). AllFit a.0 a.1) (sym all_is) (fits t x x_is, fields-fit read fits v (k + 1) n rest rest_is)

-- a type without an encoding, and the ids of its children
TypeFits : ReadType → Type 0
TypeFits y = (false ≡ is_dictionary y.0) × ChildrenFit y.0 y.1

first-fits : (read : Spot → Option Read) → ReadsFitting read → (v : Vector) (x : Read) → first_field read v ≡ Some x → Fits x.0 x.1
unfolding ReadsFitting
first-fits read fits v x e = at (nat_eq v.count 0) e
  where
    at : (b : Bool) → cond b None (given (made (table_in v 0)) read) ≡ Some x → Fits x.0 x.1
    at true e = cc
    at false e = let (t, t_is, e1) = given-some (made (table_in v 0)) read x e in fits t x e1

some-fit : (read : Spot → Option Read) → ReadsFitting read → (v : Vector) (all : ReadAll) → some_fields read v ≡ Some all → AllFit all.0 all.1
some-fit read fits v all e = at (nat_eq v.count 0) e
  where
    at : (b : Bool) → cond b None (fields_from read v 0 v.count) ≡ Some all → AllFit all.0 all.1
    at true e = cc
    at false e = fields-fit read fits v 0 v.count all e

type-fits : (read : Spot → Option Read) → ReadsFitting read → (t : Spot) (type_ : ℕ × Spot) (y : ReadType) → type_of_field read t type_ ≡ Some y → TypeFits y
unfolding TypeFits
type-fits read fits t type_ y e = at (is_single_tag type_.0) (is_group_tag type_.0) e
  where
    single_fits : (s : Single) → given (present (field_children t)) (λ v. option_map (single_with s) (first_field read v)) ≡ Some y → (false ≡ is_dictionary y.0) × ChildrenFit y.0 y.1
    single_fits s e =
        let (v, v_is, e1) = given-some (present (field_children t)) _ y e in
        let (x, x_is, y_is) = map-some (single_with s) (first_field read v) y e1 in
        subst (λ (y : ReadType). (false ≡ is_dictionary y.0) × ChildrenFit y.0 y.1) (sym y_is) (refl, (first-fits read fits v x x_is, tt))

    group_fits : (g : Group) → given (present (field_children t)) (λ v. option_map (group_with g) (some_fields read v)) ≡ Some y → (false ≡ is_dictionary y.0) × ChildrenFit y.0 y.1
    group_fits g e =
        let (v, v_is, e1) = given-some (present (field_children t)) _ y e in
        let (all, all_is, y_is) = map-some (group_with g) (some_fields read v) y e1 in
        subst (λ (y : ReadType). (false ≡ is_dictionary y.0) × ChildrenFit y.0 y.1) (sym y_is) (refl, some-fit read fits v all all_is)

    at : (is_single is_group : Bool)
        → cond is_single (given (single_at type_.0 type_.1) (λ s. given (present (field_children t)) (λ v. option_map (single_with s) (first_field read v))))
        (cond is_group (given (group_at type_.0 type_.1) (λ g. given (present (field_children t)) (λ v. option_map (group_with g) (some_fields read v))))
        (option_map (λ p. (plain p, no_ids)) (plain_at type_.0 type_.1))) ≡ Some y
        → (false ≡ is_dictionary y.0) × ChildrenFit y.0 y.1
    at true is_group e = let (s, s_is, e1) = given-some (single_at type_.0 type_.1) _ y e in single_fits s e1
    at false true e = let (g, g_is, e1) = given-some (group_at type_.0 type_.1) _ y e in group_fits g e1
    at false false e =
        let (p, p_is, y_is) = map-some (λ p. (plain p, no_ids)) (plain_at type_.0 type_.1) y e in
        subst (λ (y : ReadType). (false ≡ is_dictionary y.0) × ChildrenFit y.0 y.1) (sym y_is) (refl, tt)

encoded-fits : (name : List ℕ) (nullable : Bool) (es : Pairs) (enc : Option Encoding) (extension text : Option (List ℕ)) (y : ReadType) → TypeFits y
    → Fits (field name (encoded enc (extended extension text y.0)) nullable es) (ids (id_of enc) y.1)
unfolding TypeFits
encoded-fits name nullable es None None text y h = h
encoded-fits name nullable es None (Some n) text y h = h
encoded-fits name nullable es (Some e) None text y h = (refl, h.1)
encoded-fits name nullable es (Some e) (Some n) text y h = (refl, h.1)

field-fits : (read : Spot → Option Read) → ReadsFitting read → ReadsFitting (λ t. field_from read t)
unfolding field_from ReadsFitting
field-fits read fits t x e =
    let (name, name_is, e1) = given-some (present (field_name t)) _ x e in
    let (nullable, nullable_is, e2) = given-some (made (field_nullable t)) _ x e1 in
    let (metadata, metadata_is, e3) = given-some (made (field_custom_metadata t)) _ x e2 in
    let (es, es_is, e4) = given-some (pairs_at metadata) _ x e3 in
    let (dictionary, dictionary_is, e5) = given-some (made (field_dictionary t)) _ x e4 in
    let (enc, enc_is, e6) = given-some (optional_encoding dictionary) _ x e5 in
    let (type_, type_is, e7) = given-some (present (field_type t)) _ x e6 in
    let (y, y_is, x_is) = map-some (field_with name nullable es enc) (type_of_field read t type_) x e7 in
    subst (λ (x : Read). Fits x.0 x.1) (sym x_is) (encoded-fits name nullable es enc _ _ y (type-fits read fits t type_ y y_is))

levels-fit : (n : ℕ) → ReadsFitting (λ t. field_at n t)
unfolding field_at ReadsFitting
levels-fit zero t x e = cc
levels-fit (suc n) t x e = field-fits (λ s. field_at n s) (levels-fit n) t x e

with-fits : (most : ℕ) (order : Endianness) (es : Pairs) (all : ReadAll) (s : Schema) → AllFit all.0 all.1 → schema_with most order es all ≡ Some s → AllFit s.fields s.ids
with-fits most order es all s h e = at (nat_le (fields_count all.0) most) e
  where
    at : (b : Bool) → cond b (Some (record { fields = all.0; metadata = es; ids = all.1; order = order })) None ≡ Some s → AllFit s.fields s.ids
    at true e =
        let same : ◌≡◌ {A = Schema} (record { fields = all.0; metadata = es; ids = all.1; order = order }) s = cc in
        subst (λ (s : Schema). AllFit s.fields s.ids) same h
    at false e = cc

pub table-fits : (t : Spot) (s : Schema) → schema_at t ≡ Some s → AllFit s.fields s.ids
unfolding schema_at
table-fits t s e =
    let (order, order_is, e1) = given-some (made (schema_endianness t)) _ s e in
    let (metadata, metadata_is, e2) = given-some (made (schema_custom_metadata t)) _ s e1 in
    let (es, es_is, e3) = given-some (pairs_at metadata) _ s e2 in
    let (v, v_is, e4) = given-some (present (schema_fields t)) _ s e3 in
    let (all, all_is, e5) = given-some (fields_from (λ u. field_at most_levels u) v 0 v.count) _ s e4 in
    with-fits (length t.message) (order_of order) es all s (fields-fit (λ u. field_at most_levels u) (levels-fit most_levels) v 0 v.count all all_is) e5

pub message-fits : (m : List ℕ) (s : Schema) → schema_of m ≡ Some s → AllFit s.fields s.ids
unfolding schema_of
message-fits m s e =
    let (t, t_is, e1) = given-some (made (root_at m)) _ s e in
    let (h, h_is, e2) = given-some (present (message_header t)) _ s e1 in
    at h.1 (nat_eq h.0 1) e2
  where
    at : (t : Spot) (b : Bool) → cond b (schema_at t) None ≡ Some s → AllFit s.fields s.ids
    at t true e = table-fits t s e
    at t false e = cc
