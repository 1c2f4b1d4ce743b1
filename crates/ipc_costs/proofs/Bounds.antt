-- A schema that is read is no larger than its message costs.
use Rattle.std.proofs.Common.{◌≡◌, ℕ, zero, suc, ◌+◌, ◌≤◌, Bool, true, false, cond, nat_eq, nat_le, List, length, Option, Some, None, refl, ap, sym, ◌∙◌, subst, arith}
use Rattle.std.specs.Option.{option_map}
use Rattle.std.specs.Prelude.{IfSome}
use Rattle.lower.specs.Normal.{data_key, name_key}
use Rattle.lower.specs.TypeTrees.{Pairs, TypeTree, plain, single, group, dictionary, extension, Single, Group, FieldTree, field, FieldTrees, no_fields, more_fields}
use Rattle.lower_types.specs.declared.Endianness.{Endianness}
use Rattle.ipc_base.specs.IdTrees.{no_ids}
use Rattle.ipc_table_views.specs.MessageSlots.{message_header}
use Rattle.ipc_table_views.specs.SchemaSlots.{field_children, field_custom_metadata, field_dictionary, field_name, field_nullable, field_type, schema_custom_metadata, schema_endianness, schema_fields}
use Rattle.ipc_table_views.specs.Spot.{Spot, Vector}
use Rattle.ipc_table_views.specs.Tables.{root_at, table_in}
use Rattle.ipc_model.proofs.Given.{given-some, if-some, made-some, map-some}
use Rattle.ipc_model.specs.Batches.{Schema}
use Rattle.ipc_model.specs.Schemas.{Encoding, Read, ReadAll, ReadType, encoded, extended, field_at, field_count, field_from, field_with, fields_count, fields_from, first_field, given, group_at, group_with, inner_count, is_group_tag, is_single_tag, made, most_levels, optional_encoding, order_of, pairs_at, plain_at, present, schema_at, schema_of, schema_with, single_at, single_with, some_fields, type_of_field, value_under}
use Rattle.ipc_model.specs.Visits.{visits}
use Rattle.ipc_costs.specs.Costs.{children_cost, children_read, field_cost, header_cost, own_cost, pair_cost, schema_cost, schema_table_cost, table_cost, tables_cost, type_cost, typed_cost, vector_cost}
use Rattle.ipc_costs.specs.Sizes.{field_size, fields_size, pairs_size, schema_size, text_size, type_size}
use Rattle.ipc_costs.proofs.PairWeights.{pairs-cost, pairs-texts, present-made}
use Rattle.ipc_costs.proofs.TypeSizes.{group-cost, plain-cost}

-- What is read of a field's table is no larger than the table costs, plus one.
ReadsSmall : (Spot → Option Read) → (Spot → ℕ) → Type 0
ReadsSmall read cost = (t : Spot) (x : Read) → read t ≡ Some x → field_size x.0 ≤ 1 + cost t

-- ---- fields of a vector

fields-small : (read : Spot → Option Read) (cost : Spot → ℕ) → ReadsSmall read cost → (v : Vector) (k n : ℕ) (all : ReadAll) → fields_from read v k n ≡ Some all
    → fields_size all.0 ≤ tables_cost cost v k n
unfolding ReadsSmall
fields-small read cost small v k zero all e =
    let none : ◌≡◌ {A = ReadAll} (no_fields, no_ids) all = cc in
    subst (λ (a : ReadAll). fields_size a.0 ≤ 0) none (omega arith)
fields-small read cost small v k (suc n) all e =
    let (t, t_is, e1) = given-some (made (table_in v k)) _ all e in
    let (x, x_is, e2) = given-some (read t) _ all e1 in
    let (rest, rest_is, all_is) = map-some _ (fields_from read v (k + 1) n) all e2 in
    let opened = ap (table_cost cost) (made-some (table_in v k) t t_is) in
    let first = small t x x_is in
    let others = fields-small read cost small v (k + 1) n rest rest_is in
    let whole = ap (λ (a : ReadAll). fields_size a.0) all_is in
    omega (arith, opened, first, others, whole)

first-small : (read : Spot → Option Read) (cost : Spot → ℕ) → ReadsSmall read cost → (v : Vector) (x : Read) → first_field read v ≡ Some x
    → field_size x.0 ≤ tables_cost cost v 0 (cond (nat_eq v.count 0) 0 1)
unfolding ReadsSmall
first-small read cost small v x e = at (nat_eq v.count 0) e
  where
    at : (b : Bool) → cond b None (given (made (table_in v 0)) read) ≡ Some x → field_size x.0 ≤ tables_cost cost v 0 (cond b 0 1)
    at true e = cc
    at false e =
        let (t, t_is, e1) = given-some (made (table_in v 0)) read x e in
        let opened = ap (table_cost cost) (made-some (table_in v 0) t t_is) in
        let first = small t x e1 in
        omega (arith, opened, first)

some-small : (read : Spot → Option Read) (cost : Spot → ℕ) → ReadsSmall read cost → (v : Vector) (all : ReadAll) → some_fields read v ≡ Some all
    → fields_size all.0 ≤ tables_cost cost v 0 v.count
some-small read cost small v all e = at (nat_eq v.count 0) e
  where
    at : (b : Bool) → cond b None (fields_from read v 0 v.count) ≡ Some all → fields_size all.0 ≤ tables_cost cost v 0 v.count
    at true e = cc
    at false e = fields-small read cost small v 0 v.count all e

-- ---- types

module _ (read : Spot → Option Read) (cost : Spot → ℕ) (small : ReadsSmall read cost) (t : Spot) (type_ : ℕ × Spot) (y : ReadType) where
  single-small : (s : Single) → is_single_tag type_.0 ≡ true
      → given (present (field_children t)) (λ v. option_map (single_with s) (first_field read v)) ≡ Some y
      → type_size y.0 ≤ type_cost type_ + children_cost cost type_.0 (present (field_children t))
  single-small s is e =
      let (v, v_is, e1) = given-some (present (field_children t)) _ y e in
      let (x, x_is, y_is) = map-some (single_with s) (first_field read v) y e1 in
      let first = first-small read cost small v x x_is in
      let size = ap (λ (y : ReadType). type_size y.0) y_is in
      let count : children_read type_.0 v.count ≡ cond (nat_eq v.count 0) 0 1 = ap (λ (b : Bool). cond b (cond (nat_eq v.count 0) 0 1) (cond (is_group_tag type_.0) v.count 0)) is in
      let children = ap (λ (o : Option Vector). children_cost cost type_.0 o) v_is ∙ ap (λ (n : ℕ). tables_cost cost v 0 n) count in
      omega (arith, first, size, children)

  group-small : (g : Group) → group_at type_.0 type_.1 ≡ Some g → is_single_tag type_.0 ≡ false → is_group_tag type_.0 ≡ true
      → given (present (field_children t)) (λ v. option_map (group_with g) (some_fields read v)) ≡ Some y
      → type_size y.0 ≤ type_cost type_ + children_cost cost type_.0 (present (field_children t))
  group-small g g_is apart is e =
      let (v, v_is, e1) = given-some (present (field_children t)) _ y e in
      let (all, all_is, y_is) = map-some (group_with g) (some_fields read v) y e1 in
      let several = some-small read cost small v all all_is in
      let own = group-cost type_.0 type_.1 g g_is in
      let size = ap (λ (y : ReadType). type_size y.0) y_is in
      let count : children_read type_.0 v.count ≡ v.count =
      ap (λ (b : Bool). cond b (cond (nat_eq v.count 0) 0 1) (cond (is_group_tag type_.0) v.count 0)) apart ∙ ap (λ (b : Bool). cond b v.count 0) is in
      let children = ap (λ (o : Option Vector). children_cost cost type_.0 o) v_is ∙ ap (λ (n : ℕ). tables_cost cost v 0 n) count in
      omega (arith, several, own, size, children)

  type-small : type_of_field read t type_ ≡ Some y → type_size y.0 ≤ type_cost type_ + children_cost cost type_.0 (present (field_children t))
  type-small e = at (is_single_tag type_.0) (is_group_tag type_.0) refl refl e
    where
      at : (is_single is_group : Bool) → is_single_tag type_.0 ≡ is_single → is_group_tag type_.0 ≡ is_group
          → cond is_single (given (single_at type_.0 type_.1) (λ s. given (present (field_children t)) (λ v. option_map (single_with s) (first_field read v))))
          (cond is_group (given (group_at type_.0 type_.1) (λ g. given (present (field_children t)) (λ v. option_map (group_with g) (some_fields read v))))
          (option_map (λ p. (plain p, no_ids)) (plain_at type_.0 type_.1))) ≡ Some y
          → type_size y.0 ≤ type_cost type_ + children_cost cost type_.0 (present (field_children t))
      at true is_group s_is g_is e = let (s, at_s, e1) = given-some (single_at type_.0 type_.1) _ y e in single-small s s_is e1
      at false true s_is g_is e = let (g, at_g, e1) = given-some (group_at type_.0 type_.1) _ y e in group-small g at_g s_is g_is e1
      at false false s_is g_is e =
          let (p, p_is, y_is) = map-some (λ p. (plain p, no_ids)) (plain_at type_.0 type_.1) y e in
          let own = plain-cost type_.0 type_.1 p p_is in
          let size = ap (λ (y : ReadType). type_size y.0) y_is in
          omega (arith, own, size)

-- ---- fields

extended-small : (name text : Option (List ℕ)) (t : TypeTree) → type_size (extended name text t) ≤ text_size name + text_size text + type_size t
extended-small None text t = omega arith
extended-small (Some name) text t = omega arith

encoded-size : (e : Option Encoding) (t : TypeTree) → type_size (encoded e t) ≡ type_size t
encoded-size None t = refl
encoded-size (Some e) t = refl

with-small : (name : List ℕ) (nullable : Bool) (es : Pairs) (encoding : Option Encoding) (y : ReadType) (pairs type_ : ℕ)
    → pairs_size es + text_size (value_under name_key es) + text_size (value_under data_key es) ≤ pairs → type_size y.0 ≤ type_
    → field_size (field_with name nullable es encoding y).0 ≤ 1 + length name + pairs + type_
with-small name nullable es encoding y pairs type_ p t =
    omega (arith, p, t, encoded-size encoding (extended (value_under name_key es) (value_under data_key es) y.0), extended-small (value_under name_key es) (value_under data_key es) y.0)

field-small : (read : Spot → Option Read) (cost : Spot → ℕ) → ReadsSmall read cost → (t : Spot) (x : Read) → field_from read t ≡ Some x
    → field_size x.0 ≤ 1 + (own_cost t + typed_cost cost t (present (field_type t)))
unfolding field_from
field-small read cost small t x e =
    let (name, name_is, e1) = given-some (present (field_name t)) _ x e in
    let (nullable, nullable_is, e2) = given-some (made (field_nullable t)) _ x e1 in
    let (metadata, metadata_is, e3) = given-some (made (field_custom_metadata t)) _ x e2 in
    let (es, es_is, e4) = given-some (pairs_at metadata) _ x e3 in
    let (keys, keys_is, e5) = given-some (made (field_dictionary t)) _ x e4 in
    let (encoding, encoding_is, e6) = given-some (optional_encoding keys) _ x e5 in
    let (type_, type_is, e7) = given-some (present (field_type t)) _ x e6 in
    let (y, y_is, x_is) = map-some (field_with name nullable es encoding) (type_of_field read t type_) x e7 in
    let size = ap (λ (x : Read). field_size x.0) x_is in
    let named = ap text_size name_is in
    let paired = ap (λ (o : Option Vector). vector_cost pair_cost o) (present-made (field_custom_metadata t) metadata metadata_is) in
    let typed = ap (λ (o : Option (ℕ × Spot)). typed_cost cost t o) type_is in
    let all = with-small name nullable es encoding y (vector_cost pair_cost metadata) (type_cost type_ + children_cost cost type_.0 (present (field_children t)))
    (pairs-texts metadata es es_is) (type-small read cost small t type_ y y_is) in
    omega (arith, size, named, paired, typed, all)

levels-small : (n : ℕ) → ReadsSmall (λ t. field_at n t) (λ t. field_cost n t)
unfolding field_at field_cost ReadsSmall
levels-small zero t x e = cc
levels-small (suc n) t x e = field-small (λ s. field_at n s) (λ s. field_cost n s) (levels-small n) t x e

-- ---- schemas

with-size : (most : ℕ) (order : Endianness) (es : Pairs) (all : ReadAll) (s : Schema) → schema_with most order es all ≡ Some s → schema_size s ≡ fields_size all.0 + pairs_size es
with-size most order es all s e = at (nat_le (fields_count all.0) most) e
  where
    at : (b : Bool) → cond b (Some (record { fields = all.0; metadata = es; ids = all.1; order = order })) None ≡ Some s → schema_size s ≡ fields_size all.0 + pairs_size es
    at true e =
        let same : ◌≡◌ {A = Schema} (record { fields = all.0; metadata = es; ids = all.1; order = order }) s = cc in
        ap (λ (s : Schema). schema_size s) (sym same)
    at false e = cc

pub table-small : (t : Spot) (s : Schema) → schema_at t ≡ Some s → schema_size s ≤ schema_table_cost t
unfolding schema_at
table-small t s e =
    let (order, order_is, e1) = given-some (made (schema_endianness t)) _ s e in
    let (metadata, metadata_is, e2) = given-some (made (schema_custom_metadata t)) _ s e1 in
    let (es, es_is, e3) = given-some (pairs_at metadata) _ s e2 in
    let (v, v_is, e4) = given-some (present (schema_fields t)) _ s e3 in
    let (all, all_is, e5) = given-some (fields_from (λ u. field_at most_levels u) v 0 v.count) _ s e4 in
    let size = with-size (length t.message) (order_of order) es all s e5 in
    let paired = ap (λ (o : Option Vector). vector_cost pair_cost o) (present-made (schema_custom_metadata t) metadata metadata_is) in
    let pairs = pairs-cost metadata es es_is in
    let there = ap (λ (o : Option Vector). vector_cost (λ u. field_cost most_levels u) o) v_is in
    let fields = fields-small (λ u. field_at most_levels u) (λ u. field_cost most_levels u) (levels-small most_levels) v 0 v.count all all_is in
    omega (arith, size, paired, pairs, there, fields)

message-small : (m : List ℕ) (s : Schema) → schema_of m ≡ Some s → schema_size s ≤ schema_cost m
unfolding schema_of schema_cost
message-small m s e =
    let (t, t_is, e1) = given-some (made (root_at m)) _ s e in
    let (h, h_is, e2) = given-some (present (message_header t)) _ s e1 in
    let led : given (made (root_at m)) (λ t. present (message_header t)) ≡ Some h = ap (λ (o : Option Spot). given o (λ t. present (message_header t))) t_is ∙ h_is in
    subst (λ (o : Option (ℕ × Spot)). schema_size s ≤ header_cost o) (sym led) (at h.1 (nat_eq h.0 1) e2)
  where
    at : (t : Spot) (b : Bool) → cond b (schema_at t) None ≡ Some s → schema_size s ≤ cond b (schema_table_cost t) 0
    at t true e = table-small t s e
    at t false e = cc

-- ---- visits

mutual
  field-counted : (f : FieldTree) → field_count f ≤ field_size f
  field-counted (field name t nullable es) = omega (arith, type-counted t)

  type-counted : (t : TypeTree) → inner_count t ≤ type_size t
  type-counted (plain p) = omega arith
  type-counted (single s f) = field-counted f
  type-counted (group g fs) = omega (arith, fields-counted fs)
  type-counted (dictionary keys t ordered) = type-counted t
  type-counted (extension name t text) = omega (arith, type-counted t)

  pub fields-counted : (fs : FieldTrees) → fields_count fs ≤ fields_size fs
  fields-counted no_fields = omega arith
  fields-counted (more_fields f fs) = omega (arith, field-counted f, fields-counted fs)

-- ---- what a message costs bounds what is read

pub size_within : (m : List ℕ) → IfSome (schema_of m) (λ s. schema_size s ≤ schema_cost m)
size_within m = if-some (schema_of m) (λ s. schema_size s ≤ schema_cost m) (λ s is. message-small m s is)

pub visits_within : (m : List ℕ) → IfSome (schema_of m) (λ s. visits s ≤ schema_cost m)
visits_within m = if-some (schema_of m) (λ s. visits s ≤ schema_cost m) (λ s is. omega (arith, fields-counted s.fields, message-small m s is))

pub ruleset bounds = (size_within, visits_within)
