-- The visits of a schema that is read.
use Rattle.std.proofs.Common.{◌≡◌, ℕ, ◌≤◌, nat_le, Bool, true, false, cond, None, Some, length, refl, subst}
use Rattle.std.proofs.lemmas.Bool.{leb-true}
use Rattle.ipc_table_views.specs.SchemaSlots.{schema_endianness, schema_fields, schema_custom_metadata}
use Rattle.lower.specs.TypeTrees.{Pairs}
use Rattle.lower_types.specs.declared.Endianness.{Endianness}
use Rattle.ipc_model.proofs.Given.{given-some}
use Rattle.ipc_model.specs.Batches.{Schema}
use Rattle.ipc_model.specs.Schemas.{made, present, order_of, ReadAll, pairs_at, fields_from, field_at, most_levels, fields_count, schema_with, schema_at}
use Rattle.ipc_model.specs.Visits.{visits, VisitLaw}

where_some : {X : Type 0} (b : Bool) (x y : X) → cond b (Some x) None ≡ Some y → (b ≡ true) × (x ≡ y)
where_some true x y e = let same : x ≡ y = cc in (refl, same)
where_some false x y e = absurd cc

few : (most : ℕ) (order : Endianness) (es : Pairs) (all : ReadAll) (schema : Schema) → schema_with most order es all ≡ Some schema → visits schema ≤ most
few most order es all schema e =
    let made = where_some (nat_le (fields_count all.0) most) (record { fields = all.0; metadata = es; ids = all.1; order = order }) schema e in
    subst (λ (s : Schema). visits s ≤ most) made.1 (leb-true (fields_count all.0) most made.0)

pub visit_law : VisitLaw
unfolding schema_at
visit_law t schema e =
    let order = given-some (made (schema_endianness t)) _ schema e in
    let v = given-some (made (schema_custom_metadata t)) _ schema order.2 in
    let es = given-some (pairs_at v.0) _ schema v.2 in
    let fields = given-some (present (schema_fields t)) _ schema es.2 in
    let all = given-some (fields_from (λ s. field_at most_levels s) fields.0 0 fields.0.count) _ schema fields.2 in
    few (length t.message) (order_of order.0) es.0 all.0 schema all.2
