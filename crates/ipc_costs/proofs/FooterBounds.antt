-- The metadata of a file are no larger than its footer costs.
use Rattle.std.proofs.Common.{◌≡◌, ℕ, ◌≤◌, List, Option, Some, ap, arith}
use Rattle.ipc_table_views.specs.FileSlots.{footer_custom_metadata, footer_dictionaries, footer_record_batches, footer_schema}
use Rattle.ipc_table_views.specs.Spot.{Spot, Vector}
use Rattle.ipc_table_views.specs.Tables.{root_at}
use Rattle.ipc_model.proofs.Given.{given-some, if-some, some-same}
use Rattle.ipc_model.specs.Files.{FileMetadata, footer_at}
use Rattle.ipc_model.specs.Schemas.{given, made, pairs_at, present, schema_at}
use Rattle.ipc_model.specs.Visits.{visits}
use Rattle.ipc_costs.specs.Costs.{footer_cost, footer_table_cost, optional_cost, pair_cost, schema_table_cost, vector_cost}
use Rattle.ipc_costs.specs.Sizes.{OfMetadata, metadata_size}
use Rattle.ipc_costs.proofs.Bounds.{fields-counted, table-small}
use Rattle.ipc_costs.proofs.PairWeights.{pairs-cost, present-made}

footer-table-small : (t : Spot) (size : ℕ) (m : FileMetadata) → footer_at size t ≡ Some m → metadata_size m ≤ footer_table_cost t
unfolding footer_at
footer-table-small t size m e =
    let (blocks, blocks_is, e1) = given-some (present (footer_record_batches t)) _ m e in
    let (s, s_is, e2) = given-some (present (footer_schema t)) _ m e1 in
    let (schema, schema_is, e3) = given-some (schema_at s) _ m e2 in
    let (ds, ds_is, e4) = given-some (made (footer_dictionaries t)) _ m e3 in
    let (v, v_is, e5) = given-some (made (footer_custom_metadata t)) _ m e4 in
    let (es, es_is, e6) = given-some (pairs_at v) _ m e5 in
    let same = ap (λ (m : FileMetadata). metadata_size m) (some-same _ m e6) in
    let paired = ap (λ (o : Option Vector). vector_cost pair_cost o) (present-made (footer_custom_metadata t) v v_is) in
    let there = ap (λ (o : Option Spot). optional_cost schema_table_cost o) s_is in
    omega (arith, same, paired, there, pairs-cost v es es_is, table-small s schema schema_is)

footer-small : (bytes : List ℕ) (size : ℕ) (m : FileMetadata) → given (made (root_at bytes)) (footer_at size) ≡ Some m → metadata_size m ≤ footer_cost bytes
unfolding footer_cost
footer-small bytes size m e =
    let (t, t_is, e1) = given-some (made (root_at bytes)) _ m e in
    let there = ap (λ (o : Option Spot). optional_cost footer_table_cost o) t_is in
    omega (arith, there, footer-table-small t size m e1)

-- ---- what a footer costs bounds what is read

pub footer_size_within : (bytes : List ℕ) → OfMetadata bytes (λ m. metadata_size m ≤ footer_cost bytes)
footer_size_within bytes = λ size.
    if-some (given (made (root_at bytes)) (footer_at size)) (λ m. metadata_size m ≤ footer_cost bytes) (λ m is. footer-small bytes size m is)

pub footer_visits_within : (bytes : List ℕ) → OfMetadata bytes (λ m. visits m.schema ≤ footer_cost bytes)
footer_visits_within bytes = λ size.
    if-some (given (made (root_at bytes)) (footer_at size)) (λ m. visits m.schema ≤ footer_cost bytes)
    (λ m is. omega (arith, fields-counted m.schema.fields, footer-small bytes size m is))

pub ruleset footer_bounds = (footer_size_within, footer_visits_within)
