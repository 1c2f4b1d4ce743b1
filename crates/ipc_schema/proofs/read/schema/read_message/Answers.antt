use Rattle.std.proofs.Common.{◌∙◌, ap, sym, Some, Ok, List, ℕ, length, arith}
use Rattle.std.specs.Option.{option_map}
use Rattle.ipc_table_views.specs.Tables.{map_ok}
use Rattle.ipc_table_views.specs.Unions.{header_parts}
use Rattle.ipc_model.proofs.Places.{root-message, header-message}
use Rattle.ipc_schema.proofs.Steps.{in_schema-ok}
use Rattle.ipc_schema.proofs.read.schema.read_message.Goals as goal

pub fb_to_schema-requires : goal.fb_to_schema-requires
fb_to_schema-requires c =
    let root = root-message c.args.message.now c.in_ok-root.root (sym c.read_as_root.ensures ∙ in_schema-ok _ _ c.in_ok-root.ensures) in
    let read = in_schema-ok _ _ c.in_ok-schema.ensures ∙ ap (λ o. Ok o) (c.in-Some-Schema.is ∙ ap (λ h. Some h) c.in-Some-Schema.field-0-is) in
    let header = header-message c.in_ok-root.root 1 c.in-Some-Schema.schema (sym c.header.ensures ∙ ap (λ r. map_ok (option_map header_parts) r) read) in
    omega (arith, c.requires, ap (λ (m : List ℕ). length m) (header ∙ root))

pub returns-in-Some-Schema-clause-within : goal.returns-in-Some-Schema-clause-within
returns-in-Some-Schema-clause-within c =
    let root = root-message c.args.message.now c.in_ok-root.root (sym c.read_as_root.ensures ∙ in_schema-ok _ _ c.in_ok-root.ensures) in
    let read = in_schema-ok _ _ c.in_ok-schema.ensures ∙ ap (λ o. Ok o) (c.in-Some-Schema.is ∙ ap (λ h. Some h) c.in-Some-Schema.field-0-is) in
    let header = header-message c.in_ok-root.root 1 c.in-Some-Schema.schema (sym c.header.ensures ∙ ap (λ r. map_ok (option_map header_parts) r) read) in
    let long = ap (λ (m : List ℕ). length m) (header ∙ root) in
    let within = c.fb_to_schema.ensures.within in
    (within.0, omega (arith, within, long))
