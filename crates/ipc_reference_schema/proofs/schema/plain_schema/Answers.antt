use Rattle.std.proofs.Common.{◌∙◌, ap, sym, Some, Ok}
use Rattle.std.specs.Option.{option_map}
use Rattle.ipc_table_views.specs.Tables.{map_ok}
use Rattle.ipc_table_views.specs.Unions.{header_parts}
use Rattle.ipc_model.proofs.Places.{root-message, header-message}
use Rattle.ipc_reference_schema.proofs.schema.plain_schema.Goals as goal

pub schema_at-requires : goal.schema_at-requires
schema_at-requires c =
    let root = root-message c.args.message.now c.in-Ok.root (sym c.read_as_root.ensures ∙ c.in-Ok.is) in
    let read = c.in-Ok-Some-Schema.is ∙ ap (λ o. Ok o) (c.in-Ok-Some-Schema.field-0-is ∙ ap (λ h. Some h) c.in-Ok-Some-Schema.field-0-0-is) in
    let header = header-message c.in-Ok.root 1 c.in-Ok-Some-Schema.schema (sym c.header.ensures ∙ ap (λ r. map_ok (option_map header_parts) r) read) in
    sym (header ∙ root)
