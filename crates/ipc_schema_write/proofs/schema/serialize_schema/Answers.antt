use Rattle.std.proofs.Common.{◌≤◌, None, refl, sym, ◌∙◌, true≢false, arith}
use Rattle.std.proofs.lemmas.Result.{err_from_is_err_and}
use Rattle.lower.specs.Counts.{fields_levels}
use Rattle.lower.specs.TypeViews.{fields_view, pairs_of}
use Rattle.ipc_base.specs.IdTrees.{all_ids_view}
use Rattle.ipc_tables.specs.declared.schema.Schema.{Schema as SchemaTable}
use Rattle.ipc_schema_write.proofs.WrittenSchema.{refuses-schema, table-written, writable}
use Rattle.ipc_schema_write.proofs.schema.serialize_schema.Goals as goal

pub returns-in_err-check_writable : goal.returns-in_err-check_writable
returns-in_err-check_writable c =
    let s = c.args.schema.now in
    let p = err_from_is_err_and c.from_residual.result c.from_residual.ensures.1 in
    rw (p.1, p.2) (refuses-schema c.in_err-check_writable.field-0.0 (fields_view s.fields.items) (pairs_of s.metadata.entries) (all_ids_view c.args.ipc_fields.now) (rw c.deref.ensures.value at c.in_err-check_writable.ensures.only))

pub returns-then-not-is_light : goal.returns-then-not-is_light
returns-then-not-is_light c =
    let s = c.args.schema.now in
    let ok = rw c.deref.ensures.value at c.in_ok-check_writable.ensures.ok in (
      ok.fits,
      λ w.
          let deep : fields_levels (fields_view s.fields.items) ≤ 64 = w.levels in
          let fields = rw c.deref-2.ensures.value at c.in_ok-fields.ensures in
          let t : SchemaTable = record { endianness = c.endianness.result; fields = c.in_ok-fields.fields; custom_metadata = c.in_ok-custom_metadata.custom_metadata; features = None } in
          let table = table-written t (fields_view s.fields.items) (pairs_of s.metadata.entries) (all_ids_view c.args.ipc_fields.now) _ c.endianness.ensures refl fields c.in_ok-custom_metadata.ensures.means deep in
          let weighs = table.weighs in
          let light = w.light in
          true≢false (sym (c.is_light.ensures.1 (omega (arith, weighs, light))) ∙ c.if-not-is_light.true),
    )

pub returns : goal.returns
returns c =
    let s = c.args.schema.now in
    let fs = fields_view s.fields.items in
    let ok = rw c.deref.ensures.value at c.in_ok-check_writable.ensures.ok in
    let deep : fields_levels fs ≤ 64 = ok.levels in
    let fields = rw c.deref-2.ensures.value at c.in_ok-fields.ensures in
    let t : SchemaTable = record { endianness = c.endianness.result; fields = c.in_ok-fields.fields; custom_metadata = c.in_ok-custom_metadata.custom_metadata; features = None } in
    let table = table-written t fs (pairs_of s.metadata.entries) (all_ids_view c.args.ipc_fields.now) _ c.endianness.ensures refl fields c.in_ok-custom_metadata.ensures.means deep in
    let weighs = table.weighs in
    let light = c.is_light.ensures.0 c.if-not-is_light.false in
    (writable fs (pairs_of s.metadata.entries) (all_ids_view c.args.ipc_fields.now) ok (omega (arith, weighs, light)), table)
