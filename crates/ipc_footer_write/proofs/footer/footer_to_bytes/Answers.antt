use Rattle.lower.specs.TypeViews.{fields_view, pairs_of}
use Rattle.ipc_base.specs.IdTrees.{all_ids_view}
use Rattle.ipc_schema_write.specs.WriterAnswers.{byte_order}
use Rattle.ipc_footer_write.proofs.FooterAnswers.{footer-answers}
use Rattle.ipc_footer_write.proofs.footer.footer_to_bytes.Goals as goal

pub returns : goal.returns
returns c =
    let s = c.args.schema.now in
    let table = c.in_ok-table.ensures in
    footer-answers (byte_order c.args.is_little_endian) (fields_view s.fields.items) (pairs_of s.metadata.entries) (all_ids_view c.args.ipc_fields.now) (pairs_of c.args.custom_metadata.now.entries)
    c.args.dictionaries.now c.args.blocks.now c.in_ok-table.table c.in_ok-copied_blocks.field-0 c.in_ok-copied_blocks-2.field-0 c.in_ok-serialize_some.field-0 c.to_bytes.result
    table.0 table.1 (c.is_light.ensures.0 c.if-not-is_light.false) (c.are_few.ensures.0 c.if-not-are_few.false)
    c.in_ok-copied_blocks.ensures.same c.in_ok-copied_blocks.ensures.fit c.in_ok-copied_blocks-2.ensures.same c.in_ok-copied_blocks-2.ensures.fit
    c.in_ok-serialize_some.ensures.all c.in_ok-serialize_some.ensures.ordered c.to_bytes.ensures.encodes
