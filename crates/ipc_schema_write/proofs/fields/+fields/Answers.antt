use Rattle.std.proofs.Common.{rules, refl}
use Rattle.std.specs.Prelude.{string_bytes}
use Rattle.lower.specs.declared.datatypes.DataType.{the_lemmas}
use Rattle.lower.specs.TypeViews.{pairs_of, type_view}
use Rattle.ipc_base.specs.IdTrees.{all_ids_view}
use Rattle.ipc_base.specs.declared.ipc.IpcField.{out-IpcField}
use Rattle.ipc_base.proofs.IdLists.{view-field, view-ids}
use Rattle.ipc_schema_write.proofs.FieldTables.{all-done, next-inside, table-made}
use Rattle.ipc_schema_write.proofs.fields.+fields.Goals as goal

pub serialize_field-serialize_children-requires : goal.serialize_field-serialize_children-requires
serialize_field-serialize_children-requires t c =
    (search (rules, the_lemmas), (rw (view-field c.args.field.now) at c.requires.writable, rw c.deref.ensures.value ((rw (view-field c.args.field.now, view-ids c.args.ipc_field.now) at c.requires.fit).1)))

pub serialize_field-returns : goal.serialize_field-returns
serialize_field-returns t c =
    let f = c.args.field.now in
    let i = out-IpcField c.args.ipc_field.now in
    let writable = rw (view-field f) at c.requires.writable in
    let fit = rw (view-field f, view-ids c.args.ipc_field.now) at c.requires.fit in
    let kids = rw c.deref.ensures.value at c.in_ok-children.ensures in
    rw (view-field f, view-ids c.args.ipc_field.now) (table-made _ (string_bytes f.name) (type_view f.data_type) f.is_nullable (pairs_of f.metadata.entries) i.dictionary_id (all_ids_view i.fields.items)
    c.in_ok-name.ensures.cases refl c.in_ok-type_.ensures kids c.serialize_encoding-dictionary.ensures c.in_ok-custom_metadata.ensures writable fit.0)

pub serialize_fields-bounds-ipc_fields-i : goal.serialize_fields-bounds-ipc_fields-i
serialize_fields-bounds-ipc_fields-i t c = next-inside c.loop-i.all.items c.args.fields.now c.args.ipc_fields.now c.loop-i.i c.index-fields-i.result c.loop-i-test.true c.index-fields-i.is c.loop-i.invariant

pub serialize_fields-returns : goal.serialize_fields-returns
serialize_fields-returns t c = all-done c.loop-i.all.items c.args.fields.now c.args.ipc_fields.now c.loop-i.i c.loop-i-test.false c.loop-i.invariant
