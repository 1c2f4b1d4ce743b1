use Rattle.std.proofs.Common.{rules}
use Rattle.std.specs.Prelude.{string_bytes}
use Rattle.lower.specs.TypeViews.{pairs_of, type_view}
use Rattle.lower.specs.declared.datatypes.DataType.{the_lemmas}
use Rattle.ipc_base.specs.IdTrees.{all_ids_view}
use Rattle.ipc_base.specs.declared.ipc.IpcField.{out-IpcField}
use Rattle.ipc_schema_write.specs.Places.{places_view}
use Rattle.ipc_base.proofs.IdLists.{view-field, view-ids}
use Rattle.ipc_schema_write.proofs.PlaceLists.{field-more, next-inside}
use Rattle.ipc_schema_write.proofs.dictionaries.+places.Goals as goal

pub add_places_of-add_inner-requires : goal.add_places_of-add_inner-requires
add_places_of-add_inner-requires t c =
    (search (rules, the_lemmas), rw c.deref-2.ensures.value ((rw (view-field c.args.field.now, view-ids c.args.ipc_field.now) at c.requires.fit).1))

pub add_places_of-returns : goal.add_places_of-returns
add_places_of-returns t c =
    let f = c.args.field.now in
    let i = out-IpcField c.args.ipc_field.now in
    let own = rw c.deref.ensures.value at c.in_ok-add_own.ensures in
    let inner = rw c.deref-2.ensures.value at c.add_inner.ensures in
    rw (view-field f, view-ids c.args.ipc_field.now) (field-more (string_bytes f.name) (type_view f.data_type) f.is_nullable (pairs_of f.metadata.entries) i.dictionary_id (all_ids_view i.fields.items)
    (places_view c.args.all.now.items) _ c.add_inner.result (places_view c.add_inner.new.all.items) own inner)

pub add_places-bounds-ipc_fields-i : goal.add_places-bounds-ipc_fields-i
add_places-bounds-ipc_fields-i t c = next-inside _ c.args.fields.now c.args.ipc_fields.now c.loop-i.i _ c.index-fields-i.result c.loop-i-test.true c.index-fields-i.is c.loop-i.invariant
