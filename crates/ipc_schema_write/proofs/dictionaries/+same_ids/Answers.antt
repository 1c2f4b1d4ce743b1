use Rattle.std.proofs.Common.{rules, ◌≡◌}
use Rattle.ipc_base.specs.declared.ipc.IpcField.{out-IpcField}
use Rattle.ipc_base.proofs.IdLists.{view-ids}
use Rattle.ipc_schema_write.proofs.SameIds.{same_length, same_children, same_ids}
use Rattle.ipc_schema_write.proofs.dictionaries.+same_ids.Goals as goal

pub are_same_ids-returns-then-a-b : goal.are_same_ids-returns-then-a-b
are_same_ids-returns-then-a-b t c = (λ h. absurd cc, λ h. absurd (c.if-a-b.true (same_length c.args.a.now c.args.b.now h)))

pub is_same_id-returns-then-eq : goal.is_same_id-returns-then-eq
is_same_id-returns-then-eq t c =
    let same = c.are_same_ids.ensures in
    let id : (out-IpcField c.args.a.now).dictionary_id ≡ (out-IpcField c.args.b.now).dictionary_id = search rules in
    rw (view-ids c.args.a.now, view-ids c.args.b.now, ← c.deref.ensures.value, ← c.deref-then-eq.ensures.value)
    (λ h. same_ids _ _ _ _ id (same.0 h), λ h. same.1 (same_children _ _ _ _ h))
