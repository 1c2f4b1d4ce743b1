use Rattle.std.proofs.Common.{arith, sym, ◌∙◌}
use Rattle.lower.specs.TypeViews.{ids_of}
use Rattle.ipc_schema_write.proofs.Unions.{union_from, union_ids}
use Rattle.ipc_schema_write.proofs.writable.is_union.Goals as goal

pub returns : goal.returns
returns c =
    let some = c.if-count-eq0.false in
    let few = c.if-count-gt127.false in
    let same = c.has_ids.ensures in
    (λ h. union_from (ids_of c.args.type_ids.now) c.args.count (omega (arith, some)) (omega (arith, few)) (sym same ∙ h), λ h. same ∙ union_ids (ids_of c.args.type_ids.now) c.args.count h)
