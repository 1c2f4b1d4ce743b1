use Rattle.std.proofs.Common.{◌≡◌, ◌≤◌, arith, sym, ◌∙◌, true≢false}
use Rattle.std.proofs.lemmas.Bool.Decides.{nat_tests}
use Rattle.lower.specs.TypeViews.{fields_view}
use Rattle.ipc_model.specs.Writable.{field_number}
use Rattle.ipc_schema_write.proofs.Unions.{number_view, view-Struct, view-Union}
use Rattle.ipc_schema_write.proofs.writable.+writable.Goals as goal

pub is_writable_type-returns-then-len-ge1 : goal.is_writable_type-returns-then-len-ge1
is_writable_type-returns-then-len-ge1 t c =
    let fs = c.in-Struct.fields in
    let number = number_view fs.items in
    let long = c.if-len-ge1.true in
    let some : 1 ≤ field_number (fields_view fs.items) = omega (arith, number, c.len.ensures, long) in
    let same = rw c.deref-then-len-ge1.ensures.value at c.are_writable.ensures in
    rw (c.in-Struct.is, view-Struct fs) (λ h. (some, same.0 h), λ h. same.1 h.1)

pub is_writable_type-returns-else-len-ge1 : goal.is_writable_type-returns-else-len-ge1
is_writable_type-returns-else-len-ge1 t c =
    let fs = c.in-Struct.fields in
    let number = number_view fs.items in
    let long = c.if-len-ge1.false in
    rw (c.in-Struct.is, view-Struct fs) (λ h. absurd (grind (arith, nat_tests)), λ h. let some = h.0 in absurd (omega (arith, number, c.len.ensures, long, some)))

pub is_writable_type-returns-then-is_union : goal.is_writable_type-returns-then-is_union
is_writable_type-returns-then-is_union t c =
    let fs = c.in-Union.fields in
    let count : c.len-in-Union.result ≡ field_number (fields_view fs.items) = (let number = number_view fs.items in let long = c.len-in-Union.ensures in omega (arith, number, long)) in
    let fit = rw count at c.is_union.ensures in
    let same = rw c.deref-then-is_union.ensures.value at c.are_writable-then-is_union.ensures in
    rw (c.in-Union.is, view-Union fs c.in-Union.type_ids c.in-Union.field-2) (λ h. (fit.0 c.if-is_union.true, same.0 h), λ h. same.1 h.1)

pub is_writable_type-returns-else-is_union : goal.is_writable_type-returns-else-is_union
is_writable_type-returns-else-is_union t c =
    let fs = c.in-Union.fields in
    let count : c.len-in-Union.result ≡ field_number (fields_view fs.items) = (let number = number_view fs.items in let long = c.len-in-Union.ensures in omega (arith, number, long)) in
    let fit = rw count at c.is_union.ensures in
    rw (c.in-Union.is, view-Union fs c.in-Union.type_ids c.in-Union.field-2) (λ h. absurd (true≢false (sym h ∙ c.if-is_union.false)), λ h. fit.1 h.0)
