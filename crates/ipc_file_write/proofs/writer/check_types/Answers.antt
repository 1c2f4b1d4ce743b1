use Rattle.std.proofs.Common.{rules, ◌≡◌, All, subst, length, List}
use Rattle.std.proofs.lemmas.List.{take_all}
use Rattle.std.proofs.lemmas.List.Elements.{All-more}
use Rattle.lower_arrays.specs.AnyLayouts.{layout_of}
use Rattle.lower_arrays.specs.Slots.{IsArray}
use Rattle.lower_arrays.specs.declared.array.AnyArray.{AnyArray}
use Rattle.ipc_write.specs.Writers.{HasType}
use Rattle.ipc_write.proofs.Acceptance.{types_more, types_rest}
use Rattle.ipc_file_write.specs.Writes.{field_normal}
use Rattle.ipc_file_write.proofs.writer.check_types.Goals as goal

pub loop-i-preserved : goal.loop-i-preserved
loop-i-preserved c =
    let xs = c.args.columns.now in
    let fs = c.args.fields.now in
    let i = c.loop-i.i in
    let x = c.index-columns-i.result in
    let f = c.index-fields-i.result in
    let before = c.loop-i.invariant in
    let both : length xs ≡ length fs = search rules in
    let has : HasType x (field_normal f) = search rules in
    record {
      left = λ rest. before.left (types_more field_normal xs fs i x f c.loop-i-test.true both c.index-columns-i.is c.index-fields-i.is has rest);
      all = λ h. types_rest field_normal xs fs i x f c.loop-i-test.true both c.index-columns-i.is c.index-fields-i.is (before.all h);
      arrays = All-more (λ array. IsArray (layout_of array)) xs i x c.loop-i-test.true before.arrays (rw c.index-columns-i.is at c.has_type.ensures.array);
    }

pub returns-clause-arrays : goal.returns-clause-arrays
returns-clause-arrays c =
    subst (λ (xs : List AnyArray). All (λ array. IsArray (layout_of array)) xs) (take_all c.loop-i.i c.args.columns.now c.loop-i-test.false) c.loop-i.invariant.arrays
