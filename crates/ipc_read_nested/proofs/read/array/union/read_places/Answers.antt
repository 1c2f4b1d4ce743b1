use Rattle.std.proofs.Common.{arith, rules, refl, ◌≡◌, ◌∙◌}
use Rattle.std.specs.Int.{w32}
use Rattle.lower_types.specs.Numbers.{signed_in}
use Rattle.lower_types.specs.NumberLaws.{signed_in-first}
use Rattle.lower_types.specs.declared.PrimitiveType.TheVariants.{Int32}
use Rattle.ipc_model.specs.ReadArrays.{integers_of}
use Rattle.ipc_read_flat.specs.Bodies.{entries}
use Rattle.ipc_read_nested.proofs.UnionReads.{integers_are}
use Rattle.ipc_read_nested.proofs.read.array.union.read_places.Goals as goal

pub returns-clause-memory : goal.returns-clause-memory
returns-clause-memory g c = λ k.
    let s = entries g.R.Failures.device c.args.body.now in
    let n = c.args.count in
    let v = c.in_ok-places.places.items in
    let read = c.in_ok-places.ensures.memory k in
    let all : v ≡ integers_of s c.args.index Int32 n =
    integers_are g.R.Failures.device c.args.body.now Int32 (signed_in w32) 4 c.args.index n v (λ order ys. refl) (signed_in-first w32) refl (omega arith) read.0.2 read.1
    in
    let held : c.in_ok-new.field-0 ≡ v = search rules in
    (read.0, held ∙ all)
