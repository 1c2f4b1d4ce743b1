use Rattle.std.proofs.Common.{arith, rules, refl, ◌≡◌, ℕ, ◌*◌, subst, ◌∙◌}
use Rattle.lower_types.specs.Numbers.{signed_byte_in}
use Rattle.lower_types.specs.NumberLaws.{signed_byte_in-first}
use Rattle.lower_types.specs.declared.PrimitiveType.TheVariants.{Int8}
use Rattle.ipc_model.specs.Entries.{Need}
use Rattle.ipc_model.specs.ReadArrays.{integers_of}
use Rattle.ipc_read_flat.specs.Bodies.{entries}
use Rattle.ipc_read_nested.proofs.UnionReads.{integers_are}
use Rattle.ipc_read_nested.proofs.read.array.union.fetch_types.Goals as goal

pub returns-clause-memory : goal.returns-clause-memory
returns-clause-memory g c = λ k.
    let s = entries g.R.Failures.device c.args.body.now in
    let n = c.args.count in
    let v = c.in_ok-types.types.items in
    let read = c.in_ok-types.ensures.memory k in
    let all : v ≡ integers_of s c.args.index Int8 n =
    integers_are g.R.Failures.device c.args.body.now Int8 signed_byte_in 1 c.args.index n v (λ order ys. refl) signed_byte_in-first refl (omega arith) read.0.2 read.1
    in
    let held : c.in_ok-new.field-0 ≡ v = search rules in
    (let e : 1 * n ≡ n = omega arith in subst (λ (m : ℕ). Need s c.args.index m) e read.0, held ∙ all)
