use Rattle.std.proofs.Common.{◌≡◌, ℕ, ◌+◌, length, ap, subst, sym, ◌∙◌}
use Rattle.std.proofs.lemmas.List.FromFn.{length-map-range_with_len}
use Rattle.lower_types.specs.declared.PrimitiveType.TheVariants.{Int8}
use Rattle.ipc_model.specs.Entries.{IsSize, node, Need, rows, integer}
use Rattle.ipc_model.specs.ReadArrays.{integers_of}
use Rattle.ipc_read_flat.specs.Bodies.{entries}
use Rattle.ipc_read_flat.proofs.Fetches.{answers_through}
use Rattle.ipc_read_nested.proofs.read.array.union.read_types.Goals as goal

pub returns-clause-memory : goal.returns-clause-memory
returns-clause-memory g c = λ k.
    let s = entries g.R.Failures.device c.args.body.now in
    let a = c.args.place.node in
    let t = c.args.place.buffer + c.args.body.now.extra in
    let n = c.in_ok-node.node.rows in
    let told = c.in_ok-node.ensures.exact in
    let count : n ≡ rows s a c.args.limit = told.1.0 in
    answers_through c.fetch_types.result (Need s t n) (IsSize (node s a).length × Need s t (rows s a c.args.limit))
    (λ zs. zs ≡ integers_of s t Int8 n) (λ zs. (zs ≡ integers_of s t Int8 (rows s a c.args.limit)) × (length zs ≡ rows s a c.args.limit))
    (λ h. (told.0, subst (λ (m : ℕ). Need s t m) count h))
    (λ h. subst (λ (m : ℕ). Need s t m) (sym count) h.1)
    (λ zs e. (e ∙ ap (λ m. integers_of s t Int8 m) count, ap length e ∙ length-map-range_with_len (λ j. integer s t Int8 j) 0 n ∙ count))
    (c.fetch_types.ensures.memory k)
