use Rattle.std.proofs.Common.{◌≡◌, ◌+◌, ◌∷◌, [], ◌++◌, arith, take, sym, ap, ◌∙◌}
use Rattle.std.proofs.lemmas.List.{take_all, take_more}
use Rattle.ipc_file_write.specs.FileWriters.{seen}
use Rattle.ipc_sessions.proofs.Writes.{takes_all, written_more}
use Rattle.ipc_sessions.proofs.sessions.write_chunks.Goals as goal

pub loop-chunk-preserved : goal.loop-chunk-preserved
loop-chunk-preserved g c =
    let chunks = c.args.chunks.now in
    let i = c.loop-chunk.chunk-index in
    let chunk = c.chunk-item.result in
    let next : take (i + 1) chunks ≡ take i chunks ++ chunk ∷ [] =
    take_more chunks i chunk c.loop-chunk-test.true ∙ sym (ap (λ x. take i chunks ++ x ∷ []) c.chunk-item.is) in
    let inv = c.loop-chunk.invariant in
    rw (next, c.push_reserved.ensures.items)
    (written_more _ _ _ _ (take i chunks) c.loop-chunk.answers.items chunk c.write_chunk.result inv.0 c.write_chunk.ensures, omega (arith, c.push_reserved.ensures.len, inv.1), omega (arith, c.push_reserved.ensures.capacity, inv.2))

pub push_reserved-requires : goal.push_reserved-requires
push_reserved-requires g c = omega (arith, c.loop-chunk.invariant.1, c.loop-chunk.invariant.2, c.loop-chunk-test.true)

pub returns-clause-made : goal.returns-clause-made
returns-clause-made g c = rw (take_all c.loop-chunk.chunk-index c.args.chunks.now c.loop-chunk-test.false) at c.loop-chunk.invariant.0

pub returns-clause-takes : goal.returns-clause-takes
returns-clause-takes g c = takes_all g.W.Failures.device (seen c.args.writer.now) (seen c.loop-chunk.writer) c.args.chunks.now c.loop-chunk.answers.items (returns-clause-made g c)
