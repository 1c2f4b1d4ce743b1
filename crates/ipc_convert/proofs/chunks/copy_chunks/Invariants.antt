use Rattle.ipc_convert.proofs.Handing.{HandedMany}
use Rattle.ipc_convert.specs.Chunks.{NoneFailed}
use Rattle.ipc_convert.proofs.chunks.copy_chunks.Given as goal

abbrev pub invariant-loop : goal.invariant-loop
invariant-loop g l = record {
  many : HandedMany g.S.Source.came g.T.Sink.took l.counter l.fn.source l.fn.sink l.source l.sink;
  done : NoneFailed g.S.Source.failures g.T.Sink.failures l.fn.source l.fn.sink l.source l.sink;
}
