use Rattle.std.proofs.Common.{rules}
use Rattle.std.proofs.lemmas.Result.{err_from_is_err_and}
use Rattle.ipc_programs.proofs.cat.output.Output.flush.Goals as goal

pub returns-in_err-flush : goal.returns-in_err-flush
returns-in_err-flush g c =
    let w = c.in_err-flush.ensures in
    let e = err_from_is_err_and c.from_residual.result c.from_residual.ensures.1 in
    rw (e.1, e.2) (record {
      same = search rules;
      monotone = w.monotone;
      failed = w.failed;
      only = (_, w.answered);
      done = tt;
      memory_is = w.memory;
      flushed = tt;
      names = w.names;
    })
