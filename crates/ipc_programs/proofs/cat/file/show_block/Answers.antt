use Rattle.std.proofs.lemmas.Result.{err_from_is_err_and}
use Rattle.ipc_convert.proofs.Own.{own}
use Rattle.ipc_programs.proofs.PrintSteps.{all_prints, nothing_printed}
use Rattle.ipc_programs.proofs.cat.file.show_block.Goals as goal

pub returns-in_err-chunk-clause-broken : goal.returns-in_err-chunk-clause-broken
returns-in_err-chunk-clause-broken g c =
    let p = err_from_is_err_and c.from_residual.result c.from_residual.ensures.1 in
    rw (p.1, p.2) (own c.in_err-chunk.field-0.0 _ (λ it. (c.next.new.self, rw c.in_err-chunk.was at c.in-Some.ensures.steps)))

pub returns-in_default-clause-prints : goal.returns-in_default-clause-prints
returns-in_default-clause-prints g c = nothing_printed _

pub returns-clause-prints : goal.returns-clause-prints
returns-clause-prints g c = all_prints c.in_ok-send_chunk.ensures.all
