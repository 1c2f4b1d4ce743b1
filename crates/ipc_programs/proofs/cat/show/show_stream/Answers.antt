use Rattle.std.proofs.lemmas.Result.{err_from_is_err_and}
use Rattle.ipc_convert.proofs.Own.{own}
use Rattle.ipc_programs.specs.CatWords.{columns_by}
use Rattle.ipc_programs.proofs.PrintSteps.{nothing_printed, prints_then}
use Rattle.ipc_programs.proofs.Shown.{chunks_not_shown, chunks_shown}
use Rattle.ipc_programs.proofs.cat.show.show_stream.Goals as goal

pub returns-in_err-ending-clause-refused : goal.returns-in_err-ending-clause-refused
returns-in_err-ending-clause-refused g c =
    let p = err_from_is_err_and c.from_residual-in_err-ending.result c.from_residual-in_err-ending.ensures.1 in
    let e = c.in_err-ending.field-0.0 in
    rw (p.1, p.2) (own e _ (λ it. chunks_not_shown g.R.Reads.gives g.met.R.Reads.laws.in_order c.args.input (columns_by c.args.columns) c.in-Some.reader _ _
    g.R.Failures.device g.met.R.Reads.laws.ahead e (rw c.in-Some.is at c.in_ok-reader.ensures.opens) (it _ c.in_err-ending.ensures.stops)))

pub returns-clause-shown : goal.returns-clause-shown
returns-clause-shown g c = λ done.
    chunks_shown g.R.Reads.gives g.met.R.Reads.laws.in_order c.args.input (columns_by c.args.columns) c.in-Some.reader _ _ _ _ _
    (rw c.in-Some.is at c.in_ok-reader.ensures.opens) c.in_ok-ending.ensures.came

pub returns-clause-prints : goal.returns-clause-prints
returns-clause-prints g c = prints_then c.in_ok-put_schema.ensures.prints (prints_then c.in_ok-ending.ensures.prints c.in_ok-put_ending.ensures.prints)

pub returns-in_default-clause-prints : goal.returns-in_default-clause-prints
returns-in_default-clause-prints g c = nothing_printed _
