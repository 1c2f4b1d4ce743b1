use Rattle.std.proofs.lemmas.Result.{err_from_is_err_and}
use Rattle.ipc_programs.specs.CatWords.{columns_by}
use Rattle.ipc_programs.proofs.PrintSteps.{nothing_printed, prints_then}
use Rattle.ipc_programs.proofs.Shown.{blocks_not_shown, blocks_shown}
use Rattle.ipc_programs.proofs.cat.file.show_file.Goals as goal

pub returns-in_err-show_blocks-clause-refused : goal.returns-in_err-show_blocks-clause-refused
returns-in_err-show_blocks-clause-refused g c =
    let p = err_from_is_err_and c.from_residual-in_err-show_blocks.result c.from_residual-in_err-show_blocks.ensures.1 in
    rw (p.1, p.2) (blocks_not_shown g.F.Failures.device c.args.file (columns_by c.args.words.columns) c.args.words.limit g.met.F.Seeks.known_still
    c.in-Some.reader c.in_err-show_blocks.field-0.0 (rw c.in-Some.is at c.in_ok-reader.ensures.opens) c.in_err-show_blocks.ensures.broken)

pub returns-clause-shown : goal.returns-clause-shown
returns-clause-shown g c = λ done.
    blocks_shown g.F.Failures.device g.met.F.Seeks.known_still c.args.file (columns_by c.args.words.columns) c.args.words.limit
    c.in-Some.reader (rw c.in-Some.is at c.in_ok-reader.ensures.opens) c.in_ok-show_blocks.ensures.shown

pub returns-in_default-clause-prints : goal.returns-in_default-clause-prints
returns-in_default-clause-prints g c = nothing_printed _

pub returns-clause-prints : goal.returns-clause-prints
returns-clause-prints g c = prints_then c.in_ok-put_schema.ensures.prints (prints_then c.in_ok-show_blocks.ensures.prints c.in_ok-put.ensures.prints)
