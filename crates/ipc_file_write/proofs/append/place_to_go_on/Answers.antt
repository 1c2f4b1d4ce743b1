use Rattle.std.proofs.Common.{rules, sym, ◌∙◌}
use Rattle.std.proofs.lemmas.Result.{err_from_is_err_and}
use Rattle.ipc_files.specs.Footers.{file_seen}
use Rattle.ipc_file_write.proofs.AppendEnds.{back_refused, front_refused, may_go, place_is, some_of}
use Rattle.ipc_file_write.proofs.append.place_to_go_on.Goals as goal

pub returns-in_err-dictionaries-clause-only : goal.returns-in_err-dictionaries-clause-only
returns-in_err-dictionaries-clause-only c =
    let p = err_from_is_err_and c.from_residual.result c.from_residual.ensures.1 in
    rw (p.1, p.2) (front_refused (file_seen c.args.metadata.now) c.dictionary_blocks.result.now c.in_err-dictionaries.field-0.0 (search rules) c.in_err-dictionaries.ensures.only)

pub returns-in_err-end-clause-only : goal.returns-in_err-end-clause-only
returns-in_err-end-clause-only c =
    let p = err_from_is_err_and c.from_residual-in_err-end.result c.from_residual-in_err-end.ensures.1 in
    rw (p.1, p.2) (back_refused (file_seen c.args.metadata.now) c.deref.result.now c.in_err-end.field-0.0 (search rules) c.in_err-end.ensures.only)

pub returns-clause-place : goal.returns-clause-place
returns-clause-place c =
    place_is (file_seen c.args.metadata.now) c.dictionary_blocks.result.now c.deref.result.now c.in_ok-dictionaries.dictionaries c.in_ok-end.end c.place_in.result (search rules) (search rules)
    c.in_ok-check_written.ensures.ok.short c.in_ok-dictionaries.ensures.ok c.in_ok-end.ensures.ok c.place_in.ensures

pub returns-clause-ok : goal.returns-clause-ok
returns-clause-ok c =
    may_go (file_seen c.args.metadata.now) c.dictionary_blocks.result.now c.deref.result.now (search rules) (search rules) (some_of c.args.metadata.now.blocks.items _ c.args.metadata.now.blocks.ok.0 (sym c.is_empty.ensures ∙ c.if-is_empty.false)) c.in_ok-dictionaries.ensures.natural c.in_ok-end.ensures.natural
    c.in_ok-check_written.ensures.ok
