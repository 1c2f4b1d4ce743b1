use Rattle.std.proofs.Common.{rules, ◌≡◌, Err, map}
use Rattle.lower_arrays.specs.AnyLayouts.{layout_of}
use Rattle.lower_arrays.specs.Layouts.{layouts}
use Rattle.ipc_base.specs.IdTrees.{all_ids_view}
use Rattle.ipc_tracker.specs.Trackers.{remembered}
use Rattle.ipc_chunks.proofs.DictionaryLengths.{all_have, lengths_refused}
use Rattle.ipc_chunks.proofs.messages.list_messages.Goals as goal

pub returns-clause-lengths : goal.returns-clause-lengths
returns-clause-lengths c = all_have (layouts (map layout_of c.args.columns.now)) (all_ids_view c.args.ids.now) c.in_ok-check_dictionaries.ensures

pub returns-in_err-check_dictionaries-clause-refused : goal.returns-in_err-check_dictionaries-clause-refused
returns-in_err-check_dictionaries-clause-refused c =
    let fault = c.in_err-check_dictionaries.field-0.0 in
    let e : c.from_residual-in_err-check_dictionaries.result ≡ Err fault = search rules in
    rw e
    (lengths_refused (remembered c.args.tracker.now) c.args.tracker.now.cannot_replace (map layout_of c.args.columns.now) (all_ids_view c.args.ids.now) _ fault c.in_ok-list.ensures.lists
    c.in_err-check_dictionaries.ensures)
