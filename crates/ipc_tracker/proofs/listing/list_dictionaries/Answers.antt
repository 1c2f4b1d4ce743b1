use Rattle.std.proofs.Common.{rules, ◌≡◌, map, Err}
use Rattle.lower_arrays.specs.AnyLayouts.{layout_of}
use Rattle.ipc_base.specs.IdTrees.{all_ids_view}
use Rattle.ipc_tracker.specs.Listings.{seen, listed}
use Rattle.ipc_tracker.specs.Trackers.{remembered}
use Rattle.ipc_tracker.proofs.Wholes.{lists_all, refuses_all}
use Rattle.ipc_tracker.proofs.listing.list_dictionaries.Goals as goal

pub returns-clause-lists : goal.returns-clause-lists
returns-clause-lists c =
    lists_all (remembered c.args.tracker.now) c.args.tracker.now.cannot_replace (seen c.new-listing.result) (seen c.list_columns.new.listing) (map layout_of c.args.columns.now) (all_ids_view c.args.ids.now)
    (map listed c.into_list.result.items) c.new-listing.ensures.met c.new-listing.ensures.list c.into_list.ensures c.in_ok-list_columns.ensures.listed

pub returns-in_err-list_columns-clause-refuses : goal.returns-in_err-list_columns-clause-refuses
returns-in_err-list_columns-clause-refuses c =
    let fault = c.in_err-list_columns.field-0.0 in
    let e : c.from_residual.result ≡ Err fault = search rules in
    rw e
    (refuses_all (remembered c.args.tracker.now) c.args.tracker.now.cannot_replace (seen c.new-listing.result) (map layout_of c.args.columns.now) (all_ids_view c.args.ids.now) fault c.new-listing.ensures.met
    c.in_err-list_columns.ensures.refused)
