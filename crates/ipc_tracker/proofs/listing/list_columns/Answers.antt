use Rattle.ipc_base.specs.IdTrees.{all_ids_view}
use Rattle.ipc_tracker.specs.Listings.{seen}
use Rattle.ipc_tracker.specs.Trackers.{remembered}
use Rattle.ipc_tracker.proofs.Columns.{no_keys_listed}
use Rattle.ipc_tracker.proofs.listing.list_columns.Goals as goal

pub returns-then-are_flat-clause-listed : goal.returns-then-are_flat-clause-listed
returns-then-are_flat-clause-listed c =
    no_keys_listed (remembered c.args.tracker.now) c.args.tracker.now.cannot_replace (seen c.args.listing.now) c.args.columns.now (all_ids_view c.args.ids.now) (c.are_flat.ensures c.if-are_flat.true)
