use Rattle.std.proofs.Common.{◌≡◌, Err, rules, to_z, of_z, w64}
use Rattle.lower_arrays.specs.AnyLayouts.{layout_of}
use Rattle.ipc_tracker.specs.Listings.{seen}
use Rattle.ipc_tracker.specs.Trackers.{remembered}
use Rattle.ipc_tracker.proofs.KeyedLists.{refuses_changed}
use Rattle.ipc_tracker.proofs.listing.Listing.add.Goals as goal

pub returns-in_err-changed-clause-refused : goal.returns-in_err-changed-clause-refused
returns-in_err-changed-clause-refused c =
    let e : c.from_residual.result ≡ Err c.in_err-changed.field-0.0 = search rules in
    let same : to_z w64 (of_z w64 c.args.id) ≡ c.args.id = search rules in
    rw e
    (refuses_changed (remembered c.args.tracker.now) c.args.tracker.now.cannot_replace (seen c.args.self.now) c.args.id (to_z w64 (of_z w64 c.args.id)) c.args.array.now.values (layout_of c.values-2.result.now)
    c.is_changed.result c.in_err-changed.field-0.0 same c.values-2.ensures.values c.in_err-changed.was c.is_changed.ensures.asks)
