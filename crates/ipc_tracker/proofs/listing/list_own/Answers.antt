use Rattle.std.proofs.Common.{◌≡◌, List, IfErr, rules, to_z, of_z, w64, subst}
use Rattle.ipc_tracker.specs.Listings.{seen, Refuses}
use Rattle.ipc_tracker.specs.Places.{Keyed}
use Rattle.ipc_tracker.specs.Trackers.{remembered}
use Rattle.ipc_tracker.proofs.OwnKeyed.{own_is}
use Rattle.ipc_tracker.proofs.listing.list_own.Goals as goal

pub returns-clause-refused : goal.returns-clause-refused
returns-clause-refused c =
    let same : to_z w64 (of_z w64 c.in-Some.id) ≡ c.in-Some.id = search rules in
    subst (λ (ks : List Keyed). IfErr c.add.result (Refuses (remembered c.args.tracker.now) c.args.tracker.now.cannot_replace (seen c.args.listing.now) ks))
    (own_is c.args.array.now c.in-Dictionary.array c.args.id c.in-Some.id (to_z w64 (of_z w64 c.in-Some.id)) c.in-Dictionary.is c.in-Some.is same) c.add.ensures.refused
