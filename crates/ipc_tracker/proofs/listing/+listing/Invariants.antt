use Rattle.std.proofs.Common.{◌*◌, ◌+◌, map}
use Rattle.ipc_devices.specs.declared.fault.Fault.{Fault}
use Rattle.lower_arrays.specs.AnyLayouts.{layout_of}
use Rattle.lower_arrays.specs.Layouts.{height, heights, layouts}
use Rattle.ipc_base.specs.IdTrees.{all_ids_view}
use Rattle.ipc_tracker.specs.Listings.{Seen, seen, Listed, Refuses}
use Rattle.ipc_tracker.specs.Places.{keyed_of}
use Rattle.ipc_tracker.specs.Trackers.{remembered}
use Rattle.ipc_tracker.proofs.Columns.{keyed_from}
use Rattle.ipc_tracker.proofs.listing.+listing.Given as goal

abbrev pub decreases-list_all : goal.decreases-list_all
decreases-list_all l = 2 * heights (layouts (map layout_of l.arrays.now))

abbrev pub decreases-list_field : goal.decreases-list_field
decreases-list_field l = 2 * height (layout_of l.array.now) + 1

-- What is left, visited from here on, is all that had to be visited;
-- and what refuses it refuses all.
abbrev pub invariant-list_all-loop-i : goal.invariant-list_all-loop-i
invariant-list_all-loop-i l =
    ((z : Seen) → Listed (remembered l.tracker) l.tracker.cannot_replace (seen l.listing) z (keyed_from l.arrays l.ids l.i)
    → Listed (remembered l.tracker) l.tracker.cannot_replace (seen l.fn.listing) z (keyed_of (layouts (map layout_of l.arrays)) (all_ids_view l.ids)))
    × ((e : Fault) → Refuses (remembered l.tracker) l.tracker.cannot_replace (seen l.listing) (keyed_from l.arrays l.ids l.i) e
    → Refuses (remembered l.tracker) l.tracker.cannot_replace (seen l.fn.listing) (keyed_of (layouts (map layout_of l.arrays)) (all_ids_view l.ids)) e)
