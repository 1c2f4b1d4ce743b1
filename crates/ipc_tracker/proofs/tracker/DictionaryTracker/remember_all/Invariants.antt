use Rattle.std.proofs.Common.{◌≡◌, ◌≤◌, length, map}
use Rattle.std.specs.HashMap.{spare}
use Rattle.std.specs.Vec.Iter.{into_iter_items, into_iter_len}
use Rattle.ipc_tracker.specs.Trackers.{remembered, IsSameMemory}
use Rattle.ipc_tracker.specs.Listings.{listed, remembering_all}
use Rattle.ipc_tracker.proofs.tracker.DictionaryTracker.remember_all.Given as goal

-- What is left, remembered from here on, is all that had to be remembered.
abbrev pub invariant-loop-dictionary : goal.invariant-loop-dictionary
invariant-loop-dictionary l =
    (goal.iterator-loop-dictionary).can_next l.dictionary-iterator × (goal.iterator-loop-dictionary).is_finite l.dictionary-iterator
    × (into_iter_len l.dictionary-iterator ≡ length (into_iter_items l.dictionary-iterator))
    × (length (into_iter_items l.dictionary-iterator) ≤ spare l.self.dictionaries)
    × IsSameMemory (remembering_all (map listed l.fn.list.items) (remembered l.fn.self)) (remembering_all (map listed (into_iter_items l.dictionary-iterator)) (remembered l.self))
    × (l.self.cannot_replace ≡ l.fn.self.cannot_replace)
