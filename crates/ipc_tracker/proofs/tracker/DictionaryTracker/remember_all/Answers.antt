use Rattle.std.proofs.Common.{◌∙◌, ap, List, length, map, arith}
use Rattle.std.specs.Vec.Iter.{into_iter_items}
use Rattle.ipc_tracker.specs.Trackers.{remembered}
use Rattle.ipc_tracker.specs.Listings.{listed, remembering_all}
use Rattle.ipc_tracker.specs.declared.tracker.NewDictionary.{NewDictionary}
use Rattle.ipc_tracker.proofs.Remembering.{one_remembered}
use Rattle.ipc_tracker.proofs.tracker.DictionaryTracker.remember_all.Goals as goal

pub loop-dictionary-preserved : goal.loop-dictionary-preserved
loop-dictionary-preserved c =
    let now = c.loop-dictionary.invariant in
    let step = c.in-Some.ensures.steps in
    let count = ap (λ (xs : List NewDictionary). length xs) step.0 in (
      tt,
      tt,
      omega (arith, now.2, step.1, count),
      omega (arith, now.3, count, c.remember.ensures.room),
      one_remembered (remembering_all (map listed c.args.list.items) (remembered c.args.self.now)) (remembered c.loop-dictionary.self) (remembered c.remember.new.self)
          (into_iter_items c.loop-dictionary.dictionary-iterator) (into_iter_items c.next.new.self) c.in-Some.dictionary step.0 c.remember.ensures.memory now.4,
      c.remember.ensures.fixed ∙ now.5,
    )
