use Rattle.std.proofs.Common.{◌≡◌, ◌∙◌, ap, Err, rules, to_z, of_z, w64}
use Rattle.lower_arrays.specs.AnyLayouts.{layout_of}
use Rattle.ipc_tracker.specs.Trackers.{remembered}
use Rattle.ipc_tracker.proofs.Remembering.{inserted, refused, told_changed, told_replaced, told_same}
use Rattle.ipc_tracker.proofs.tracker.DictionaryTracker.insert_values.Goals as goal

pub returns-clause-inserted : goal.returns-clause-inserted
returns-clause-inserted c =
    let same : to_z w64 (of_z w64 c.args.id) ≡ c.args.id = search rules in
    inserted (remembered c.args.self.now) (remembered c.put.new.self) c.args.self.now.cannot_replace c.args.id (to_z w64 (of_z w64 c.args.id)) c.in_ok-changed.changed c.is_changed.result
    c.args.array.now.values (layout_of c.values.result.now) (layout_of c.in_ok-values.values.value)
    same c.values.ensures.values c.in_ok-values.ensures.values c.in_ok-changed.was c.if-not-changed.false c.is_changed.ensures.asks c.in_ok-put.ensures.put

pub returns-in_err-put-clause-inserted : goal.returns-in_err-put-clause-inserted
returns-in_err-put-clause-inserted c =
    let e : c.from_residual-in_err-put.result ≡ Err c.in_err-put.field-0.0 = search rules in
    let same : to_z w64 (of_z w64 c.args.id) ≡ c.args.id = search rules in
    refused (remembered c.args.self.now) (remembered c.put.new.self) c.args.self.now.cannot_replace c.args.id (to_z w64 (of_z w64 c.args.id)) c.in_ok-changed.changed c.is_changed.result _ c.args.array.now.values (layout_of c.values.result.now)
    same c.values.ensures.values c.in_ok-changed.was c.if-not-changed.false c.is_changed.ensures.asks (e ∙ ap Err c.in_err-put.ensures.only) c.in_err-put.ensures.kept

pub returns-in_err-values-clause-told : goal.returns-in_err-values-clause-told
returns-in_err-values-clause-told c =
    let same : to_z w64 (of_z w64 c.args.id) ≡ c.args.id = search rules in
    told_changed (remembered c.args.self.now) c.args.self.now.cannot_replace c.args.id (to_z w64 (of_z w64 c.args.id)) c.in_ok-changed.changed c.is_changed.result _ c.args.array.now.values (layout_of c.values.result.now)
    same c.values.ensures.values c.in_ok-changed.was c.if-not-changed.false c.is_changed.ensures.asks

pub returns-in_err-put-clause-told : goal.returns-in_err-put-clause-told
returns-in_err-put-clause-told c =
    let same : to_z w64 (of_z w64 c.args.id) ≡ c.args.id = search rules in
    told_changed (remembered c.args.self.now) c.args.self.now.cannot_replace c.args.id (to_z w64 (of_z w64 c.args.id)) c.in_ok-changed.changed c.is_changed.result _ c.args.array.now.values (layout_of c.values.result.now)
    same c.values.ensures.values c.in_ok-changed.was c.if-not-changed.false c.is_changed.ensures.asks

pub returns-clause-told : goal.returns-clause-told
returns-clause-told c =
    let same : to_z w64 (of_z w64 c.args.id) ≡ c.args.id = search rules in
    told_changed (remembered c.args.self.now) c.args.self.now.cannot_replace c.args.id (to_z w64 (of_z w64 c.args.id)) c.in_ok-changed.changed c.is_changed.result _ c.args.array.now.values (layout_of c.values.result.now)
    same c.values.ensures.values c.in_ok-changed.was c.if-not-changed.false c.is_changed.ensures.asks

pub returns-then-not-changed-clause-told : goal.returns-then-not-changed-clause-told
returns-then-not-changed-clause-told c =
    let same : to_z w64 (of_z w64 c.args.id) ≡ c.args.id = search rules in
    told_same (remembered c.args.self.now) c.args.self.now.cannot_replace c.args.id (to_z w64 (of_z w64 c.args.id)) c.in_ok-changed.changed c.is_changed.result _ c.args.array.now.values (layout_of c.values.result.now)
    same c.values.ensures.values c.in_ok-changed.was c.if-not-changed.true c.is_changed.ensures.asks

pub returns-in_err-changed-clause-told : goal.returns-in_err-changed-clause-told
returns-in_err-changed-clause-told c =
    let e : c.from_residual.result ≡ Err c.in_err-changed.field-0.0 = search rules in
    let same : to_z w64 (of_z w64 c.args.id) ≡ c.args.id = search rules in
    told_replaced (remembered c.args.self.now) c.args.self.now.cannot_replace c.args.id (to_z w64 (of_z w64 c.args.id)) _ c.in_err-changed.field-0.0 _ same e c.in_err-changed.ensures.only
