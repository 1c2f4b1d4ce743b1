use Rattle.std.proofs.Common.{rules, ◌≡◌, Some, None, true≢false, sym, ◌∙◌, to_z, of_z, w64}
use Rattle.std.specs.HashMap.{get}
use Rattle.std.specs.Ordering.{int_eq}
use Rattle.ipc_schema_write.proofs.PlaceAgreement.{differs-seen, first-inside, first-seen, like-seen, seen-all}
use Rattle.ipc_schema_write.proofs.dictionaries.agree.Goals as goal
use Rattle.ipc_schema_write.proofs.dictionaries.agree.Goals.{in-Some+else-not-have_same_values, in_default+in_ok-insert}

pub offset_bounds-places-first : goal.offset_bounds-places-first
offset_bounds-places-first c =
    let p = c.index-places-i.result in
    let there : get int_eq c.loop-i.firsts p.id ≡ Some c.in-Some.first.now = search rules in
    let inside = first-inside c.args.places.now (get int_eq c.loop-i.firsts) c.loop-i.i p c.loop-i-test.true c.index-places-i.is c.loop-i.invariant c.in-Some.first.now there in
    search (rules, inside)

pub bounds-places-first : goal.bounds-places-first
bounds-places-first c =
    let p = c.index-places-i.result in
    let there : get int_eq c.loop-i.firsts p.id ≡ Some c.in-Some.first.now = search rules in
    first-inside c.args.places.now (get int_eq c.loop-i.firsts) c.loop-i.i p c.loop-i-test.true c.index-places-i.is c.loop-i.invariant c.in-Some.first.now there

pub returns-then-not-have_same_values : goal.returns-then-not-have_same_values
returns-then-not-have_same_values c =
    let p = c.index-places-i.result in
    let there : get int_eq c.loop-i.firsts p.id ≡ Some c.in-Some.first.now = search rules in (
      λ t. absurd (true≢false (sym t)),
      λ all. absurd (differs-seen c.args.places.now (get int_eq c.loop-i.firsts) c.loop-i.i p c.loop-i-test.true c.index-places-i.is c.loop-i.invariant c.in-Some.first.now there
          c.index-places-first.result c.index-places-first.is (λ like. true≢false (sym (c.have_same_values.ensures.1 like) ∙ c.if-not-have_same_values.true)) all),
    )

pub loop-i-preserved : goal.loop-i-preserved
loop-i-preserved c = elim c.match-get.branch [
  | in-Some+else-not-have_same_values w ↦
      (let p = c.index-places-i.result in
      let there : get int_eq c.loop-i.firsts p.id ≡ Some w.in-Some.first.now = search rules in
      rw w.firsts-is (like-seen c.args.places.now (get int_eq c.loop-i.firsts) c.loop-i.i p c.loop-i-test.true c.index-places-i.is c.loop-i.invariant w.in-Some.first.now there
      w.index-places-first.result w.index-places-first.is (w.have_same_values.ensures.0 w.if-not-have_same_values.false)))
  | in_default+in_ok-insert w ↦
      (let p = c.index-places-i.result in
      let none : get int_eq c.loop-i.firsts p.id ≡ None = search rules in
      let same : to_z w64 (of_z w64 w.id.result) ≡ w.id.result = search rules in
      let put = rw (same, w.id.ensures) at w.in_ok-insert.ensures.updates.0 in
      rw w.firsts-is (first-seen c.args.places.now (get int_eq c.loop-i.firsts) c.loop-i.i p c.loop-i-test.true c.index-places-i.is c.loop-i.invariant _ none put))
]

pub returns : goal.returns
returns c = (λ t. seen-all c.args.places.now (get int_eq c.loop-i.firsts) c.loop-i.i c.loop-i-test.false c.loop-i.invariant, λ all. search rules)
