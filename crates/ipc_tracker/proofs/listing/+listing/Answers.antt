use Rattle.std.proofs.Common.{arith, rules, ◌≡◌, Err}
use Rattle.lower_arrays.specs.AnyLayouts.{layout_of}
use Rattle.lower_arrays.proofs.Children.{height_at}
use Rattle.ipc_base.specs.IdTrees.{all_ids_view}
use Rattle.ipc_tracker.specs.Listings.{seen}
use Rattle.ipc_tracker.specs.Places.{keyed_below, own_keyed}
use Rattle.ipc_tracker.specs.Trackers.{remembered}
use Rattle.ipc_tracker.proofs.Columns.{IsColumn, all_more, all_done, refuses_here, refuses_later, field_listed, below_refused, field_refused}
use Rattle.ipc_tracker.proofs.listing.+listing.Goals as goal

pub list_all-list_field-requires : goal.list_all-list_field-requires
list_all-list_field-requires t c =
    (omega (arith, height_at c.args.arrays.now c.loop-i.i c.index-arrays-i.result c.loop-i-test.true c.index-arrays-i.is, c.decreases), tt)

pub list_all-loop-i-preserved : goal.list_all-loop-i-preserved
list_all-loop-i-preserved t c =
    let m = remembered c.args.tracker.now in
    let fixed = c.args.tracker.now.cannot_replace in
    let xs = c.args.arrays.now in
    let fs = c.args.ids.now in
    let i = c.loop-i.i in
    let a = seen c.loop-i.listing in
    let b = seen c.list_field.new.listing in
    let id = c.ids_at-id.result.0 in
    let is = all_ids_view c.ids_at-id.result.1.now in
    let at : IsColumn xs fs i c.index-arrays-i.result id is = record {
      within = c.loop-i-test.true;
      array = c.index-arrays-i.is;
      own = c.ids_at-id.ensures.own;
      inner = c.ids_at-id.ensures.inner;
    } in (
      λ z rest. c.loop-i.invariant.0 z (all_more m fixed a b z xs fs i c.index-arrays-i.result id is at c.in_ok-list_field.ensures.listed rest),
      λ e r. c.loop-i.invariant.1 e (refuses_later m fixed a b xs fs i c.index-arrays-i.result id is e at c.in_ok-list_field.ensures.listed r),
    )

pub list_all-returns-clause-listed : goal.list_all-returns-clause-listed
list_all-returns-clause-listed t c =
    c.loop-i.invariant.0 (seen c.loop-i.listing)
    (all_done (remembered c.args.tracker.now) c.args.tracker.now.cannot_replace (seen c.loop-i.listing) c.args.arrays.now c.args.ids.now c.loop-i.i c.loop-i-test.false)

pub list_all-returns-in_err-list_field-clause-refused : goal.list_all-returns-in_err-list_field-clause-refused
list_all-returns-in_err-list_field-clause-refused t c =
    let fault = c.in_err-list_field.field-0.0 in
    let is = all_ids_view c.ids_at-id.result.1.now in
    let at : IsColumn c.args.arrays.now c.args.ids.now c.loop-i.i c.index-arrays-i.result c.ids_at-id.result.0 is = record {
      within = c.loop-i-test.true;
      array = c.index-arrays-i.is;
      own = c.ids_at-id.ensures.own;
      inner = c.ids_at-id.ensures.inner;
    } in
    let e : c.from_residual.result ≡ Err fault = search rules in
    rw e
    (c.loop-i.invariant.1 fault
    (refuses_here (remembered c.args.tracker.now) c.args.tracker.now.cannot_replace (seen c.loop-i.listing) c.args.arrays.now c.args.ids.now c.loop-i.i c.index-arrays-i.result c.ids_at-id.result.0 is fault at
    c.in_err-list_field.ensures.refused))

pub list_field-returns-clause-listed : goal.list_field-returns-clause-listed
list_field-returns-clause-listed t c =
    let is = all_ids_view c.args.inner.now in
    let l = layout_of c.args.array.now in
    field_listed (remembered c.args.tracker.now) c.args.tracker.now.cannot_replace (seen c.args.listing.now) (seen c.list_all.new.listing) (seen c.list_own.new.listing) _ (keyed_below l is) (own_keyed l c.args.id)
    c.list_own.result (c.below.ensures.same is) c.in_ok-list_all.ensures.listed c.list_own.ensures.listed

pub list_field-returns-in_err-list_all-clause-refused : goal.list_field-returns-in_err-list_all-clause-refused
list_field-returns-in_err-list_all-clause-refused t c =
    let is = all_ids_view c.args.inner.now in
    let l = layout_of c.args.array.now in
    let fault = c.in_err-list_all.field-0.0 in
    let e : c.from_residual.result ≡ Err fault = search rules in
    rw e
    (below_refused (remembered c.args.tracker.now) c.args.tracker.now.cannot_replace (seen c.args.listing.now) _ (keyed_below l is) (own_keyed l c.args.id) fault
    (c.below.ensures.same is) c.in_err-list_all.ensures.refused)

pub list_field-returns-clause-refused : goal.list_field-returns-clause-refused
list_field-returns-clause-refused t c =
    let is = all_ids_view c.args.inner.now in
    let l = layout_of c.args.array.now in
    field_refused (remembered c.args.tracker.now) c.args.tracker.now.cannot_replace (seen c.args.listing.now) (seen c.list_all.new.listing) _ (keyed_below l is) (own_keyed l c.args.id)
    c.list_own.result (c.below.ensures.same is) c.in_ok-list_all.ensures.listed c.list_own.ensures.refused
