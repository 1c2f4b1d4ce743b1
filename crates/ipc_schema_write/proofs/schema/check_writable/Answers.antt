use Rattle.std.proofs.Common.{◌≡◌, ◌≤◌, length, ap, arith}
use Rattle.lower.specs.TypeViews.{fields_view}
use Rattle.ipc_base.specs.IdTrees.{all_ids_view}
use Rattle.ipc_model.specs.Batches.{places}
use Rattle.ipc_schema_write.specs.Places.{place_view, places_view}
use Rattle.ipc_schema_write.proofs.PlaceAgreement.{length-map}
use Rattle.ipc_schema_write.proofs.schema.check_writable.Goals as goal

pub returns-clause-ok : goal.returns-clause-ok
returns-clause-ok c =
    let fs = fields_view c.args.fields.now in
    let is = all_ids_view c.args.ipc_fields.now in
    let all = c.add_places.new.all.items in
    let gathered : places_view all ≡ places fs is = rw c.new-places.ensures.items at c.in_ok-add_places.ensures in
    let long : length (places_view all) ≡ length (places fs is) = ap length gathered in
    let few : length (places fs is) ≤ 65536 = omega (arith, long, length-map place_view all, c.len.ensures, c.if-len-gt-MAX_PLACES.false) in
    record {
      fits = c.fits.ensures.0 c.if-not-fits.false;
      types = c.are_writable.ensures.0 c.if-not-are_writable.false;
      levels = c.is_within_levels.ensures.0 c.if-not-is_within_levels.false;
      few_places = few;
      values = (rw (c.deref.ensures.value, gathered) at c.in_ok-agree.ensures).0 c.if-not-branch.false;
    }
