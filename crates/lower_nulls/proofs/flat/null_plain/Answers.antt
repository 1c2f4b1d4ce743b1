use Rattle.std.proofs.Common.{sym, subst, ◌∙◌}
use Rattle.lower.specs.TypeViews.{type_view}
use Rattle.lower_nulls.specs.Storage.{IsSimpleLayout}
use Rattle.lower_nulls.proofs.Types.{stored_physical, plain_flat}
use Rattle.lower_nulls.proofs.flat.null_plain.Goals as goal

pub null_flat-requires : goal.null_flat-requires
null_flat-requires c =
    let t = type_view c.args.storage.now in
    record {
      lies = stored_physical (type_view c.args.data_type) t c.requires.stored ∙ sym c.to_physical_type-physical_type.ensures;
      flat = subst IsSimpleLayout (sym c.to_physical_type-physical_type.ensures) (plain_flat t c.requires.plain);
    }
