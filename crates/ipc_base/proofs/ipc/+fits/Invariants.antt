use Rattle.std.proofs.Common.{◌≡◌, length, drop}
use Rattle.lower.specs.TypeViews.{fields_view}
use Rattle.ipc_base.specs.IdTrees.{all_ids_view}
use Rattle.ipc_base.specs.Fitting.{all_fit}
use Rattle.ipc_base.proofs.ipc.+fits.Given as goal

abbrev pub invariant-fits_all-loop-field : goal.invariant-fits_all-loop-field
invariant-fits_all-loop-field l =
    all_fit (fields_view (drop (length l.yielded) l.fields)) (all_ids_view (drop (length l.yielded) l.ipc_fields)) ≡ all_fit (fields_view l.fields) (all_ids_view l.ipc_fields)
