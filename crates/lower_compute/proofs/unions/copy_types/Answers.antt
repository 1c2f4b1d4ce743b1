use Rattle.std.proofs.Common.{sym, subst}
use Rattle.std.specs.List.{All}
use Rattle.lower_compute.specs.Runs.{RunFits}
use Rattle.lower_compute.proofs.Steps.{lens_of}
use Rattle.lower_compute.proofs.unions.copy_types.Goals as goal

pub copy_items-requires : goal.copy_items-requires
copy_items-requires c =
    subst (λ ns. All (RunFits ns) c.args.runs.now) (sym (lens_of (λ xs. xs.now) (λ a. a.now.types) c.deref.result.now c.in_ok-types.types.items c.args.arrays.now c.deref.ensures.value c.in_ok-types.ensures)) c.requires
