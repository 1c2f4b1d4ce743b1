use Rattle.std.proofs.Common.{rules, refl}
use Rattle.lower.specs.TypeViews.{fields_view, pairs_of}
use Rattle.ipc_base.specs.IdTrees.{all_ids_view}
use Rattle.ipc_file_write.proofs.Keeping.{new_keeps}
use Rattle.ipc_file_write.proofs.StartsAndEnds.{nothing_yet}
use Rattle.ipc_file_write.proofs.file.FileWriter.new.Goals as goal

pub invariant_of-result : goal.invariant_of-result
invariant_of-result g c = record {
  keeps = c.new-5.ensures.fixed;
  writable = new_keeps (fields_view c.args.schema.fields.items) (pairs_of c.args.schema.metadata.entries) (all_ids_view c.new.result.items) (pairs_of c.new-4.result.entries) (search rules);
}

pub returns-clause-made : goal.returns-clause-made
returns-clause-made g c = record {
  device = refl;
  state = refl;
  file = record { fields_are = refl; metadata_are = refl; chosen_are = refl; order_is = refl; pairs_are = search rules };
  content = nothing_yet g.W.Failures.device _ refl c.new-5.ensures.empty c.new-2.ensures.items c.new-3.ensures.items refl;
}
