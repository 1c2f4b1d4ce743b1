-- The weight of the metadata of a field in its normal form.
use Rattle.std.proofs.Common.{◌≡◌, ◌+◌, sym}
use Rattle.lower.specs.Normal.{extension_of, kept_pairs, norm_pairs}
use Rattle.lower.specs.TypeTrees.{Pairs, TypeTree}
use Rattle.ipc_model.specs.Writable.{pairs_weight}
use Rattle.ipc_schema_write.proofs.Pairs.{extension-weight, no_data, no_name}
use Rattle.ipc_schema_write.specs.Meanings.{extension_pairs}

-- the pairs that say no extension, and those that say the type's
pub norm-weight : (t : TypeTree) (es : Pairs) → pairs_weight (norm_pairs t es) ≡ pairs_weight (kept_pairs es) + pairs_weight (extension_pairs (extension_of t))
norm-weight t es = sym (extension-weight (extension_of t) (kept_pairs es) (no_name es) (no_data es))

pub ruleset normal = (norm-weight)
