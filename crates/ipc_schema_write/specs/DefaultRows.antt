-- Fields, and their default ids.
-- (Arrow columnar format, "Dictionary messages".)
use Rattle.std.specs.Prelude.{◌≡◌, ℤ, pos, codes, Option, Some, None}
use Rattle.lower.specs.TypeTrees.{plain, utf8, more_fields}
use Rattle.ipc_base.specs.IdTrees.{ids, IdTrees, no_ids, more_ids}
use Rattle.ipc_model.specs.Samples.{named, two_dictionaries, their_ids}
use Rattle.ipc_schema_write.specs.DefaultIds.{default_all, count_all}

-- The ids 0 and 1, and this one below the second.
abbrev pub with_inner : Option ℤ → IdTrees
with_inner id = more_ids (ids (Some (pos 0)) no_ids) (more_ids (ids (Some (pos 1)) (more_ids (ids id no_ids) no_ids)) no_ids)

-- A dictionary of texts, and one of lists whose items are a dictionary of bytes: 0,
-- 1, and below that 2, neither 1 again nor none. After a field that is no dictionary
-- they continue with the next one.
pub record DefaultRows : Type 0 where
  pub in_order : default_all 0 two_dictionaries ≡ their_ids
  pub three : count_all two_dictionaries ≡ 3
  pub inner_again : ¬ (default_all 0 two_dictionaries ≡ with_inner (Some (pos 1)))
  pub no_inner : ¬ (default_all 0 two_dictionaries ≡ with_inner None)
  pub behind_texts : default_all 0 (more_fields (named (plain utf8) (codes "t")) two_dictionaries) ≡ more_ids (ids None no_ids) their_ids
