-- The weights of schemas, and the dictionary fields of schemas.
-- (Arrow columnar format, "Schema message"; the weight is this project's own.)
use Rattle.std.specs.Prelude.{◌≡◌, pos, true, false, [], ◌∷◌, codes, map, Some, None}
use Rattle.lower.specs.Normal.{data_key}
use Rattle.lower.specs.TypeTrees.{int32, boolean, timestamp, fixed_binary, list, structure, choice, plain, single, group, dictionary, extension, field, more_fields}
use Rattle.lower.specs.declared.datatypes.IntegerType.TheVariants.{Int8}
use Rattle.lower.specs.declared.datatypes.TimeUnit.TheVariants.{Second}
use Rattle.lower.specs.declared.datatypes.UnionMode.TheVariants.{Sparse}
use Rattle.ipc_model.specs.Batches.{Place, places}
use Rattle.ipc_model.specs.Writable.{weight, file_weight}
use Rattle.ipc_model.specs.Samples.{named, alone, two_dictionaries, their_ids}

-- The values of a dictionary and each child weigh too, and metadata as they are in the normal form;
-- so do the pairs of a file's footer.
pub record WeightRows : Type 0 where
  pub two_integers : weight
      (more_fields (named (plain int32) (codes "x")) (alone (named (plain int32) (codes "y")))) [] ≡ 2050
  pub a_longer_name : weight
      (more_fields (named (plain int32) (codes "xx")) (alone (named (plain int32) (codes "y")))) [] ≡ 2051
  pub an_extension : weight (alone (named (extension (codes "uuid") (plain (fixed_binary 16)) None) (codes "e"))) []
      ≡ 1625
  pub with_metadata : weight (alone (named (extension (codes "uuid") (plain (fixed_binary 16)) (Some (codes "m"))) (codes "e"))) []
      ≡ 1714
  pub a_timezone : weight (alone (named (plain (timestamp Second (Some (codes "UTC")))) (codes "t"))) [] ≡ 1540
  pub no_timezone : weight (alone (named (plain (timestamp Second None)) (codes "t"))) [] ≡ 1537
  pub union_ids :
      weight (alone (named (group (choice (Some (pos 5 ∷ pos 9 ∷ [])) Sparse)
      (more_fields (named (plain int32) (codes "a")) (alone (named (plain boolean) (codes "b")))))
      (codes "u"))) [] ≡ 2579
  pub no_union_ids :
      weight (alone (named (group (choice None Sparse)
      (more_fields (named (plain int32) (codes "a")) (alone (named (plain boolean) (codes "b")))))
      (codes "u"))) [] ≡ 2563
  pub dictionary_values : weight (alone (named (dictionary Int8 (plain (timestamp Second (Some (codes "UTC")))) false) (codes "d"))) [] ≡ 1540
  pub list_child : weight (alone (named (single list (named (plain int32) (codes "item"))) (codes "l"))) [] ≡ 2053
  pub struct_fields :
      weight (alone (named (group structure (more_fields (named (plain int32) (codes "a")) (alone (named (plain boolean) (codes "b"))))) (codes "s"))) [] ≡ 2563
  pub schema_metadata : weight (alone (named (plain int32) (codes "x"))) ((codes "k", codes "vw") ∷ []) ≡ 1604
  pub footer_pairs : file_weight (alone (named (plain int32) (codes "x"))) ((codes "k", codes "vw") ∷ []) ((codes "j", codes "v") ∷ []) ≡ 1670
  pub normal_metadata : weight (alone (field (codes "x") (plain int32) true ((data_key, codes "m") ∷ (codes "k", codes "v") ∷ []))) [] ≡ 1603

pub record PlaceRows : Type 0 where
  pub in_order : map (λ (p : Place). p.id) (places two_dictionaries their_ids)
      ≡ Some (pos 0) ∷ Some (pos 1) ∷ Some (pos 2) ∷ []
