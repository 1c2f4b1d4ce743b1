-- Each case is computed.
use Rattle.std.proofs.Common.{◌≡◌, ℕ, ◌+◌, ℤ, pos, negsuc, Option, Some, None, refl, ap, arith}
use Rattle.ipc_base.specs.IdTrees.{IdTree, ids, IdTrees, no_ids, more_ids}
use Rattle.ipc_schema_write.specs.DefaultRows.{DefaultRows}

-- The id below the second field, and one more; 0 if there is none.
abbrev number_of : Option ℤ → ℕ
number_of None = 0
number_of (Some (pos n)) = n + 1
number_of (Some (negsuc n)) = 0

abbrev id_of : IdTree → Option ℤ
id_of (ids id is) = id

abbrev below : IdTree → IdTrees
below (ids id is) = is

abbrev first_of : IdTrees → IdTree
first_of no_ids = ids None no_ids
first_of (more_ids i is) = i

abbrev others_of : IdTrees → IdTrees
others_of no_ids = no_ids
others_of (more_ids i is) = is

abbrev inner_number : IdTrees → ℕ
inner_number is = number_of (id_of (first_of (below (first_of (others_of is)))))

pub default_rows : DefaultRows
default_rows = record {
  in_order = refl;
  three = refl;
  inner_again = λ e. let f : 3 ≡ 2 = ap inner_number e in absurd (omega arith);
  no_inner = λ e. let f : 3 ≡ 0 = ap inner_number e in absurd (omega arith);
  behind_texts = refl;
}
