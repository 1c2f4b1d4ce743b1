-- What a column of keys has apart from the values that they name.
-- (Arrow columnar format, "Dictionary-encoded Layout".)
use Rattle.std.specs.Prelude.{ℕ, ◌+◌}
use Rattle.lower.specs.Physical.{integer}
use Rattle.lower.specs.TypeTrees.{plain}
use Rattle.lower.specs.declared.datatypes.IntegerType.{IntegerType}
use Rattle.lower_validation.specs.Keys.{KeysSeen}
use Rattle.ipc_model.specs.Entries.{Entries}
use Rattle.ipc_model.specs.ReadArrays.{validity_of, integers_of}
use Rattle.ipc_model.specs.TypeKinds.{key_form}

-- The keys of the k slots of the column at node a and buffer b.
abbrev pub keys_at : Entries → IntegerType → ℕ → ℕ → ℕ → KeysSeen
keys_at s key a b k = record {
  key = key;
  type = plain (integer key);
  integers = integers_of s (b + 1) (key_form key) k;
  validity = validity_of s a b k;
}
