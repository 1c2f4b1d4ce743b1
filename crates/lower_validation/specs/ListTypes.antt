-- How lists are laid out.
-- (Arrow columnar format, "Variable-size List Layout" and "Fixed-Size List Layout".)
use Rattle.std.specs.Prelude.{ℕ, ◌-◌, List, length, slice_index}
use Rattle.lower.specs.TypeTrees.{fixed_list, TypeTree, single}
use Rattle.lower.specs.Physical.{logical}
use Rattle.lower_types.specs.declared.PrimitiveType.{PrimitiveType}
use Rattle.lower_types.specs.declared.PrimitiveType.TheVariants.{Int64}
use Rattle.lower.specs.declared.datatypes.physical_type.PhysicalType.{PhysicalType}
use Rattle.lower.specs.declared.datatypes.physical_type.PhysicalType.TheVariants as Physicals

-- The physical type of lists with offsets of the type p: the large form has offsets of 64 bits.
abbrev pub list_with : PrimitiveType → PhysicalType
list_with Int64 = Physicals.LargeList
list_with _ = Physicals.List

-- The offset where the last slot ends.
abbrev pub last_offset : List ℕ → ℕ
last_offset os = slice_index os (length os - 1)

-- How many slots the type gives each list; 0 if it isn't one of fixed-size lists.
abbrev pub named_list_size : TypeTree → ℕ
named_list_size (single (fixed_list n) _) = n
named_list_size _ = 0

-- How many slots a type, without its extensions, gives each list; 0 if it
-- isn't one of fixed-size lists.
abbrev pub list_size : TypeTree → ℕ
list_size t = named_list_size (logical t)
