-- What the table of a type says, before the children are read.
-- (Arrow columnar format, "Data Types"; the tables are those of Schema.fbs.)
use Rattle.std.specs.Prelude.{ℕ, if◌then◌else◌, Option}
use Rattle.std.specs.Option.{option_map}
use Rattle.lower.specs.TypeTrees as trees
use Rattle.lower.specs.TypeTrees.{int8, int16, int32, int64, uint8, uint16, uint32, uint64, utf8, list, structure}
use Rattle.lower.specs.declared.datatypes.IntegerType.TheVariants.{Int8, Int16, Int32, Int64, UInt8, UInt16, UInt32, UInt64}
use Rattle.ipc_table_views.specs.Spot.{Spot}
use Rattle.ipc_model.specs.Schemas.{is_single_tag, is_group_tag, plain_at, single_at, group_at}
use Rattle.ipc_reference_schema.specs.declared.shape.Leaf.{Leaf}
use Rattle.ipc_reference_schema.specs.declared.shape.Leaf.TheVariants.{Int, Utf8, OtherLeaf}
use Rattle.ipc_reference_schema.specs.declared.shape.Single.{Single}
use Rattle.ipc_reference_schema.specs.declared.shape.Single.TheVariants.{List, OtherSingle}
use Rattle.ipc_reference_schema.specs.declared.shape.Group.{Group}
use Rattle.ipc_reference_schema.specs.declared.shape.Group.TheVariants.{Struct, OtherGroup}
use Rattle.ipc_reference_schema.specs.declared.shape.Shape.{Shape}
use Rattle.ipc_reference_schema.specs.declared.shape.Shape.TheVariants as shapes

-- A type without children, with one, or with several.
pub data Form : Type 0 where
  leaf : trees.Plain → Form
  one : trees.Single → Form
  several : trees.Group → Form

-- The type that a tag and a table mean, without its children.
abbrev pub form_at : ℕ × Spot → Option Form
form_at type_ =
    if is_single_tag type_.0 then option_map one (single_at type_.0 type_.1)
    else if is_group_tag type_.0 then option_map several (group_at type_.0 type_.1)
    else option_map leaf (plain_at type_.0 type_.1)

-- A type without children, as the program has it.
abbrev pub leaf_of : trees.Plain → Leaf
leaf_of int8 = Int Int8
leaf_of int16 = Int Int16
leaf_of int32 = Int Int32
leaf_of int64 = Int Int64
leaf_of uint8 = Int UInt8
leaf_of uint16 = Int UInt16
leaf_of uint32 = Int UInt32
leaf_of uint64 = Int UInt64
leaf_of utf8 = Utf8
leaf_of _ = OtherLeaf

-- A type with one child, as the program has it.
abbrev pub single_of : trees.Single → Single
single_of list = List
single_of _ = OtherSingle

-- A type with several children, as the program has it.
abbrev pub group_of : trees.Group → Group
group_of structure = Struct
group_of _ = OtherGroup

-- A type without its children, as the program has it.
abbrev pub shape_of : Form → Shape
shape_of (leaf p) = shapes.Leaf (leaf_of p)
shape_of (one s) = shapes.Single (single_of s)
shape_of (several g) = shapes.Group (group_of g)
