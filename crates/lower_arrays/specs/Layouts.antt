-- The layout of an array: a tree of levels, one for the array and one for each child.
-- (Arrow columnar format, "Physical Memory Layout".)
use Rattle.std.specs.Prelude.{ℕ, ℤ, ◌+◌, max, List, [], ◌∷◌, Bool, false, Option}
use Rattle.lower_types.specs.NumberTypes.{Number}
use Rattle.lower.specs.TypeTrees.{TypeTree}
use Rattle.lower.specs.declared.datatypes.IntegerType.{IntegerType}
use Rattle.lower_types.specs.declared.PrimitiveType.{PrimitiveType}
use Rattle.lower_flat_arrays.specs.Validities.{is_valid}
pub use Rattle.lower_flat_arrays.specs.Validities.{Validity, null_count_of}

-- The parts of a level, by its kind, apart from its type, its length and its validity:
-- * `nothing`: a level of nulls
-- * `truths`: a bit for each slot
-- * `numbers`: the numbers of a type
-- * `fixed_bytes`: so many bytes for each slot
-- * `bytes`, `texts`: offsets of a type (of 32 bits, or of 64 in the large forms), and the
--   bytes that they cut into slots
-- * `lists`: the type of offsets that the variant of AnyArray names, and
--   offsets of a type into the child
-- * `fixed_lists`: so many slots of the child for each slot
-- * `maps`: offsets into the child, whose slots are pairs
-- * `records`: a slot is one of each child
-- * `choices`: the type ids of the children, if they have any; the type id of each slot; and for a
--   dense union the index of each slot in its child
-- * `keys`: the keys of a type, which are indices of the slots of the one child
pub data Parts : Type 0 where
  nothing : Parts
  truths : List Bool → Parts
  numbers : PrimitiveType → List Number → Parts
  fixed_bytes : ℕ → List ℕ → Parts
  bytes : PrimitiveType → List ℕ → List ℕ → Parts
  texts : PrimitiveType → List ℕ → List ℕ → Parts
  lists : PrimitiveType → PrimitiveType → List ℕ → Parts
  fixed_lists : ℕ → Parts
  maps : List ℕ → Parts
  records : Parts
  choices : Option (List ℤ) → List ℤ → Option (List ℤ) → Parts
  keys : IntegerType → List ℤ → Parts

-- A level of an array: its type, its length, its validity and its parts.
pub record Level : Type 0 where
  pub type : TypeTree
  pub len : ℕ
  pub validity : Validity
  pub parts : Parts

mutual
  -- An array as its own level and the layouts of its children.
  pub data Layout : Type 0 where
    layout : Level → Layouts → Layout

  -- The layouts of some arrays, in order.
  pub data Layouts : Type 0 where
    no_layouts : Layouts
    more_layouts : Layout → Layouts → Layouts

-- The array's own level.
abbrev pub level : Layout → Level
level (layout h _) = h

-- The layouts of the array's children.
abbrev pub children : Layout → Layouts
children (layout _ cs) = cs

-- How many slots an array has.
abbrev pub len_of : Layout → ℕ
len_of l = (level l).len

-- The type of an array.
abbrev pub type_of : Layout → TypeTree
type_of l = (level l).type

-- How many slots of a level are null: all if it has no parts, else those that the validity says.
abbrev pub nulls_among : Parts → ℕ → Validity → ℕ
nulls_among nothing n v = n
nulls_among _ n v = null_count_of v

-- How many slots of an array are null, by its own validity.
abbrev pub nulls_of : Layout → ℕ
nulls_of l = nulls_among (level l).parts (level l).len (level l).validity

-- Slot i of a level is valid by its own validity; none is if it has no parts.
abbrev pub valid_among : Parts → Validity → ℕ → Bool
valid_among nothing v i = false
valid_among _ v i = is_valid v i

-- Slot i of an array is valid by its own validity.
abbrev pub is_own_valid : Layout → ℕ → Bool
is_own_valid l i = valid_among (level l).parts (level l).validity i

-- Some layouts as children.
abbrev pub layouts : List Layout → Layouts
layouts [] = no_layouts
layouts (l ∷ ls) = more_layouts l (layouts ls)

abbrev mutual
  -- How many levels are below an array.
  pub height : Layout → ℕ
  height (layout _ cs) = heights cs

  -- How many levels some arrays have at most.
  pub heights : Layouts → ℕ
  heights no_layouts = 0
  heights (more_layouts c cs) = max (height c + 1) (heights cs)
