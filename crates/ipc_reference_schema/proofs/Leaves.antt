-- Leaves that are the same whatever their parts.
use Rattle.std.proofs.Common.{◌≡◌, refl}
use Rattle.lower.specs.declared.datatypes.IntegerType.{IntegerType}
use Rattle.lower.specs.declared.datatypes.IntegerType.TheVariants.{Int8, Int16, Int32, Int64, UInt8, UInt16, UInt32, UInt64}
use Rattle.ipc_table_views.specs.declared.types.Precision.{Precision}
use Rattle.ipc_table_views.specs.declared.types.Precision.TheVariants.{Half, Single, Double}
use Rattle.ipc_table_views.specs.declared.types.DateUnit.{DateUnit}
use Rattle.ipc_table_views.specs.declared.types.DateUnit.TheVariants.{Day, Millisecond}
use Rattle.ipc_model.specs.Schemas.{integers, float_of, date_of}
use Rattle.ipc_reference_schema.specs.Shapes.{leaf_of}
use Rattle.ipc_reference_schema.specs.declared.shape.Leaf.TheVariants.{Int, OtherLeaf}

pub leaf-integers : (form : IntegerType) → leaf_of (integers form) ≡ Int form
leaf-integers Int8 = refl
leaf-integers Int16 = refl
leaf-integers Int32 = refl
leaf-integers Int64 = refl
leaf-integers UInt8 = refl
leaf-integers UInt16 = refl
leaf-integers UInt32 = refl
leaf-integers UInt64 = refl

pub leaf-floats : (p : Precision) → leaf_of (float_of p) ≡ OtherLeaf
leaf-floats Half = refl
leaf-floats Single = refl
leaf-floats Double = refl

pub leaf-dates : (d : DateUnit) → leaf_of (date_of d) ≡ OtherLeaf
leaf-dates Day = refl
leaf-dates Millisecond = refl

pub ruleset leaves = (leaf-integers, leaf-floats, leaf-dates)
