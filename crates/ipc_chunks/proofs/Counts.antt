-- For how many fields some ids are, and what refuses as many columns.
use Rattle.std.proofs.Common.{◌≡◌, List, [], ◌∷◌, length, refl, arith}
use Rattle.lower_arrays.specs.Layouts.{Layout}
use Rattle.ipc_base.specs.IdTrees.{IdTrees, all_ids_view}
use Rattle.ipc_base.specs.declared.ipc.IpcField.{IpcField}
use Rattle.ipc_devices.specs.declared.fault.ArgFault.TheVariants.{ColumnCount, FieldsShape}
use Rattle.ipc_devices.specs.declared.fault.Fault.{Fault}
use Rattle.ipc_devices.specs.declared.fault.Fault.TheVariants.{Argument}
use Rattle.ipc_schema_write.specs.WriterAnswers.{RefusesSchema}
use Rattle.ipc_chunks.specs.Chunks.{RefusesColumns, encoded_fields, id_number}

pub numbers_same : (fs : List IpcField) → id_number (all_ids_view fs) ≡ length fs
numbers_same [] = refl
numbers_same (f ∷ fs) = let e = numbers_same fs in omega (arith, e)

-- There are as many ids as columns: what refuses their schema refuses them.
pub columns_refused : (columns : List Layout) (is : IdTrees) (e : Fault) → length columns ≡ id_number is → RefusesSchema e (encoded_fields columns) [] is → RefusesColumns columns is e
columns_refused columns is (Argument ColumnCount) same h = absurd h
columns_refused columns is (Argument FieldsShape) same h = (same, h)
columns_refused columns is _ same h = h
