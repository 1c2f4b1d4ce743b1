-- Fields of tables that were read.
use Rattle.std.proofs.Common.{◌≡◌, Result, Ok, Err, refl}
use Rattle.ipc_devices.specs.declared.fault.Fault.{Fault}
use Rattle.ipc_devices.specs.declared.fault.Fault.TheVariants.{Schema}
use Rattle.ipc_devices.specs.declared.fault.SchemaFault.TheVariants.{Table}
use Rattle.ipc_devices.specs.declared.fault.TableFault.{TableFault}
use Rattle.ipc_schema.specs.Pairs.{RefusesPairs}
use Rattle.ipc_schema.specs.Reading.{in_schema}
use Rattle.ipc_schema.specs.declared.read.pairs.PairsFault.{PairsFault}
use Rattle.ipc_schema.specs.declared.read.pairs.PairsFault.TheVariants.{Memory, Table as IllMade}

-- A field that was read is valid.
pub in_schema-ok : {A : Type 0} (r : Result A TableFault) (x : A) → Ok x ≡ in_schema r → r ≡ Ok x
in_schema-ok (Ok y) x e = cc
in_schema-ok (Err d) x e = cc

pub in_schema-err : {A : Type 0} (r : Result A TableFault) (e : Fault) → Err e ≡ in_schema r → (d : TableFault) × (r ≡ Err d) × (e ≡ Schema (Table d))
in_schema-err (Ok y) e h = cc
in_schema-err (Err d) e h = (d, refl, cc)

-- ---- pairs that were not read

pub pairs-weaker : (e : PairsFault) (P Q : Type 0) → (P → Q) → RefusesPairs e P → RefusesPairs e Q
pairs-weaker Memory P Q f h = tt
pairs-weaker (IllMade e) P Q f h = f h
