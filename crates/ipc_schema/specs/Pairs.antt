-- The result of reading pairs of texts.
-- (Arrow columnar format, "Schema message"; Schema.fbs and File.fbs.)
use Rattle.std.specs.Prelude.{◌≡◌, Option, Some, None, Result, Ok, Err}
use Rattle.ipc_schema.specs.declared.read.pairs.PairsFault.{PairsFault}
use Rattle.ipc_schema.specs.declared.read.pairs.PairsFault.TheVariants.{Memory, Table}

-- An allocation failed, or the table of a pair is invalid and P holds.
abbrev pub RefusesPairs : PairsFault → Type 0 → Type 0
RefusesPairs Memory P = Unit {0}
RefusesPairs (Table e) P = P

-- The result is Ok exactly if there is a meaning, unless an allocation fails;
-- its value is then that meaning.
abbrev pub GivesPairs : {X Y : Type 0} → (X → Y) → Result X PairsFault → Option Y → Type 0
GivesPairs view (Ok x) meaning = meaning ≡ Some (view x)
GivesPairs view (Err e) meaning = RefusesPairs e (meaning ≡ None)
