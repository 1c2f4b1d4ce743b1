-- Theorem: a column is well formed exactly if its test passes.
-- (Arrow columnar format, "Physical Memory Layout".)
use Rattle.std.specs.Prelude.{ℕ}
use Rattle.std.specs.Bool.{Decides}
use Rattle.ipc_model.specs.Kinds.{Kind}
use Rattle.ipc_model.specs.Entries.{Entries, Limit}
use Rattle.ipc_model.specs.Columns.{IsWell}
use Rattle.ipc_model.specs.Tests.{is_well}

-- Whether a column is well formed can be computed.
abbrev pub WellTestLaw : Type 0
WellTestLaw = (s : Entries) (t : Kind) (a b : ℕ) (limit : Limit)
    → Decides (is_well s t a b limit) (IsWell s t a b limit)
