-- The errors that reading a column can return for its input, and what is true then. Numbers have no
-- errors but those of their buffers; floats none but that they aren't read.
-- (Arrow columnar format, "Physical Memory Layout".)
use Rattle.std.specs.Prelude.{◌≡◌, ◌⊎◌, ◌*◌, ◌<◌, ℕ, ℤ, pos, Bool, length, Option, Some, None, IsSome, IsTrue}
use Rattle.ipc_devices.specs.declared.fault.Fault.{Fault}
use Rattle.ipc_devices.specs.declared.fault.Fault.TheVariants.{Ended, OutOfSpec, NotYetImplemented, Lower}
use Rattle.ipc_devices.specs.declared.fault.Nyi.TheVariants.{Float}
use Rattle.ipc_devices.specs.declared.fault.OutOfSpecKind.TheVariants.{NegativeFooterLength, InvalidBuffer, InvalidBitmap, InvalidDataType, InvalidId, InvalidIdDataType}
use Rattle.ipc_table_views.specs.declared.message.FieldNode.{FieldNode}
use Rattle.lower.specs.TypeTrees.{TypeTree}
use Rattle.ipc_model.specs.Columns.{values_type}
use Rattle.ipc_model.specs.Entries.{Entries, Part, IsSize, size, node, buffer}
use Rattle.ipc_model.specs.Kinds.{Kind, number_kind, float_kind, extension_kind}

-- The errors of buffers and nodes: a negative length or offset, or bytes that are needed and
-- aren't encoded or aren't present.
abbrev pub IsBufferFault : Fault → Type 0
IsBufferFault Ended = Unit {0}
IsBufferFault (OutOfSpec NegativeFooterLength) = Unit {0}
IsBufferFault (OutOfSpec (InvalidBuffer _ _ _ _)) = Unit {0}
IsBufferFault (OutOfSpec (InvalidBitmap _ _)) = Unit {0}
IsBufferFault _ = ⊥

-- A buffer is too short: the error reports how many values were requested, how many bytes they
-- take, and how many the buffer has.
abbrev pub TellsShort : (count needed listed : ℕ) → Fault → Type 0
TellsShort count needed listed (OutOfSpec (InvalidBuffer n _ m l)) = (n ≡ count) × (m ≡ needed) × (l ≡ listed)
TellsShort count needed listed _ = ⊥

-- The errors of bits before any is read: a negative offset, or fewer bits than are needed.
abbrev pub IsBitsFault : Fault → Type 0
IsBitsFault (OutOfSpec NegativeFooterLength) = Unit {0}
IsBitsFault (OutOfSpec (InvalidBitmap _ _)) = Unit {0}
IsBitsFault _ = ⊥

-- The errors of a column: those of its buffers, a fixed size of 0, floats, and parts that break a
-- rule of their array. Or its dictionary isn't known, or has values of another type.
abbrev pub IsColumnFault : Fault → Type 0
IsColumnFault Ended = Unit {0}
IsColumnFault (OutOfSpec NegativeFooterLength) = Unit {0}
IsColumnFault (OutOfSpec (InvalidBuffer _ _ _ _)) = Unit {0}
IsColumnFault (OutOfSpec (InvalidBitmap _ _)) = Unit {0}
IsColumnFault (OutOfSpec InvalidDataType) = Unit {0}
IsColumnFault (OutOfSpec (InvalidId _)) = Unit {0}
IsColumnFault (OutOfSpec (InvalidIdDataType _)) = Unit {0}
IsColumnFault (NotYetImplemented Float) = Unit {0}
IsColumnFault (Lower e) = Unit {0}
IsColumnFault _ = ⊥

-- The errors of parts that were read: they break a rule of their array.
abbrev pub IsRuleFault : Fault → Type 0
IsRuleFault (Lower e) = Unit {0}
IsRuleFault _ = ⊥

-- The errors of a column of a kind. Numbers have no rule of their own,
-- and floats are refused as floats.
abbrev pub IsFaultOf : Kind → Fault → Type 0
IsFaultOf (number_kind f) e = IsBufferFault e
IsFaultOf float_kind (NotYetImplemented Float) = Unit {0}
IsFaultOf float_kind _ = ⊥
IsFaultOf (extension_kind t) e = IsFaultOf t e
IsFaultOf _ e = IsColumnFault e

-- Why the values of a column of keys are refused: none are known under its id, where no id counts
-- as 0; or they have another type.
abbrev pub RefusesValues : Entries → Option ℤ → TypeTree → Fault → Type 0
RefusesValues s id t (OutOfSpec (InvalidId i)) = (values_type s id ≡ None) × ((id ≡ Some i) ⊎ ((id ≡ None) × (i ≡ pos 0)))
RefusesValues s id t (OutOfSpec (InvalidIdDataType i)) = (id ≡ Some i) × IsSome (values_type s id) × (values_type s id ≡ Some t → ⊥)
RefusesValues s id t _ = ⊥

-- ---- what is true with an error

-- P holds of a node of the batch.
pub record SomeNode (s : Entries) (P : FieldNode → Type 0) : Type 0 where
  pub index : ℕ
  pub inside : index < length s.nodes
  pub is : P (node s index)

-- P holds of a buffer of the batch.
pub record SomeBuffer (s : Entries) (P : Part → Type 0) : Type 0 where
  pub index : ℕ
  pub inside : index < length s.parts
  pub is : P (buffer s index)

-- What an error of a column says of the batch. A node has a negative length, or a buffer a negative
-- offset or length. A buffer has fewer bytes or bits than are needed; or fewer are present than it
-- has, if the device's bytes are known. No dictionary is known under the id, or there is no id; or
-- a dictionary is known. It says nothing of other errors.
abbrev pub TellsEntries : (known : Bool) → Entries → Fault → Type 0
TellsEntries known s (OutOfSpec NegativeFooterLength) = SomeNode s (λ n. IsSize n.length → ⊥) ⊎ SomeBuffer s (λ p. (IsSize p.offset × IsSize p.length) → ⊥)
TellsEntries known s (OutOfSpec (InvalidBuffer _ _ needed n)) = (n < needed) × SomeBuffer s (λ p. size p.length ≡ n)
TellsEntries known s (OutOfSpec (InvalidBitmap count n)) = (n < count) × SomeBuffer s (λ p. size p.length * 8 ≡ n)
TellsEntries known s Ended = IsTrue known → SomeBuffer s (λ p. length p.bytes < size p.length)
TellsEntries known s (OutOfSpec (InvalidId id)) = (id ≡ pos 0) ⊎ (values_type s (Some id) ≡ None)
TellsEntries known s (OutOfSpec (InvalidIdDataType id)) = IsSome (values_type s (Some id))
TellsEntries known s _ = Unit {0}
