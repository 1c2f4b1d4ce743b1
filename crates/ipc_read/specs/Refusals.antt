-- The errors that reading a batch can return for its input, and what is true then.
-- (Arrow columnar format, "RecordBatch message".)
use Rattle.std.specs.Prelude.{◌≡◌, ◌⊎◌, ◌-◌, ◌<◌, ◌^◌, ℕ, Bool, List, [], ◌∷◌, length, min, Option, None, IsSome, IfSome, IsSomeAnd, Result, Ok, Err, IsOkAnd}
use Rattle.lower.specs.Counts.{fields_nodes, fields_buffers}
use Rattle.lower_types.specs.declared.Endianness.{Endianness}
use Rattle.ipc_devices.specs.Faults.{OwnFault}
use Rattle.ipc_devices.specs.declared.fault.Fault.{Fault}
use Rattle.ipc_devices.specs.declared.fault.Fault.TheVariants.{OutOfSpec, NotYetImplemented, Argument}
use Rattle.ipc_devices.specs.declared.fault.ArgFault.TheVariants.{UnequalRows}
use Rattle.ipc_devices.specs.declared.fault.Nyi.TheVariants.{Compressed}
use Rattle.ipc_devices.specs.declared.fault.OutOfSpecKind.TheVariants.{NegativeFooterLength, InvalidBuffersLength, MissingMessageBuffers, MissingMessageNodes, ExpectedBuffer, InvalidFlatbufferBuffers, InvalidFlatbufferNodes, InvalidFlatbufferCompression}
use Rattle.ipc_devices.specs.declared.fault.TableFault.{TableFault}
use Rattle.ipc_table_views.specs.MessageSlots.{record_batch_buffers, record_batch_compression, record_batch_nodes}
use Rattle.ipc_table_views.specs.Spot.{Spot}
use Rattle.ipc_table_views.specs.declared.schema.Buffer.{Buffer}
use Rattle.ipc_model.specs.Batches.{Schema, Body, kind_at, lists_of, entries_of}
use Rattle.ipc_model.specs.Entries.{Dictionaries}
use Rattle.ipc_model.specs.Kinds.{Kinds}
use Rattle.ipc_read_flat.specs.Refusals.{IsFaultOf, TellsEntries}
use Rattle.ipc_read.specs.Sizes.{AreSizes, total_of, batch_listed}

-- The errors of a batch's entries: they are invalid, absent, too few or
-- compressed, or one has a negative length.
abbrev pub IsEntriesFault : Fault → Type 0
IsEntriesFault (OutOfSpec NegativeFooterLength) = Unit {0}
IsEntriesFault (OutOfSpec MissingMessageBuffers) = Unit {0}
IsEntriesFault (OutOfSpec MissingMessageNodes) = Unit {0}
IsEntriesFault (OutOfSpec ExpectedBuffer) = Unit {0}
IsEntriesFault (OutOfSpec (InvalidFlatbufferBuffers e)) = Unit {0}
IsEntriesFault (OutOfSpec (InvalidFlatbufferNodes e)) = Unit {0}
IsEntriesFault (OutOfSpec (InvalidFlatbufferCompression e)) = Unit {0}
IsEntriesFault (NotYetImplemented Compressed) = Unit {0}
IsEntriesFault _ = ⊥

-- The errors of a batch's lists: those of its entries, or the encoded
-- lengths sum to more than the body.
abbrev pub IsListFault : Fault → Type 0
IsListFault (OutOfSpec (InvalidBuffersLength _ _)) = Unit {0}
IsListFault e = IsEntriesFault e

-- The errors of one of these columns.
abbrev pub IsFaultOfSome : Kinds → List ℕ → Fault → Type 0
IsFaultOfSome ts [] e = ⊥
IsFaultOfSome ts (j ∷ js) e = IsFaultOf (kind_at ts j) e ⊎ IsFaultOfSome ts js e

-- The errors of a batch: of its lists, of a chosen column, or that columns have unequal lengths.
abbrev pub IsFaultOfBatch : Kinds → List ℕ → Fault → Type 0
IsFaultOfBatch ts js e = IsListFault e ⊎ (IsFaultOfSome ts js e ⊎ (e ≡ Argument UnequalRows))

-- ---- what is true with an error

-- `total` is more than the size of the body; the error reports both, the first up to 2 ^ 64 - 1.
abbrev pub TellsLonger : (total size : ℕ) → (n m : ℕ) → Type 0
TellsLonger total size n m = (size < total) × (n ≡ min total (2 ^ 64 - 1)) × (m ≡ size)

-- By each error, why the encoded lengths of buffers are refused: one is negative, or
-- they sum to more than the body.
abbrev pub TellsLengths : List Buffer → (size : ℕ) → Fault → Type 0
TellsLengths bs size (OutOfSpec NegativeFooterLength) = AreSizes bs → ⊥
TellsLengths bs size (OutOfSpec (InvalidBuffersLength n m)) = TellsLonger (total_of bs) size n m
TellsLengths bs size _ = ⊥

-- By each error, why so many nodes and buffers are refused: more of either are needed.
abbrev pub TellsCounts : (nodes buffers needed_nodes needed_buffers : ℕ) → Fault → Type 0
TellsCounts nodes buffers needed_nodes needed_buffers (OutOfSpec MissingMessageNodes) = nodes < needed_nodes
TellsCounts nodes buffers needed_nodes needed_buffers (OutOfSpec ExpectedBuffer) = buffers < needed_buffers
TellsCounts nodes buffers needed_nodes needed_buffers _ = ⊥

-- A list of a batch is present, and has fewer than n elements.
abbrev pub IsShorter : {X : Type 0} → Result (Option (List X)) TableFault → ℕ → Type 0
IsShorter r n = IsOkAnd r (λ list. IsSomeAnd list (λ xs. length xs < n))

-- What an error of a batch's lists says of its table t, if the columns of all fields take so
-- many nodes and buffers. A field of the table is invalid, and how; the buffers are
-- compressed; a list is absent or too short; or the encoded lengths sum to more than the body.
-- It says nothing of other errors.
abbrev pub TellsLists : (t : Spot) → (size nodes buffers : ℕ) → Fault → Type 0
TellsLists t size nodes buffers (OutOfSpec (InvalidFlatbufferCompression e)) = record_batch_compression t ≡ Err e
TellsLists t size nodes buffers (NotYetImplemented Compressed) = IsOkAnd (record_batch_compression t) (λ o. IsSome o)
TellsLists t size nodes buffers (OutOfSpec (InvalidFlatbufferBuffers e)) = record_batch_buffers t ≡ Err e
TellsLists t size nodes buffers (OutOfSpec MissingMessageBuffers) = record_batch_buffers t ≡ Ok None
TellsLists t size nodes buffers (OutOfSpec ExpectedBuffer) = IsShorter (record_batch_buffers t) buffers
TellsLists t size nodes buffers (OutOfSpec (InvalidFlatbufferNodes e)) = record_batch_nodes t ≡ Err e
TellsLists t size nodes buffers (OutOfSpec MissingMessageNodes) = (record_batch_nodes t ≡ Ok None) ⊎ IsShorter (record_batch_nodes t) nodes
TellsLists t size nodes buffers (OutOfSpec (InvalidBuffersLength n m)) = TellsLonger (batch_listed (lists_of t)) size n m
TellsLists t size nodes buffers _ = Unit {0}

-- What an error of a batch's lists says of its table, whatever columns there
-- are, and however long the body is.
pub record TellsTable (t : Spot) (e : Fault) : Type 0 where
  pub each : (size nodes buffers : ℕ) → TellsLists t size nodes buffers e

-- What an error of the lists of a batch of this schema says of its table t. A field of it is
-- invalid, the buffers are compressed, or a list is absent or too short. Or the encoded
-- lengths sum to more than the body.
abbrev pub TellsBatch : Schema → (extra : ℕ) → Spot → (size : ℕ) → Fault → Type 0
TellsBatch schema extra t size e = TellsLists t size (fields_nodes schema.fields) (fields_buffers extra schema.fields) e

-- What an error says of the entries of a batch, if it has both lists, and of
-- the dictionaries that are known.
abbrev pub TellsColumns : (known : Bool) → Endianness → (extra : ℕ) → Dictionaries → Body → Spot → Fault → Type 0
TellsColumns known order extra ds b t e = IfSome (lists_of t) (λ lists. OwnFault e (TellsEntries known (entries_of lists b order extra ds) e))
