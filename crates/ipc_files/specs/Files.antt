-- What a file means that begins in the middle of a device, which errors refuse
-- a file, and what is at its end.
-- (Arrow columnar format, "IPC File Format".)
use Rattle.std.specs.Prelude.{◌≡◌, ◌⊎◌, ℕ, ◌+◌, ◌-◌, ◌<◌, ◌≤◌, ◌^◌, nat_lt, ◌&&◌, if◌then◌else◌, List, [], ◌∷◌, length, take, drop, Option, None, Some, Result, Ok, Err, Bool, IsTrue}
use Rattle.std.specs.Int.{w32, from_le_bytes}
use Rattle.std.specs.Str.{bytes_eq}
use Rattle.ipc_devices.specs.Device.{Device, IsAnswered, Rises}
use Rattle.ipc_devices.specs.Faults.{IfIo, OnIo, OwnFault, UnlessIo}
use Rattle.ipc_devices.specs.declared.fault.Fault.{Fault}
use Rattle.ipc_devices.specs.declared.fault.Fault.TheVariants.{Ended, NotYetImplemented, OutOfSpec, Schema as BadSchema}
use Rattle.ipc_devices.specs.declared.fault.Nyi.TheVariants.{FeatherV1}
use Rattle.ipc_devices.specs.declared.fault.OutOfSpecKind.TheVariants.{InvalidHeader, InvalidFooter, NegativeFooterLength, InvalidFlatbufferFooter, MissingRecordBatches, InvalidFlatbufferRecordBatches, MissingSchema, InvalidFlatbufferSchema, MissingFields, InvalidFlatbufferDictionaries}
use Rattle.ipc_devices.specs.declared.fault.SchemaFault.TheVariants.{NotASchema}
use Rattle.ipc_table_views.specs.Tables.{root_at}
use Rattle.ipc_model.specs.Files.{FileMetadata, footer_at, last, magic, metadata_of}
use Rattle.ipc_model.specs.Schemas.{made, given}
use Rattle.ipc_files.specs.Footers.{RootFault}
use Rattle.ipc_files.specs.declared.read.file.metadata.FileFooter.{FileFooter}

-- ---- a file that begins at an offset

-- The bytes of a device from an offset on are a file: it begins there, and its size is counted from
-- there. Its tail and its footer are at the end of the device.

-- The footer of n bytes, which ends 10 bytes before the end.
abbrev pub footer_before_tail : List ℕ → ℕ → Option (List ℕ)
footer_before_tail bytes n =
    if nat_lt n (2 ^ 31)
    then (if nat_lt (length bytes) (n + 10) then None else Some (take n (last (n + 10) bytes)))
    else None

-- The bytes of the footer of a file that begins at an offset.
unfoldable pub footer_bytes : ℕ → List ℕ → Option (List ℕ)
footer_bytes start bytes =
    if nat_lt (length bytes) 10 then None
    else if bytes_eq (take 6 (drop start bytes)) magic
    && bytes_eq (last 6 bytes) magic then footer_before_tail bytes (from_le_bytes w32 (take 4 (last 10 bytes)))
    else None

-- The metadata of a file that begins at an offset.
unfoldable pub metadata_from : ℕ → List ℕ → Option FileMetadata
metadata_from start bytes =
    given (footer_bytes start bytes) (λ footer. given (made (root_at footer)) (footer_at (length bytes - start)))

-- A file that begins at offset 0 means what the bytes of its device mean.
abbrev pub BeginningLaw : Type 0
BeginningLaw = (bytes : List ℕ) → metadata_from 0 bytes ≡ metadata_of bytes

-- ---- which errors come

-- The errors of the head: another one, that of the older Feather format, or too few bytes.
abbrev pub HeadFault : Fault → Type 0
HeadFault Ended = Unit {0}
HeadFault (NotYetImplemented FeatherV1) = Unit {0}
HeadFault (OutOfSpec InvalidHeader) = Unit {0}
HeadFault _ = ⊥

-- The errors of the tail: another one, a negative length, or a file that is too short.
abbrev pub TailFault : Fault → Type 0
TailFault Ended = Unit {0}
TailFault (OutOfSpec InvalidFooter) = Unit {0}
TailFault (OutOfSpec NegativeFooterLength) = Unit {0}
TailFault _ = ⊥

-- The errors of the head or of the tail.
abbrev pub EndsFault : Fault → Type 0
EndsFault Ended = Unit {0}
EndsFault (NotYetImplemented FeatherV1) = Unit {0}
EndsFault (OutOfSpec InvalidHeader) = Unit {0}
EndsFault (OutOfSpec InvalidFooter) = Unit {0}
EndsFault (OutOfSpec NegativeFooterLength) = Unit {0}
EndsFault _ = ⊥

-- The errors of a file's metadata: of its head, its tail or its footer.
abbrev pub FileFault : Fault → Type 0
FileFault Ended = Unit {0}
FileFault (NotYetImplemented FeatherV1) = Unit {0}
FileFault (OutOfSpec InvalidHeader) = Unit {0}
FileFault (OutOfSpec InvalidFooter) = Unit {0}
FileFault (OutOfSpec NegativeFooterLength) = Unit {0}
FileFault (OutOfSpec (InvalidFlatbufferFooter e)) = Unit {0}
FileFault (OutOfSpec MissingRecordBatches) = Unit {0}
FileFault (OutOfSpec (InvalidFlatbufferRecordBatches e)) = Unit {0}
FileFault (OutOfSpec MissingSchema) = Unit {0}
FileFault (OutOfSpec (InvalidFlatbufferSchema e)) = Unit {0}
FileFault (OutOfSpec MissingFields) = Unit {0}
FileFault (OutOfSpec (InvalidFlatbufferDictionaries e)) = Unit {0}
FileFault (BadSchema NotASchema) = ⊥
FileFault (BadSchema e) = Unit {0}
FileFault _ = ⊥

-- The length of a footer, by the number of the tail; negative ones are refused.
abbrev pub stated_length : ℕ → Result ℕ Fault
stated_length n = if nat_lt n (2 ^ 31) then Ok n else Err (OutOfSpec NegativeFooterLength)

-- The length of the footer, by the last 10 bytes of a file: a signed number, then ARROW1.
unfoldable pub footer_length : List ℕ → Result ℕ Fault
footer_length tail =
    if bytes_eq (drop 4 tail) magic then stated_length (from_le_bytes w32 (take 4 tail)) else Err (OutOfSpec InvalidFooter)

-- Where a file ends, and the length of its footer; or it has none.
abbrev pub GivesTail : List ℕ → Result (ℕ × ℕ) Fault → Type 0
GivesTail bytes (Ok (end, n)) = (end ≡ length bytes) × ((n + 10 ≤ length bytes) × (footer_length (last 10 bytes) ≡ Ok n))
GivesTail bytes (Err e) = OwnFault e ((n : ℕ) → n + 10 ≤ length bytes → footer_length (last 10 bytes) ≡ Ok n → ⊥)

-- ---- why an error comes

-- The magic bytes of the Feather format, `FEA1`.
abbrev pub feather : List ℕ
feather = 70 ∷ 69 ∷ 65 ∷ 49 ∷ []

-- By each error of the head: there are fewer than 6 bytes, they are those of the older Feather
-- format, or neither that nor ARROW1.
abbrev pub HeadReason : List ℕ → Fault → Type 0
HeadReason front Ended = length front < 6
HeadReason front (NotYetImplemented FeatherV1) = (6 ≤ length front) × (take 4 front ≡ feather)
HeadReason front (OutOfSpec InvalidHeader) = (6 ≤ length front) × (take 6 front ≡ magic → ⊥) × (take 4 front ≡ feather → ⊥)
HeadReason front _ = ⊥

-- There are fewer than 10 bytes, or fewer than those and the footer of the stated length.
abbrev pub IsCutShort : List ℕ → Type 0
IsCutShort bytes = (length bytes < 10) ⊎ ((n : ℕ) × (footer_length (last 10 bytes) ≡ Ok n) × (length bytes < n + 10))

-- By each error of the tail: there are too few bytes, or enough that state no length.
abbrev pub TailReason : List ℕ → Fault → Type 0
TailReason bytes Ended = IsCutShort bytes
TailReason bytes e = (10 ≤ length bytes) × (footer_length (last 10 bytes) ≡ Err e)

-- By each error of the footer, what is wrong with its table.
abbrev pub FooterReason : List ℕ → Fault → Type 0
FooterReason bytes e =
    (n : ℕ) × (n + 10 ≤ length bytes) × (footer_length (last 10 bytes) ≡ Ok n) × RootFault e (root_at (take n (last (n + 10) bytes)))

-- By each error, why a file that begins at an offset has no metadata.
abbrev pub FileReason : ℕ → List ℕ → Fault → Type 0
FileReason start bytes e = HeadReason (drop start bytes) e ⊎ (TailReason bytes e ⊎ FooterReason bytes e)

-- ---- reading the bytes of a footer

-- At most so many bytes were read: the head, the tail, and the footer, whose length the tail
-- states.
pub record FooterGiven (known : Bool) (bytes : List ℕ) (old new : ℕ) : Type 0 where
  pub footer : ℕ
  pub stated : IsTrue known → footer_length (last 10 bytes) ≡ Ok footer
  pub most : new ≤ old + (16 + footer)

-- Reading from state a to state b: the bytes stay, and a failure of the device is counted exactly
-- if its error is returned. At most the head and the tail were read, or these and the footer. An
-- `Io` is an error that the device returned.
pub record ReadsFooter {R X : Type 0} (d : Device R) (a : R) (r : Result X Fault) (b : R) : Type 0 where
  pub monotone : d.failures a ≤ d.failures b
  pub failed : OnIo r (Rises (d.failures a) (d.failures b))
  pub told : UnlessIo r (d.failures b ≡ d.failures a)
  pub whole : IsTrue d.is_read_only → (d.memory b).whole ≡ (d.memory a).whole
  pub taken : (d.given b ≤ d.given a + 16) ⊎ FooterGiven d.is_memory (d.memory a).whole (d.given a) (d.given b)
  pub names : d.names b ≡ d.names a
  pub answered : IfIo r (IsAnswered d)

-- The bytes of the footer and the size of the file; or why it has no footer: its head or its tail.
abbrev pub GivesFooter : ℕ → List ℕ → Result FileFooter Fault → Type 0
GivesFooter start bytes (Ok f) = (footer_bytes start bytes ≡ Some f.bytes.items) × (f.size ≡ length bytes - start)
GivesFooter start bytes (Err e) =
    OwnFault e ((footer_bytes start bytes ≡ None) × (HeadReason (drop start bytes) e ⊎ TailReason bytes e))
