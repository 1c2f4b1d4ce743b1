-- The result of reading the metadata of a file within a limit on their cost.
-- (Arrow columnar format, "IPC File Format". The limit is this project's own.)
use Rattle.std.specs.Prelude.{◌≡◌, ℕ, ◌<◌, ◌≤◌, List, Some, None, IfSome, IsSomeAnd, Result, Ok, Err}
use Rattle.ipc_devices.specs.Faults.{OwnFault}
use Rattle.ipc_devices.specs.declared.fault.Fault.{Fault}
use Rattle.ipc_devices.specs.declared.fault.Fault.TheVariants.{Argument}
use Rattle.ipc_devices.specs.declared.fault.ArgFault.TheVariants.{TooLarge}
use Rattle.ipc_costs.specs.Costs.{footer_cost}
use Rattle.ipc_files.specs.Files.{FileFault, FileReason, footer_bytes, metadata_from}
use Rattle.ipc_files.specs.Footers.{file_seen}
use Rattle.ipc_files.specs.declared.read.file.metadata.FileMetadata.{FileMetadata}

-- The errors of reading without a limit, and `TooLarge`.
abbrev pub FileFaultWithin : Fault → Type 0
FileFaultWithin (Argument TooLarge) = Unit {0}
FileFaultWithin e = FileFault e

-- The result for a file that begins at an offset. It is Ok if its metadata have a meaning and its
-- footer costs at most the limit, and `TooLarge` if it has a footer that costs more. Any other
-- error has the same cause as without a limit, and comes only if no footer costs more.
abbrev pub GivesFileWithin : (limit start : ℕ) → List ℕ → Result FileMetadata Fault → Type 0
GivesFileWithin limit start bytes (Ok m) =
    IsSomeAnd (footer_bytes start bytes) (λ f. footer_cost f ≤ limit)
    × (metadata_from start bytes ≡ Some (file_seen m))
GivesFileWithin limit start bytes (Err (Argument TooLarge)) =
    IsSomeAnd (footer_bytes start bytes) (λ f. limit < footer_cost f)
GivesFileWithin limit start bytes (Err e) = OwnFault e
    (IfSome (footer_bytes start bytes) (λ f. footer_cost f ≤ limit)
    × (metadata_from start bytes ≡ None) × FileReason start bytes e)
