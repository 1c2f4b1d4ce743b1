-- Which errors blocks and files have, and how much the arrays of a block retain.
use Rattle.std.proofs.Common.{◌≡◌, ℕ, List, Option, Some, Ok, Err, sym, subst, Result}
use Rattle.lower_arrays.specs.declared.array.AnyArray.{AnyArray}
use Rattle.ipc_devices.specs.declared.fault.Fault.{Fault}
use Rattle.ipc_devices.specs.declared.fault.Fault.TheVariants.{OutOfSpec, Ended, Memory, NotYetImplemented, Schema as BadSchema}
use Rattle.ipc_devices.specs.declared.fault.OutOfSpecKind.TheVariants.{UnexpectedMessageType, InvalidHeader, InvalidFooter, NegativeFooterLength, InvalidFlatbufferFooter, MissingRecordBatches, InvalidFlatbufferRecordBatches, MissingSchema, InvalidFlatbufferSchema, MissingFields, InvalidFlatbufferDictionaries}
use Rattle.ipc_table_views.specs.declared.message.MessageHeaderRef.{MessageHeaderRef}
use Rattle.ipc_table_views.specs.declared.message.MessageHeaderRef.TheVariants as headers
use Rattle.ipc_table_views.specs.Spot.{Spot}
use Rattle.ipc_model.specs.Batches.{extra_of, lists_of}
use Rattle.ipc_model.specs.Files.{BlockHeader, block_header}
use Rattle.ipc_model.specs.Kinds.{Kinds}
use Rattle.ipc_read.specs.HeldChunks.{HoldChosen}
use Rattle.ipc_files.specs.Batches.{HeaderHolds, HoldBatch, needed_record}
use Rattle.ipc_files.specs.Blocks.{message_seen}
use Rattle.ipc_files.specs.declared.read.file.block.BlockMessage.{BlockMessage}
use Rattle.ipc_files.proofs.BlockFaults.{record-table}
use Rattle.ipc_devices.specs.Faults.{OwnFault}
use Rattle.ipc_devices.specs.declared.fault.Nyi.TheVariants.{FeatherV1}
use Rattle.ipc_devices.specs.declared.fault.SchemaFault.TheVariants.{NotASchema}
use Rattle.ipc_devices.specs.declared.fault.TableFault.{TableFault}
use Rattle.ipc_files.specs.Files.{EndsFault, FileFault}
use Rattle.ipc_files.specs.Footers.{FooterFault, RootFault}

-- ---- of a record block

-- A header that has no record batch.
pub no-record : (u : MessageHeaderRef) (e : Fault) → Err e ≡ needed_record u → e ≡ OutOfSpec UnexpectedMessageType
no-record (headers.Schema t) e is = cc
no-record (headers.DictionaryBatch t) e is = cc
no-record (headers.RecordBatch t) e is = absurd cc
no-record (headers.Tensor t) e is = cc
no-record (headers.SparseTensor t) e is = cc

-- What the arrays retain by their batch, they retain by the metadata of its message.
pub batch-holds : (most : ℕ) (ts : Kinds) (js : List ℕ) (x : BlockMessage) (t : Spot) (metadata : List ℕ) → block_header metadata ≡ Some (message_seen x) → Ok t ≡ needed_record x.header
    → (xs : List AnyArray) → HoldChosen most (lists_of t) (extra_of x.version) ts js xs → HoldBatch most ts js metadata xs
batch-holds most ts js x t metadata opened is xs h =
    subst (λ (o : Option BlockHeader). HeaderHolds most ts js o xs) (sym opened)
    (subst (λ (s : Spot). HoldChosen most (lists_of s) (extra_of x.version) ts js xs) (record-table x.header t is) h)

-- ---- of a file's metadata

pub ends-in-file : (e : Fault) → EndsFault e → FileFault e
ends-in-file Ended h = h
ends-in-file (NotYetImplemented FeatherV1) h = h
ends-in-file (OutOfSpec InvalidHeader) h = h
ends-in-file (OutOfSpec InvalidFooter) h = h
ends-in-file (OutOfSpec NegativeFooterLength) h = h
ends-in-file _ h = absurd h

footer-in-file : (e : Fault) (t : Spot) → FooterFault e t → OwnFault e (FileFault e)
footer-in-file Memory t h = tt
footer-in-file (OutOfSpec (InvalidFlatbufferFooter x)) t h = tt
footer-in-file (OutOfSpec MissingRecordBatches) t h = tt
footer-in-file (OutOfSpec (InvalidFlatbufferRecordBatches x)) t h = tt
footer-in-file (OutOfSpec MissingSchema) t h = tt
footer-in-file (OutOfSpec (InvalidFlatbufferSchema x)) t h = tt
footer-in-file (OutOfSpec MissingFields) t h = tt
footer-in-file (OutOfSpec (InvalidFlatbufferDictionaries x)) t h = tt
footer-in-file (BadSchema NotASchema) t h = absurd h
footer-in-file (BadSchema _) t h = tt
footer-in-file _ t h = absurd h

pub root-in-file : (e : Fault) (r : Result Spot TableFault) → RootFault e r → OwnFault e (FileFault e)
root-in-file e (Ok t) h = footer-in-file e t h
root-in-file e (Err f) h = subst (λ (x : Fault). OwnFault x (FileFault x)) (sym h) tt
