-- The errors of some columns, the encoded length of their buffers, and what they
-- retain don't depend on their order.
use Rattle.std.proofs.Common.{◌≡◌, ℕ, ◌+◌, List, length, Option, None, Some, Result, Ok, Err, refl, ap, ◌∙◌, inl, inr}
use Rattle.std.specs.Prelude.{nat_eq, if◌then◌else◌}
use Rattle.std.specs.List.Sorted.{IsPermutation}
use Rattle.std.proofs.lemmas.List.Sorted.{IsPermutation-sym, length_permutation}
use Rattle.lower_arrays.specs.declared.array.AnyArray.{AnyArray}
use Rattle.ipc_devices.specs.declared.fault.Fault.{Fault}
use Rattle.ipc_devices.specs.declared.fault.OutOfSpecKind.TheVariants.{NegativeFooterLength, UnexpectedNegativeInteger}
use Rattle.ipc_table_views.specs.declared.file.Block.{Block}
use Rattle.ipc_model.specs.Batches.{chosen, kinds, lists_of}
use Rattle.ipc_model.specs.Files.{BlockHeader, FileMetadata, block_header}
use Rattle.ipc_model.specs.Kinds.{Kinds}
use Rattle.ipc_projection.specs.ChosenColumns.{AreAsMany, AreOrdered, AreShuffled, asked_by, rising_by}
use Rattle.ipc_projection.specs.declared.read.chosen.ChosenColumns.{ChosenColumns}
use Rattle.ipc_read.proofs.AskedColumns.{batch_fault}
use Rattle.ipc_read.proofs.AskedSums.{held_in_order, listed_same}
use Rattle.ipc_files.specs.Batches.{BlamesRecord, HoldBatch, HeaderHolds, IsRecordFault, RecordReason, header_lists, needed_bytes}
use Rattle.ipc_files.specs.Blocks.{MessageReason, block_message}

record_fault : (ts : Kinds) (e : Fault) (xs ys : List ℕ) → IsPermutation xs ys → IsRecordFault ts ys e → IsRecordFault ts xs e
record_fault ts e xs ys same (inl f) = inl f
record_fault ts e xs ys same (inr (inl f)) = inr (inl f)
record_fault ts e xs ys same (inr (inr (inl f))) = inr (inr (inl f))
record_fault ts e xs ys same (inr (inr (inr (inl f)))) = inr (inr (inr (inl f)))
record_fault ts e xs ys same (inr (inr (inr (inr f)))) = inr (inr (inr (inr (batch_fault ts e ys xs (IsPermutation-sym xs ys same) f))))

-- An error of columns in ascending order is one of the requested columns.
pub fault_asked : (q : Option ChosenColumns) (n : ℕ) (ts : Kinds) (e : Fault) → AreShuffled q → IsRecordFault ts (chosen (rising_by q) n) e → IsRecordFault ts (chosen (asked_by q) n) e
fault_asked None n ts e same f = f
fault_asked (Some q) n ts e same f = record_fault ts e q.columns.columns q.columns.rising same.0 f

-- And so is its cause.
reason_through : (r : Result BlockHeader Fault) (P Q : BlockHeader → Fault → Type 0) (e : Fault) → ((h : BlockHeader) → P h e → Q h e) → MessageReason r P e → MessageReason r Q e
reason_through (Ok h) P Q e f why = f h why
reason_through (Err g) P Q e f why = why

record_reason : (m : FileMetadata) (e : Fault) (source xs ys : List ℕ) (b : Option Block) → IsPermutation xs ys → RecordReason m ys source b e → RecordReason m xs source b e
record_reason m e source xs ys None same why = why
record_reason m e source xs ys (Some b) same why =
    reason_through (block_message 3 NegativeFooterLength UnexpectedNegativeInteger source b) (BlamesRecord m ys) (BlamesRecord m xs) e
    (λ h is. (batch_fault (kinds m.schema) e ys xs (IsPermutation-sym xs ys same) is.0, is.1)) why

pub reason_asked : (q : Option ChosenColumns) (n : ℕ) (m : FileMetadata) (e : Fault) (source : List ℕ) (b : Option Block) → AreShuffled q → RecordReason m (chosen (rising_by q) n) source b e
    → RecordReason m (chosen (asked_by q) n) source b e
reason_asked None n m e source b same why = why
reason_asked (Some q) n m e source b same why = record_reason m e source q.columns.columns q.columns.rising b same.0 why

-- ---- bytes

header_same : (o : Option BlockHeader) (ts : Kinds) (xs ys : List ℕ) → IsPermutation xs ys → header_lists ts ys o ≡ header_lists ts xs o
header_same None ts xs ys same = refl
header_same (Some h) ts xs ys same = ap (λ (n : ℕ). if nat_eq h.tag 3 then n else 0) (listed_same (lists_of h.table) h.extra ts xs ys same)

pub bytes_asked : (q : Option ChosenColumns) (n : ℕ) (ts : Kinds) (metadata : List ℕ) → AreShuffled q
    → needed_bytes ts (chosen (rising_by q) n) metadata ≡ needed_bytes ts (chosen (asked_by q) n) metadata
bytes_asked None n ts metadata same = refl
bytes_asked (Some q) n ts metadata same = ap (λ (k : ℕ). 8 + length metadata + k) (header_same (block_header metadata) ts q.columns.columns q.columns.rising same.0)

-- ---- what arrays hold

header_asked :
    (q : Option ChosenColumns) (n most : ℕ) (ts : Kinds) (o : Option BlockHeader) (read given : List AnyArray) → AreShuffled q → AreAsMany q (length read) → AreOrdered q read given
    → HeaderHolds most ts (chosen (rising_by q) n) o read → HeaderHolds most ts (chosen (asked_by q) n) o given
header_asked q n most ts None read given same many order h = h
header_asked q n most ts (Some x) read given same many order h = held_in_order q n most (lists_of x.table) x.extra ts read given same many order h

pub held_asked :
    (q : Option ChosenColumns) (n most : ℕ) (ts : Kinds) (metadata : List ℕ) (read given : List AnyArray) → AreShuffled q → AreAsMany q (length read) → AreOrdered q read given
    → HoldBatch most ts (chosen (rising_by q) n) metadata read → HoldBatch most ts (chosen (asked_by q) n) metadata given
held_asked q n most ts metadata read given same many order h = header_asked q n most ts (block_header metadata) read given same many order h

-- ---- how many

pub many_asked : (q : Option ChosenColumns) (n k : ℕ) → AreShuffled q → k ≡ length (chosen (rising_by q) n) → k ≡ length (chosen (asked_by q) n)
many_asked None n k same e = e
many_asked (Some q) n k same e = e ∙ length_permutation q.columns.columns q.columns.rising same.0
