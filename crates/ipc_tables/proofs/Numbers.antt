-- What the readers give of numbers, enumerations and structs that are built.
use Rattle.std.proofs.Common.{◌≡◌, ℕ, ℤ, ◌+◌, Bool, true, false, List, ◌++◌, take, Some, Result, Ok, refl, sym, ap, ◌∙◌, arith}
use Rattle.std.proofs.Math.Seq.{take-length}
use Rattle.std.specs.Int.{w32, w64, cast_signed}
use Rattle.byteorder.specs.Endian.{little_number}
use Rattle.ipc_devices.specs.declared.fault.TableFault.{TableFault}
use Rattle.ipc_table_views.specs.declared.file.Block.{Block}
use Rattle.ipc_table_views.specs.declared.message.FieldNode.{FieldNode}
use Rattle.ipc_table_views.specs.declared.schema.Buffer.{Buffer}
use Rattle.ipc_table_views.specs.declared.schema.Endianness.{Endianness}
use Rattle.ipc_table_views.specs.declared.schema.Endianness.TheVariants.{Little, Big}
use Rattle.ipc_table_views.specs.declared.schema.MetadataVersion.{MetadataVersion}
use Rattle.ipc_table_views.specs.declared.schema.MetadataVersion.TheVariants.{V1, V2, V3, V4, V5}
use Rattle.ipc_table_views.specs.declared.types.Precision.{Precision}
use Rattle.ipc_table_views.specs.declared.types.Precision.TheVariants.{Half, Single, Double}
use Rattle.ipc_table_views.specs.declared.types.DateUnit.{DateUnit}
use Rattle.ipc_table_views.specs.declared.types.DateUnit.TheVariants.{Day, Millisecond as day_millisecond}
use Rattle.ipc_table_views.specs.declared.types.TimeUnit.{TimeUnit}
use Rattle.ipc_table_views.specs.declared.types.TimeUnit.TheVariants.{Second, Millisecond, Microsecond, Nanosecond}
use Rattle.ipc_table_views.specs.declared.types.IntervalUnit.{IntervalUnit}
use Rattle.ipc_table_views.specs.declared.types.IntervalUnit.TheVariants.{YearMonth, DayTime, MonthDayNano}
use Rattle.ipc_table_views.specs.declared.types.UnionMode.{UnionMode}
use Rattle.ipc_table_views.specs.declared.types.UnionMode.TheVariants.{Sparse, Dense}
use Rattle.ipc_table_views.specs.Enumerations.{date_unit_of, endianness_of, interval_unit_of, precision_of, time_unit_of, union_mode_of, version_of}
use Rattle.ipc_table_views.specs.Structs.{block_of, buffer_of, node_of, signed32, signed64}
use Rattle.ipc_table_views.specs.Tables.{and_then, flag, map_ok, number_at, number_slot, slot_at}
use Rattle.ipc_table_bytes.specs.Pads.{le}
use Rattle.ipc_table_bytes.specs.Parts.{Stands}
use Rattle.ipc_table_bytes.proofs.Lengths.{length-le}
use Rattle.ipc_table_bytes.proofs.ReaderLaws.{number-read}
use Rattle.ipc_table_bytes.proofs.Standing.{stands-first, stands-then, take-stands}
use Rattle.ipc_tables.specs.Files.{block_bytes}
use Rattle.ipc_tables.specs.Messages.{buffer_bytes, node_bytes}
use Rattle.ipc_tables.specs.Reads.{kept_block, kept_buffer, kept_node}
use Rattle.ipc_tables.specs.Schemas.{endianness_number, version_number}
use Rattle.ipc_tables.specs.Slots.{bit, bits32, bits64, kept32, kept64, kept_bytes32, kept_bytes64}
use Rattle.ipc_tables.specs.Types.{date_unit_number, interval_unit_number, precision_number, time_unit_number, union_mode_number}

-- Numbers in fields.

pub signed-read : (d : ℕ) (m : List ℕ) (p i q : ℕ) (z : ℤ) → slot_at m p i ≡ Ok (Some q) → number_at 4 m q ≡ Ok (bits32 z) → map_ok (cast_signed w32) (number_slot 4 d m p i) ≡ Ok (kept32 z)
signed-read d m p i q z e f = ap (map_ok (cast_signed w32)) (number-read 4 d m p i q (bits32 z) e f)

pub long-read : (m : List ℕ) (p i q : ℕ) (z : ℤ) → slot_at m p i ≡ Ok (Some q) → number_at 8 m q ≡ Ok (bits64 z) → map_ok (cast_signed w64) (number_slot 8 0 m p i) ≡ Ok (kept64 z)
long-read m p i q z e f = ap (map_ok (cast_signed w64)) (number-read 8 0 m p i q (bits64 z) e f)

pub flag-bit : (b : Bool) → flag (bit b) ≡ b
flag-bit true = refl
flag-bit false = refl

pub flag-read : (m : List ℕ) (p i q : ℕ) (b : Bool) → slot_at m p i ≡ Ok (Some q) → number_at 1 m q ≡ Ok (bit b) → map_ok flag (number_slot 1 0 m p i) ≡ Ok b
flag-read m p i q b e f = ap (map_ok flag) (number-read 1 0 m p i q (bit b) e f) ∙ ap (λ c. Ok c) (flag-bit b)

-- An enumeration that is read back from its numbers.
pub unit-read : {E : Type 0} (number_of : E → ℕ) (of_number : ℕ → Result E TableFault) → ((e : E) → of_number (number_of e) ≡ Ok e)
    → (d : ℕ) (m : List ℕ) (p i q : ℕ) (e : E) → slot_at m p i ≡ Ok (Some q) → number_at 2 m q ≡ Ok (number_of e) → and_then (number_slot 2 d m p i) of_number ≡ Ok e
unit-read number_of of_number back d m p i q e s f = ap (λ r. and_then r of_number) (number-read 2 d m p i q (number_of e) s f) ∙ back e

pub version-back : (v : MetadataVersion) → version_of (version_number v) ≡ Ok v
version-back V1 = refl
version-back V2 = refl
version-back V3 = refl
version-back V4 = refl
version-back V5 = refl

pub endianness-back : (e : Endianness) → endianness_of (endianness_number e) ≡ Ok e
endianness-back Little = refl
endianness-back Big = refl

pub precision-back : (p : Precision) → precision_of (precision_number p) ≡ Ok p
precision-back Half = refl
precision-back Single = refl
precision-back Double = refl

pub date_unit-back : (u : DateUnit) → date_unit_of (date_unit_number u) ≡ Ok u
date_unit-back Day = refl
date_unit-back day_millisecond = refl

pub time_unit-back : (u : TimeUnit) → time_unit_of (time_unit_number u) ≡ Ok u
time_unit-back Second = refl
time_unit-back Millisecond = refl
time_unit-back Microsecond = refl
time_unit-back Nanosecond = refl

pub interval_unit-back : (u : IntervalUnit) → interval_unit_of (interval_unit_number u) ≡ Ok u
interval_unit-back YearMonth = refl
interval_unit-back DayTime = refl
interval_unit-back MonthDayNano = refl

pub union_mode-back : (m : UnionMode) → union_mode_of (union_mode_number m) ≡ Ok m
union_mode-back Sparse = refl
union_mode-back Dense = refl

-- Numbers in structs.

-- all the bytes of a number
pub take-le : (k x : ℕ) → take k (le k x) ≡ le k x
take-le k x = ap (λ (n : ℕ). take n (le k x)) (sym (length-le k x)) ∙ take-length (le k x)

pub signed32-is : (m : List ℕ) (p : ℕ) (z : ℤ) → Stands m p (le 4 (bits32 z)) → signed32 m p ≡ kept_bytes32 z
unfolding signed32
signed32-is m p z s =
    ap (λ (xs : List ℕ). cast_signed w32 (little_number 4 xs)) (take-stands m p 4 (le 4 (bits32 z)) (omega (arith, length-le 4 (bits32 z))) s ∙ take-le 4 (bits32 z))

pub signed64-is : (m : List ℕ) (p : ℕ) (z : ℤ) → Stands m p (le 8 (bits64 z)) → signed64 m p ≡ kept_bytes64 z
unfolding signed64
signed64-is m p z s =
    ap (λ (xs : List ℕ). cast_signed w64 (little_number 8 xs)) (take-stands m p 8 (le 8 (bits64 z)) (omega (arith, length-le 8 (bits64 z))) s ∙ take-le 8 (bits64 z))

pub after-long : (m : List ℕ) (p : ℕ) (x : ℕ) (ys : List ℕ) → Stands m p (le 8 x ++ ys) → Stands m (p + 8) ys
after-long m p x ys s = stands-then m p (p + 8) (le 8 x) ys (omega (arith, length-le 8 x)) s

pub node-is : (m : List ℕ) (p : ℕ) (n : FieldNode) → Stands m p (node_bytes n) → node_of m p ≡ kept_node n
node-is m p n s =
    ap (λ (z : ℤ). record { length = z; null_count = signed64 m (p + 8) }) (signed64-is m p n.length (stands-first m p (le 8 (bits64 n.length)) _ s))
    ∙ ap (λ (z : ℤ). record { length = kept_bytes64 n.length; null_count = z }) (signed64-is m (p + 8) n.null_count (after-long m p _ _ s))

pub buffer-is : (m : List ℕ) (p : ℕ) (b : Buffer) → Stands m p (buffer_bytes b) → buffer_of m p ≡ kept_buffer b
buffer-is m p b s =
    ap (λ (z : ℤ). record { offset = z; length = signed64 m (p + 8) }) (signed64-is m p b.offset (stands-first m p (le 8 (bits64 b.offset)) _ s))
    ∙ ap (λ (z : ℤ). record { offset = kept_bytes64 b.offset; length = z }) (signed64-is m (p + 8) b.length (after-long m p _ _ s))

pub after-word : (m : List ℕ) (p q : ℕ) (x : ℕ) (ys : List ℕ) → p + 4 ≡ q → Stands m p (le 4 x ++ ys) → Stands m q ys
after-word m p q x ys e s = stands-then m p q (le 4 x) ys (omega (arith, length-le 4 x)) s

pub block-is : (m : List ℕ) (p : ℕ) (b : Block) → Stands m p (block_bytes b) → block_of m p ≡ kept_block b
block-is m p b s =
    let metadata = after-long m p _ _ s in
    let unused = after-word m (p + 8) (p + 12) _ _ (omega arith) metadata in
    let body = after-word m (p + 12) (p + 16) _ _ (omega arith) unused in
    ap (λ (z : ℤ). record { offset = z; meta_data_length = signed32 m (p + 8); body_length = signed64 m (p + 16) }) (signed64-is m p b.offset (stands-first m p (le 8 (bits64 b.offset)) _ s))
    ∙ ap (λ (z : ℤ). record { offset = kept_bytes64 b.offset; meta_data_length = z; body_length = signed64 m (p + 16) }) (signed32-is m (p + 8) b.meta_data_length (stands-first m (p + 8) (le 4 (bits32 b.meta_data_length)) _ metadata))
    ∙ ap (λ (z : ℤ). record { offset = kept_bytes64 b.offset; meta_data_length = kept_bytes32 b.meta_data_length; body_length = z }) (signed64-is m (p + 16) b.body_length body)
