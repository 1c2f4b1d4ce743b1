-- A number of 32 or 64 bits stays the same.
use Rattle.std.proofs.Common.{◌≡◌, ℤ, zero, suc, ◌^◌, ◌<◌, List, [], ◌∷◌, map, SFits, refl, sym, ap, ◌∙◌, arith}
use Rattle.std.specs.Int.{w32, w64, cast_signed}
use Rattle.std.specs.List.{All}
use Rattle.std.proofs.lemmas.Int.{to_z-of_z}
use Rattle.std.proofs.Math.Facts.{Fits-of_z}
use Rattle.byteorder.specs.Endian.{little_number}
use Rattle.ipc_table_views.specs.declared.file.Block.{Block}
use Rattle.ipc_table_views.specs.declared.message.FieldNode.{FieldNode}
use Rattle.ipc_table_views.specs.declared.schema.Buffer.{Buffer}
use Rattle.ipc_table_bytes.proofs.Standing.{le-number}
use Rattle.ipc_tables.specs.Reads.{kept_buffer, kept_node}
use Rattle.ipc_tables.specs.Slots.{bits32, bits64, kept32, kept64, kept_bytes32, kept_bytes64}
use Rattle.ipc_tables.proofs.Numbers.{take-le}

pub kept32-is : (z : ℤ) → SFits w32 z → kept32 z ≡ z
kept32-is z fits = to_z-of_z w32 z fits

pub kept64-is : (z : ℤ) → SFits w64 z → kept64 z ≡ z
kept64-is z fits = to_z-of_z w64 z fits

pub kept_bytes32-is : (z : ℤ) → SFits w32 z → kept_bytes32 z ≡ z
kept_bytes32-is z fits =
    let small : bits32 z < 2 ^ 32 = (Fits-of_z fits).fits in
    ap (λ xs. cast_signed w32 (little_number 4 xs)) (sym (take-le 4 (bits32 z)))
    ∙ ap (cast_signed w32) (le-number 4 4 (bits32 z) (omega arith) (omega arith)) ∙ to_z-of_z w32 z fits

pub kept_bytes64-is : (z : ℤ) → SFits w64 z → kept_bytes64 z ≡ z
kept_bytes64-is z fits =
    let small : bits64 z < 2 ^ 64 = (Fits-of_z fits).fits in
    ap (λ xs. cast_signed w64 (little_number 8 xs)) (sym (take-le 8 (bits64 z)))
    ∙ ap (cast_signed w64) (le-number 8 8 (bits64 z) (omega arith) (omega arith)) ∙ to_z-of_z w64 z fits

-- the numbers of a struct fit
abbrev pub NodeFits : FieldNode → Type 0
NodeFits n = SFits w64 n.length × SFits w64 n.null_count

abbrev pub BufferFits : Buffer → Type 0
BufferFits b = SFits w64 b.offset × SFits w64 b.length

abbrev pub BlockFits : Block → Type 0
BlockFits b = SFits w64 b.offset × SFits w32 b.meta_data_length × SFits w64 b.body_length

kept_node-is : (n : FieldNode) → NodeFits n → kept_node n ≡ n
kept_node-is n (f, g) =
    ap (λ (z : ℤ). record { length = z; null_count = kept_bytes64 n.null_count }) (kept_bytes64-is n.length f)
    ∙ ap (λ (z : ℤ). record { length = n.length; null_count = z }) (kept_bytes64-is n.null_count g)

kept_buffer-is : (b : Buffer) → BufferFits b → kept_buffer b ≡ b
kept_buffer-is b (f, g) =
    ap (λ (z : ℤ). record { offset = z; length = kept_bytes64 b.length }) (kept_bytes64-is b.offset f)
    ∙ ap (λ (z : ℤ). record { offset = b.offset; length = z }) (kept_bytes64-is b.length g)

-- A list each of whose elements stays the same.
kept-all : {S : Type 0} (kept : S → S) (fits : S → Type 0) → ((s : S) → fits s → kept s ≡ s) → (ss : List S) → All fits ss → map kept ss ≡ ss
kept-all kept fits one [] ok = refl
kept-all kept fits one (s ∷ ss) ok =
    ap (λ y. y ∷ map kept ss) (one s (ok zero s (omega arith))) ∙ ap (λ r. s ∷ r) (kept-all kept fits one ss (λ k d h. ok (suc k) d (omega arith)))

pub kept-ids : (ids : List ℤ) → All (SFits w32) ids → map kept_bytes32 ids ≡ ids
kept-ids ids ok = kept-all kept_bytes32 (SFits w32) kept_bytes32-is ids ok

pub kept-nodes : (ns : List FieldNode) → All NodeFits ns → map kept_node ns ≡ ns
kept-nodes ns ok = kept-all kept_node NodeFits kept_node-is ns ok

pub kept-buffers : (bs : List Buffer) → All BufferFits bs → map kept_buffer bs ≡ bs
kept-buffers bs ok = kept-all kept_buffer BufferFits kept_buffer-is bs ok
