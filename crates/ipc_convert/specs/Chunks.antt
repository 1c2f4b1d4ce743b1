-- Chunks that are copied from a source to a sink.
use Rattle.std.specs.Prelude.{◌≡◌, ◌⊎◌, ℕ, ◌-◌, ◌^◌, ◌≤◌, List, [], ◌∷◌, ◌++◌, length, Option, Some, None}
use Rattle.lower_arrays.specs.declared.array.AnyArray.{AnyArray}
use Rattle.ipc_devices.specs.declared.fault.ArgFault.TheVariants.{TooLarge}
use Rattle.ipc_devices.specs.declared.fault.Fault.{Fault}
use Rattle.ipc_devices.specs.declared.fault.Fault.TheVariants.{Argument}
use Rattle.ipc_model.specs.Batches.{Chunk}
use Rattle.ipc_read.specs.Chunks.{chunk_seen}
use Rattle.ipc_convert.specs.declared.chunks.Ending.{Ending}
use Rattle.ipc_convert.specs.declared.chunks.Next.{Next}
use Rattle.ipc_convert.specs.declared.chunks.Next.TheVariants as nexts

-- `moved a cs b`: these chunks were read from a source, or written to a sink, in
-- state a, which left it in state b.
abbrev pub Moved : Type 0 → Type 1
Moved S = S → List Chunk → S → Type 0

-- `breaks a e`: in state a of a source this error comes in place of the next chunk.
abbrev pub BreaksAt : Type 0 → Type 1
BreaksAt S = S → Fault → Type 0

-- `refuses v columns e`: in state v of a sink the chunk of these
-- columns is refused with this error.
abbrev pub RefusesAt : Type 0 → Type 1
RefusesAt T = T → List AnyArray → Fault → Type 0

-- No call of two devices failed, from one state of each to another.
abbrev pub NoneFailed : {S T : Type 0} → (S → ℕ) → (T → ℕ) → (a : S) (v : T) (b : S) (w : T) → Type 0
NoneFailed failures others a v b w = (failures b ≡ failures a) × (others w ≡ others v)

-- If nothing was done, no chunk moved.
abbrev pub Nothing : {S : Type 0} → Moved S → Type 0
Nothing {S} moved = (a : S) → moved a [] a

-- The chunks of two steps moved one after the other.
abbrev pub MovedInTurn : {S : Type 0} → Moved S → Type 0
MovedInTurn {S} moved = (a : S) (xs : List Chunk) (b : S) (ys : List Chunk) (c : S) → moved a xs b → moved b ys c → moved a (xs ++ ys) c

-- The next chunk was read; or there is none, and the source ended so.
abbrev pub CameNext : {S : Type 0} → Moved S → (S → Ending → S → Type 0) → S → Next → S → Type 0
CameNext came stopped a (nexts.Chunk chunk) b = came a (chunk_seen chunk ∷ []) b
CameNext came stopped a (nexts.End ending) b = stopped a ending b

-- The chunks that were read are exactly those that were written.
pub record Handed {S T : Type 0} (came : Moved S) (took : Moved T) (a : S) (v : T) (b : S) (w : T) : Type 0 where
  pub chunks : List Chunk
  pub came_all : came a chunks b
  pub took_all : took v chunks w

-- The chunks that were written are the first that can be read.
pub record TookWhatCame {S T : Type 0} (came : Moved S) (took : Moved T) (a : S) (v w : T) : Type 0 where
  pub last : S
  pub handed : Handed came took a v last w

-- One chunk was read, and written.
pub record HandedOne {S T : Type 0} (came : Moved S) (took : Moved T) (a : S) (v : T) (b : S) (w : T) : Type 0 where
  pub chunk : Chunk
  pub came_one : came a (chunk ∷ []) b
  pub took_one : took v (chunk ∷ []) w

-- One chunk was read and written; or there is none, and the source ended so.
abbrev pub CopiedOne : {S T : Type 0} → Moved S → (S → Ending → S → Type 0) → Moved T → S → T → Option Ending → S → T → Type 0
CopiedOne came stopped took a v None b w = HandedOne came took a v b w
CopiedOne came stopped took a v (Some ending) b w = stopped a ending b × (w ≡ v)

-- All chunks were read and written, up to this end of the source.
pub record Copied {S T : Type 0} (came : Moved S) (stopped : S → Ending → S → Type 0) (took : Moved T) (a : S) (v : T) (ending : Ending) (b : S) (w : T) : Type 0 where
  pub last : S
  pub handed : Handed came took a v last w
  pub stops : stopped last ending b

-- ---- why not all are copied

-- A chunk was read that the sink refuses.
pub record ComesRefused {S T : Type 0} (came : Moved S) (refuses : RefusesAt T) (a : S) (v : T) (e : Fault) : Type 0 where
  pub columns : List AnyArray
  pub next : S
  pub came_one : came a (chunk_seen columns ∷ []) next
  pub refused : refuses v columns e

-- Why the next chunk isn't copied: an error comes in its place, or the sink refuses it.
abbrev pub StopsOne : {S T : Type 0} → Moved S → BreaksAt S → RefusesAt T → S → T → Fault → Type 0
StopsOne came breaks refuses a v e = breaks a e ⊎ ComesRefused came refuses a v e

-- There are more chunks than a loop can count: at least 2 ^ 64 - 1.
abbrev pub AreTooMany : List Chunk → Fault → Type 0
AreTooMany cs e = (e ≡ Argument TooLarge) × (2 ^ 64 - 1 ≤ length cs)

-- The first chunks were copied, and the next one isn't, or there are too many.
pub record StopsCopy {S T : Type 0} (came : Moved S) (breaks : BreaksAt S) (took : Moved T) (refuses : RefusesAt T) (a : S) (v : T) (e : Fault) : Type 0 where
  pub last : S
  pub left : T
  pub handed : Handed came took a v last left
  pub why : StopsOne came breaks refuses last left e ⊎ AreTooMany handed.chunks e
