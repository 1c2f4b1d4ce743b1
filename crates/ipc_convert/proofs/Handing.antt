-- Chunks that are copied, one after the other.
use Rattle.std.proofs.Common.{◌≡◌, ℕ, ◌+◌, ◌-◌, ◌^◌, ◌≤◌, List, [], ◌∷◌, ◌++◌, length, Option, Some, Err, inl, inr, refl, sym, subst, ◌∙◌, append-nil, length-append, arith}
use Rattle.lower_arrays.specs.declared.array.AnyArray.{AnyArray}
use Rattle.ipc_devices.proofs.Claims.{claims_through}
use Rattle.ipc_devices.specs.Faults.{OnRefused, OwnFault}
use Rattle.ipc_devices.specs.declared.fault.ArgFault.TheVariants.{TooLarge}
use Rattle.ipc_devices.specs.declared.fault.Fault.{Fault}
use Rattle.ipc_devices.specs.declared.fault.Fault.TheVariants.{Argument, Io}
use Rattle.ipc_model.specs.Batches.{Chunk}
use Rattle.ipc_read.specs.Chunks.{chunk_seen}
use Rattle.ipc_convert.specs.Chunks.{BreaksAt, Copied, CopiedOne, Handed, HandedOne, MovedInTurn, Moved, NoneFailed, Nothing, RefusesAt, StopsCopy, StopsOne, TookWhatCame}
use Rattle.ipc_convert.specs.declared.chunks.Ending.{Ending}

-- So many chunks were read, and written.
pub record HandedMany {S T : Type 0} (came : Moved S) (took : Moved T) (n : ℕ) (a : S) (v : T) (b : S) (w : T) : Type 0 where
  pub handed : Handed came took a v b w
  pub count : length handed.chunks ≡ n

pub nothing_handed : {S T : Type 0} (came : Moved S) (took : Moved T) → Nothing came → Nothing took → (a : S) (v : T) → HandedMany came took 0 a v a v
nothing_handed came took first second a v = record { handed = record { chunks = []; came_all = first a; took_all = second v }; count = refl }

pub handed_on : {S T : Type 0} (came : Moved S) (took : Moved T) → MovedInTurn came → MovedInTurn took → (n : ℕ) (a b c : S) (u v w : T) → HandedMany came took n a u b v → HandedOne came took b v c w
    → HandedMany came took (n + 1) a u c w
handed_on came took first second n a b c u v w many one = record {
  handed = record {
    chunks = many.handed.chunks ++ one.chunk ∷ [];
    came_all = first a many.handed.chunks b (one.chunk ∷ []) c many.handed.came_all one.came_one;
    took_all = second u many.handed.chunks v (one.chunk ∷ []) w many.handed.took_all one.took_one;
  };
  count = let all = length-append many.handed.chunks (one.chunk ∷ []) in omega (arith, all, many.count);
}

pub all_handed : {S T : Type 0} (came : Moved S) (stopped : S → Ending → S → Type 0) (took : Moved T) (a b c : S) (u v w : T) (o : Option Ending) (ending : Ending) → o ≡ Some ending
    → Handed came took a u b v → CopiedOne came stopped took b v o c w → Copied came stopped took a u ending c w
all_handed came stopped took a b c u v w o ending is one none =
    let stops = subst (λ (x : Option Ending). CopiedOne came stopped took b v x c w) is none in
    record { last = b; handed = subst (λ (x : _). Handed came took a u b x) (sym stops.1) one; stops = stops.0 }

-- A step that wrote nothing leaves the chunks that were written.
pub none_more : {S T : Type 0} (came : Moved S) (took : Moved T) → MovedInTurn took → (a b : S) (u v w : T) → Handed came took a u b v → took v [] w → TookWhatCame came took a u w
none_more came took law a b u v w one none = record {
  last = b;
  handed = record {
    chunks = one.chunks;
    came_all = one.came_all;
    took_all = subst (λ (cs : List Chunk). took u cs w) (append-nil one.chunks) (law u one.chunks v [] w one.took_all none);
  };
}

-- no call of the devices failed, and then none more
pub none_on : {S T : Type 0} (failures : S → ℕ) (others : T → ℕ) (a b c : S) (u v w : T) → NoneFailed failures others a u b v → NoneFailed failures others b v c w → NoneFailed failures others a u c w
none_on failures others a b c u v w one more = (more.0 ∙ one.0, more.1 ∙ one.1)

-- What a propagated refusal leaves.
pub refused_then : (X Y : Type 0) {P Q : Type 0} (e : Fault) → (P → Q) → OnRefused {X = X} (Err e) P → OnRefused {X = Y} (Err e) Q
refused_then X Y (Io x) f p = tt
refused_then X Y _ f p = f p

-- ---- why no more are copied

pub next_stops : {S T : Type 0} (came : Moved S) (breaks : BreaksAt S) (took : Moved T) (refuses : RefusesAt T) (a b : S) (u v : T) (e : Fault) → Handed came took a u b v
    → OwnFault e (StopsOne came breaks refuses b v e) → OwnFault e (StopsCopy came breaks took refuses a u e)
next_stops came breaks took refuses a b u v e one = claims_through e _ _ (λ why. record { last = b; left = v; handed = one; why = inl why })

pub too_many : {S T : Type 0} (came : Moved S) (breaks : BreaksAt S) (took : Moved T) (refuses : RefusesAt T) (n : ℕ) (a b : S) (u v : T) → HandedMany came took n a u b v → 2 ^ 64 - 1 ≤ n
    → StopsCopy came breaks took refuses a u (Argument TooLarge)
too_many came breaks took refuses n a b u v many long = record { last = b; left = v; handed = many.handed; why = inr (refl, omega (arith, many.count, long)) }

pub source_stops : {S T : Type 0} (came : Moved S) (breaks : BreaksAt S) (refuses : RefusesAt T) (a : S) (v : T) (e : Fault) → OwnFault e (breaks a e) → OwnFault e (StopsOne came breaks refuses a v e)
source_stops came breaks refuses a v e = claims_through e _ _ (λ h. inl h)

pub sink_stops : {S T : Type 0} (came : Moved S) (breaks : BreaksAt S) (refuses : RefusesAt T) (a b : S) (v : T) (columns : List AnyArray) (e : Fault) → came a (chunk_seen columns ∷ []) b
    → OwnFault e (refuses v columns e) → OwnFault e (StopsOne came breaks refuses a v e)
sink_stops came breaks refuses a b v columns e one = claims_through e _ _ (λ h. inr (record { columns = columns; next = b; came_one = one; refused = h }))
