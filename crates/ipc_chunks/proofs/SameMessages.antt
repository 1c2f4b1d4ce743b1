-- Messages by other definitions, and what is remembered after them.
use Rattle.std.proofs.Common.{◌≡◌, ℕ, List, subst, ap, ◌∙◌}
use Rattle.lower_types.specs.declared.Endianness.{Endianness}
use Rattle.lower_arrays.specs.Layouts.{Layout}
use Rattle.ipc_encode.specs.Encoding.{IsEncoded}
use Rattle.ipc_encode.specs.declared.batches.BatchKind.{BatchKind}
use Rattle.ipc_model.specs.Offers.{FilledPlace}
use Rattle.ipc_tracker.proofs.PlaceLists.{memory_is}
use Rattle.ipc_tracker.specs.Listings.{remembering_all}
use Rattle.ipc_tracker.specs.Trackers.{IsSameMemory, Remembered}

pub same_message : (order : Endianness) (k k' : BatchKind) (ls ls' : List Layout) (n n' : ℕ) (xs ys : List ℕ) → k ≡ k' → ls ≡ ls' → n ≡ n' → IsEncoded k order ls n xs ys
    → IsEncoded k' order ls' n' xs ys
same_message order k k' ls ls' n n' xs ys e f g h =
    subst (λ (j : BatchKind). IsEncoded j order ls' n' xs ys) e
    (subst (λ (ms : List Layout). IsEncoded k order ms n' xs ys) f (subst (λ (m : ℕ). IsEncoded k order ls m xs ys) g h))

-- Capacity changes nothing of what is remembered.
pub remembered_with_room : (ws : List FilledPlace) (m n after : Remembered) → IsSameMemory m n → IsSameMemory (remembering_all ws n) after → IsSameMemory (remembering_all ws m) after
remembered_with_room ws m n after same h = λ id. h id ∙ ap (λ (k : Remembered). remembering_all ws k id) (memory_is m n same)
