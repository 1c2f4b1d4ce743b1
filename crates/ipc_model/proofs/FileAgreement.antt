-- Files that agree have one meaning.
use Rattle.std.proofs.Common.{◌≡◌, ℕ, List, Option, None, Some, Bool, true, false, nat_eq, cond, refl, ap, ◌∙◌}
use Rattle.std.specs.Option.{option_and_then}
use Rattle.ipc_model.proofs.Agreement.{agree_law}
use Rattle.ipc_model.specs.BatchLaws.{Agree}
use Rattle.ipc_model.specs.Batches.{kinds, Lists, lists_of, chosen, record_meaning}
use Rattle.ipc_model.specs.Entries.{Dictionaries, Limit}
use Rattle.ipc_model.specs.Files.{FileMetadata, Placed, placed, metadata_at, BlockHeader, block_header, body_at, record_with, chunk_at}
use Rattle.ipc_model.specs.FileLaws.{FileAgreeLaw}
use Rattle.ipc_model.specs.Kinds.{count}
use Rattle.ipc_model.specs.Schemas.{given}

-- What follows from an optional value is the same if it is the same for each value that is there.
given_same : {A B : Type 0} (o : Option A) (f g : A → Option B) → ((x : A) → o ≡ Some x → f x ≡ g x) → given o f ≡ given o g
given_same None f g h = refl
given_same (Some x) f g h = h x refl

then_same : {A B : Type 0} (o : Option A) (f g : A → Option B) → ((x : A) → o ≡ Some x → f x ≡ g x) → option_and_then f o ≡ option_and_then g o
then_same None f g h = refl
then_same (Some x) f g h = h x refl

cond_same : {X : Type 0} (b : Bool) (x y z : X) → x ≡ y → cond b x z ≡ cond b y z
cond_same true x y z e = e
cond_same false x y z e = refl

record_same : (m : FileMetadata) (known : Dictionaries) (p : Placed) (h : BlockHeader) (projection : Option (List ℕ)) (limit : Limit) (xs ys : List ℕ)
    → ((lists : Lists) → lists_of h.table ≡ Some lists → Agree lists.buffers h.extra (kinds m.schema) (body_at m xs p) (body_at m ys p) (chosen projection (count (kinds m.schema))))
    → record_with m known (body_at m xs p) projection limit h ≡ record_with m known (body_at m ys p) projection limit h
unfolding record_meaning
record_same m known p h projection limit xs ys agree =
    cond_same (nat_eq h.tag 3) _ _ None
    (then_same (lists_of h.table) _ _ (λ lists e. agree_law lists (body_at m xs p) (body_at m ys p) m.schema.order h.extra known m.schema projection limit refl (agree lists e)))

pub file_agree_law : FileAgreeLaw
unfolding chunk_at
file_agree_law m known b projection limit xs ys agree =
    given_same (placed b) _ _ (λ p e.
    given_same (metadata_at xs p) _ _ (λ metadata f.
    given_same (block_header metadata) _ _ (λ h g. record_same m known p h projection limit xs ys (λ lists i. agree.ranges p metadata h lists e f g i)))
    ∙ ap (λ o. given o (λ metadata. given (block_header metadata) (record_with m known (body_at m ys p) projection limit))) (agree.metadata p e))
