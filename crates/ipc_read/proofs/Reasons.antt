-- What the errors of a batch say of its entries.
use Rattle.std.proofs.Common.{arith, rules, ◌≡◌, ◌<◌, ℕ, zero, suc, ℤ, pos, negsuc, Bool, List, [], ◌∷◌, length, map, get_or, Option, None, Some, IsSome, IfSome, sym, subst, inr, refl}
use Rattle.std.proofs.lemmas.List.{length-map, get_or-map}
use Rattle.lower_types.specs.declared.Endianness.{Endianness}
use Rattle.ipc_devices.proofs.Claims.{claims_through}
use Rattle.ipc_devices.specs.Faults.{OwnFault}
use Rattle.ipc_devices.specs.declared.fault.ArgFault.TheVariants.{UnequalRows}
use Rattle.ipc_devices.specs.declared.fault.Fault.{Fault}
use Rattle.ipc_devices.specs.declared.fault.Fault.TheVariants.{OutOfSpec, Argument, Memory}
use Rattle.ipc_devices.specs.declared.fault.OutOfSpecKind.TheVariants.{NegativeFooterLength, InvalidBuffersLength, MissingMessageNodes, ExpectedBuffer}
use Rattle.ipc_table_views.specs.Spot.{Spot}
use Rattle.ipc_table_views.specs.declared.schema.Buffer.{Buffer}
use Rattle.ipc_model.specs.Batches.{Body, Lists, entries_of, lists_of}
use Rattle.ipc_model.specs.Entries.{Dictionaries, Entries, IsSize, Part, part_at, buffer}
use Rattle.ipc_read_flat.specs.Refusals.{TellsEntries}
use Rattle.ipc_read.specs.Refusals.{TellsColumns, TellsCounts, TellsLengths}
use Rattle.ipc_read.specs.Sizes.{AreSizes}

-- ---- a length below 0

record Negative (bs : List Buffer) : Type 0 where
  index : ℕ
  inside : index < length bs
  is : IsSize (get_or bs index (record { offset = pos 0; length = pos 0 })).length → ⊥

behind_first : (r : Buffer) (bs : List Buffer) → Negative bs → Negative (r ∷ bs)
behind_first r bs h = record { index = suc h.index; inside = omega (arith, h.inside); is = h.is }

sizes_of_none : AreSizes []
sizes_of_none = record { each = λ k d l. absurd (omega (arith, l)) }

first_or : (r : Buffer) (bs : List Buffer) → IsSize r.length → AreSizes bs → (k : ℕ) (d : Buffer) → k < length (r ∷ bs) → IsSize (get_or (r ∷ bs) k d).length
first_or r bs h hs zero d l = h
first_or r bs h hs (suc k) d l = hs.each k d (omega (arith, l))

sizes_of_more : (r : Buffer) (bs : List Buffer) → IsSize r.length → AreSizes bs → AreSizes (r ∷ bs)
sizes_of_more r bs h hs = record { each = first_or r bs h hs }

is_size : (n : ℕ) → IsSize (pos n)
is_size n = search rules

by_first : (r : Buffer) (bs : List Buffer) (z : ℤ) → r.length ≡ z → (AreSizes (r ∷ bs) → ⊥) → ((AreSizes bs → ⊥) → Negative bs) → Negative (r ∷ bs)
by_first r bs (negsuc n) is h later = record { index = 0; inside = omega arith; is = λ natural. let no : IsSize (negsuc n) = subst IsSize is natural in absurd (omega (arith, no)) }
by_first r bs (pos n) is h later =
    let natural : IsSize r.length = subst IsSize (sym is) (is_size n) in
    behind_first r bs (later (λ hs. h (sizes_of_more r bs natural hs)))

negative_of : (bs : List Buffer) → (AreSizes bs → ⊥) → Negative bs
negative_of [] h = absurd (h sizes_of_none)
negative_of (r ∷ bs) h = by_first r bs r.length refl h (negative_of bs)

-- ---- what is known of lists that are present

pub each_list : (o : Option Lists) (P : Lists → Type 0) → ((lists : Lists) → P lists) → IfSome o P
each_list None P h = tt
each_list (Some lists) P h = h lists

module _ (known : Bool) (order : Endianness) (extra : ℕ) (ds : Dictionaries) (b : Body) (t : Spot) where
  unlisted : (o : Option Lists) (e : Fault) → OwnFault e (IsSome o → ⊥) → IfSome o (λ lists. OwnFault e (TellsEntries known (entries_of lists b order extra ds) e))
  unlisted None e h = tt
  unlisted (Some lists) e h =
      claims_through e (IsSome (Some lists) → ⊥) (TellsEntries known (entries_of lists b order extra ds) e) (λ d. absurd (d refl)) h

  pub unlisted_tells : (e : Fault) → OwnFault e (IsSome (lists_of t) → ⊥) → TellsColumns known order extra ds b t e
  unlisted_tells e h = unlisted (lists_of t) e h

  pub unequal_tells : (e : Fault) → e ≡ Argument UnequalRows → TellsColumns known order extra ds b t e
  unequal_tells e is = subst (TellsColumns known order extra ds b t) (sym is) (each_list (lists_of t) _ (λ lists. tt))

  module _ (lists : Lists) (listed : lists_of t ≡ Some lists) where
    pub entries_tell : (e : Fault) → OwnFault e (TellsEntries known (entries_of lists b order extra ds) e) → TellsColumns known order extra ds b t e
    entries_tell e h = subst (λ (o : Option Lists). IfSome o (λ ls. OwnFault e (TellsEntries known (entries_of ls b order extra ds) e))) (sym listed) h

    negative_buffer : Negative lists.buffers → TellsEntries known (entries_of lists b order extra ds) (OutOfSpec NegativeFooterLength)
    unfolding entries_of
    negative_buffer h =
        let at = part_at b.source b.base in
        let same : buffer (entries_of lists b order extra ds) h.index ≡ at (get_or lists.buffers h.index (record { offset = pos 0; length = pos 0 })) =
        get_or-map at lists.buffers h.index (record { offset = pos 0; length = pos 0 }) (record { offset = pos 0; length = pos 0; bytes = [] }) h.inside
        in
        let many = length-map lists.buffers at in
        inr (record { index = h.index; inside = omega (arith, many, h.inside); is = λ natural. h.is (subst (λ (p : Part). IsSize p.length) same natural.1) })

    pub lengths_say : (size : ℕ) (e : Fault) → TellsLengths lists.buffers size e → TellsColumns known order extra ds b t e
    lengths_say size (OutOfSpec NegativeFooterLength) h = entries_tell (OutOfSpec NegativeFooterLength) (negative_buffer (negative_of lists.buffers h))
    lengths_say size (OutOfSpec (InvalidBuffersLength n m)) h = entries_tell (OutOfSpec (InvalidBuffersLength n m)) tt
    lengths_say size _ h = absurd h

    pub counts_say : (n k m l : ℕ) (e : Fault) → TellsCounts n k m l e → TellsColumns known order extra ds b t e
    counts_say n k m l (OutOfSpec MissingMessageNodes) h = entries_tell (OutOfSpec MissingMessageNodes) tt
    counts_say n k m l (OutOfSpec ExpectedBuffer) h = entries_tell (OutOfSpec ExpectedBuffer) tt
    counts_say n k m l _ h = absurd h

  pub memory_says : TellsColumns known order extra ds b t Memory
  memory_says = each_list (lists_of t) _ (λ lists. tt)

pub ruleset reasons = (unequal_tells, memory_says)
