-- What an error says of the entries of a batch, for all readers with the same values.
use Rattle.std.proofs.Common.{◌≡◌, ℤ, ℕ, Bool, Option, None, Some, IsSome, IfSome, option_map, sym, subst, inl, inr}
use Rattle.lower_types.specs.declared.Endianness.{Endianness}
use Rattle.ipc_devices.proofs.Claims.{claims_through}
use Rattle.ipc_devices.specs.Faults.{OwnFault}
use Rattle.ipc_devices.specs.declared.fault.Fault.{Fault}
use Rattle.ipc_devices.specs.declared.fault.Fault.TheVariants.{Ended, OutOfSpec}
use Rattle.ipc_devices.specs.declared.fault.OutOfSpecKind.TheVariants.{NegativeFooterLength, InvalidBuffer, InvalidBitmap, InvalidId, InvalidIdDataType}
use Rattle.ipc_stream_lemmas.specs.Agreement.{KnowAlike}
use Rattle.ipc_table_views.specs.Spot.{Spot}
use Rattle.ipc_model.specs.Batches.{Schema, Body, Lists, Place, entries_of, lists_of, places, place_of}
use Rattle.ipc_model.specs.Entries.{Dictionary, Dictionaries, Entries}
use Rattle.ipc_read_flat.specs.Refusals.{TellsEntries}
use Rattle.ipc_read.proofs.Reasons.{each_list}
use Rattle.ipc_read.specs.DictionaryBatches.{dictionary_head, TellsOfValues}
use Rattle.ipc_read.specs.Refusals.{TellsColumns}

module _ (known : Bool) (order : Endianness) (extra : ℕ) (ds es : Dictionaries) (b : Body) (alike : KnowAlike ds es) where
  entries_alike : (lists : Lists) (e : Fault) → TellsEntries known (entries_of lists b order extra es) e → TellsEntries known (entries_of lists b order extra ds) e
  unfolding entries_of
  entries_alike lists (OutOfSpec NegativeFooterLength) h = elim h [
    | inl n ↦ inl (record { index = n.index; inside = n.inside; is = n.is })
    | inr p ↦ inr (record { index = p.index; inside = p.inside; is = p.is })
  ]
  entries_alike lists (OutOfSpec (InvalidBuffer a x m n)) h = (h.0, record { index = h.1.index; inside = h.1.inside; is = h.1.is })
  entries_alike lists (OutOfSpec (InvalidBitmap a n)) h = (h.0, record { index = h.1.index; inside = h.1.inside; is = h.1.is })
  entries_alike lists Ended h = λ k. let p = h k in record { index = p.index; inside = p.inside; is = p.is }
  entries_alike lists (OutOfSpec (InvalidId id)) h = elim h [
    | inl zero ↦ inl zero
    | inr none ↦ inr (subst (λ (o : Option Dictionary). option_map (λ d. d.type) o ≡ None) (sym (alike.each id)) none)
  ]
  entries_alike lists (OutOfSpec (InvalidIdDataType id)) h = subst (λ (o : Option Dictionary). IsSome (option_map (λ d. d.type) o)) (sym (alike.each id)) h
  entries_alike lists _ h = tt

  lists_alike : (o : Option Lists) (e : Fault) → IfSome o (λ lists. OwnFault e (TellsEntries known (entries_of lists b order extra es) e))
      → IfSome o (λ lists. OwnFault e (TellsEntries known (entries_of lists b order extra ds) e))
  lists_alike None e h = tt
  lists_alike (Some lists) e h =
      claims_through e (TellsEntries known (entries_of lists b order extra es) e) (TellsEntries known (entries_of lists b order extra ds) e) (entries_alike lists e) h

  pub columns_alike : (t : Spot) (e : Fault) → TellsColumns known order extra es b t e → TellsColumns known order extra ds b t e
  columns_alike t e h = lists_alike (lists_of t) e h

-- ---- of the values of a dictionary

module _ (P Q : Spot → Type 0) (f : (v : Spot) → P v → Q v) where
  at_place : (v : Spot) (o : Option Place) → IfSome o (λ _. P v) → IfSome o (λ _. Q v)
  at_place v None h = tt
  at_place v (Some p) h = f v h

  at_head : (schema : Schema) (o : Option (ℤ × Spot)) → IfSome o (λ h. IfSome (place_of (places schema.fields schema.ids) h.0) (λ _. P h.1))
      → IfSome o (λ h. IfSome (place_of (places schema.fields schema.ids) h.0) (λ _. Q h.1))
  at_head schema None h = tt
  at_head schema (Some x) h = at_place x.1 (place_of (places schema.fields schema.ids) x.0) h

pub values_alike : (known : Bool) (schema : Schema) (extra : ℕ) (ds es : Dictionaries) (b : Body) → KnowAlike ds es → (t : Spot) (e : Fault)
    → TellsOfValues known schema extra es b t e → TellsOfValues known schema extra ds b t e
values_alike known schema extra ds es b alike t e h =
    at_head (λ v. TellsColumns known schema.order extra es b v e) (λ v. TellsColumns known schema.order extra ds b v e)
    (λ v. columns_alike known schema.order extra ds es b alike v e) schema (dictionary_head t) h

everywhere_placed : (P : Spot → Type 0) (v : Spot) (o : Option Place) → P v → IfSome o (λ _. P v)
everywhere_placed P v None h = tt
everywhere_placed P v (Some p) h = h

everywhere : (schema : Schema) (P : Spot → Type 0) (o : Option (ℤ × Spot)) → ((v : Spot) → P v) → IfSome o (λ h. IfSome (place_of (places schema.fields schema.ids) h.0) (λ _. P h.1))
everywhere schema P None each = tt
everywhere schema P (Some x) each = everywhere_placed P x.1 (place_of (places schema.fields schema.ids) x.0) (each x.1)

-- An error that says nothing of entries.
pub none_named : (known : Bool) (schema : Schema) (extra : ℕ) (ds : Dictionaries) (b : Body) (t : Spot) (e : Fault) → ((s : Entries) → OwnFault e (TellsEntries known s e))
    → TellsOfValues known schema extra ds b t e
none_named known schema extra ds b t e each =
    everywhere schema (λ v. TellsColumns known schema.order extra ds b v e) (dictionary_head t)
    (λ v. each_list (lists_of v) (λ lists. OwnFault e (TellsEntries known (entries_of lists b schema.order extra ds) e)) (λ lists. each (entries_of lists b schema.order extra ds)))
