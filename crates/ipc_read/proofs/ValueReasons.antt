-- What the errors of a dictionary batch say of the entries of its values.
use Rattle.std.proofs.Common.{◌≡◌, ℤ, ℕ, Bool, Option, None, Some, IsSome, IfSome, sym, subst}
use Rattle.ipc_devices.specs.declared.fault.Fault.{Fault}
use Rattle.ipc_devices.specs.declared.fault.Fault.TheVariants.{Memory, OutOfSpec, NotYetImplemented}
use Rattle.ipc_devices.specs.declared.fault.Nyi.TheVariants.{Delta}
use Rattle.ipc_devices.specs.declared.fault.OutOfSpecKind.TheVariants.{InvalidFlatbufferIsDelta, InvalidFlatbufferId, InvalidFlatbufferData, MissingData}
use Rattle.ipc_table_views.specs.Spot.{Spot}
use Rattle.ipc_model.specs.Batches.{Schema, Body, Place, lists_of, places, place_of}
use Rattle.ipc_model.specs.Entries.{Dictionaries}
use Rattle.ipc_read.proofs.Reasons.{each_list, memory_says}
use Rattle.ipc_read.specs.DictionaryBatches.{dictionary_head, RefusesHead, TellsOfValues}
use Rattle.ipc_read.specs.Refusals.{TellsColumns}

module _ (known : Bool) (schema : Schema) (extra : ℕ) (ds : Dictionaries) (b : Body) (t : Spot) where
  abbrev at_place : (v : Spot) (e : Fault) → Option Place → Type 0
  at_place v e o = IfSome o (λ _. TellsColumns known schema.order extra ds b v e)

  abbrev at_head : (e : Fault) → Option (ℤ × Spot) → Type 0
  at_head e o = IfSome o (λ h. at_place h.1 e (place_of (places schema.fields schema.ids) h.0))

  placed : (v : Spot) (e : Fault) (o : Option Place) → TellsColumns known schema.order extra ds b v e → at_place v e o
  placed v e None h = tt
  placed v e (Some p) h = h

  at_each : (e : Fault) (o : Option (ℤ × Spot)) → ((v : Spot) → TellsColumns known schema.order extra ds b v e) → at_head e o
  at_each e None each = tt
  at_each e (Some h) each = placed h.1 e (place_of (places schema.fields schema.ids) h.0) (each h.1)

  -- An error of the batch itself says nothing of its values.
  head_says : (v : Spot) (e : Fault) → RefusesHead t e → TellsColumns known schema.order extra ds b v e
  head_says v (OutOfSpec (InvalidFlatbufferIsDelta x)) h = each_list (lists_of v) _ (λ lists. tt)
  head_says v (OutOfSpec (InvalidFlatbufferId x)) h = each_list (lists_of v) _ (λ lists. tt)
  head_says v (OutOfSpec (InvalidFlatbufferData x)) h = each_list (lists_of v) _ (λ lists. tt)
  head_says v (OutOfSpec MissingData) h = each_list (lists_of v) _ (λ lists. tt)
  head_says v (NotYetImplemented Delta) h = each_list (lists_of v) _ (λ lists. tt)
  head_says v _ h = absurd h

  pub headless_tells : (e : Fault) → RefusesHead t e → TellsOfValues known schema extra ds b t e
  headless_tells e h = at_each e (dictionary_head t) (λ v. head_says v e h)

  pub memory_of_values : TellsOfValues known schema extra ds b t Memory
  memory_of_values = at_each Memory (dictionary_head t) (λ v. memory_says known schema.order extra ds b v)

  module _ (e : Fault) (id : ℤ) (v : Spot) (headed : dictionary_head t ≡ Some (id, v)) where
    pub unplaced_say : place_of (places schema.fields schema.ids) id ≡ None → TellsOfValues known schema extra ds b t e
    unplaced_say none = subst (at_head e) (sym headed) (subst (at_place v e) (sym none) tt)

    pub values_say : TellsColumns known schema.order extra ds b v e → TellsOfValues known schema extra ds b t e
    values_say h = subst (at_head e) (sym headed) (placed v e (place_of (places schema.fields schema.ids) id) h)

pub ruleset value_reasons = (headless_tells, memory_of_values)
