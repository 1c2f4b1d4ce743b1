-- What is known after a dictionary batch.
use Rattle.std.proofs.Common.{◌≡◌, refl, ℕ, ℤ, Bool, true, false, [], ◌∷◌, Option, None, Some, IsSome, IfSome, Result, Ok, Err, sym, ap, subst, ◌∙◌, inl, inr}
use Rattle.std.specs.Option.{option_and_then}
use Rattle.lower.specs.Counts.{nodes, buffers}
use Rattle.lower.specs.Normal.{norm}
use Rattle.lower_arrays.specs.AnyLayouts.{layout_of}
use Rattle.lower_arrays.specs.Layouts.{type_of}
use Rattle.lower_arrays.specs.Slots.{slots}
use Rattle.lower_arrays.specs.declared.array.AnyArray.{AnyArray}
use Rattle.ipc_devices.proofs.Claims.{claimed, claims_own, claims_through}
use Rattle.ipc_devices.specs.Faults.{OwnFault}
use Rattle.ipc_devices.specs.declared.fault.Fault.{Fault}
use Rattle.ipc_devices.specs.declared.fault.Fault.TheVariants.{OutOfSpec, NotYetImplemented, Memory}
use Rattle.ipc_devices.specs.declared.fault.Nyi.TheVariants.{Compressed}
use Rattle.ipc_devices.specs.declared.fault.OutOfSpecKind.TheVariants.{InvalidId, InvalidBuffersLength, MissingMessageBuffers, MissingMessageNodes, ExpectedBuffer, InvalidFlatbufferBuffers, InvalidFlatbufferNodes, InvalidFlatbufferCompression}
use Rattle.ipc_devices.specs.declared.fault.TableFault.{TableFault}
use Rattle.ipc_table_views.specs.Spot.{Spot}
use Rattle.ipc_model.specs.Batches.{Schema, kinds, Body, lists_of, record_meaning, Place, places, place_of, values_schema, with_values, values_meaning, batch_meaning, dictionary_meaning}
use Rattle.ipc_model.specs.Entries.{Dictionaries}
use Rattle.ipc_model.specs.Kinds.{Kind}
use Rattle.ipc_model.specs.TypeKinds.{kind_of}
use Rattle.ipc_read_flat.proofs.Refusals.{kind_column}
use Rattle.ipc_read_flat.specs.Bodies.{dictionary_of}
use Rattle.ipc_read_flat.specs.Refusals.{IsFaultOf, IsColumnFault}
use Rattle.ipc_stream_lemmas.specs.Agreement.{KnowAlike}
use Rattle.ipc_read.proofs.Meanings.{some_is, some_listed}
use Rattle.ipc_read.specs.Chunks.{HasMeaning}
use Rattle.ipc_read.specs.DictionaryBatches.{GivesColumn, whole_head, dictionary_head, place_listed, head_listed, values_listed, GivesDictionary, BlamesDictionary, BlamesHead, BlamesPlace, IsHeadFault, IsValuesFault, IsDictionaryFault, RefusesHead, TellsHead, TellsPlace, TellsValues}
use Rattle.ipc_read.specs.Refusals.{TellsLists}
use Rattle.ipc_read.specs.Sizes.{chosen_listed}

-- ---- errors

pub head_in_dictionary : (e : Fault) → OwnFault e (IsHeadFault e) → OwnFault e (IsDictionaryFault e)
head_in_dictionary e h = claims_through e (IsHeadFault e) (IsDictionaryFault e) (λ f. inl f) h

values_are : (t : Kind) (e : Fault) → IsValuesFault t e → OwnFault e (IsDictionaryFault e)
values_are t e h = elim h [
  | inl f ↦ claimed e (IsDictionaryFault e) (inr (inl f))
  | inr f ↦ claims_through e (IsColumnFault e) (IsDictionaryFault e) (λ c. inr (inr c)) (kind_column t e (claimed e (IsFaultOf t e) f))
]

pub values_in_dictionary : (t : Kind) (e : Fault) → OwnFault e (IsValuesFault t e) → OwnFault e (IsDictionaryFault e)
values_in_dictionary t e h = claims_own e (IsValuesFault t e) (IsDictionaryFault e) (values_are t e) h

-- an id that no field has
pub unplaced_in_dictionary : (id : ℤ) → IsDictionaryFault (OutOfSpec (InvalidId id))
unplaced_in_dictionary id = inr (inr tt)

headless : (schema : Schema) (t : Spot) (o : Option (ℤ × Spot)) (e : Fault) → RefusesHead t e → (IsSome o → ⊥) → BlamesHead schema t o e
headless schema t None e f none = f
headless schema t (Some h) e f none = absurd (none refl)

pub head_blames : (schema : Schema) (t : Spot) (e : Fault) → RefusesHead t e → OwnFault e (IsSome (dictionary_head t) → ⊥) → OwnFault e (BlamesDictionary schema t e)
head_blames schema t e f denied =
    claims_through e (IsSome (dictionary_head t) → ⊥) (BlamesDictionary schema t e) (headless schema t (dictionary_head t) e f) denied

-- ---- what has to be so of the values

place_tells : (extra : ℕ) (v : Spot) (size : ℕ) (o : Option Place) (e : Fault) → ((n k : ℕ) → TellsLists v size n k e) → TellsPlace extra v size o e
place_tells extra v size None e each = tt
place_tells extra v size (Some p) e each = each (nodes p.type) (buffers extra p.type)

head_of_tells : (schema : Schema) (extra size : ℕ) (o : Option (ℤ × Spot)) (e : Fault) → ((v : Spot) (n k : ℕ) → TellsLists v size n k e) → TellsHead schema extra size o e
head_of_tells schema extra size None e each = tt
head_of_tells schema extra size (Some h) e each = place_tells extra h.1 size (place_of (places schema.fields schema.ids) h.0) e (each h.1)

-- An error that says nothing of any lists.
pub any_tells : (schema : Schema) (extra : ℕ) (t : Spot) (size : ℕ) (e : Fault) → ((v : Spot) (n k : ℕ) → TellsLists v size n k e) → TellsValues schema extra t size e
any_tells schema extra t size e each = head_of_tells schema extra size (dictionary_head t) e each

of_head : (v : Spot) (size n k : ℕ) (e : Fault) → OwnFault e (IsHeadFault e) → TellsLists v size n k e
of_head v size n k (OutOfSpec (InvalidFlatbufferCompression e)) h = absurd h
of_head v size n k (NotYetImplemented Compressed) h = absurd h
of_head v size n k (OutOfSpec (InvalidFlatbufferBuffers e)) h = absurd h
of_head v size n k (OutOfSpec MissingMessageBuffers) h = absurd h
of_head v size n k (OutOfSpec ExpectedBuffer) h = absurd h
of_head v size n k (OutOfSpec (InvalidFlatbufferNodes e)) h = absurd h
of_head v size n k (OutOfSpec MissingMessageNodes) h = absurd h
of_head v size n k (OutOfSpec (InvalidBuffersLength l m)) h = absurd h
of_head v size n k _ h = tt

pub head_tells : (schema : Schema) (extra : ℕ) (t : Spot) (size : ℕ) (e : Fault) → OwnFault e (IsHeadFault e) → TellsValues schema extra t size e
head_tells schema extra t size e h = any_tells schema extra t size e (λ v n k. of_head v size n k e h)

pub unplaced_tells : (schema : Schema) (extra : ℕ) (t : Spot) (size : ℕ) (id : ℤ) → TellsValues schema extra t size (OutOfSpec (InvalidId id))
unplaced_tells schema extra t size id = any_tells schema extra t size (OutOfSpec (InvalidId id)) (λ v n k. tt)

pub memory_tells : (schema : Schema) (extra : ℕ) (t : Spot) (size : ℕ) → TellsValues schema extra t size Memory
memory_tells schema extra t size = any_tells schema extra t size Memory (λ v n k. tt)

pub ruleset dictionary_faults = (head_in_dictionary, values_in_dictionary, unplaced_in_dictionary, head_blames, head_tells, unplaced_tells, memory_tells)

-- ---- errors after the head

module _ (schema : Schema) (t : Spot) (id : ℤ) (v : Spot) (headed : dictionary_head t ≡ Some (id, v)) where
  by_place : (o : Option Place) (e : Fault) → place_of (places schema.fields schema.ids) id ≡ o → BlamesPlace id o e → BlamesDictionary schema t e
  by_place o e placed f =
      subst (λ (h : Option (ℤ × Spot)). BlamesHead schema t h e) (sym headed) (subst (λ (q : Option Place). BlamesPlace id q e) (sym placed) f)

  pub unplaced_blames : place_of (places schema.fields schema.ids) id ≡ None → BlamesDictionary schema t (OutOfSpec (InvalidId id))
  unplaced_blames none = by_place None (OutOfSpec (InvalidId id)) none refl

  pub values_blame : (p : Place) (e : Fault) → place_of (places schema.fields schema.ids) id ≡ Some p → OwnFault e (IsValuesFault (kind_of p.type None p.ids) e)
      → OwnFault e (BlamesDictionary schema t e)
  values_blame p e placed h = claims_through e (IsValuesFault (kind_of p.type None p.ids) e) (BlamesDictionary schema t e) (by_place (Some p) e placed) h

  -- What is known of the lists is known of those of the values.
  pub values_told : (p : Place) (extra size : ℕ) (e : Fault) → place_of (places schema.fields schema.ids) id ≡ Some p → TellsLists v size (nodes p.type) (buffers extra p.type) e
      → TellsValues schema extra t size e
  values_told p extra size e placed h =
      subst (λ (o : Option (ℤ × Spot)). TellsHead schema extra size o e) (sym headed) (subst (λ (o : Option Place). TellsPlace extra v size o e) (sym placed) h)

-- ---- the meaning, by the head of the batch

nothing : {X : Type 0} (o : Option X) → o ≡ None → IsSome o → ⊥
nothing None e h = absurd cc
nothing (Some x) e h = absurd cc

by_head : (schema : Schema) (extra : ℕ) (known : Dictionaries) (b : Body) (i : Result ℤ TableFault) (d : Result Bool TableFault) (v : Result (Option Spot) TableFault)
    → batch_meaning schema extra known b i d v ≡ option_and_then (λ (h : ℤ × Spot). option_and_then (values_meaning schema extra known b h.0 h.1) (place_of (places schema.fields schema.ids) h.0)) (whole_head i d v)
by_head schema extra known b (Ok id) (Ok false) (Ok (Some t)) = refl
by_head schema extra known b (Ok id) (Ok false) (Ok None) = refl
by_head schema extra known b (Ok id) (Ok false) (Err e) = refl
by_head schema extra known b (Ok id) (Ok true) v = refl
by_head schema extra known b (Ok id) (Err e) v = refl
by_head schema extra known b (Err e) d v = refl

module _ (schema : Schema) (extra : ℕ) (known : Dictionaries) (b : Body) (t : Spot) where
  meaning_is : dictionary_meaning schema extra known b t
      ≡ option_and_then (λ (h : ℤ × Spot). option_and_then (values_meaning schema extra known b h.0 h.1) (place_of (places schema.fields schema.ids) h.0)) (dictionary_head t)
  unfolding dictionary_meaning
  meaning_is = by_head schema extra known b _ _ _

  -- a batch with a meaning has a head
  pub head_there : IsSome (dictionary_meaning schema extra known b t) → IsSome (dictionary_head t)
  head_there h = some_listed _ (dictionary_head t) (subst (λ (o : Option Dictionaries). IsSome o) meaning_is h)

  module _ (id : ℤ) (v : Spot) (headed : dictionary_head t ≡ Some (id, v)) where
    placed_is : dictionary_meaning schema extra known b t ≡ option_and_then (values_meaning schema extra known b id v) (place_of (places schema.fields schema.ids) id)
    placed_is =
        meaning_is
        ∙ ap (option_and_then (λ (h : ℤ × Spot). option_and_then (values_meaning schema extra known b h.0 h.1) (place_of (places schema.fields schema.ids) h.0))) headed

    -- A field has its id.
    pub place_there : IsSome (dictionary_meaning schema extra known b t) → IsSome (place_of (places schema.fields schema.ids) id)
    place_there h = some_listed _ (place_of (places schema.fields schema.ids) id) (subst (λ (o : Option Dictionaries). IsSome o) placed_is h)

    pub no_place : place_of (places schema.fields schema.ids) id ≡ None → IsSome (dictionary_meaning schema extra known b t) → ⊥
    no_place none h = nothing (place_of (places schema.fields schema.ids) id) none (place_there h)

    module _ (p : Place) (placed : place_of (places schema.fields schema.ids) id ≡ Some p) where
      valued_is : dictionary_meaning schema extra known b t ≡ option_and_then (with_values known id p) (record_meaning (values_schema p schema.order) extra known b v None None)
      valued_is = placed_is ∙ ap (option_and_then (values_meaning schema extra known b id v)) placed

      -- and its values have a meaning
      pub values_there : IsSome (dictionary_meaning schema extra known b t) → HasMeaning (values_schema p schema.order) extra known b v None None
      values_there h = some_listed _ _ (subst (λ (o : Option Dictionaries). IsSome o) valued_is h)

      -- they are known then
      pub dictionary_given : {X : Type 0} (x : AnyArray) (r : X) (after : Dictionaries) → GivesColumn (values_schema p schema.order) extra known b v p.type (Ok x)
          → KnowAlike ((id, dictionary_of (layout_of x)) ∷ known) after → GivesDictionary schema extra known b t (Ok r) after
      dictionary_given x r after given same =
          let named : norm p.type ≡ norm (type_of (layout_of x)) = ap norm (sym given.1.1) in
          let means : dictionary_meaning schema extra known b t ≡ Some ((id, dictionary_of (layout_of x)) ∷ known) =
          valued_is
          ∙ ap (option_and_then (with_values known id p)) given.1.0
          ∙ (λ i. Some ((id, record { type = named i; slots = slots (layout_of x) }) ∷ known))
          in
          (some_is _ _ means, subst (λ (o : Option Dictionaries). IfSome o (λ ds. KnowAlike ds after)) (sym means) same)

      -- The encoded lengths of its values.
      pub listed_is : values_listed schema extra t ≡ chosen_listed (lists_of v) extra (kinds (values_schema p schema.order)) (0 ∷ [])
      listed_is = ap (head_listed schema extra) headed ∙ ap (place_listed extra schema.order v) placed
