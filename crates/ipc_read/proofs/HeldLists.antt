-- How many bytes the arrays of a batch retain, by the lists of the batch.
use Rattle.std.proofs.Common.{arith, refl, ◌≡◌, ℕ, ℤ, pos, ◌+◌, ◌≤◌, List, [], ◌∷◌, length, Option, None, Some, Result, Ok, Err, IfOk, sym, ap, subst, ◌∙◌, inl, inr}
use Rattle.std.proofs.lemmas.Bool.{cases_lt}
use Rattle.std.proofs.lemmas.List.{get_or_past}
use Rattle.std.proofs.lemmas.List.Sums.{sum_by-cons}
use Rattle.std.specs.HashMap.{HashMap, Updates}
use Rattle.std.specs.Ordering.{int_eq}
use Rattle.std.specs.declared.sync.Arc.{Arc}
use Rattle.lower.specs.TypeTrees.{TypeTree}
use Rattle.lower_types.specs.declared.Endianness.{Endianness}
use Rattle.lower_arrays.specs.AnyLayouts.{layout_of}
use Rattle.lower_arrays.specs.Held.{held}
use Rattle.lower_arrays.specs.declared.array.AnyArray.{AnyArray}
use Rattle.ipc_base.specs.IdTrees.{IdTrees}
use Rattle.ipc_devices.specs.Device.{Device}
use Rattle.ipc_devices.specs.declared.fault.Fault.{Fault}
use Rattle.ipc_table_views.specs.Spot.{Spot}
use Rattle.ipc_table_views.specs.declared.schema.Buffer.{Buffer}
use Rattle.ipc_model.specs.Batches.{Schema, kinds, Body, Lists, lists_of, entries_of, Place, places, place_of, values_schema}
use Rattle.ipc_model.specs.Entries.{Entries, size, listed, Dictionaries}
use Rattle.ipc_model.specs.Kinds.{Kinds}
use Rattle.ipc_model.specs.TypeKinds.{kind_of}
use Rattle.ipc_read_flat.specs.Bodies.{entries, array_found, array_under}
use Rattle.ipc_read_flat.specs.HeldListed.{HoldsListed}
use Rattle.ipc_read_flat.specs.declared.read.body.Body.{Body as Read}
use Rattle.ipc_read.specs.DictionaryBatches.{dictionary_head, head_listed, place_listed}
use Rattle.ipc_read.specs.HeldChunks.{columns_empty, columns_most, length_listed, chosen_empty, arrays_held, HoldChosen, head_empty, place_empty, HoldsValues}
use Rattle.ipc_read.specs.Sizes.{chosen_listed, total_of}
use Rattle.ipc_read.proofs.Listed.{listed_inside, listed_outside, columns_total, parts_are}
use Rattle.ipc_read.proofs.ValueReads.{schema_of}
use Rattle.ipc_read.proofs.Within.{chosen_within, hold_within}

-- ---- of a batch

listed_is : (lists : Lists) (m : Body) (order : Endianness) (extra : ℕ) (known : Dictionaries) (c : ℕ) → listed (entries_of lists m order extra known) c ≡ length_listed lists.buffers c
listed_is lists m order extra known c =
    let s = entries_of lists m order extra known in
    let d : Buffer = record { offset = pos 0; length = pos 0 } in
    let same = parts_are lists m order extra known in
    elim (cases_lt c (length lists.buffers)) [
      | inl h ↦ listed_inside m.source m.base lists.buffers s same c d h
      | inr h ↦ listed_outside m.source m.base lists.buffers s same c h ∙ sym (ap (λ (r : Buffer). size r.length) (get_or_past lists.buffers c d h))
    ]

-- The single offsets of empty buffers depend on the buffers' lengths alone.
same_lengths : (f g : ℕ → ℕ) → ((c : ℕ) → f c ≡ g c) → (extra : ℕ) (ts : Kinds) (js : List ℕ) → columns_empty f extra ts js ≡ columns_empty g extra ts js
same_lengths f g same extra ts js = λ i. columns_empty (λ c. same c i) extra ts js

-- n bytes are no more than the lists of the batch say
pub held_total :
    {R : Type 0} (d : Device R) (b : Read R) (lists : Lists) (m : Body) (order : Endianness) (extra : ℕ) (known : Dictionaries) (o : Option Lists) (ts : Kinds) (js : List ℕ) (n : ℕ)
    → entries d b ≡ entries_of lists m order extra known → b.extra ≡ extra → o ≡ Some lists
    → n ≤ columns_most (entries d b) b.extra ts js
    → n ≤ chosen_listed o extra ts js + chosen_empty o extra ts js
held_total d b lists m order extra known o ts js n same fronted listed_so h =
    let s = entries_of lists m order extra known in
    let total = columns_total m.source m.base lists.buffers s (parts_are lists m order extra known) extra ts js in
    let e1 = ap (λ (r : Entries). columns_most r b.extra ts js) same in
    let e2 = ap (λ (k : ℕ). columns_most s k ts js) fronted in
    let e3 = same_lengths (λ c. listed s c) (λ c. length_listed lists.buffers c) (listed_is lists m order extra known) extra ts js in
    let e4 = ap (λ (l : Option Lists). chosen_listed l extra ts js + chosen_empty l extra ts js) listed_so in
    omega (arith, h, total, e1, e2, e3, e4)

-- what holds of some arrays holds of the chunk that is made of them
pub chunk_holds :
    (most : ℕ) (o : Option Lists) (extra : ℕ) (ts : Kinds) (js : List ℕ) (ys : List AnyArray) (r : Result (List AnyArray) Fault) → IfOk r (λ xs. xs ≡ ys)
    → HoldChosen most o extra ts js ys → IfOk r (λ xs. HoldChosen most o extra ts js xs)
chunk_holds most o extra ts js ys (Ok xs) told h = subst (λ (zs : List AnyArray). HoldChosen most o extra ts js zs) (sym told) h
chunk_holds most o extra ts js ys (Err e) told h = tt

-- ---- the values of a dictionary

pub column_held :
    {R : Type 0} (d : Device R) (b : Read R) (lists : Lists) (m : Body) (order : Endianness) (extra : ℕ) (known : Dictionaries) (o : Option Lists) (u : TypeTree) (is : IdTrees) (x : AnyArray)
    → entries d b ≡ entries_of lists m order extra known → b.extra ≡ extra → o ≡ Some lists → total_of lists.buffers ≤ m.size
    → HoldsListed (entries d b) b.extra (kind_of u None is) 0 (layout_of x) → HoldChosen m.size o extra (kinds (schema_of u is order)) (0 ∷ []) (x ∷ [])
column_held d b lists m order extra known o u is x same fronted listed_so fits h =
    let one = sum_by-cons (λ (y : AnyArray). held (layout_of y)) x [] in
    let ts = kinds (schema_of u is order) in
    hold_within m.size o lists extra ts (0 ∷ []) (x ∷ []) listed_so (chosen_within lists.buffers extra ts (Some (0 ∷ [])) 1 refl ((omega arith, tt), (omega arith, tt))) fits
    (held_total d b lists m order extra known o ts (0 ∷ []) (arrays_held (x ∷ [])) same fronted listed_so (omega (arith, h, one)))

pub values_held :
    {Z S : Type 0} (m n : HashMap ℤ (Arc AnyArray Z) S) (id : ℤ) (x : Arc AnyArray Z) → Updates int_eq m n id (Some x) → (most : ℕ) (schema : Schema) (extra : ℕ) (t values : Spot) (p : Place)
    → dictionary_head t ≡ Some (id, values) → place_of (places schema.fields schema.ids) id ≡ Some p
    → HoldChosen most (lists_of values) extra (kinds (values_schema p schema.order)) (0 ∷ []) (x.value ∷ [])
    → HoldsValues most schema extra t (λ i. array_under m i) (λ i. array_under n i)
values_held m n id x put most schema extra t values p headed placed h =
    let one = sum_by-cons (λ (y : AnyArray). held (layout_of y)) x.value [] in
    let e1 = ap (λ (o : Option (Arc AnyArray _)). held (array_found o)) put.1 in
    record {
      id = id;
      values = values;
      head = headed;
      own_buffers =
          let e2 = ap (λ (o : Option (ℤ × Spot)). head_listed schema extra o + head_empty schema extra o) headed in
          let e3 = ap (λ (o : Option Place). place_listed extra schema.order values o + place_empty extra schema.order values o) placed in
          omega (arith, h.own_buffers, one, e1, e2, e3);
      all_buffers =
          let e2 = ap (λ (o : Option (ℤ × Spot)). head_empty schema extra o) headed in
          let e3 = ap (λ (o : Option Place). place_empty extra schema.order values o) placed in
          omega (arith, h.all_buffers, one, e1, e2, e3);
      others = λ q e. ap array_found (put.2 q e);
    }
