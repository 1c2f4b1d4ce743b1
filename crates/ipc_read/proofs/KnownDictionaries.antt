-- A map of arrays, as the dictionaries that are known.
use Rattle.std.proofs.Common.{◌≡◌, ℤ, Bool, false, cond, [], ◌∷◌, map, Option, Some, IsTrue, sym, ap, subst, ◌∙◌}
use Rattle.std.specs.Prelude.{IfSome}
use Rattle.std.specs.HashMap.{HashMap, get, IsEmpty, IsUnchanged, Updates}
use Rattle.std.specs.Option.{option_map}
use Rattle.std.specs.Ordering.{int_eq}
use Rattle.std.specs.declared.sync.Arc.{Arc}
use Rattle.lower.specs.Normal.{norm}
use Rattle.lower.specs.TypeTrees.{TypeTree}
use Rattle.lower_arrays.specs.AnyLayouts.{layout_of}
use Rattle.lower_arrays.specs.Cases.{HasListCases}
use Rattle.lower_arrays.specs.Layouts.{type_of}
use Rattle.lower_arrays.specs.declared.array.AnyArray.{AnyArray}
use Rattle.ipc_table_views.specs.Spot.{Spot}
use Rattle.ipc_model.specs.Batches.{Schema, Place, places, place_of}
use Rattle.ipc_model.specs.Entries.{Dictionary, dictionary_at}
use Rattle.ipc_read_flat.specs.Bodies.{array_found, array_under, dictionary_of, known_entry, known_dictionaries}
use Rattle.ipc_read_flat.proofs.KnownValues.{dictionary_found, found_first, found_under}
use Rattle.ipc_stream_lemmas.specs.Agreement.{KnowAlike}
use Rattle.ipc_read.proofs.Meanings.{some_is}
use Rattle.ipc_read.specs.DictionaryBatches.{dictionary_head, PutsCases, PutsValues}

-- of a map without entries none are known
pub empty_known : {Z S : Type 0} (m : HashMap ℤ (Arc AnyArray Z) S) → IsEmpty m → known_dictionaries m ≡ []
empty_known m empty = ap (map known_entry) empty

-- What is known of a map that stayed the same.
pub same_known : {Z S : Type 0} (m n : HashMap ℤ (Arc AnyArray Z) S) → IsUnchanged m n → known_dictionaries n ≡ known_dictionaries m
same_known m n same = ap (map known_entry) same

-- the values under an id are those of the array that the map has there
pub known_at : {Z S : Type 0} (m : HashMap ℤ (Arc AnyArray Z) S) (id : ℤ) → dictionary_at (known_dictionaries m) id ≡ dictionary_found (get int_eq m id)
known_at m id = found_under m id

module _ {Z S : Type 0} (m n : HashMap ℤ (Arc AnyArray Z) S) (id : ℤ) (x : Arc AnyArray Z) (put : Updates int_eq m n id (Some x)) where
  -- An array that is put into a map comes before the others.
  pub known_put : KnowAlike ((id, dictionary_of (layout_of x.value)) ∷ known_dictionaries m) (known_dictionaries n)
  known_put = record {
    each = λ q.
        ap (λ (o : Option Dictionary). cond (int_eq id q) (Some (dictionary_of (layout_of x.value))) o) (found_under m q)
        ∙ found_first (int_eq id q) x (get int_eq m q)
        ∙ ap dictionary_found (sym (put.0 q))
        ∙ sym (found_under n q);
  }

  pub put_under : dictionary_at (known_dictionaries n) id ≡ Some (dictionary_of (layout_of x.value))
  put_under = found_under n id ∙ ap dictionary_found put.1

  pub put_beside : (q : ℤ) → int_eq id q ≡ false → dictionary_at (known_dictionaries n) q ≡ dictionary_at (known_dictionaries m) q
  put_beside q e = found_under n q ∙ ap dictionary_found (put.2 q e) ∙ sym (found_under m q)

  -- Its variants are those of the array that a dictionary batch puts under its id.
  pub puts_cases : (t values : Spot) → dictionary_head t ≡ Some (id, values) → HasListCases (layout_of x.value) → PutsCases t (λ i. array_under n i)
  puts_cases t values head has =
      subst (λ (o : Option (ℤ × Spot)). IfSome o (λ h. HasListCases (array_under n (Some h.0)))) (sym head)
      (subst (λ (o : Option (Arc AnyArray Z)). HasListCases (array_found o)) (sym put.1) has)

  -- it is what a dictionary batch puts under its id
  pub puts_values : (known : Bool) (schema : Schema) (t values : Spot) (p : Place) → dictionary_head t ≡ Some (id, values)
      → place_of (places schema.fields schema.ids) id ≡ Some p → (IsTrue known → type_of (layout_of x.value) ≡ p.type)
      → PutsValues known schema t (known_dictionaries m) (known_dictionaries n)
  puts_values known schema t values p head placed typed = record {
    id = id;
    values = values;
    place = p;
    head = head;
    placed = placed;
    there = some_is _ _ put_under;
    typed = λ k. ap (option_map (λ (d : Dictionary). d.type)) put_under ∙ ap (λ (u : TypeTree). Some (norm u)) (typed k);
    others = put_beside;
  }
