-- The parts that a builder keeps break no rule of dictionary arrays.
use Rattle.std.proofs.Common.{arith, ◌≡◌, ℕ, ℤ, pos, negsuc, ◌<◌, ◌≤◌, List, [], ◌∷◌, Bool, false, length, get_or, sym, ap, ◌∙◌}
use Rattle.std.specs.Prelude.{Option, Some, None}
use Rattle.std.proofs.lemmas.List.{length-map}
use Rattle.std.proofs.lemmas.List.FromFn.{length-map-range_with_len}
use Rattle.lower.specs.TypeTrees.{TypeTree, plain, dictionary}
use Rattle.lower.specs.Physical.{physical, integer}
use Rattle.lower.specs.Normal.{norm}
use Rattle.lower.specs.declared.datatypes.IntegerType.{IntegerType}
use Rattle.lower.specs.declared.datatypes.physical_type.PhysicalType.TheVariants as Physicals
use Rattle.lower.specs.declared.error.Error.{Error}
use Rattle.lower.specs.declared.error.Error.TheVariants.{OutOfSpec}
use Rattle.lower.specs.declared.error.Rule.TheVariants.{DictionaryKey, DictionaryValues, PhysicalType as WrongType}
use Rattle.lower_flat_arrays.specs.Validities.{Validity}
use Rattle.lower_flat_arrays.specs.Options.{where_set, options, spans}
use Rattle.lower_flat_arrays.specs.Spans.{SpansSeen, span, span_count}
use Rattle.lower_validation.specs.Keys.{values_type, KeysFit, KeysSeen}
use Rattle.lower_validation.specs.Rules.{BreaksDictionaryRules}
use Rattle.lower_dictionary_builders.specs.Keyed.{Selects, AreKeysOf}
use Rattle.lower_dictionary_builders.proofs.Keys.{keys_fit}

where_set-le : {A : Type 0} (bits : List Bool) (xs : List A) → length (where_set bits xs) ≤ length xs
where_set-le [] [] = omega arith
where_set-le [] (x ∷ xs) = omega arith
where_set-le (b ∷ bs) [] = omega arith
where_set-le (b ∷ bs) (x ∷ xs) = let le = where_set-le bs xs in omega (arith, le)

options-le : {A : Type 0} (v : Validity) (xs : List A) → length (options v xs) ≤ length xs
options-le None xs = let n = length-map xs Some in omega (arith, n)
options-le (Some bits) xs = where_set-le bits xs

-- an array of texts has a slot for each of them
pub enough_slots : (a : SpansSeen) (slots : List (Option (List ℕ))) → options a.validity (spans a) ≡ slots → length slots ≤ span_count a.offsets
enough_slots a slots e =
    let n = length-map-range_with_len (span a.offsets a.values) 0 (span_count a.offsets) in
    let le = options-le a.validity (spans a) in
    let m : length (options a.validity (spans a)) ≡ length slots = ap length e in
    omega (arith, n, le, m)

selects_more : (n m : ℕ) (k : Option ℤ) → n ≤ m → Selects n k → Selects m k
selects_more n m None le s = tt
selects_more n m (Some (pos i)) le s = omega (arith, le, s)
selects_more n m (Some (negsuc i)) le s = s

module _ (t : TypeTree) (ks : KeysSeen) (c : TypeTree) (n : ℕ) (lies : physical t ≡ Physicals.Dictionary ks.key) (type : ks.type ≡ plain (integer ks.key)) (named : norm c ≡ norm (values_type t)) (places : KeysFit ks.validity ks.integers n) where
  breaks_none : (e : Error) → BreaksDictionaryRules t ks c n e → ⊥
  breaks_none (OutOfSpec WrongType) breaks = breaks (lies, type)
  breaks_none (OutOfSpec DictionaryValues) breaks = breaks named
  breaks_none (OutOfSpec DictionaryKey) breaks = breaks places
  breaks_none (OutOfSpec _) breaks = breaks

-- no error of dictionaries of values of type u
pub no_dictionary_error : (key : IntegerType) (t u : TypeTree) (ks : KeysSeen) (slots : List (Option ℤ)) (c : TypeTree) (n m : ℕ) (e : Error)
    → t ≡ dictionary key u false → AreKeysOf key slots ks → c ≡ u
    → ((i : ℕ) → i < length slots → Selects n (get_or slots i None)) → n ≤ m → BreaksDictionaryRules t ks c m e → ⊥
no_dictionary_error key t u ks slots c n m e is are same each le =
    breaks_none t ks c m
    (ap physical is ∙ ap Physicals.Dictionary (sym are.key_is))
    (are.type ∙ ap (λ k. plain (integer k)) (sym are.key_is))
    (ap norm same ∙ sym (ap (λ (x : TypeTree). norm (values_type x)) is))
    (keys_fit ks.validity ks.integers m slots are.slots_are (λ i below. selects_more n m (get_or slots i None) le (each i below)))
    e
