-- Values that are remembered.
use Rattle.std.proofs.Common.{◌≡◌, ℤ, Bool, true, false, List, ◌∷◌, map, Ok, Err, Option, None, Result, true≢false, sym, ap, ◌∙◌, subst}
use Rattle.std.specs.Prelude.{is_some, IsSome}
use Rattle.ipc_devices.specs.declared.fault.ArgFault.TheVariants.{DictionaryReplaced}
use Rattle.ipc_devices.specs.declared.fault.Fault.TheVariants.{Argument, Memory}
use Rattle.ipc_model.specs.Entries.{Dictionary}
use Rattle.ipc_devices.specs.declared.fault.Fault.{Fault}
use Rattle.lower_arrays.specs.AnyLayouts.{layout_of}
use Rattle.lower_arrays.specs.Layouts.{Layout}
use Rattle.ipc_tracker.specs.Trackers.{Remembered, remembering, dictionary_of, IsSameMemory, Asks, Inserts, TellsReplaced}
use Rattle.ipc_tracker.specs.Listings.{listed, remembering_all}
use Rattle.ipc_tracker.specs.declared.tracker.NewDictionary.{NewDictionary}
use Rattle.ipc_tracker.proofs.PlaceLists.{memory_is}

-- One of a list is remembered, and the others will be.
pub one_remembered : (whole m n : Remembered) (xs ys : List NewDictionary) (x : NewDictionary) → xs ≡ x ∷ ys → IsSameMemory (remembering x.id (dictionary_of (layout_of x.values.value)) m) n
    → IsSameMemory whole (remembering_all (map listed xs) m) → IsSameMemory whole (remembering_all (map listed ys) n)
one_remembered whole m n xs ys x e step h = λ id.
    ap (λ (k : Remembered). remembering_all (map listed ys) k id) (memory_is (remembering x.id (dictionary_of (layout_of x.values.value)) m) n step)
    ∙ ap (λ (zs : List NewDictionary). remembering_all (map listed zs) m id) (sym e)
    ∙ h id

-- The id is the one that was passed.
asked : (m : Remembered) (fixed : Bool) (id j : ℤ) (b c : Bool) (r : Result Bool Fault) (l k : Layout) → j ≡ id → k ≡ l → r ≡ Ok b → b ≡ c → Asks m fixed j (dictionary_of k) r → Asks m fixed id (dictionary_of l) (Ok c)
asked m fixed id j b c r l k i e was g asks =
    subst (λ (z : ℤ). Asks m fixed z (dictionary_of l) (Ok c)) i
    (subst (λ (t : Bool). Asks m fixed j (dictionary_of l) (Ok t)) g
    (subst (λ (x : Result Bool Fault). Asks m fixed j (dictionary_of l) x) was
    (subst (λ (x : Layout). Asks m fixed j (dictionary_of x) r) e asks)))

pub inserted : (m after : Remembered) (fixed : Bool) (id j : ℤ) (b : Bool) (r : Result Bool Fault) (l k n : Layout) → j ≡ id → k ≡ l → n ≡ l → r ≡ Ok b → b ≡ true → Asks m fixed j (dictionary_of k) r
    → IsSameMemory (remembering j (dictionary_of n) m) after → Inserts m fixed id (dictionary_of l) (Ok true) after
inserted m after fixed id j b r l k n i e f was g asks same = record {
  asks = asked m fixed id j b true r l k i e was g asks;
  memory = subst (λ (z : ℤ). IsSameMemory (remembering z (dictionary_of l) m) after) i (subst (λ (x : Layout). IsSameMemory (remembering j (dictionary_of x) m) after) f same);
}

-- An allocation failed for new or changed values: nothing is remembered.
pub refused : (m after : Remembered) (fixed : Bool) (id j : ℤ) (b : Bool) (r s : Result Bool Fault) (l k : Layout) → j ≡ id → k ≡ l → r ≡ Ok b → b ≡ true → Asks m fixed j (dictionary_of k) r
    → s ≡ Err Memory → IsSameMemory m after → Inserts m fixed id (dictionary_of l) s after
refused m after fixed id j b r s l k i e was g asks failed same =
    let new = asked m fixed id j b true r l k i e was g asks in
    subst (λ (x : Result Bool Fault). Inserts m fixed id (dictionary_of l) x after) (sym failed) (record { asks = new.0; memory = same })

-- ---- what is reported of values that must stay

none_is : (o : Option Dictionary) → IsSome o → o ≡ None → ⊥
none_is o some e = let none : is_some o ≡ false = ap is_some e in true≢false (sym some ∙ none)

-- No error is due for new values, or for those that are remembered.
pub told_changed : (m : Remembered) (fixed : Bool) (id j : ℤ) (b : Bool) (r s : Result Bool Fault) (l k : Layout) → j ≡ id → k ≡ l → r ≡ Ok b → b ≡ true → Asks m fixed j (dictionary_of k) r → TellsReplaced m fixed id (dictionary_of l) s
told_changed m fixed id j b r s l k i e was g asks =
    let new = asked m fixed id j b true r l k i e was g asks in
    record { told = λ stays some others. absurd (none_is (m id) some (new.1 stays)) }

pub told_same : (m : Remembered) (fixed : Bool) (id j : ℤ) (b : Bool) (r s : Result Bool Fault) (l k : Layout) → j ≡ id → k ≡ l → r ≡ Ok b → b ≡ false → Asks m fixed j (dictionary_of k) r → TellsReplaced m fixed id (dictionary_of l) s
told_same m fixed id j b r s l k i e was g asks =
    let same = asked m fixed id j b false r l k i e was g asks in
    record { told = λ stays some others. absurd (others same) }

pub told_replaced : (m : Remembered) (fixed : Bool) (id j : ℤ) (d : Dictionary) (e : Fault) (s : Result Bool Fault) → j ≡ id → s ≡ Err e → e ≡ Argument (DictionaryReplaced j) → TellsReplaced m fixed id d s
told_replaced m fixed id j d e s i was told = record { told = λ stays some others. was ∙ ap Err (told ∙ ap (λ z. Argument (DictionaryReplaced z)) i) }
