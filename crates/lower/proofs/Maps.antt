-- A map's entries as pairs, after a change.
use Rattle.std.proofs.Common.{◌≡◌, ℕ, List, [], ◌∷◌, map, String, Global, string_bytes, Bool, true, false, cond, Ordering, Less, Equal, Greater, nat_cmp, is_eq, refl, sym, ap, ◌∙◌}
use Rattle.std.specs.Ordering.{match_ordering}
use Rattle.std.specs.Cmp.Lexicographic.{slice_cmp}
use Rattle.std.proofs.lemmas.Cmp.{nat_list_cmp_total}
use Rattle.std.specs.List.{AllByRecursion}
use Rattle.std.specs.List.Sorted.{IsStrictlySortedBy}
use Rattle.std.specs.Map.{keys_of, remove_entry}
use Rattle.std.specs.String.{string_cmp}
use Rattle.std.specs.BTreeMap.{is_at, insert_entry}
use Rattle.lower.specs.declared.datatypes.Field.{Field}
use Rattle.lower.specs.TypeViews.{pairs_of, fields_of, field_view, fields_view}
use Rattle.lower.specs.Normal.{without, with_pair, norm_field, norm_fields}
use Rattle.lower.proofs.Laws.{Lacks, without-Lacks}

abbrev pub Entry : Type 0
Entry = String Global × String Global

inserted_at : (o : Ordering) (k v : String Global) (e : Entry) (es rest : List Entry)
    → pairs_of (match_ordering o ((k, v) ∷ e ∷ es) ((e.0, v) ∷ es) (e ∷ rest))
    ≡ match_ordering o ((string_bytes k, string_bytes v) ∷ pairs_of (e ∷ es)) ((string_bytes e.0, string_bytes v) ∷ pairs_of es) ((string_bytes e.0, string_bytes e.1) ∷ pairs_of rest)
inserted_at Less k v e es rest = refl
inserted_at Equal k v e es rest = refl
inserted_at Greater k v e es rest = refl

pub inserted : (es : List Entry) (k v : String Global) → pairs_of (insert_entry string_cmp es k v) ≡ with_pair (string_bytes k) (string_bytes v) (pairs_of es)
inserted [] k v = refl
inserted (e ∷ es) k v = inserted_at (string_cmp k e.0) k v e es _ ∙ rw (inserted es k v)

above_lacks : (key : List ℕ) (least : String Global) (es : List Entry) → slice_cmp nat_cmp key (string_bytes least) ≡ Equal
    → AllByRecursion (λ y. string_cmp least y ≡ Less) (keys_of es) → Lacks key (pairs_of es)
above_lacks key least [] same h = tt
above_lacks key least (e ∷ es) same h =
    let here = nat_list_cmp_total.congr key (string_bytes least) (string_bytes e.0) same ∙ h.0 in
    (ap is_eq here, above_lacks key least es same h.1)

equal_from : (o : Ordering) → is_eq o ≡ true → o ≡ Equal
equal_from Less h = cc
equal_from Equal h = refl
equal_from Greater h = cc

removed_at : (key : List ℕ) (b : Bool) (e : Entry) (es rest : List Entry) → is_eq (slice_cmp nat_cmp key (string_bytes e.0)) ≡ b
    → AllByRecursion (λ y. string_cmp e.0 y ≡ Less) (keys_of es) → pairs_of rest ≡ without key (pairs_of es)
    → pairs_of (cond b es (e ∷ rest)) ≡ cond b (without key (pairs_of es)) ((string_bytes e.0, string_bytes e.1) ∷ without key (pairs_of es))
removed_at key true e es rest same above ih = sym (without-Lacks key (pairs_of es) (above_lacks key e.0 es (equal_from _ same) above))
removed_at key false e es rest same above ih = ap (λ ps. (string_bytes e.0, string_bytes e.1) ∷ ps) ih

pub removed : (key : List ℕ) (es : List Entry) → IsStrictlySortedBy string_cmp (keys_of es)
    → pairs_of (remove_entry (is_at (λ k. slice_cmp nat_cmp key (string_bytes k))) es) ≡ without key (pairs_of es)
unfolding IsStrictlySortedBy
removed key [] h = refl
removed key (e ∷ es) h = removed_at key _ e es _ refl h.0 (removed key es h.1)

pub normal_map : (fs : List Field) → fields_of (map (λ f. norm_field (field_view f)) fs) ≡ norm_fields (fields_view fs)
normal_map [] = refl
normal_map (f ∷ fs) = rw (normal_map fs)
