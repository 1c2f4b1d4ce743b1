-- Steps of the loops over names and over indices.
use Rattle.std.proofs.Common.{◌≡◌, ℕ, suc, ◌+◌, ◌<◌, ◌||◌, List, [], ◌∷◌, ◌++◌, length, map, take, get_or, Bool, true, false, true≢false, Option, Some, None, refl, sym, ap, ◌∙◌, subst, arith, string_bytes}
use Rattle.std.specs.Prelude.{nat_eq}
use Rattle.std.specs.Prelude.{slice_get, option_map}
use Rattle.std.specs.List.{AllByRecursion, IsDistinct, Contains, list_any}
use Rattle.std.specs.Borrow.{Bor}
use Rattle.std.proofs.lemmas.Option.{slice_get-map, slice_get-get_or, slice_get_within, slice_get_read, get_or_from_slice_get}
use Rattle.std.specs.Cmp.{nat_eq_equiv}
use Rattle.std.specs.Cmp.Lexicographic.{bytes_decides}
use Rattle.std.proofs.lemmas.List.{take_more, map-append}
use Rattle.std.proofs.lemmas.List.Quantifiers.{position-Some}
use Rattle.std.proofs.lemmas.Map.Keys.{IsDistinct-push}
use lib.Dec.{eqb→eq, T}
use Rattle.lower.specs.Same.{same_text}
use Rattle.lower.specs.declared.datatypes.Field.{Field}
use Rattle.lower.specs.TypeViews.{field_view}
use Rattle.lower.specs.declared.datatypes.columns.NameError.TheVariants.{Missing, Repeated}
use Rattle.lower.specs.Columns.{index_of, HaveNames, AreDistinct, NameCause, FieldsAt}

-- One more element, of which g gives one more value.
pub one_more : {A B : Type 0} (g : A → Option B) (xs : List A) (i : ℕ) (ys : List B) (x : A) (y : B) → i < length xs → get_or xs i x ≡ x
    → map g (take i xs) ≡ map Some ys → g x ≡ Some y → map g (take (i + 1) xs) ≡ map Some (ys ++ y ∷ [])
one_more {A} {B} g xs i ys x y below at before is =
    ap (map g) (take_more xs i x below)
    ∙ map-append g (take i xs) (get_or xs i x ∷ [])
    ∙ ap (λ (os : List (Option B)). os ++ (g (get_or xs i x) ∷ [])) before
    ∙ ap (λ (o : Option B). map Some ys ++ (o ∷ [])) (ap g at ∙ is)
    ∙ sym (map-append Some ys (y ∷ []))

all_push : {X : Type 0} (P : X → Type 0) (xs : List X) (y : X) → AllByRecursion P xs → P y → AllByRecursion P (xs ++ y ∷ [])
all_push P [] y h p = (p, tt)
all_push P (x ∷ xs) y h p = (h.0, all_push P xs y h.1 p)

-- One more element that has a property.
pub all_more : {X : Type 0} (P : X → Type 0) (xs : List X) (i : ℕ) (x : X) → i < length xs → get_or xs i x ≡ x
    → AllByRecursion P (take i xs) → P x → AllByRecursion P (take (i + 1) xs)
all_more {X} P xs i x below at h p =
    let same : take i xs ++ x ∷ [] ≡ take (i + 1) xs = ap (λ (y : X). take i xs ++ (y ∷ [])) (sym at) ∙ sym (take_more xs i x below) in
    subst (AllByRecursion P) same (all_push P (take i xs) x h p)

any_flip : (j : ℕ) (xs : List ℕ) → list_any (nat_eq j) xs ≡ list_any (λ y. nat_eq y j) xs
any_flip j [] = refl
any_flip j (x ∷ xs) = rw (nat_eq_equiv.symm j x, any_flip j xs)

-- One more column of a projection.
pub projection_push : (columns : List ℕ) (j n : ℕ) → AreDistinct columns n → j < n → list_any (λ y. nat_eq y j) columns ≡ false → AreDistinct (columns ++ j ∷ []) n
projection_push columns j n h below new =
    (all_push (λ k. k < n) columns j h.0 below, IsDistinct-push nat_eq_equiv columns j h.1 (any_flip j columns ∙ new))

-- The index of a name is that of a field.
pub index_below : (fields : List Field) (name : List ℕ) (j : ℕ) → index_of fields name ≡ Some j → j < length fields
index_below [] name j is = cc
index_below (f ∷ fs) name j is = let at = position-Some (λ (x : Field). same_text (string_bytes x.name) name) (f ∷ fs) j f is in at.0

-- Two names of the same index are equal.
same_name : (fields : List Field) (a b : List ℕ) (j : ℕ) → index_of fields a ≡ Some j → index_of fields b ≡ Some j → a ≡ b
same_name [] a b j p q = cc
same_name (f ∷ fs) a b j p q =
    let one = position-Some (λ (x : Field). same_text (string_bytes x.name) a) (f ∷ fs) j f p in
    let two = position-Some (λ (x : Field). same_text (string_bytes x.name) b) (f ∷ fs) j f q in
    let text = string_bytes (get_or (f ∷ fs) j f).name in
    sym ((bytes_decides text a).0 one.1) ∙ (bytes_decides text b).0 two.1

contains_later : {X : Type 0} (y : X) (xs : List X) (x : X) → Contains xs x → Contains (y ∷ xs) x
contains_later y xs x h = (suc h.0, omega (arith, h.1), h.2)

some_same : {X : Type 0} (x y : X) → Some x ≡ Some y → x ≡ y
some_same x y e = cc

-- A name whose column is that of one of some names is that name.
pub repeated : (fields : List Field) (names : List (List ℕ)) (columns : List ℕ) (name : List ℕ) (j : ℕ)
    → HaveNames fields names columns → index_of fields name ≡ Some j → list_any (λ y. nat_eq y j) columns ≡ true → Contains names name
repeated fields [] [] name j are is h = absurd (true≢false (sym h))
repeated fields [] (c ∷ cs) name j are is h = cc
repeated fields (n ∷ ns) [] name j are is h = cc
repeated fields (n ∷ ns) (c ∷ cs) name j are is h =
    let rest : map (index_of fields) ns ≡ map Some cs = cc in
    at (nat_eq c j) refl h (λ k. repeated fields ns cs name j rest is k)
  where
    first : index_of fields n ≡ Some c
    first = cc

    at : (b : Bool) → nat_eq c j ≡ b → (b || list_any (λ y. nat_eq y j) cs) ≡ true → (list_any (λ y. nat_eq y j) cs ≡ true → Contains ns name) → Contains (n ∷ ns) name
    at true e k later =
        let same : c ≡ j = eqb→eq c j (subst T (sym e) tt) in
        (0, omega arith, same_name fields n name j (first ∙ ap Some same) is)
    at false e k later = contains_later n ns name (later k)

-- ---- what the loop over names knows

-- The text of a name, read by its index.
pub text_at : (names : List (Bor (List ℕ))) (i : ℕ) (d : Bor (List ℕ)) → i < length names → slice_get (map (λ n. n.now) names) i ≡ Some (get_or names i d).now
text_at names i d below = slice_get-map (λ (n : Bor (List ℕ)). n.now) names i ∙ ap (option_map (λ (n : Bor (List ℕ)). n.now)) (slice_get-get_or names i d below)

pub none_named : (fields : List Field) (columns : List ℕ) → columns ≡ [] → HaveNames fields [] columns × AreDistinct columns (length fields)
unfolding IsDistinct
none_named fields columns e =
    subst (λ (cs : List ℕ). HaveNames fields [] cs × AreDistinct cs (length fields)) (sym e) (refl, (tt, tt))

none_from : {A : Type 0} (o : Option A) → ((x : A) → o ≡ Some x → ⊥) → o ≡ None
none_from None not = refl
none_from (Some x) not = absurd (not x refl)

pub missing_cause : (fields : List Field) (texts : List (List ℕ)) (columns : List ℕ) (i : ℕ) (name : List ℕ) (o : Option ℕ) → o ≡ index_of fields name → ((x : ℕ) → o ≡ Some x → ⊥)
    → slice_get texts i ≡ Some name → HaveNames fields (take i texts) columns → AreDistinct columns (length fields) → NameCause fields texts (Missing i)
missing_cause fields texts columns i name o is not at named chosen = ((columns, named, chosen), (name, at, sym is ∙ none_from o not))

pub repeated_cause : (fields : List Field) (texts : List (List ℕ)) (columns : List ℕ) (i : ℕ) (name : List ℕ) (o : Option ℕ) (j : ℕ) → o ≡ index_of fields name → o ≡ Some j
    → slice_get texts i ≡ Some name → list_any (λ y. nat_eq y j) columns ≡ true
    → HaveNames fields (take i texts) columns → AreDistinct columns (length fields) → NameCause fields texts (Repeated i)
repeated_cause fields texts columns i name o j is some at again named chosen =
    ((columns, named, chosen), (name, at, repeated fields (take i texts) columns name j named (sym is ∙ some) again))

pub named_more : (fields : List Field) (texts : List (List ℕ)) (columns after : List ℕ) (i : ℕ) (name : List ℕ) (o : Option ℕ) (j : ℕ) → o ≡ index_of fields name → o ≡ Some j
    → slice_get texts i ≡ Some name → list_any (λ y. nat_eq y j) columns ≡ false → after ≡ columns ++ j ∷ []
    → HaveNames fields (take i texts) columns → AreDistinct columns (length fields)
    → HaveNames fields (take (i + 1) texts) after × AreDistinct after (length fields)
named_more fields texts columns after i name o j is some at new e named chosen =
    let found : index_of fields name ≡ Some j = sym is ∙ some in
    subst (λ (cs : List ℕ). HaveNames fields (take (i + 1) texts) cs × AreDistinct cs (length fields)) (sym e) (
      one_more (index_of fields) texts i columns name j (slice_get_within texts i name at) (get_or_from_slice_get texts i name name at) named found,
      projection_push columns j (length fields) chosen (index_below fields name j found) new,
    )

-- ---- what the loop over indices knows

pub chosen_more : (columns seen fields after : List Field) (indices : List ℕ) (i j : ℕ) (f copy : Field) → i < length indices → get_or indices i j ≡ j
    → after ≡ fields ++ copy ∷ [] → seen ≡ columns → j < length seen → f ≡ get_or seen j f → field_view copy ≡ field_view f
    → FieldsAt (map field_view columns) (take i indices) (map field_view fields) → AllByRecursion (λ k. k < length columns) (take i indices)
    → FieldsAt (map field_view columns) (take (i + 1) indices) (map field_view after) × AllByRecursion (λ k. k < length columns) (take (i + 1) indices)
chosen_more columns seen fields after indices i j f copy below at e is there read same chosen within =
    let found : slice_get columns j ≡ Some f = subst (λ (xs : List Field). slice_get xs j ≡ Some f) is (slice_get_read seen (length seen) j f refl there read) in
    let view : slice_get (map field_view columns) j ≡ Some (field_view copy) = slice_get-map field_view columns j ∙ ap (option_map field_view) found ∙ ap Some (sym same) in
    let views : map field_view (fields ++ copy ∷ []) ≡ map field_view fields ++ field_view copy ∷ [] = map-append field_view fields (copy ∷ []) in
    let all = one_more (slice_get (map field_view columns)) indices i (map field_view fields) j (field_view copy) below at chosen view in (
      all ∙ ap (map Some) (sym views ∙ ap (map field_view) (sym e)),
      all_more (λ k. k < length columns) indices i j below at within (slice_get_within columns j f found),
    )
