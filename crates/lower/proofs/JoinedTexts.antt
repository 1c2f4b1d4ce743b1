-- Fields whose texts are written one after another.
use Rattle.std.proofs.Common.{◌≡◌, ℕ, ◌+◌, ◌<◌, ◌≤◌, ◌==◌, List, [], ◌++◌, length, drop, get_or, Bool, false, Option, ℤ, codes, sym, ap, ◌∙◌, append_assoc, append-nil}
use Rattle.std.proofs.lemmas.List.{at_drop_more, drop_all}
use Rattle.lower.specs.TypeViews.{field_view, fields_view}
use Rattle.lower.specs.declared.datatypes.Field.{Field}
use Rattle.lower.specs.Texts.{text_before, field_text, joined_text, choices_text, id_text}

regroup : (a b c d : List ℕ) → ((a ++ b) ++ c) ++ d ≡ a ++ (b ++ (c ++ d))
regroup a b c d = append_assoc (a ++ b) c d ∙ append_assoc a b (c ++ d)

-- One more field, after the text between fields.
pub joined_more : (between : List ℕ) (first : Bool) (fields : List Field) (i : ℕ) (f : Field) (done all before : List ℕ)
    → i < length fields → f ≡ get_or fields i f → before ≡ text_before first between
    → done ++ joined_text between first (fields_view (drop i fields)) ≡ all
    → ((done ++ before) ++ field_text (field_view f)) ++ joined_text between false (fields_view (drop (i + 1) fields)) ≡ all
joined_more between first fields i f done all before below at is h =
    let rest = joined_text between false (fields_view (drop (i + 1) fields)) in
    regroup done before (field_text (field_view f)) rest
    ∙ ap (λ (b : List ℕ). done ++ (b ++ (field_text (field_view f) ++ rest))) is
    ∙ ap (λ (x : Field). done ++ (text_before first between ++ (field_text (field_view x) ++ rest))) at
    ∙ ap (λ (s : List ℕ). done ++ s) (sym (at_drop_more (λ (xs : List Field). joined_text between first (fields_view xs)) fields i f below))
    ∙ h

-- After the last field.
pub joined_end : (between : List ℕ) (first : Bool) (fields : List Field) (i : ℕ) (done all : List ℕ) → length fields ≤ i
    → done ++ joined_text between first (fields_view (drop i fields)) ≡ all → done ≡ all
joined_end between first fields i done all past h =
    let none : drop i fields ≡ [] = drop_all i fields past in
    sym (append-nil done) ∙ ap (λ (xs : List Field). done ++ joined_text between first (fields_view xs)) (sym none) ∙ h

pub regroup_four : (a b c d e : List ℕ) → (((a ++ b) ++ c) ++ d) ++ e ≡ a ++ (b ++ (c ++ (d ++ e)))
regroup_four a b c d e = append_assoc ((a ++ b) ++ c) d e ∙ regroup a b c (d ++ e)

-- One more child of a union, with its type id.
pub choices_more : (ids : Option (List ℤ)) (fields : List Field) (i : ℕ) (f : Field) (done all before : List ℕ)
    → i < length fields → f ≡ get_or fields i f → before ≡ text_before (i == 0) (codes ", ")
    → done ++ choices_text ids i (fields_view (drop i fields)) ≡ all
    → (((done ++ before) ++ field_text (field_view f)) ++ id_text ids i) ++ choices_text ids (i + 1) (fields_view (drop (i + 1) fields)) ≡ all
choices_more ids fields i f done all before below at is h =
    let rest = choices_text ids (i + 1) (fields_view (drop (i + 1) fields)) in
    regroup_four done before (field_text (field_view f)) (id_text ids i) rest
    ∙ ap (λ (b : List ℕ). done ++ (b ++ (field_text (field_view f) ++ (id_text ids i ++ rest)))) is
    ∙ ap (λ (x : Field). done ++ (text_before (i == 0) (codes ", ") ++ (field_text (field_view x) ++ (id_text ids i ++ rest)))) at
    ∙ ap (λ (s : List ℕ). done ++ s) (sym (at_drop_more (λ (xs : List Field). choices_text ids i (fields_view xs)) fields i f below))
    ∙ h

pub choices_end : (ids : Option (List ℤ)) (fields : List Field) (i : ℕ) (done all : List ℕ) → length fields ≤ i
    → done ++ choices_text ids i (fields_view (drop i fields)) ≡ all → done ≡ all
choices_end ids fields i done all past h =
    let none : drop i fields ≡ [] = drop_all i fields past in
    sym (append-nil done) ∙ ap (λ (xs : List Field). done ++ choices_text ids i (fields_view xs)) (sym none) ∙ h
