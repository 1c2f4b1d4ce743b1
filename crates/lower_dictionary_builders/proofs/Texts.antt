-- The texts of a dictionary.
use Rattle.std.proofs.Common.{arith, ◌||◌, Global, String, refl, ◌≡◌, ℕ, ◌<◌, List, [], ◌∷◌, ◌++◌, false, length, map, get_or, sym, ap, ◌∙◌}
use Rattle.std.specs.Prelude.{Some, slice_get, position, string_bytes, string_eq, if◌then◌else◌}
use Rattle.std.specs.List.{list_any}
use Rattle.std.specs.Str.{bytes_eq}
use Rattle.std.proofs.lemmas.List.{length-map, get_or-map}
use Rattle.std.proofs.lemmas.List.Quantifiers.{position-Some}
use Rattle.std.proofs.lemmas.Option.{slice_get-get_or}
use Rattle.std.proofs.lemmas.Slice.Eq.{bytes_eq-Decides}
use Rattle.indexmap.specs.IndexSet.{insert_key}
use Rattle.lower.specs.TypeTrees.{utf8, TypeTree, plain, FieldTree}
use Rattle.lower.specs.TypeViews.{type_step, field_step, type_view}
use Rattle.lower.specs.declared.datatypes.DataType.{Utf8, fold-roll-DataType}
use Rattle.lower.specs.declared.datatypes.DataType.TheVariants.{rolls-Utf8}
use Rattle.lower.specs.declared.datatypes.DataType.TheOpen.{DataType-F}

abbrev Texts : Type 0
Texts = List (String Global)

-- a test of the bytes
pub any_text : (t : List ℕ) (ks : Texts) → list_any (λ k. bytes_eq t (string_bytes k)) ks ≡ list_any (bytes_eq t) (map string_bytes ks)
any_text t [] = refl
any_text t (k ∷ ks) = ap (λ b. bytes_eq t (string_bytes k) || b) (any_text t ks)

-- the text at the index that a search finds
pub found_text : (t : List ℕ) (ks : Texts) (i : ℕ) → position (λ k. bytes_eq t (string_bytes k)) ks ≡ Some i → slice_get (map string_bytes ks) i ≡ Some t
found_text t [] i e = let no : ⊥ = cc in absurd no
found_text t (k ∷ ks) i e =
    let all = k ∷ ks in
    let f = position-Some (λ x. bytes_eq t (string_bytes x)) all i k e in
    let below : i < length (map string_bytes all) = let n = length-map all string_bytes in let b = f.0 in omega (arith, n, b) in
    slice_get-get_or (map string_bytes all) i [] below
    ∙ ap Some (get_or-map string_bytes all i k [] f.0 ∙ sym ((bytes_eq-Decides t (string_bytes (get_or all i k))).0 f.1))

-- a text that is new goes last
pub text_new : (ks ks' : Texts) (owned : String Global) (t : List ℕ) → ks' ≡ insert_key string_eq ks owned → string_bytes owned ≡ t → list_any (bytes_eq t) (map string_bytes ks) ≡ false → ks' ≡ ks ++ owned ∷ []
text_new ks ks' owned t is same absent =
    let none : list_any (string_eq owned) ks ≡ false = ap (λ s. list_any (λ k. bytes_eq s (string_bytes k)) ks) same ∙ any_text t ks ∙ absent in
    is ∙ ap (λ b. if b then ks else ks ++ owned ∷ []) none

-- the type of texts
pub view-Utf8 : type_view Utf8 ≡ plain utf8
view-Utf8 = ap type_view (sym rolls-Utf8) ∙ fold-roll-DataType TypeTree FieldTree type_step field_step DataType-F.Utf8
