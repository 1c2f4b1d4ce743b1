-- The texts of maps, by the types of their fields.
use Rattle.std.proofs.Common.{◌≡◌, ℕ, List, [], ◌∷◌, ◌++◌, length, get_or, Bool, true, false, true≢false, Vec, Global, codes, refl, sym, ap, ◌∙◌, subst, arith}
use Rattle.std.specs.Prelude.{string_bytes}
use Rattle.lower.specs.TypeTrees.{Pairs, TypeTree, single, entries, group, structure, FieldTree, field, no_fields, more_fields}
use Rattle.lower.specs.TypeViews.{type_step, field_step, type_view, field_view, fields_view, pairs_of}
use Rattle.lower.specs.declared.datatypes.DataType.{DataType, Struct, fold-roll-DataType, out-DataType, roll-DataType, roll-out-DataType, map-DataType, fold_out-DataType}
use Rattle.lower.specs.declared.datatypes.DataType.TheVariants.{rolls-Struct}
use Rattle.lower.specs.declared.datatypes.DataType.TheOpen.{DataType-F}
use Rattle.lower.specs.declared.datatypes.Field.{Field, fold_out-Field}
use Rattle.lower.proofs.JoinedTexts.{regroup_four}
use Rattle.lower.specs.Texts.{type_text, with_field, member_text, map_end}

view-field : (f : Field) → field_view f ≡ field (string_bytes f.name) (type_view f.data_type) f.is_nullable (pairs_of f.metadata.entries)
view-field = fold_out-Field TypeTree FieldTree type_step field_step

view-Struct : (fields : Vec Field Global) → type_view (Struct fields) ≡ group structure (fields_view fields.items)
view-Struct fields = ap type_view (sym (rolls-Struct fields)) ∙ fold-roll-DataType TypeTree FieldTree type_step field_step (DataType-F.Struct fields)

-- A struct of two fields.
abbrev pub is_pair : TypeTree → Bool
is_pair (group structure (more_fields k (more_fields v no_fields))) = true
is_pair t = false

other : (sorted : Bool) (name : List ℕ) (t : TypeTree) (o : Bool) (m : Pairs) → is_pair t ≡ false
    → type_text (single (entries sorted) (field name t o m)) ≡ with_field (codes "map<") (field name t o m)
other sorted name (group structure (more_fields k (more_fields v no_fields))) o m h = absurd (true≢false h)
other sorted name t o m h = refl

pub map_other : (p : Field) (sorted : Bool) → is_pair (type_view p.data_type) ≡ false
    → type_text (single (entries sorted) (field_view p)) ≡ with_field (codes "map<") (field_view p)
map_other p sorted h =
    subst (λ (f : FieldTree). type_text (single (entries sorted) f) ≡ with_field (codes "map<") f) (sym (view-field p)) (other sorted _ _ _ _ h)

module _ (a : DataType) (not : (x : Vec Field Global) → a ≡ Struct x → ⊥) where
  seen : (o : DataType-F DataType Field) → out-DataType a ≡ o → type_view a ≡ type_step (map-DataType DataType Field TypeTree FieldTree type_view field_view o)
  seen o e = fold_out-DataType TypeTree FieldTree type_step field_step a ∙ ap (λ x. type_step (map-DataType DataType Field TypeTree FieldTree type_view field_view x)) e

  at : (o : DataType-F DataType Field) → out-DataType a ≡ o → is_pair (type_view a) ≡ false
  at (DataType-F.Struct x) e = absurd (not x (sym (roll-out-DataType a) ∙ ap roll-DataType e ∙ rolls-Struct x))
  at o e = ap is_pair (seen o e)

  pub not_struct : is_pair (type_view a) ≡ false
  not_struct = at (out-DataType a) refl

short : (fs : List Field) → (length fs ≡ 2 → ⊥) → is_pair (group structure (fields_view fs)) ≡ false
short [] h = refl
short (x ∷ []) h = refl
short (x ∷ y ∷ []) h = absurd (h refl)
short (x ∷ y ∷ z ∷ zs) h = refl

pub not_pair : (p : Field) (fs : Vec Field Global) → p.data_type ≡ Struct fs → (length fs.items ≡ 2 → ⊥) → is_pair (type_view p.data_type) ≡ false
not_pair p fs e h = ap is_pair (ap type_view e ∙ view-Struct fs) ∙ short fs.items h

two_of : (fs : List Field) (x y : Field) → length fs ≡ 2 → x ≡ get_or fs 0 x → y ≡ get_or fs 1 y
    → fields_view fs ≡ more_fields (field_view x) (more_fields (field_view y) no_fields)
two_of [] x y n p q = absurd (omega (arith, n))
two_of (a ∷ []) x y n p q = absurd (omega (arith, n))
two_of (a ∷ b ∷ []) x y n p q =
    ap (λ (z : Field). more_fields (field_view z) (more_fields (field_view b) no_fields)) (sym p)
    ∙ ap (λ (z : Field). more_fields (field_view x) (more_fields (field_view z) no_fields)) (sym q)
two_of (a ∷ b ∷ c ∷ cs) x y n p q = absurd (omega (arith, n))

map_pair : (p : Field) (fs : Vec Field Global) (sorted : Bool) (x y : Field) → p.data_type ≡ Struct fs → length fs.items ≡ 2
    → x ≡ get_or fs.items 0 x → y ≡ get_or fs.items 1 y
    → codes "map<" ++ (member_text (codes "key") (field_view x) ++ (codes ", " ++ (member_text (codes "value") (field_view y) ++ map_end (string_bytes p.name) sorted)))
    ≡ type_text (single (entries sorted) (field_view p))
map_pair p fs sorted x y e n a b =
    let tree : type_view p.data_type ≡ group structure (more_fields (field_view x) (more_fields (field_view y) no_fields)) =
    ap type_view e ∙ view-Struct fs ∙ ap (group structure) (two_of fs.items x y n a b) in
    sym (
    ap (λ (f : FieldTree). type_text (single (entries sorted) f)) (view-field p)
    ∙ ap (λ (t : TypeTree). type_text (single (entries sorted) (field (string_bytes p.name) t p.is_nullable (pairs_of p.metadata.entries)))) tree
    )

-- What is written of a map, part by part.
pub map_whole : (p : Field) (fs : Vec Field Global) (sorted : Bool) (x y : Field) (name : List ℕ) → p.data_type ≡ Struct fs → length fs.items ≡ 2
    → x ≡ get_or fs.items 0 x → y ≡ get_or fs.items 1 y → name ≡ string_bytes p.name
    → (((codes "map<" ++ member_text (codes "key") (field_view x)) ++ codes ", ") ++ member_text (codes "value") (field_view y)) ++ map_end name sorted
    ≡ type_text (single (entries sorted) (field_view p))
map_whole p fs sorted x y name e n a b same =
    let key = member_text (codes "key") (field_view x) in
    let value = member_text (codes "value") (field_view y) in
    regroup_four (codes "map<") key (codes ", ") value (map_end name sorted)
    ∙ ap (λ (t : List ℕ). codes "map<" ++ (key ++ (codes ", " ++ (value ++ map_end t sorted)))) same
    ∙ map_pair p fs sorted x y e n a b
