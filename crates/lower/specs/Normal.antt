-- The normal form of a type. In the metadata of each field the two extension keys say the field's
-- own extension, or that of its dictionary's values, and nothing else.
-- (Arrow columnar format, "Extension Types".)
use Rattle.std.specs.Prelude.{ℕ, Bool, ◌||◌, List, [], ◌∷◌, Option, Some, None, codes, if◌then◌else◌}
use Rattle.std.specs.Cmp.Lexicographic.{slice_cmp}
use Rattle.std.specs.Ordering.{match_ordering, nat_cmp, is_eq}
use Rattle.lower.specs.TypeTrees.{Pairs, TypeTree, plain, single, group, dictionary, extension, FieldTree, field, FieldTrees, no_fields, more_fields}

-- The key of an extension's name.
abbrev pub name_key : List ℕ
name_key = codes "ARROW:extension:name"

-- The key of an extension's metadata.
abbrev pub data_key : List ℕ
data_key = codes "ARROW:extension:metadata"

-- The key is one of the two extension keys.
abbrev pub is_extension_key : List ℕ → Bool
is_extension_key k = is_eq (slice_cmp nat_cmp name_key k) || is_eq (slice_cmp nat_cmp data_key k)

-- The pairs without those of a key.
abbrev pub without : List ℕ → Pairs → Pairs
without k [] = []
without k (e ∷ es) = if is_eq (slice_cmp nat_cmp k e.0) then without k es else (e ∷ without k es)

-- The pairs without extension keys.
abbrev pub kept_pairs : Pairs → Pairs
kept_pairs es = without name_key (without data_key es)

-- The pairs, in the order of their keys, with this value for a key.
abbrev pub with_pair : List ℕ → List ℕ → Pairs → Pairs
with_pair k v [] = (k, v) ∷ []
with_pair k v (e ∷ es) = match_ordering (slice_cmp nat_cmp k e.0) ((k, v) ∷ e ∷ es) ((e.0, v) ∷ es) (e ∷ with_pair k v es)

-- The name and the text of an extension type.
abbrev pub extension_of_values : TypeTree → Option (List ℕ × Option (List ℕ))
extension_of_values (extension name t text) = Some (name, text)
extension_of_values _ = None

-- The name and the text of a type's extension, or of its dictionary values' extension.
abbrev pub extension_of : TypeTree → Option (List ℕ × Option (List ℕ))
extension_of (dictionary keys t ordered) = extension_of_values t
extension_of t = extension_of_values t

-- The pairs with the text of an extension, if it has one.
abbrev pub put_text : Option (List ℕ) → Pairs → Pairs
put_text None es = es
put_text (Some text) es = with_pair data_key text es

-- The pairs with the name and the text of an extension, if there is one.
abbrev pub put_extension : Option (List ℕ × Option (List ℕ)) → Pairs → Pairs
put_extension None es = es
put_extension (Some e) es = with_pair name_key e.0 (put_text e.1 es)

-- The metadata of a field of this type, in the normal form.
abbrev pub norm_pairs : TypeTree → Pairs → Pairs
norm_pairs t es = put_extension (extension_of t) (kept_pairs es)

abbrev mutual
  -- The normal form of a type.
  pub norm : TypeTree → TypeTree
  norm (plain p) = plain p
  norm (single s f) = single s (norm_field f)
  norm (group g fs) = group g (norm_fields fs)
  norm (dictionary keys t ordered) = dictionary keys (norm t) ordered
  norm (extension name t text) = extension name (norm t) text

  -- The normal form of a field.
  pub norm_field : FieldTree → FieldTree
  norm_field (field name t nullable metadata) = field name (norm t) nullable (norm_pairs t metadata)

  -- The normal form of some fields.
  pub norm_fields : FieldTrees → FieldTrees
  norm_fields no_fields = no_fields
  norm_fields (more_fields f fs) = more_fields (norm_field f) (norm_fields fs)

-- The normal form of a schema's fields, and its own metadata unchanged.
abbrev pub norm_schema : FieldTrees × Pairs → FieldTrees × Pairs
norm_schema s = (norm_fields s.0, s.1)
