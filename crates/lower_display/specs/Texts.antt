-- The text of a slot, by the type of its column.
use Rattle.std.specs.Prelude.{ℕ, zero, suc, ◌+◌, ◌==◌, ℤ, Bool, true, false, List, [], ◌++◌, codes}
use Rattle.lower.specs.TypeTrees.{structure, choice, TypeTree, single, group, dictionary, extension, FieldTree, FieldTrees, field, no_fields, more_fields}
use Rattle.lower_validation.specs.Ids.{child_number}
use Rattle.lower_validation.specs.Fields.{field_type}
use Rattle.lower_arrays.specs.Slots.{Slot, null_slot, truth_slot, number_slot, bytes_slot, text_slot, list_slot, record_slot, variant_slot, Slots, no_slots, more_slots}
use Rattle.lower_display.specs.Digits.{hex_text}
use Rattle.lower_display.specs.Numbers.{integer_shown, type_scale, number_text}

abbrev pub truth_text : Bool → List ℕ
truth_text true = codes "true"
truth_text false = codes "false"

-- The type that slots of a column have: of a dictionary that of its values, of an extension its
-- storage type.
abbrev pub shown_type : TypeTree → TypeTree
shown_type (dictionary keys t ordered) = shown_type t
shown_type (extension name t metadata) = shown_type t
shown_type t = t

abbrev pub name_of_field : FieldTree → List ℕ
name_of_field (field name t nullable metadata) = name

-- The type of the items of a list or a map.
abbrev pub item_type : TypeTree → TypeTree
item_type (single s f) = field_type f
item_type t = t

-- The fields of a struct.
abbrev pub record_fields : TypeTree → FieldTrees
record_fields (group structure fs) = fs
record_fields _ = no_fields

-- The type of the field at an index, if there is one; else t.
abbrev pub field_type_at : FieldTrees → ℕ → TypeTree → TypeTree
field_type_at no_fields i t = t
field_type_at (more_fields f fs) zero t = field_type f
field_type_at (more_fields f fs) (suc i) t = field_type_at fs i t

-- The type of the child of a union that a type id names.
abbrev pub variant_type : TypeTree → ℤ → TypeTree
variant_type (group (choice ids mode) fs) id = field_type_at fs (child_number ids id) (group (choice ids mode) fs)
variant_type t id = t

-- The text between parts, none before the first.
abbrev pub comma : Bool → List ℕ
comma true = []
comma false = codes ", "

abbrev mutual
  -- A slot of a column of a type: `[1, 2]` for a list or a map, `{a: 1, b: 2}` for a struct. A null
  -- is the given text.
  pub slot_text : TypeTree → List ℕ → Slot → List ℕ
  slot_text t null null_slot = null
  slot_text t null (truth_slot b) = truth_text b
  slot_text t null (number_slot n) = number_text (integer_shown t) (type_scale t) n
  slot_text t null (bytes_slot bytes) = hex_text bytes
  slot_text t null (text_slot text) = text
  slot_text t null (list_slot xs) = codes "[" ++ (items_text (item_type (shown_type t)) null 0 xs ++ codes "]")
  slot_text t null (record_slot xs) = codes "{" ++ (members_text (record_fields (shown_type t)) null 0 xs ++ codes "}")
  slot_text t null (variant_slot id x) = slot_text (variant_type (shown_type t) id) null x

  -- Items of a type from item i on.
  pub items_text : TypeTree → List ℕ → ℕ → Slots → List ℕ
  items_text t null i no_slots = []
  items_text t null i (more_slots x xs) = comma (i == 0) ++ (slot_text t null x ++ items_text t null (i + 1) xs)

  -- Slots of fields from field i on, each after its name.
  pub members_text : FieldTrees → List ℕ → ℕ → Slots → List ℕ
  members_text (more_fields f fs) null i (more_slots x xs) =
      comma (i == 0)
      ++ (name_of_field f ++ (codes ": " ++ (slot_text (field_type f) null x ++ members_text fs null (i + 1) xs)))
  members_text _ null i _ = []
