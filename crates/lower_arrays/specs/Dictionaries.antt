-- What contracts know of an array whose slots are indices of a dictionary's values.
-- (Arrow columnar format, "Dictionary-encoded Layout".)
use Rattle.std.specs.Prelude.{◌≡◌, ℕ, ℤ, List, length, refl}
use Rattle.std.specs.Coded.{Coded, code_by, coded_list, coded_ℤ, coded×}
use Rattle.lower.specs.TypeTrees.{TypeTree}
use Rattle.lower.specs.Physical.{physical}
use Rattle.lower.specs.Normal.{norm}
use Rattle.lower.specs.declared.datatypes.IntegerType.{IntegerType}
use Rattle.lower.specs.declared.datatypes.physical_type.PhysicalType.TheVariants.{Dictionary}
use Rattle.lower.specs.declared.error.Error.{Error}
use Rattle.lower_flat_arrays.specs.TypeCodes.{coded_type}
use Rattle.lower_flat_arrays.specs.Validities.{Validity}
use Rattle.lower_validation.specs.Rules.{BreaksDictionaryRules}
use Rattle.lower_arrays.specs.Layouts.{Parts, keys, Layout, layout, no_layouts, more_layouts, len_of, type_of}
use Rattle.lower_arrays.specs.LayoutCodes.{coded_integer, coded_validity, coded_layout}
use Rattle.lower_validation.specs.Keys.{values_type, KeysFit, KeysSeen, IsKeys, cut_keys}
use Rattle.lower_arrays.specs.Slots.{IsArray}

-- The type of a dictionary array, its keys and its values.
pub record DictionarySeen : Type 0 where
  pub type : TypeTree
  pub keys : KeysSeen
  pub values : Layout

-- What contracts know of a dictionary array with this type, these keys and these values.
abbrev pub dictionary_seen : TypeTree → KeysSeen → Layout → DictionarySeen
dictionary_seen t ks l = record { type = t; keys = ks; values = l }

-- How the keys are stored as ghost values.
abbrev pub coded_keys : Coded KeysSeen
coded_keys =
    code_by (IntegerType × (TypeTree × (List ℤ × Validity)))
    (coded× coded_integer (coded× coded_type (coded× (coded_list coded_ℤ) coded_validity)))
    (λ a. (a.key, (a.type, (a.integers, a.validity))))
    (λ p. record { key = p.0; type = p.1.0; integers = p.1.1.0; validity = p.1.1.1 }) (λ _. refl)

-- How a dictionary array is stored as a ghost value.
abbrev pub coded_dictionary : Coded DictionarySeen
coded_dictionary =
    code_by (TypeTree × (KeysSeen × Layout)) (coded× coded_type (coded× coded_keys coded_layout))
    (λ a. (a.type, (a.keys, a.values))) (λ p. record { type = p.0; keys = p.1.0; values = p.1.1 }) (λ _. refl)

-- The layout of a dictionary array: a slot for each key, null where the key is.
abbrev pub dictionary_layout : DictionarySeen → Layout
dictionary_layout a =
    layout
    (record { type = a.type; len = length a.keys.integers; validity = a.keys.validity; parts = keys a.keys.key a.keys.integers })
    (more_layouts a.values no_layouts)

-- The slots are indices of a dictionary's values.
abbrev pub HasKeys : Parts → Type 0
HasKeys (keys k ks) = Unit {0}
HasKeys _ = ⊥

-- The type is a dictionary with such keys, and the values have the type that it names, both in
-- their normal form. Each key that isn't null is the index of a value.
pub record IsDictionary (a : DictionarySeen) : Type 0 where
  pub lies : physical a.type ≡ Dictionary a.keys.key
  pub keys : IsKeys a.keys
  pub named : norm (type_of a.values) ≡ norm (values_type a.type)
  pub places : KeysFit a.keys.validity a.keys.integers (len_of a.values)
  pub values : IsArray a.values

-- The array breaks the rule that the error names.
abbrev pub BreaksDictionary : DictionarySeen → Error → Type 0
BreaksDictionary a = BreaksDictionaryRules a.type a.keys (type_of a.values) (len_of a.values)

-- The n slots from index o on: their keys, with the same values.
abbrev pub cut_dictionary : ℕ → ℕ → DictionarySeen → DictionarySeen
cut_dictionary o n a = record { type = a.type; keys = cut_keys o n a.keys; values = a.values }
