-- The rules of the parts of an array with children, of which only the types and the lengths count.
-- (Arrow columnar format, "Physical Memory Layout".)
use Rattle.std.specs.Prelude.{◌≡◌, ℕ, ℤ, ◌*◌, ◌/◌, ◌<◌, ◌≤◌, List, [], ◌∷◌, Option, get_or, length}
use Rattle.lower_types.specs.declared.PrimitiveType.{PrimitiveType}
use Rattle.lower.specs.TypeTrees.{TypeTree, plain}
use Rattle.lower.specs.Physical.{physical, integer}
use Rattle.lower.specs.Normal.{norm}
use Rattle.lower.specs.Offsets.{IsOffsets}
use Rattle.lower.specs.declared.datatypes.physical_type.PhysicalType.TheVariants as Physicals
use Rattle.lower.specs.declared.error.Error.{Error}
use Rattle.lower.specs.declared.error.Error.TheVariants.{OutOfSpec}
use Rattle.lower.specs.declared.error.Rule.TheVariants.{ValidityLength, ZeroSize, OffsetsPastValues, ChildCount, ChildType, ChildLength, NoChild, MapChild, UnionChildren, UnionIds, UnionType, UnionOffsets, UnionOffset, DictionaryKey, DictionaryValues, PhysicalType as WrongType}
use Rattle.lower_flat_arrays.specs.Validities.{Validity, ValidityFits}
use Rattle.lower_flat_arrays.specs.Spans.{span_count}
use Rattle.lower_validation.specs.Fields.{child_fields, field_count, FieldTypes, IsPair}
use Rattle.lower_validation.specs.ListTypes.{list_with, list_size, last_offset}
use Rattle.lower_validation.specs.Keys.{values_type, KeysFit, KeysSeen, IsKeys}
use Rattle.lower_validation.specs.Places.{AllAre, PlacesFit}
use Rattle.lower_validation.specs.Ids.{union_ids, union_mode, IdsFit, AreNamed, OffsetsGiven}

-- Lists of the type t: their offsets os, of the type p, and a child of the type c with n slots.
pub record ListRules (t : TypeTree) (p : PrimitiveType) (os : List ℕ) (c : TypeTree) (n : ℕ) (v : Validity) : Type 0 where
  pub lies : physical t ≡ list_with p
  pub child : FieldTypes (child_fields t) (c ∷ [])
  pub offsets : IsOffsets os
  pub within : last_offset os ≤ n
  pub fits : ValidityFits v (span_count os)

-- The lists break the rule that the error names.
abbrev pub BreaksListRules : TypeTree → PrimitiveType → List ℕ → TypeTree → ℕ → Validity → Error → Type 0
BreaksListRules t p os c n v (OutOfSpec WrongType) = ¬ (physical t ≡ list_with p)
BreaksListRules t p os c n v (OutOfSpec ChildType) = ¬ (FieldTypes (child_fields t) (c ∷ []))
BreaksListRules t p os c n v (OutOfSpec OffsetsPastValues) = ¬ (last_offset os ≤ n)
BreaksListRules t p os c n v (OutOfSpec ValidityLength) = ¬ (ValidityFits v (span_count os))
BreaksListRules t p os c n v (OutOfSpec _) = ⊥

-- Lists of one size, as many as the n slots of a child of the type c make.
pub record FixedListRules (t c : TypeTree) (n : ℕ) (v : Validity) : Type 0 where
  pub lies : physical t ≡ Physicals.FixedSizeList
  pub some : 0 < list_size t
  pub child : FieldTypes (child_fields t) (c ∷ [])
  pub whole : n ≡ (n / list_size t) * list_size t
  pub fits : ValidityFits v (n / list_size t)

-- The fixed-size lists break the rule that the error names.
abbrev pub BreaksFixedListRules : TypeTree → TypeTree → ℕ → Validity → Error → Type 0
BreaksFixedListRules t c n v (OutOfSpec WrongType) = ¬ (physical t ≡ Physicals.FixedSizeList)
BreaksFixedListRules t c n v (OutOfSpec ZeroSize) = list_size t ≡ 0
BreaksFixedListRules t c n v (OutOfSpec ChildLength) = ¬ (n ≡ (n / list_size t) * list_size t)
BreaksFixedListRules t c n v (OutOfSpec ChildType) = ¬ (FieldTypes (child_fields t) (c ∷ []))
BreaksFixedListRules t c n v (OutOfSpec ValidityLength) = ¬ (ValidityFits v (n / list_size t))
BreaksFixedListRules t c n v (OutOfSpec _) = ⊥

-- Maps: lists of pairs.
pub record MapRules (t : TypeTree) (os : List ℕ) (c : TypeTree) (n : ℕ) (v : Validity) : Type 0 where
  pub lies : physical t ≡ Physicals.Map
  pub pairs : IsPair c
  pub child : FieldTypes (child_fields t) (c ∷ [])
  pub offsets : IsOffsets os
  pub within : last_offset os ≤ n
  pub fits : ValidityFits v (span_count os)

-- The maps break the rule that the error names.
abbrev pub BreaksMapRules : TypeTree → List ℕ → TypeTree → ℕ → Validity → Error → Type 0
BreaksMapRules t os c n v (OutOfSpec WrongType) = ¬ (physical t ≡ Physicals.Map)
BreaksMapRules t os c n v (OutOfSpec MapChild) = ¬ (IsPair c)
BreaksMapRules t os c n v (OutOfSpec ChildType) = ¬ (FieldTypes (child_fields t) (c ∷ []))
BreaksMapRules t os c n v (OutOfSpec OffsetsPastValues) = ¬ (last_offset os ≤ n)
BreaksMapRules t os c n v (OutOfSpec ValidityLength) = ¬ (ValidityFits v (span_count os))
BreaksMapRules t os c n v (OutOfSpec _) = ⊥

-- Keys that are indices of n values of the type c, whose normal form
-- is that of the value type of t.
pub record DictionaryRules (t : TypeTree) (ks : KeysSeen) (c : TypeTree) (n : ℕ) : Type 0 where
  pub lies : physical t ≡ Physicals.Dictionary ks.key
  pub keys : IsKeys ks
  pub named : norm c ≡ norm (values_type t)
  pub places : KeysFit ks.validity ks.integers n

-- The keys and their values break the rule that the error names.
abbrev pub BreaksDictionaryRules : TypeTree → KeysSeen → TypeTree → ℕ → Error → Type 0
BreaksDictionaryRules t ks c n (OutOfSpec WrongType) = ¬ ((physical t ≡ Physicals.Dictionary ks.key) × (ks.type ≡ plain (integer ks.key)))
BreaksDictionaryRules t ks c n (OutOfSpec DictionaryValues) = ¬ (norm c ≡ norm (values_type t))
BreaksDictionaryRules t ks c n (OutOfSpec DictionaryKey) = ¬ (KeysFit ks.validity ks.integers n)
BreaksDictionaryRules t ks c n (OutOfSpec _) = ⊥

-- Structs whose children have the types cs and the lengths ns: each has as many slots as the first.
pub record StructRules (t : TypeTree) (cs : List TypeTree) (ns : List ℕ) (v : Validity) : Type 0 where
  pub lies : physical t ≡ Physicals.Struct
  pub some : 0 < length ns
  pub types : FieldTypes (child_fields t) cs
  pub lens : AllAre (get_or ns 0 0) ns
  pub fits : ValidityFits v (get_or ns 0 0)

-- The structs break the rule that the error names.
abbrev pub BreaksStructRules : TypeTree → List TypeTree → List ℕ → Validity → Error → Type 0
BreaksStructRules t cs ns v (OutOfSpec WrongType) = ¬ (physical t ≡ Physicals.Struct)
BreaksStructRules t cs ns v (OutOfSpec NoChild) = ¬ (0 < length ns)
BreaksStructRules t cs ns v (OutOfSpec ChildCount) = ¬ (length ns ≡ field_count (child_fields t))
BreaksStructRules t cs ns v (OutOfSpec ChildType) = ¬ (FieldTypes (child_fields t) cs)
BreaksStructRules t cs ns v (OutOfSpec ChildLength) = ¬ (AllAre (get_or ns 0 0) ns)
BreaksStructRules t cs ns v (OutOfSpec ValidityLength) = ¬ (ValidityFits v (get_or ns 0 0))
BreaksStructRules t cs ns v (OutOfSpec _) = ⊥

-- There are 1 to 127 children.
abbrev pub IsCount : ℕ → Type 0
IsCount n = (0 < n) × (n ≤ 127)

-- A union of k children: the type ids ts of its slots, and their offsets if it is dense.
pub record IdRules (t : TypeTree) (ts : List ℤ) (os : Option (List ℤ)) (k : ℕ) : Type 0 where
  pub lies : physical t ≡ Physicals.Union
  pub some : 0 < k
  pub few : k ≤ 127
  pub count : k ≡ field_count (child_fields t)
  pub ids : IdsFit (union_ids t) k
  pub names : AreNamed (union_ids t) ts k
  pub given : OffsetsGiven (union_mode t) os (length ts)

-- The type ids of a union break the rule that the error names.
abbrev pub BreaksIdRules : TypeTree → List ℤ → Option (List ℤ) → ℕ → Error → Type 0
BreaksIdRules t ts os k (OutOfSpec WrongType) = ¬ (physical t ≡ Physicals.Union)
BreaksIdRules t ts os k (OutOfSpec UnionChildren) = ¬ (IsCount k)
BreaksIdRules t ts os k (OutOfSpec ChildCount) = ¬ (k ≡ field_count (child_fields t))
BreaksIdRules t ts os k (OutOfSpec UnionIds) = ¬ (IdsFit (union_ids t) k)
BreaksIdRules t ts os k (OutOfSpec UnionType) = ¬ (AreNamed (union_ids t) ts k)
BreaksIdRules t ts os k (OutOfSpec UnionOffsets) = ¬ (OffsetsGiven (union_mode t) os (length ts))
BreaksIdRules t ts os k (OutOfSpec _) = ⊥

-- A union whose children have the types cs and the lengths ns.
pub record UnionRules (t : TypeTree) (ts : List ℤ) (os : Option (List ℤ)) (cs : List TypeTree) (ns : List ℕ) : Type 0 where
  pub ids : IdRules t ts os (length ns)
  pub types : FieldTypes (child_fields t) cs
  pub places : PlacesFit (union_ids t) ts os ns

-- The union breaks the rule that the error names.
abbrev pub BreaksUnionRules : TypeTree → List ℤ → Option (List ℤ) → List TypeTree → List ℕ → Error → Type 0
BreaksUnionRules t ts os cs ns (OutOfSpec ChildType) = ¬ (FieldTypes (child_fields t) cs)
BreaksUnionRules t ts os cs ns (OutOfSpec ChildLength) = ¬ (PlacesFit (union_ids t) ts os ns)
BreaksUnionRules t ts os cs ns (OutOfSpec UnionOffset) = ¬ (PlacesFit (union_ids t) ts os ns)
BreaksUnionRules t ts os cs ns e = BreaksIdRules t ts os (length ns) e
