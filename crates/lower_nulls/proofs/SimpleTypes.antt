-- What the arms of a match on a type know: those of floats, and a `_` arm after floats, nested
-- types and byte strings of one length.
use Rattle.std.proofs.Common.{◌≡◌, ◌⊎◌, inl, inr, refl, sym, ap, subst, ◌∙◌}
use Rattle.lower.specs.TypeTrees.{float16, float32, float64, TypeTree, plain, FieldTree}
use Rattle.lower.specs.TypeViews.{type_step, field_step, type_view, field_view}
use Rattle.lower.specs.declared.datatypes.DataType.{DataType, Float16, Float32, Float64, FixedSizeBinary, List, FixedSizeList, LargeList, Struct, Union, Map, Dictionary, Extension, out-DataType, roll-DataType, roll-out-DataType, map-DataType, fold_out-DataType, fold-roll-DataType}
use Rattle.lower.specs.declared.datatypes.DataType.TheVariants.{rolls-Float16, rolls-Float32, rolls-Float64, rolls-FixedSizeBinary, rolls-List, rolls-FixedSizeList, rolls-LargeList, rolls-Struct, rolls-Union, rolls-Map, rolls-Dictionary, rolls-Extension}
use Rattle.lower.specs.declared.datatypes.DataType.TheOpen.{DataType-F}
use Rattle.lower.specs.declared.datatypes.Field.{Field}
use Rattle.lower.specs.Physical.{logical}
use Rattle.lower_nulls.specs.Nulls.{HasArrays}
use Rattle.lower_nulls.specs.Storage.{IsSimple}
use Rattle.lower_nulls.proofs.Types.{has_is}

module _ (a : DataType)
    (not-Float16 : a ≡ Float16 → ⊥) (not-Float32 : a ≡ Float32 → ⊥) (not-Float64 : a ≡ Float64 → ⊥) (not-FixedSizeBinary : (n : _) → a ≡ FixedSizeBinary n → ⊥)
    (not-List : (x : _) → a ≡ List x → ⊥) (not-FixedSizeList : (x : _) (n : _) → a ≡ FixedSizeList x n → ⊥) (not-LargeList : (x : _) → a ≡ LargeList x → ⊥)
    (not-Struct : (x : _) → a ≡ Struct x → ⊥) (not-Union : (x : _) (i : _) (m : _) → a ≡ Union x i m → ⊥) (not-Map : (x : _) (b : _) → a ≡ Map x b → ⊥)
    (not-Dictionary : (k : _) (x : _) (b : _) → a ≡ Dictionary k x b → ⊥) (not-Extension : (n : _) (x : _) (t : _) → a ≡ Extension n x t → ⊥) where
  seen : (o : DataType-F DataType Field) → out-DataType a ≡ o → type_view a ≡ type_step (map-DataType DataType Field TypeTree FieldTree type_view field_view o)
  seen o e = fold_out-DataType TypeTree FieldTree type_step field_step a ∙ ap (λ x. type_step (map-DataType DataType Field TypeTree FieldTree type_view field_view x)) e

  made : (o : DataType-F DataType Field) → out-DataType a ≡ o → a ≡ roll-DataType o
  made o e = sym (roll-out-DataType a) ∙ ap roll-DataType e

  at : (o : DataType-F DataType Field) → out-DataType a ≡ o → IsSimple (type_view a)
  at DataType-F.Float16 e = absurd (not-Float16 (made DataType-F.Float16 e ∙ rolls-Float16))
  at DataType-F.Float32 e = absurd (not-Float32 (made DataType-F.Float32 e ∙ rolls-Float32))
  at DataType-F.Float64 e = absurd (not-Float64 (made DataType-F.Float64 e ∙ rolls-Float64))
  at (DataType-F.FixedSizeBinary n) e = absurd (not-FixedSizeBinary n (made (DataType-F.FixedSizeBinary n) e ∙ rolls-FixedSizeBinary n))
  at (DataType-F.List x) e = absurd (not-List x (made (DataType-F.List x) e ∙ rolls-List x))
  at (DataType-F.FixedSizeList x n) e = absurd (not-FixedSizeList x n (made (DataType-F.FixedSizeList x n) e ∙ rolls-FixedSizeList x n))
  at (DataType-F.LargeList x) e = absurd (not-LargeList x (made (DataType-F.LargeList x) e ∙ rolls-LargeList x))
  at (DataType-F.Struct x) e = absurd (not-Struct x (made (DataType-F.Struct x) e ∙ rolls-Struct x))
  at (DataType-F.Union x i m) e = absurd (not-Union x i m (made (DataType-F.Union x i m) e ∙ rolls-Union x i m))
  at (DataType-F.Map x b) e = absurd (not-Map x b (made (DataType-F.Map x b) e ∙ rolls-Map x b))
  at (DataType-F.Dictionary k x b) e = absurd (not-Dictionary k x b (made (DataType-F.Dictionary k x b) e ∙ rolls-Dictionary k x b))
  at (DataType-F.Extension n x t) e = absurd (not-Extension n x t (made (DataType-F.Extension n x t) e ∙ rolls-Extension n x t))
  at o e = subst IsSimple (sym (seen o e)) tt

  pub is_simple : IsSimple (type_view a)
  is_simple = at (out-DataType a) refl

-- ---- floats
view-Float16 : type_view Float16 ≡ plain float16
view-Float16 = ap type_view (sym rolls-Float16) ∙ fold-roll-DataType TypeTree FieldTree type_step field_step DataType-F.Float16

view-Float32 : type_view Float32 ≡ plain float32
view-Float32 = ap type_view (sym rolls-Float32) ∙ fold-roll-DataType TypeTree FieldTree type_step field_step DataType-F.Float32

view-Float64 : type_view Float64 ≡ plain float64
view-Float64 = ap type_view (sym rolls-Float64) ∙ fold-roll-DataType TypeTree FieldTree type_step field_step DataType-F.Float64

-- no array has a type that is stored as a float
pub float_none : (t : TypeTree) (a : DataType) → logical t ≡ logical (type_view a) → (a ≡ Float16) ⊎ ((a ≡ Float32) ⊎ (a ≡ Float64)) → ¬ (HasArrays t)
float_none t a stored (inl e) has = has_is t (plain float16) (stored ∙ ap logical (ap type_view e ∙ view-Float16)) has
float_none t a stored (inr (inl e)) has = has_is t (plain float32) (stored ∙ ap logical (ap type_view e ∙ view-Float32)) has
float_none t a stored (inr (inr e)) has = has_is t (plain float64) (stored ∙ ap logical (ap type_view e ∙ view-Float64)) has
