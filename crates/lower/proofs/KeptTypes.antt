-- A type that is neither a float nor nested stays as it is: what a `_` arm after those knows.
use Rattle.std.proofs.Common.{◌≡◌, refl, sym, ap, ◌∙◌}
use Rattle.lower.specs.TypeTrees.{TypeTree, FieldTree}
use Rattle.lower.specs.TypeViews.{type_step, field_step, type_view, field_view}
use Rattle.lower.specs.declared.datatypes.DataType.{DataType, Float16, Float32, Float64, List, FixedSizeList, LargeList, Struct, Union, Map, Dictionary, Extension, out-DataType, roll-DataType, roll-out-DataType, map-DataType, fold_out-DataType}
use Rattle.lower.specs.declared.datatypes.DataType.TheVariants.{rolls-Float16, rolls-Float32, rolls-Float64, rolls-List, rolls-FixedSizeList, rolls-LargeList, rolls-Struct, rolls-Union, rolls-Map, rolls-Dictionary, rolls-Extension}
use Rattle.lower.specs.declared.datatypes.DataType.TheOpen.{DataType-F}
use Rattle.lower.specs.declared.datatypes.Field.{Field}
use Rattle.lower.specs.FloatBits.{as_bits}

module _ (a : DataType)
    (not-Float16 : a ≡ Float16 → ⊥) (not-Float32 : a ≡ Float32 → ⊥) (not-Float64 : a ≡ Float64 → ⊥)
    (not-List : (x : _) → a ≡ List x → ⊥) (not-FixedSizeList : (x : _) (n : _) → a ≡ FixedSizeList x n → ⊥) (not-LargeList : (x : _) → a ≡ LargeList x → ⊥)
    (not-Struct : (x : _) → a ≡ Struct x → ⊥) (not-Union : (x : _) (i : _) (m : _) → a ≡ Union x i m → ⊥) (not-Map : (x : _) (b : _) → a ≡ Map x b → ⊥)
    (not-Dictionary : (k : _) (x : _) (b : _) → a ≡ Dictionary k x b → ⊥) (not-Extension : (n : _) (x : _) (t : _) → a ≡ Extension n x t → ⊥) where
  seen : (o : DataType-F DataType Field) → out-DataType a ≡ o → type_view a ≡ type_step (map-DataType DataType Field TypeTree FieldTree type_view field_view o)
  seen o e = fold_out-DataType TypeTree FieldTree type_step field_step a ∙ ap (λ x. type_step (map-DataType DataType Field TypeTree FieldTree type_view field_view x)) e

  made : (o : DataType-F DataType Field) → out-DataType a ≡ o → a ≡ roll-DataType o
  made o e = sym (roll-out-DataType a) ∙ ap roll-DataType e

  at : (o : DataType-F DataType Field) → out-DataType a ≡ o → type_view a ≡ as_bits (type_view a)
  at DataType-F.Float16 e = absurd (not-Float16 (made DataType-F.Float16 e ∙ rolls-Float16))
  at DataType-F.Float32 e = absurd (not-Float32 (made DataType-F.Float32 e ∙ rolls-Float32))
  at DataType-F.Float64 e = absurd (not-Float64 (made DataType-F.Float64 e ∙ rolls-Float64))
  at (DataType-F.List x) e = absurd (not-List x (made (DataType-F.List x) e ∙ rolls-List x))
  at (DataType-F.FixedSizeList x n) e = absurd (not-FixedSizeList x n (made (DataType-F.FixedSizeList x n) e ∙ rolls-FixedSizeList x n))
  at (DataType-F.LargeList x) e = absurd (not-LargeList x (made (DataType-F.LargeList x) e ∙ rolls-LargeList x))
  at (DataType-F.Struct x) e = absurd (not-Struct x (made (DataType-F.Struct x) e ∙ rolls-Struct x))
  at (DataType-F.Union x i m) e = absurd (not-Union x i m (made (DataType-F.Union x i m) e ∙ rolls-Union x i m))
  at (DataType-F.Map x b) e = absurd (not-Map x b (made (DataType-F.Map x b) e ∙ rolls-Map x b))
  at (DataType-F.Dictionary k x b) e = absurd (not-Dictionary k x b (made (DataType-F.Dictionary k x b) e ∙ rolls-Dictionary k x b))
  at (DataType-F.Extension n x t) e = absurd (not-Extension n x t (made (DataType-F.Extension n x t) e ∙ rolls-Extension n x t))
  at o e = seen o e ∙ ap as_bits (sym (seen o e))

  pub kept : type_view a ≡ as_bits (type_view a)
  kept = at (out-DataType a) refl
