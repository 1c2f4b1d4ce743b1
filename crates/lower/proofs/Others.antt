-- A type that none of the nested variants fits is one without children:
-- what a `_` arm after those knows.
use Rattle.std.proofs.Common.{◌≡◌, refl, sym, ap, ◌∙◌}
use Rattle.lower.specs.TypeTrees.{Plain, null, boolean, int8, int16, int32, int64, uint8, uint16, uint32, uint64, float16, float32, float64, timestamp, date32, date64, time32, time64, duration, interval, binary, fixed_binary, large_binary, utf8, large_utf8, decimal, decimal256, TypeTree, plain, FieldTree}
use Rattle.lower.specs.TypeViews.{type_step, field_step, type_view, field_view, text_of}
use Rattle.lower.specs.declared.datatypes.DataType.{DataType, List, FixedSizeList, LargeList, Struct, Union, Map, Dictionary, Extension, out-DataType, roll-DataType, roll-out-DataType, map-DataType, fold_out-DataType}
use Rattle.lower.specs.declared.datatypes.DataType.TheVariants.{rolls-List, rolls-FixedSizeList, rolls-LargeList, rolls-Struct, rolls-Union, rolls-Map, rolls-Dictionary, rolls-Extension}
use Rattle.lower.specs.declared.datatypes.DataType.TheOpen.{DataType-F}
use Rattle.lower.specs.declared.datatypes.Field.{Field}

module _ (a : DataType)
    (not-List : (x : _) → a ≡ List x → ⊥) (not-FixedSizeList : (x : _) (n : _) → a ≡ FixedSizeList x n → ⊥) (not-LargeList : (x : _) → a ≡ LargeList x → ⊥)
    (not-Struct : (x : _) → a ≡ Struct x → ⊥) (not-Union : (x : _) (i : _) (m : _) → a ≡ Union x i m → ⊥) (not-Map : (x : _) (b : _) → a ≡ Map x b → ⊥)
    (not-Dictionary : (k : _) (x : _) (b : _) → a ≡ Dictionary k x b → ⊥) (not-Extension : (n : _) (x : _) (t : _) → a ≡ Extension n x t → ⊥) where
  seen : (o : DataType-F DataType Field) → out-DataType a ≡ o → type_view a ≡ type_step (map-DataType DataType Field TypeTree FieldTree type_view field_view o)
  seen o e = fold_out-DataType TypeTree FieldTree type_step field_step a ∙ ap (λ x. type_step (map-DataType DataType Field TypeTree FieldTree type_view field_view x)) e

  made : (o : DataType-F DataType Field) → out-DataType a ≡ o → a ≡ roll-DataType o
  made o e = sym (roll-out-DataType a) ∙ ap roll-DataType e

  at : (o : DataType-F DataType Field) → out-DataType a ≡ o → (p : Plain) × (type_view a ≡ plain p)
  at (DataType-F.List x) e = absurd (not-List x (made (DataType-F.List x) e ∙ rolls-List x))
  at (DataType-F.FixedSizeList x n) e = absurd (not-FixedSizeList x n (made (DataType-F.FixedSizeList x n) e ∙ rolls-FixedSizeList x n))
  at (DataType-F.LargeList x) e = absurd (not-LargeList x (made (DataType-F.LargeList x) e ∙ rolls-LargeList x))
  at (DataType-F.Struct x) e = absurd (not-Struct x (made (DataType-F.Struct x) e ∙ rolls-Struct x))
  at (DataType-F.Union x i m) e = absurd (not-Union x i m (made (DataType-F.Union x i m) e ∙ rolls-Union x i m))
  at (DataType-F.Map x b) e = absurd (not-Map x b (made (DataType-F.Map x b) e ∙ rolls-Map x b))
  at (DataType-F.Dictionary k x b) e = absurd (not-Dictionary k x b (made (DataType-F.Dictionary k x b) e ∙ rolls-Dictionary k x b))
  at (DataType-F.Extension n x t) e = absurd (not-Extension n x t (made (DataType-F.Extension n x t) e ∙ rolls-Extension n x t))
  at DataType-F.Null e = (null, seen DataType-F.Null e)
  at DataType-F.Boolean e = (boolean, seen DataType-F.Boolean e)
  at DataType-F.Int8 e = (int8, seen DataType-F.Int8 e)
  at DataType-F.Int16 e = (int16, seen DataType-F.Int16 e)
  at DataType-F.Int32 e = (int32, seen DataType-F.Int32 e)
  at DataType-F.Int64 e = (int64, seen DataType-F.Int64 e)
  at DataType-F.UInt8 e = (uint8, seen DataType-F.UInt8 e)
  at DataType-F.UInt16 e = (uint16, seen DataType-F.UInt16 e)
  at DataType-F.UInt32 e = (uint32, seen DataType-F.UInt32 e)
  at DataType-F.UInt64 e = (uint64, seen DataType-F.UInt64 e)
  at DataType-F.Float16 e = (float16, seen DataType-F.Float16 e)
  at DataType-F.Float32 e = (float32, seen DataType-F.Float32 e)
  at DataType-F.Float64 e = (float64, seen DataType-F.Float64 e)
  at DataType-F.Date32 e = (date32, seen DataType-F.Date32 e)
  at DataType-F.Date64 e = (date64, seen DataType-F.Date64 e)
  at DataType-F.Binary e = (binary, seen DataType-F.Binary e)
  at DataType-F.LargeBinary e = (large_binary, seen DataType-F.LargeBinary e)
  at DataType-F.Utf8 e = (utf8, seen DataType-F.Utf8 e)
  at DataType-F.LargeUtf8 e = (large_utf8, seen DataType-F.LargeUtf8 e)
  at (DataType-F.Timestamp u z) e = (timestamp u (text_of z), seen (DataType-F.Timestamp u z) e)
  at (DataType-F.Time32 u) e = (time32 u, seen (DataType-F.Time32 u) e)
  at (DataType-F.Time64 u) e = (time64 u, seen (DataType-F.Time64 u) e)
  at (DataType-F.Duration u) e = (duration u, seen (DataType-F.Duration u) e)
  at (DataType-F.Interval u) e = (interval u, seen (DataType-F.Interval u) e)
  at (DataType-F.FixedSizeBinary n) e = (fixed_binary n, seen (DataType-F.FixedSizeBinary n) e)
  at (DataType-F.Decimal p s) e = (decimal p s, seen (DataType-F.Decimal p s) e)
  at (DataType-F.Decimal256 p s) e = (decimal256 p s, seen (DataType-F.Decimal256 p s) e)

  pub other_is_plain : (p : Plain) × (type_view a ≡ plain p)
  other_is_plain = at (out-DataType a) refl
