-- Slots that are null by a validity.
use Rattle.std.proofs.Common.{◌≡◌, ℕ, Bool, false, replicate, sym, ap, ◌∙◌}
use Rattle.std.specs.Prelude.{Some}
use Rattle.lower.specs.TypeTrees.{TypeTree}
use Rattle.lower.specs.Physical.{physical}
use Rattle.lower.specs.declared.datatypes.physical_type.PhysicalType.{PhysicalType}
use Rattle.lower_flat_arrays.specs.Validities.{Validity, is_valid}
use Rattle.lower_arrays.specs.Layouts.{Level, Layout, layout, Layouts, len_of, type_of}
use Rattle.lower_arrays.specs.Slots.{slot_where, value_at, slot_at, children_at}
use Rattle.lower_nulls.specs.Nulls.{AreNulls}
use Rattle.lower_nulls.proofs.Replicas.{filled}
use Rattle.lower_nulls.proofs.Types.{HasValidity, null_by}

pub nulls_at : (t : TypeTree) (n : ℕ) (p : PhysicalType) (l : Layout) (h : Level) (cs : Layouts)
    → physical t ≡ p → HasValidity p → l ≡ layout h cs → h.type ≡ t → h.len ≡ n → h.validity ≡ Some (replicate n false) → AreNulls t n l
nulls_at t n p l h cs lies own is type len bits = record {
  type = ap type_of is ∙ type;
  len = ap len_of is ∙ len;
  each = λ i below.
      ap (λ m. slot_at m i) is
      ∙ ap (λ (v : Validity). slot_where (is_valid v i) (value_at h.parts (children_at cs) i)) bits
      ∙ ap (λ (b : Bool). slot_where b (value_at h.parts (children_at cs) i)) (filled false n i)
      ∙ sym (null_by t p lies own);
}
