-- Offsets of 32 bits aren't offsets of 64 bits.
use Rattle.std.proofs.Common.{◌≡◌, sym, ap, ◌∙◌, Bool, true, false}
use Rattle.lower_types.specs.declared.PrimitiveType.{PrimitiveType}
use Rattle.lower_types.specs.declared.PrimitiveType.TheVariants.{Int32, Int64}
use Rattle.lower.specs.declared.datatypes.physical_type.PhysicalType.{PhysicalType}
use Rattle.lower.specs.declared.datatypes.physical_type.PhysicalType.TheVariants as Physicals
use Rattle.lower_validation.specs.ListTypes.{list_with}

abbrev is_large : PhysicalType → Bool
is_large Physicals.LargeList = true
is_large _ = false

pub not_small : (p w : PrimitiveType) → w ≡ p → p ≡ Int64 → ¬ (list_with w ≡ list_with Int32)
not_small p w same e h = let no : true ≡ false = ap (λ q. is_large (list_with q)) (sym (same ∙ e)) ∙ ap is_large h in absurd cc

pub not_large : (p w : PrimitiveType) → w ≡ p → p ≡ Int32 → ¬ (list_with w ≡ list_with Int64)
not_large p w same e h = let no : false ≡ true = ap (λ q. is_large (list_with q)) (sym (same ∙ e)) ∙ ap is_large h in absurd cc

pub never_large : ¬ (list_with Int32 ≡ list_with Int64)
never_large h = let no : false ≡ true = ap is_large h in absurd cc

pub ruleset widths = (not_small, not_large, never_large)
