-- A column of lists is read to the array that its entries say.
use Rattle.std.proofs.Common.{arith, ◌≡◌, ℕ, ◌+◌, List, [], ◌∷◌, length, ap, ◌∙◌}
use Rattle.lower.specs.TypeTrees.{TypeTree}
use Rattle.lower.specs.Physical.{physical}
use Rattle.lower.specs.declared.error.Error.{Error}
use Rattle.lower.specs.declared.error.Error.TheVariants.{OutOfSpec}
use Rattle.lower.specs.declared.error.Rule.TheVariants.{ValidityLength, OffsetsPastValues, ChildType, PhysicalType as WrongType}
use Rattle.lower_types.specs.declared.PrimitiveType.{PrimitiveType}
use Rattle.lower_flat_arrays.specs.Validities.{Validity}
use Rattle.lower_validation.specs.Fields.{child_fields, FieldTypes}
use Rattle.lower_validation.specs.ListTypes.{list_with, last_offset}
use Rattle.lower_arrays.specs.Layouts.{Layout, len_of, type_of}
use Rattle.lower_arrays.specs.Lists.{list_seen, BreaksList}
use Rattle.ipc_model.specs.Kinds.{OffsetWidth, offset_width}
use Rattle.ipc_model.specs.Entries.{Entries}
use Rattle.ipc_model.specs.Columns.{last_offset as column_last}
use Rattle.ipc_model.specs.ReadArrays.{validity_of, offsets_of}
use Rattle.ipc_read_flat.proofs.SpanLevels.{last_read}
use Rattle.ipc_read_nested.specs.ListHeads.{AreLists, AreListsAt}

pub list_keeps :
    (u : TypeTree) (p : PrimitiveType) (os : List ℕ) (c : Layout) (v : Validity) (last : ℕ) (e : Error) → physical u ≡ list_with p → AreLists os v last
    → len_of c ≡ last → BreaksList (list_seen u p os c v) e → FieldTypes (child_fields u) (type_of c ∷ []) → ⊥
list_keeps u p os c v last (OutOfSpec WrongType) lies are len h types = h lies
list_keeps u p os c v last (OutOfSpec OffsetsPastValues) lies are len h types = let ends = are.ends in h (omega (arith, ends, len))
list_keeps u p os c v last (OutOfSpec ChildType) lies are len h types = h types
list_keeps u p os c v last (OutOfSpec ValidityLength) lies are len h types = h are.fits
list_keeps u p os c v last (OutOfSpec _) lies are len h types = absurd h

pub ruleset list_rules = (list_keeps)

pub lists_at :
    (s : Entries) (form : OffsetWidth) (a b n k : ℕ) (os : List ℕ) (v : Validity) (last : ℕ) → n ≡ k → v ≡ validity_of s a b k → os ≡ offsets_of s (b + 1) (offset_width form) n
    → length os ≡ n + 1 → last ≡ last_offset os → AreListsAt s form a b k os v last
lists_at s form a b n k os v last count mask same long ends = record {
  places = same ∙ ap (offsets_of s (b + 1) (offset_width form)) count;
  mask = mask;
  ends = last_read s (b + 1) (offset_width form) n last os same ends ∙ ap (column_last s (b + 1) (offset_width form)) count;
  count = omega (arith, long, count);
}
