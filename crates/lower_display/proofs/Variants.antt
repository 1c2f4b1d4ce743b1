-- The children of unions by their type ids.
use Rattle.std.proofs.Common.{◌≡◌, ◌∙◌, sym, ap, ℤ, ℕ, ◌<◌, ◌≤◌, List, Vec, Option, Global, length, get_or}
use Rattle.lower.specs.TypeTrees.{TypeTree, FieldTree, group, choice}
use Rattle.lower.specs.TypeViews.{type_view, fields_view, type_step, field_step, ids_of}
use Rattle.lower.specs.declared.datatypes.Field.{Field}
use Rattle.lower.specs.declared.datatypes.DataType.{DataType, fold-roll-DataType}
use Rattle.lower.specs.declared.datatypes.DataType.TheVariants.{Union, rolls-Union}
use Rattle.lower.specs.declared.datatypes.DataType.TheOpen.{DataType-F}
use Rattle.lower.specs.declared.datatypes.UnionMode.{UnionMode}
use Rattle.lower_validation.specs.Fields.{field_type}
use Rattle.lower_validation.specs.Ids.{child_number}
use Rattle.lower_display.specs.Texts.{field_type_at, variant_type}
use Rattle.lower_display.proofs.Forms.{field_at, field_past}
use Rattle.lower_display.proofs.Items.{view-field}

union_view : (d : DataType) (fs : Vec Field Global) (ids : Option (Vec ℤ Global)) (mode : UnionMode) → d ≡ Union fs ids mode
    → type_view d ≡ group (choice (ids_of ids) mode) (fields_view fs.items)
union_view d fs ids mode e =
    ap type_view (e ∙ sym (rolls-Union fs ids mode)) ∙ fold-roll-DataType TypeTree FieldTree type_step field_step (DataType-F.Union fs ids mode)

pub named_some : (d : DataType) (fs : Vec Field Global) (ids : Option (Vec ℤ Global)) (mode : UnionMode) (xs : List Field) (i : ℕ) (f : Field) (id : ℤ)
    → d ≡ Union fs ids mode → xs ≡ fs.items → i ≡ child_number (ids_of ids) id → i < length xs → f ≡ get_or xs i f
    → type_view f.data_type ≡ variant_type (type_view d) id
named_some d fs ids mode xs i f id is all place below item =
    let t = group (choice (ids_of ids) mode) (fields_view fs.items) in
    sym
    (ap (λ (u : TypeTree). variant_type u id) (union_view d fs ids mode is)
    ∙ sym (λ j. field_type_at (fields_view (all j)) (place j) t)
    ∙ field_at xs i f t below item
    ∙ ap field_type (view-field f))

pub named_none : (d : DataType) (fs : Vec Field Global) (ids : Option (Vec ℤ Global)) (mode : UnionMode) (xs : List Field) (i : ℕ) (id : ℤ)
    → d ≡ Union fs ids mode → xs ≡ fs.items → i ≡ child_number (ids_of ids) id → length xs ≤ i
    → type_view d ≡ variant_type (type_view d) id
named_none d fs ids mode xs i id is all place past =
    let t = group (choice (ids_of ids) mode) (fields_view fs.items) in
    union_view d fs ids mode is
    ∙ sym
    (ap (λ (u : TypeTree). variant_type u id) (union_view d fs ids mode is)
    ∙ sym (λ j. field_type_at (fields_view (all j)) (place j) t)
    ∙ field_past xs i t past)
