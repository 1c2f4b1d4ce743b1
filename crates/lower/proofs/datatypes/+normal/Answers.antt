use Rattle.std.proofs.Common.{◌≡◌, ◌∙◌, ap, sym, take, map}
use Rattle.std.proofs.lemmas.List.{take_all}
use Rattle.lower.specs.TypeViews.{fields_of, field_view}
use Rattle.lower.specs.Normal.{norm, norm_field}
use Rattle.lower.proofs.Maps.{normal_map}
use Rattle.lower.proofs.Others.{other_is_plain}
use Rattle.lower.proofs.datatypes.+normal.Goals as goal

pub normal::normal_fields-returns : goal.normal::normal_fields-returns
normal::normal_fields-returns t c =
    let whole : take c.loop-field.field-index c.deref-field-items.result.now ≡ c.args.fields.now.items = take_all _ _ c.loop-field-test.false ∙ c.deref-field-items.ensures.value in
    ap fields_of c.loop-field.invariant ∙ ap (λ xs. fields_of (map (λ f. norm_field (field_view f)) xs)) whole ∙ normal_map c.args.fields.now.items

pub DataType::normal-returns-in_ok-copy-in_default :
    goal.DataType::normal-returns-in_ok-copy-in_default
DataType::normal-returns-in_ok-copy-in_default t c =
    let d = c.in_default in
    let other = other_is_plain c.args.self.now d.not-List d.not-FixedSizeList d.not-LargeList d.not-Struct d.not-Union d.not-Map d.not-Dictionary d.not-Extension in
    c.in_ok-copy-in_default.ensures ∙ other.1 ∙ ap norm (sym other.1)
