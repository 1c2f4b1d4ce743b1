use Rattle.std.proofs.Common.{◌≡◌, ◌∙◌, ap, take, map}
use Rattle.std.proofs.lemmas.List.{take_all}
use Rattle.lower.specs.TypeViews.{fields_of, field_view}
use Rattle.lower.specs.FloatBits.{field_as_bits}
use Rattle.lower.proofs.FieldBits.{fields_map}
use Rattle.lower.proofs.KeptTypes.{kept}
use Rattle.lower.proofs.datatypes.bits.+bits.Goals as goal

pub fields_as_bits-returns : goal.fields_as_bits-returns
fields_as_bits-returns t c =
    let whole : take c.loop-field.field-index c.deref-field-items.result.now ≡ c.args.fields.now.items = take_all _ _ c.loop-field-test.false ∙ c.deref-field-items.ensures.value in
    ap fields_of c.loop-field.invariant ∙ ap (λ xs. fields_of (map (λ f. field_as_bits (field_view f)) xs)) whole ∙ fields_map c.args.fields.now.items

pub type_as_bits-returns-in_ok-copy-in_default : goal.type_as_bits-returns-in_ok-copy-in_default
type_as_bits-returns-in_ok-copy-in_default t c =
    let d = c.in_default in
    c.in_ok-copy-in_default.ensures ∙ kept c.args.data_type.now d.not-Float16 d.not-Float32 d.not-Float64 d.not-List d.not-FixedSizeList d.not-LargeList d.not-Struct d.not-Union d.not-Map d.not-Dictionary d.not-Extension
