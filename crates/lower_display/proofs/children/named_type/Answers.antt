use Rattle.std.proofs.Common.{rules, ◌≡◌, ◌∙◌, ap, to_z, of_z}
use Rattle.std.specs.Int.{w8}
use Rattle.lower.specs.TypeViews.{ids_of}
use Rattle.lower_validation.specs.Ids.{child_number}
use Rattle.lower_display.proofs.Variants.{named_some, named_none}
use Rattle.lower_display.proofs.children.named_type.Goals as goal

pub returns-in-Some : goal.returns-in-Some
returns-in-Some c =
    let id : to_z w8 (of_z w8 c.args.id) ≡ c.args.id = search rules in
    named_some c.args.data_type.now c.in-Union.fields c.in-Union.ids c.in-Union.field-2 c.deref.result.now c.index_of.result c.in-Some.field.now c.args.id c.in-Union.is c.deref.ensures.value (c.index_of.ensures ∙ ap (child_number (ids_of c.in-Union.ids)) id) c.in-Some.ensures.lookup.3.0 c.in-Some.ensures.lookup.1

pub returns-in-None : goal.returns-in-None
returns-in-None c =
    let id : to_z w8 (of_z w8 c.args.id) ≡ c.args.id = search rules in
    named_none c.args.data_type.now c.in-Union.fields c.in-Union.ids c.in-Union.field-2 c.deref.result.now c.index_of.result c.args.id c.in-Union.is c.deref.ensures.value (c.index_of.ensures ∙ ap (child_number (ids_of c.in-Union.ids)) id) c.in-None.ensures.lookup.3
