use Rattle.std.proofs.Common.{rules, arith, ◌≡◌, length}
use Rattle.lower.specs.TypeViews.{type_view}
use Rattle.lower_validation.proofs.OneField.{one_type, type_of_one, only_type}
use Rattle.lower_validation.proofs.fields.is_only_child.Goals as goal

pub returns-then-fields-ne1 : goal.returns-then-fields-ne1
returns-then-fields-ne1 c = (
  λ h. search rules,
  λ h. let one = one_type c.args.fields.now (type_view c.args.child.now) h in absurd (c.if-fields-ne1.true one),
)

pub returns : goal.returns
returns c =
    let xs = c.args.fields.now in
    let x = c.index-fields-0.result in
    let t = type_view c.args.child.now in
    let one : length xs ≡ 1 = omega arith in (
      λ h. only_type xs x t one c.index-fields-0.is (c.has_type.ensures.0 h),
      λ h. c.has_type.ensures.1 (type_of_one xs x t one c.index-fields-0.is h),
    )
